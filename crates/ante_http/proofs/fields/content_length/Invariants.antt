use Rattle.std.proofs.Common.{◌≡◌, take, map, fold}
use Rattle.httparse.specs.Spans.{header_bytes}
use Rattle.ante_http.specs.Fields.{with_field, absent}
use Rattle.ante_http.proofs.fields.content_length.Given as goal

abbrev pub invariant-loop-field : goal.invariant-loop-field
invariant-loop-field l = l.found ≡ fold with_field absent (map (header_bytes l.head) (take l.field-index l.fields))
