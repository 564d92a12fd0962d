use Rattle.std.proofs.Common.{◌≡◌, Ok, arith}
use Rattle.std.proofs.lemmas.Grind.{common_steps}
use Rattle.httparse.specs.declared.Status.TheVariants.{Complete}
use Rattle.httparse.specs.Spans.{IsRequestOf, IsRequestWithin}
use Rattle.ante_http.proofs.Parsing.{whole_is, complete_is, reads_as}
use Rattle.ante_http.proofs.head.read_head.Goals as goal

pub returns-else-spans-head : goal.returns-else-spans-head
returns-else-spans-head c =
    let bytes = c.args.head.now in
    let headers = c.parse_request.new.headers in
    let spans = c.in-Ok-Complete.spans in
    let e : c.parse_request.result ≡ Ok (Complete spans) = cc (c.in-Ok-Complete.is, c.in-Ok-Complete.field-0-is) in
    let h = complete_is c.parse_request.result spans (IsRequestOf bytes headers) e c.parse_request.ensures.complete in
    let w = complete_is c.parse_request.result spans (IsRequestWithin bytes headers) e c.parse_request.ensures.within in
    let is = whole_is bytes headers spans h.0 h.1 (omega arith) (first_of (omega (arith, c.parse_request.auto.headers), grind (arith, common_steps))) in
    reads_as bytes headers spans h.0 _ _ w h.1 is c.split_at.ensures.front c.read_framing.ensures
