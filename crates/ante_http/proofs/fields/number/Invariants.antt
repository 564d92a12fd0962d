use Rattle.std.proofs.Common.{◌≡◌, ◌^◌, ◌<◌, drop}
use Rattle.ante_http.specs.Fields.{number_from}
use Rattle.ante_http.proofs.fields.number.Given as goal

abbrev pub invariant-loop-b : goal.invariant-loop-b
invariant-loop-b l = (number_from 0 l.text ≡ number_from l.value (drop l.b-index l.text)) × (l.value < 10 ^ l.b-index)
