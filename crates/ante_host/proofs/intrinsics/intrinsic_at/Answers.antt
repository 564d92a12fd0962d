use Rattle.std.proofs.Common.{◌∙◌}
use Rattle.std.proofs.lemmas.Option.{slice_get-map}
use Rattle.ante_calls.specs.Numbers.{intrinsics}
use Rattle.ante_host.proofs.intrinsics.intrinsic_at.Goals as goal

pub returns : goal.returns
returns c = c.nth.ensures ∙ slice_get-map (λ c. c.1) intrinsics c.args.number
