use Rattle.std.proofs.Common.{ap, ◌∙◌}
use Rattle.std.specs.Option.{option_map}
use Rattle.ante_wtree.proofs.Table.{type_of_row}
use Rattle.ante_wtree.proofs.intrinsics.host_type.Goals as goal

pub returns-in-Some : goal.returns-in-Some
returns-in-Some c = ap (option_map (λ r. (r.1.now, r.2))) c.in-Some.ensures ∙ type_of_row c.rows.result.now c.args.number c.rows.ensures.types

pub returns-in-None : goal.returns-in-None
returns-in-None c = ap (option_map (λ r. (r.1.now, r.2))) c.in-None.ensures ∙ type_of_row c.rows.result.now c.args.number c.rows.ensures.types
