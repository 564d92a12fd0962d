use Rattle.std.proofs.Common.{refl}
use Rattle.ante_wtree.proofs.intrinsics.rows.Goals as goal

pub returns-clause-names : goal.returns-clause-names
returns-clause-names c = refl

pub returns-clause-types : goal.returns-clause-types
returns-clause-types c = refl
