use Rattle.std.proofs.Common.{◌≡◌, ◌++◌, length}
use Rattle.ante_wvalid.specs.Modules.{imported}
use Rattle.ante_wvalid.proofs.imports.function_types.Given as goal

abbrev pub invariant-imports : goal.invariant-imports
invariant-imports l = l.all.items ++ imported l.rest ≡ imported l.fn.module.imports

abbrev pub decreases-imports : goal.decreases-imports
decreases-imports l = length l.rest
