use Rattle.std.proofs.Common.{◌≡◌, drop, map}
use Rattle.ante_wtree.specs.Trees.{body_of}
use Rattle.ante_wdecode.specs.Modules.{codes}
use Rattle.ante_wdecode.proofs.Fronts.{with_front}
use Rattle.ante_wdecode.proofs.code.read_codes.Given as goal

abbrev pub invariant-loop-n : goal.invariant-loop-n
invariant-loop-n l = with_front (map body_of l.codes) ((codes l.types (drop l.n-index l.functions)).read l.rest) ≡ (codes l.types l.functions).read l.fn.bytes
