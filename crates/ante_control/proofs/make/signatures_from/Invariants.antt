use Rattle.std.proofs.Common.{◌≡◌, take}
use Rattle.ante_control.proofs.make.signatures_from.Given as goal

abbrev pub invariant-loop-signature : goal.invariant-loop-signature
invariant-loop-signature l = l.copies ≡ take l.signature-index l.signatures
