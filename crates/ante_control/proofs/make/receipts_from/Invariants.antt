use Rattle.std.proofs.Common.{◌≡◌, take}
use Rattle.ante_control.proofs.make.receipts_from.Given as goal

abbrev pub invariant-loop-receipt : goal.invariant-loop-receipt
invariant-loop-receipt l = l.copies ≡ take l.receipt-index l.receipts
