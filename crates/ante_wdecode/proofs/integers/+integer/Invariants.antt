use Rattle.ante_wdecode.proofs.integers.+integer.Given as goal

abbrev pub decreases-integer : goal.decreases-integer
decreases-integer l = l.bits
