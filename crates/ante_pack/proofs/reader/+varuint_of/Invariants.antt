use Rattle.ante_pack.proofs.reader.+varuint_of.Given as goal

abbrev pub decreases-varuint_of : goal.decreases-varuint_of
decreases-varuint_of l = l.left
