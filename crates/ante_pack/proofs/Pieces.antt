-- One piece after another.
use Rattle.std.proofs.Common.{ℕ, List, ◌++◌, ap, ◌∙◌, append_assoc}
use Rattle.ante_pack.specs.Adds.{Adds}

pub onto : {s0 s1 s2 p rest : List ℕ} → Adds s0 s1 p → Adds s1 s2 rest → Adds s0 s2 (p ++ rest)
onto {s0} {s1} {s2} {p} {rest} first second = record { is = second.is ∙ ap (λ (s : List ℕ). s ++ rest) first.is ∙ append_assoc s0 p rest }
