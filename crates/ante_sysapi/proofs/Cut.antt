-- Bytes that are cut at a length.
use Rattle.std.proofs.Common.{◌≡◌, sym, ap, ◌∙◌, arith, ℕ, ◌+◌, ◌-◌, ◌<◌, ◌≤◌, List, ◌++◌, length, take}
use Rattle.std.proofs.lemmas.List.{take-append-le}
use Rattle.std.proofs.Math.Seq.{take-append-add}

pub cut_full : (most : ℕ) (old more : List ℕ) → most < length old → take most old ≡ take most (old ++ more)
cut_full most old more long = sym (take-append-le most old more (omega arith))

pub cut_room : (most : ℕ) (old more : List ℕ) → length old ≤ most → old ++ take (most - length old) more ≡ take most (old ++ more)
cut_room most old more short =
    let whole : length old + (most - length old) ≡ most = omega arith in
    sym (take-append-add old more (most - length old)) ∙ ap (λ n. take n (old ++ more)) whole
