-- What stands above the meeting on one way down isn't on the other.
use Rattle.std.proofs.Common.{◌≡◌, ℕ, zero, suc, ◌-◌, ◌<◌, Bool, true, false, List, [], ◌∷◌, length, Some, None, is_some, refl, subst, arith, if◌then◌else◌}
use Rattle.std.specs.Str.{bytes_eq}
use Rattle.std.specs.List.{slice_get}
use Rattle.ante_types.specs.declared.chain.Block.{Block}
use Rattle.ante_fork.specs.Tree.{id_of, find_block, branch, meeting, IsPlaced, AllPlaced}
use Rattle.ante_fork.proofs.Branches.{same}
use Rattle.ante_fork.proofs.Pruned.{same_refl}

parts_by : (x : List ℕ) (b : Block) (older : List Block) → find_block x (b ∷ older) ≡ None → (t : Bool) → bytes_eq x (id_of b) ≡ t → (bytes_eq x (id_of b) ≡ false) × (find_block x older ≡ None)
parts_by x b older none true e = let h = rw e at none in cc
parts_by x b older none false e = (e, rw e at none)

none_parts : (x : List ℕ) (b : Block) (older : List Block) → find_block x (b ∷ older) ≡ None → (bytes_eq x (id_of b) ≡ false) × (find_block x older ≡ None)
none_parts x b older none = parts_by x b older none (bytes_eq x (id_of b)) refl

off_by : (x a : List ℕ) (b : Block) (older : List Block) → bytes_eq x (id_of b) ≡ false → find_block x (branch b.header.previous older) ≡ None → find_block x (branch a older) ≡ None →
    (t : Bool) → find_block x (if t then b ∷ branch b.header.previous older else branch a older) ≡ None
off_by x a b older e below rest true = rw e below
off_by x a b older e below rest false = rest

-- what isn't kept is on no branch
pub off_branch : (x a : List ℕ) (kept : List Block) → find_block x kept ≡ None → find_block x (branch a kept) ≡ None
off_branch x a [] none = refl
off_branch x a (b ∷ older) none =
    let p = none_parts x b older none in
    off_by x a b older p.0 (off_branch x b.header.previous older p.1) (off_branch x a older p.1) (bytes_eq a (id_of b))

pub found_by : (x : List ℕ) (b : Block) (older : List Block) → is_some (find_block x older) ≡ true → (t : Bool) → is_some (if t then Some b else find_block x older) ≡ true
found_by x b older h true = refl
found_by x b older h false = h

on_by : (a : List ℕ) (b : Block) (older : List Block) → ((n : ℕ) (c : Block) → slice_get (branch b.header.previous older) n ≡ Some c → is_some (find_block (id_of c) older) ≡ true) →
    ((n : ℕ) (c : Block) → slice_get (branch a older) n ≡ Some c → is_some (find_block (id_of c) older) ≡ true) → (t : Bool) → (n : ℕ) (c : Block) →
    slice_get (if t then b ∷ branch b.header.previous older else branch a older) n ≡ Some c → is_some (find_block (id_of c) (b ∷ older)) ≡ true
on_by a b older below rest true zero c e = let h : b ≡ c = cc in subst (λ d. is_some (find_block (id_of d) (b ∷ older)) ≡ true) h (rw (same_refl (id_of b)) refl)
on_by a b older below rest true (suc n) c e = found_by (id_of c) b older (below n c e) (bytes_eq (id_of c) (id_of b))
on_by a b older below rest false n c e = found_by (id_of c) b older (rest n c e) (bytes_eq (id_of c) (id_of b))

-- what is on a branch is kept
pub on_branch : (a : List ℕ) (kept : List Block) (n : ℕ) (c : Block) → slice_get (branch a kept) n ≡ Some c → is_some (find_block (id_of c) kept) ≡ true
on_branch a [] n c e = cc
on_branch a (b ∷ older) n c e = on_by a b older (on_branch b.header.previous older) (on_branch a older) (bytes_eq a (id_of b)) n c e

pub differs_by : (c d : Block) (older : List Block) → find_block (id_of d) older ≡ None → is_some (find_block (id_of c) older) ≡ true → (t : Bool) → bytes_eq (id_of c) (id_of d) ≡ t → t ≡ false
differs_by c d older none here true e = let h = rw (same (id_of c) (id_of d) e, none) at here in cc
differs_by c d older none here false e = refl

abbrev pub AreApart : List ℕ → List ℕ → List Block → Type 0
AreApart a b kept = (n : ℕ) (c : Block) → slice_get (branch a kept) n ≡ Some c → n < length (branch a kept) - length (meeting a b kept) → find_block (id_of c) (branch b kept) ≡ None

apart_step : (genesis : List ℕ) (d : Block) (older : List Block) (a b : List ℕ) → IsPlaced genesis d older → AreApart d.header.previous b older → AreApart a d.header.previous older → AreApart a b older →
    (s t : Bool) → bytes_eq a (id_of d) ≡ s → bytes_eq b (id_of d) ≡ t → AreApart a b (d ∷ older)
apart_step genesis d older a b is left right both true true es et n c e lt =
    let h = rw (es, et) at lt in absurd (omega (arith, h))
apart_step genesis d older a b is left right both true false es et zero c e lt =
    let h : d ≡ c = let k = rw es at e in cc in
    subst (λ x. find_block (id_of x) (branch b (d ∷ older)) ≡ None) h (rw et (off_branch (id_of d) b older is.new))
apart_step genesis d older a b is left right both true false es et (suc n) c e lt =
    let h = rw (es, et) at lt in
    rw et (left n c (rw es at e) (omega (arith, h)))
apart_step genesis d older a b is left right both false true es et n c e lt =
    let k : slice_get (branch a older) n ≡ Some c = rw es at e in
    let h = rw (es, et) at lt in
    let q : bytes_eq (id_of c) (id_of d) ≡ false = differs_by c d older is.new (on_branch a older n c k) (bytes_eq (id_of c) (id_of d)) refl in
    rw (et, q) (right n c k h)
apart_step genesis d older a b is left right both false false es et n c e lt =
    rw et (both n c (rw es at e) (rw (es, et) at lt))

pub apart : (genesis : List ℕ) (kept : List Block) (a b : List ℕ) → AllPlaced genesis kept → AreApart a b kept
apart genesis [] a b placed = λ n c e lt. cc
apart genesis (d ∷ older) a b placed =
    apart_step genesis d older a b placed.0 (apart genesis older d.header.previous b placed.1) (apart genesis older a d.header.previous placed.1) (apart genesis older a b placed.1)
    (bytes_eq a (id_of d)) (bytes_eq b (id_of d)) refl refl
