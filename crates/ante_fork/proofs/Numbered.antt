-- Where all kept blocks are one branch, the place tells the number.
use Rattle.std.proofs.Common.{◌≡◌, ℕ, zero, suc, ◌+◌, ◌-◌, ◌<◌, ◌≤◌, ◌==◌, Bool, true, false, List, [], ◌∷◌, ◌++◌, length, Option, Some, None, refl, sym, ap, subst, ◌∙◌, arith, length-append, slice_get, if◌then◌else◌}
use Rattle.std.specs.Str.{bytes_eq}
use Rattle.std.proofs.lemmas.Bool.Decides.{nat_tests}
use Rattle.ante_types.specs.declared.chain.Block.{Block}
use Rattle.ante_types.specs.Ids.{block_num}
use Rattle.ante_fork.specs.declared.node.Node.{Node}
use Rattle.ante_fork.specs.Shown.{newest}
use Rattle.ante_fork.specs.Tree.{id_of, num_of, branch, IsPlaced, AllPlaced}
use Rattle.ante_fork.specs.Paths.{num_on}
use Rattle.ante_fork.specs.Numbers.{AllFrom, block_or}
use Rattle.ante_fork.proofs.Branches.{placed_num}
use Rattle.ante_fork.proofs.Low.{branch_within}

-- each block's number is how many are older, and a first number
abbrev pub AllFull : ℕ → List Block → Type 0
AllFull first [] = Unit {0}
AllFull first (b ∷ older) = (num_of b ≡ length older + first) × AllFull first older

full_step : (genesis id : List ℕ) (b : Block) (older : List Block) → block_num genesis ≡ 1 → IsPlaced genesis b older → AllPlaced genesis older → (length (branch b.header.previous older) ≡ length older → AllFull 2 older) →
    length (branch id (b ∷ older)) ≡ length (b ∷ older) → (t : Bool) → bytes_eq id (id_of b) ≡ t → AllFull 2 (b ∷ older)
full_step genesis id b older first is placed below long true e =
    let h : suc (length (branch b.header.previous older)) ≡ suc (length older) = rw e at long in
    let num : block_num b.header.previous ≡ length (branch b.header.previous older) + 1 = placed_num genesis older b.header.previous first placed is.linked in
    (omega (arith, h, num, is.num), below (omega (arith, h)))
full_step genesis id b older first is placed below long false e =
    let h : length (branch id older) ≡ suc (length older) = rw e at long in
    absurd (omega (arith, h, branch_within id older))

pub full_all : (genesis id : List ℕ) (kept : List Block) → block_num genesis ≡ 1 → AllPlaced genesis kept → length (branch id kept) ≡ length kept → AllFull 2 kept
full_all genesis id [] first placed long = tt
full_all genesis id (b ∷ older) first placed long =
    full_step genesis id b older first placed.0 placed.1 (full_all genesis b.header.previous older first placed.1) long (bytes_eq id (id_of b)) refl

whole_step : (id : List ℕ) (b : Block) (older : List Block) → (length (branch b.header.previous older) ≡ length older → branch b.header.previous older ≡ older) →
    length (branch id (b ∷ older)) ≡ length (b ∷ older) → (t : Bool) → bytes_eq id (id_of b) ≡ t → branch id (b ∷ older) ≡ b ∷ older
whole_step id b older below long true e =
    let h : suc (length (branch b.header.previous older)) ≡ suc (length older) = rw e at long in
    rw e (ap (λ bs. b ∷ bs) (below (omega (arith, h))))
whole_step id b older below long false e =
    let h : length (branch id older) ≡ suc (length older) = rw e at long in
    absurd (omega (arith, h, branch_within id older))

pub whole_branch : (id : List ℕ) (kept : List Block) → length (branch id kept) ≡ length kept → branch id kept ≡ kept
whole_branch id [] long = refl
whole_branch id (b ∷ older) long = whole_step id b older (whole_branch b.header.previous older) long (bytes_eq id (id_of b)) refl

-- ---- from the oldest up

last_full : (s : ℕ) (xs : List Block) (b : Block) → AllFull s (xs ++ b ∷ []) → (num_of b ≡ s) × AllFull (s + 1) xs
last_full s [] b h = (omega (arith, h.0), tt)
last_full s (x ∷ xs) b h =
    let r : (num_of b ≡ s) × AllFull (s + 1) xs = last_full s xs b h.1 in
    (r.0, (omega (arith, h.0, length-append xs (b ∷ [])), r.1))

pub all_from : (s : ℕ) (ns : List Node) → AllFull s (newest ns) → AllFrom s ns
all_from s [] h = tt
all_from s (n ∷ ns) h =
    let r : (num_of n.block.value ≡ s) × AllFull (s + 1) (newest ns) = last_full s (newest ns) n.block.value h in
    (r.0, all_from (s + 1) ns r.1)

-- the block of a number among these, else another answer
abbrev pub num_or : ℕ → Option Block → List Block → Option Block
num_or num other [] = other
num_or num other (b ∷ below) = if num_of b == num then Some b else num_or num other below

on_or_by : (num : ℕ) (b : Block) (x y : Option Block) → x ≡ y → (t : Bool) → (if t then Some b else x) ≡ (if t then Some b else y)
on_or_by num b x y e t = ap (λ z. if t then Some b else z) e

pub on_or : (num : ℕ) (g : Block) (bs : List Block) → num_on num g bs ≡ num_or num (if num_of g == num then Some g else None) bs
on_or num g [] = refl
on_or num g (b ∷ bs) = on_or_by num b (num_on num g bs) (num_or num (if num_of g == num then Some g else None) bs) (on_or num g bs) (num_of b == num)

last_or : (num : ℕ) (other : Option Block) (xs : List Block) (b : Block) → num_or num other (xs ++ b ∷ []) ≡ num_or num (if num_of b == num then Some b else other) xs
last_or num other [] b = refl
last_or num other (x ∷ xs) b = on_or_by num x (num_or num other (xs ++ b ∷ [])) (num_or num (if num_of b == num then Some b else other) xs) (last_or num other xs b) (num_of x == num)

same_num : (m n : ℕ) → m ≡ n → (m == n) ≡ true
same_num m n h = grind (arith, nat_tests)

other_num : (m n : ℕ) → m < n → (m == n) ≡ false
other_num m n h = grind (arith, nat_tests)

num_other : (m n : ℕ) → n < m → (m == n) ≡ false
num_other m n h = grind (arith, nat_tests)

below_all : (s num : ℕ) (other : Option Block) (ns : List Node) → AllFrom s ns → num < s → num_or num other (newest ns) ≡ other
below_all s num other [] h lt = refl
below_all s num other (n ∷ ns) h lt =
    last_or num other (newest ns) n.block.value
    ∙ ap (λ t. num_or num (if t then Some n.block.value else other) (newest ns)) (num_other (num_of n.block.value) num (omega (arith, lt, h.0)))
    ∙ below_all (s + 1) num other ns h.1 (omega (arith, lt))

at_place : (s num : ℕ) (other : Option Block) (ns : List Node) (k : ℕ) → AllFrom s ns → num ≡ s + k → num_or num other (newest ns) ≡ block_or other (slice_get ns k)
at_place s num other [] k h e = refl
at_place s num other (n ∷ ns) zero h e =
    last_or num other (newest ns) n.block.value
    ∙ ap (λ t. num_or num (if t then Some n.block.value else other) (newest ns)) (same_num (num_of n.block.value) num (omega (arith, e, h.0)))
    ∙ below_all (s + 1) num (Some n.block.value) ns h.1 (omega (arith, e))
at_place s num other (n ∷ ns) (suc k) h e =
    last_or num other (newest ns) n.block.value
    ∙ ap (λ t. num_or num (if t then Some n.block.value else other) (newest ns)) (other_num (num_of n.block.value) num (omega (arith, e, h.0)))
    ∙ at_place (s + 1) num other ns k h.1 (omega (arith, e))

-- the number tells the place
pub num_place : (num : ℕ) (g : Block) (ns : List Node) → num_of g ≡ 1 → AllFrom 2 ns → 2 ≤ num → num_on num g (newest ns) ≡ block_or None (slice_get ns (num - 2))
num_place num g ns first h le =
    on_or num g (newest ns) ∙ ap (λ t. num_or num (if t then Some g else None) (newest ns)) (other_num (num_of g) num (omega (arith, le, first)))
    ∙ at_place 2 num None ns (num - 2) h (omega (arith, le))

pub num_first : (num : ℕ) (g : Block) (ns : List Node) → num_of g ≡ 1 → AllFrom 2 ns → num ≡ 1 → num_on num g (newest ns) ≡ Some g
num_first num g ns first h e =
    on_or num g (newest ns) ∙ ap (λ t. num_or num (if t then Some g else None) (newest ns)) (same_num (num_of g) num (omega (arith, e, first)))
    ∙ below_all 2 num (Some g) ns h (omega (arith, e))

pub num_none : (num : ℕ) (g : Block) (ns : List Node) → num_of g ≡ 1 → AllFrom 2 ns → num ≡ 0 → num_on num g (newest ns) ≡ None
num_none num g ns first h e =
    on_or num g (newest ns) ∙ ap (λ t. num_or num (if t then Some g else None) (newest ns)) (num_other (num_of g) num (omega (arith, e, first)))
    ∙ below_all 2 num None ns h (omega (arith, e))

-- ---- on the way down, at a block that has all older ones below it

-- what the walk has still to find
pub record IsSought (num : ℕ) (g : Block) (id next : List ℕ) (all rest : List Node) : Type 0 where
  pub placed : AllPlaced (id_of g) (newest rest)
  pub same : num_on num g (branch id (newest all)) ≡ num_on num g (branch next (newest rest))

long_here : (next : List ℕ) (b : Block) (older : List Block) → length (branch b.header.previous older) ≡ length older → (t : Bool) → t ≡ true → length (if t then b ∷ branch b.header.previous older else branch next older) ≡ suc (length older)
long_here next b older long true e = omega (arith, long)
long_here next b older long false e = cc

pub full_here : (g : Block) (next : List ℕ) (b : Block) (older : List Block) → num_of g ≡ 1 → AllPlaced (id_of g) (b ∷ older) → bytes_eq next (id_of b) ≡ true → num_of b ≡ length older + 2 →
    length (branch next (b ∷ older)) ≡ length (b ∷ older)
full_here g next b older first placed on full =
    let num : block_num b.header.previous ≡ length (branch b.header.previous older) + 1 = placed_num (id_of g) older b.header.previous first placed.1 placed.0.linked in
    long_here next b older (omega (arith, num, placed.0.num, full)) (bytes_eq next (id_of b)) on

pub sought_from : (num : ℕ) (g : Block) (id next : List ℕ) (all rest : List Node) (node : Node) (older : List Node) → num_of g ≡ 1 → IsSought num g id next all rest → newest rest ≡ node.block.value ∷ newest older →
    bytes_eq next (id_of node.block.value) ≡ true → num_of node.block.value ≡ length (newest older) + 2 → AllFrom 2 rest × (num_on num g (branch id (newest all)) ≡ num_on num g (newest rest))
sought_from num g id next all rest node older first is e on full =
    let placed : AllPlaced (id_of g) (node.block.value ∷ newest older) = subst (AllPlaced (id_of g)) e is.placed in
    let long : length (branch next (newest rest)) ≡ length (newest rest) =
    subst (λ bs. length (branch next bs) ≡ length bs) (sym e) (full_here g next node.block.value (newest older) first placed on full) in
    (all_from 2 rest (full_all (id_of g) next (newest rest) first is.placed long), is.same ∙ ap (num_on num g) (whole_branch next (newest rest) long))

step_on : (num : ℕ) (g : Block) (next : List ℕ) (b : Block) (older : List Block) → bytes_eq next (id_of b) ≡ true → (num_of b == num) ≡ false →
    num_on num g (branch next (b ∷ older)) ≡ num_on num g (branch b.header.previous older)
step_on num g next b older on other = rw (on, other) refl

step_off : (num : ℕ) (g : Block) (next : List ℕ) (b : Block) (older : List Block) → bytes_eq next (id_of b) ≡ false → num_on num g (branch next (b ∷ older)) ≡ num_on num g (branch next older)
step_off num g next b older off = rw off refl

found_on : (num : ℕ) (g : Block) (next : List ℕ) (b : Block) (older : List Block) → bytes_eq next (id_of b) ≡ true → (num_of b == num) ≡ true → num_on num g (branch next (b ∷ older)) ≡ Some b
found_on num g next b older on here = rw (on, here) refl

pub sought_on : (num : ℕ) (g : Block) (id next prev : List ℕ) (all rest : List Node) (node : Node) (older : List Node) → IsSought num g id next all rest → newest rest ≡ node.block.value ∷ newest older →
    bytes_eq next (id_of node.block.value) ≡ true → (num_of node.block.value == num) ≡ false → prev ≡ node.block.value.header.previous → IsSought num g id prev all older
sought_on num g id next prev all rest node older is e on other p = record {
  placed = (subst (AllPlaced (id_of g)) e is.placed).1;
  same = is.same ∙ ap (λ bs. num_on num g (branch next bs)) e ∙ step_on num g next node.block.value (newest older) on other ∙ ap (λ x. num_on num g (branch x (newest older))) (sym p);
}

pub sought_off : (num : ℕ) (g : Block) (id next : List ℕ) (all rest : List Node) (node : Node) (older : List Node) → IsSought num g id next all rest → newest rest ≡ node.block.value ∷ newest older →
    bytes_eq next (id_of node.block.value) ≡ false → IsSought num g id next all older
sought_off num g id next all rest node older is e off = record {
  placed = (subst (AllPlaced (id_of g)) e is.placed).1;
  same = is.same ∙ ap (λ bs. num_on num g (branch next bs)) e ∙ step_off num g next node.block.value (newest older) off;
}

pub sought_found : (num : ℕ) (g : Block) (id next : List ℕ) (all rest : List Node) (node : Node) (older : List Node) → IsSought num g id next all rest → newest rest ≡ node.block.value ∷ newest older →
    bytes_eq next (id_of node.block.value) ≡ true → (num_of node.block.value == num) ≡ true → num_on num g (branch id (newest all)) ≡ Some node.block.value
sought_found num g id next all rest node older is e on here =
    is.same ∙ ap (λ bs. num_on num g (branch next bs)) e ∙ found_on num g next node.block.value (newest older) on here
