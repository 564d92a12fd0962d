-- The greatest number, looked for from the newest block down.
use Rattle.std.proofs.Common.{◌≡◌, ℕ, suc, ◌+◌, ◌<◌, ◌≤◌, ◌⊎◌, inl, inr, Bool, true, false, List, [], ◌∷◌, length, refl, sym, ap, subst, ◌∙◌, arith, nat_lt, if◌then◌else◌}
use Rattle.std.proofs.lemmas.Bool.Decides.{nat_tests}
use Rattle.std.specs.List.{AllByRecursion}
use Rattle.ante_types.specs.declared.chain.Block.{Block}
use Rattle.ante_types.specs.Ids.{block_num}
use Rattle.ante_fork.specs.declared.node.Node.{Node}
use Rattle.ante_fork.specs.Shown.{newest, IsNamed}
use Rattle.ante_fork.specs.Tree.{id_of, num_of, best_of, AllPlaced}
use Rattle.ante_fork.proofs.Low.{num_within}

lt_true : (m n : ℕ) → m < n → nat_lt m n ≡ true
lt_true m n h = grind (arith, nat_tests)

lt_false : (m n : ℕ) → n ≤ m → nat_lt m n ≡ false
lt_false m n h = grind (arith, nat_tests)

true_lt : (m n : ℕ) → nat_lt m n ≡ true → m < n
true_lt m n h = grind (arith, nat_tests)

false_lt : (m n : ℕ) → nat_lt m n ≡ false → n ≤ m
false_lt m n h = grind (arith, nat_tests)

-- the one with the greater number, the first of them where they are as great
abbrev pub greater : List ℕ → List ℕ → List ℕ
greater y c = if nat_lt (block_num y) (block_num c) then c else y

greater_high : (y c : List ℕ) (t : Bool) → nat_lt (block_num y) (block_num c) ≡ t → block_num y ≤ block_num (if t then c else y)
greater_high y c true e = omega (arith, true_lt (block_num y) (block_num c) e)
greater_high y c false e = omega arith

pub best_high : (head : List ℕ) (kept : List Block) → block_num head ≤ block_num (best_of head kept)
best_high head [] = omega arith
best_high head (b ∷ older) =
    omega (arith, best_high head older, greater_high (best_of head older) (id_of b) (nat_lt (block_num (best_of head older)) (num_of b)) refl)

either_by : (head y : List ℕ) (b : Block) (n : ℕ) → num_of b ≤ n + 2 → (y ≡ head) ⊎ (block_num y ≤ n + 1) → (t : Bool) → ((if t then id_of b else y) ≡ head) ⊎ (block_num (if t then id_of b else y) ≤ suc n + 1)
either_by head y b n le h true = inr (omega (arith, le))
either_by head y b n le (inl e) false = inl e
either_by head y b n le (inr m) false = inr (omega (arith, m))

-- the best one is the head, or its number is no greater than these allow
pub best_either : (genesis head : List ℕ) (kept : List Block) → block_num genesis ≡ 1 → AllPlaced genesis kept → (best_of head kept ≡ head) ⊎ (block_num (best_of head kept) ≤ length kept + 1)
best_either genesis head [] first placed = inl refl
best_either genesis head (b ∷ older) first placed =
    either_by head (best_of head older) b (length older) (num_within genesis b older first placed) (best_either genesis head older first placed.1) (nat_lt (block_num (best_of head older)) (num_of b))

-- going down by one: y is the best of the older ones, c the one found so far
down_by : (y b c : List ℕ) (s t : Bool) → nat_lt (block_num y) (block_num b) ≡ s → nat_lt (block_num b) (block_num c) ≡ t → greater (if s then b else y) c ≡ greater y (if t then c else b)
down_by y b c true true e f =
    let h : block_num y < block_num b = true_lt _ _ e in
    let k : block_num b < block_num c = true_lt _ _ f in
    rw (f, lt_true (block_num y) (block_num c) (omega (arith, h, k))) refl
down_by y b c true false e f = rw (f, e) refl
down_by y b c false true e f = refl
down_by y b c false false e f =
    let h : block_num b ≤ block_num y = false_lt _ _ e in
    let k : block_num c ≤ block_num b = false_lt _ _ f in
    rw (e, lt_false (block_num y) (block_num c) (omega (arith, h, k))) refl

pub best_down : (head c c2 : List ℕ) (b : Block) (older : List Block) → c2 ≡ (if nat_lt (num_of b) (block_num c) then c else id_of b) → greater (best_of head (b ∷ older)) c ≡ greater (best_of head older) c2
best_down head c c2 b older e =
    down_by (best_of head older) (id_of b) c (nat_lt (block_num (best_of head older)) (num_of b)) (nat_lt (num_of b) (block_num c)) refl refl ∙ ap (greater (best_of head older)) (sym e)

past_by : (head y c : List ℕ) (n : ℕ) → block_num head ≤ block_num y → (y ≡ head) ⊎ (block_num y ≤ n + 1) → n + 1 < block_num c → greater y c ≡ greater head c
past_by head y c n high (inl e) past = ap (λ x. greater x c) e
past_by head y c n high (inr m) past = rw (lt_true (block_num y) (block_num c) (omega (arith, m, past)), lt_true (block_num head) (block_num c) (omega (arith, high, m, past))) refl

-- where the number found is past all of these
pub best_past : (genesis head c : List ℕ) (kept : List Block) → block_num genesis ≡ 1 → AllPlaced genesis kept → length kept + 1 < block_num c → greater (best_of head kept) c ≡ greater head c
best_past genesis head c kept first placed past = past_by head (best_of head kept) c (length kept) (best_high head kept) (best_either genesis head kept first placed) past

-- what is looked at, from the newest down
pub record IsBetter (genesis head : List ℕ) (all rest : List Node) (c : List ℕ) : Type 0 where
  pub named : AllByRecursion IsNamed rest
  pub placed : AllPlaced genesis (newest rest)
  pub same : best_of head (newest all) ≡ greater (best_of head (newest rest)) c

start_by : (head y : List ℕ) → block_num head ≤ block_num y → y ≡ greater y head
start_by head y high = rw (lt_false (block_num y) (block_num head) high) refl

pub better_start : (genesis head : List ℕ) (all : List Node) → AllByRecursion IsNamed all → AllPlaced genesis (newest all) → IsBetter genesis head all all head
better_start genesis head all named placed = record { named = named; placed = placed; same = start_by head (best_of head (newest all)) (best_high head (newest all)) }

pub better_down : (genesis head : List ℕ) (all rest older : List Node) (node : Node) (c c2 : List ℕ) → IsBetter genesis head all rest c → newest rest ≡ node.block.value ∷ newest older → AllByRecursion IsNamed older →
    c2 ≡ (if nat_lt (num_of node.block.value) (block_num c) then c else id_of node.block.value) → IsBetter genesis head all older c2
better_down genesis head all rest older node c c2 is e named next = record {
  named = named;
  placed = (subst (AllPlaced genesis) e is.placed).1;
  same = is.same ∙ ap (λ bs. greater (best_of head bs) c) e ∙ best_down head c c2 node.block.value (newest older) next;
}

pub better_past : (genesis head : List ℕ) (all rest : List Node) (c : List ℕ) → block_num genesis ≡ 1 → IsBetter genesis head all rest c → length (newest rest) + 1 < block_num c → best_of head (newest all) ≡ greater head c
better_past genesis head all rest c first is past = is.same ∙ best_past genesis head c (newest rest) first is.placed past

pub better_end : (genesis head : List ℕ) (all rest : List Node) (c : List ℕ) → IsBetter genesis head all rest c → newest rest ≡ [] → best_of head (newest all) ≡ greater head c
better_end genesis head all rest c is e = is.same ∙ ap (λ bs. greater (best_of head bs) c) e
