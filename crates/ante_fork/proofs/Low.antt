-- The oldest nodes stay as they are where they lie below all that changes.
use Rattle.std.proofs.Common.{◌≡◌, ℕ, zero, suc, ◌+◌, ◌<◌, ◌≤◌, Bool, true, false, List, [], ◌∷◌, length, take, drop, None, refl, sym, ap, subst, ◌∙◌, arith, add-one, slice_index_or, length-append, if◌then◌else◌}
use Rattle.std.specs.Str.{bytes_eq}
use Rattle.ante_types.specs.declared.chain.Block.{Block}
use Rattle.ante_types.specs.Ids.{block_num}
use Rattle.ante_fork.specs.declared.node.Node.{Node}
use Rattle.ante_fork.specs.Shown.{newest, sifted, test_on}
use Rattle.ante_fork.specs.Tree.{id_of, num_of, find_block, branch, other_than, AllPlaced}
use Rattle.ante_fork.specs.Finality.{opened, always}
use Rattle.ante_fork.proofs.Branches.{newest_snoc, placed_num}
use Rattle.ante_fork.proofs.Pruned.{StaysAll, IsSifted, some_node, cut_at, more_at, sifted_turn, others_stay}

-- ---- a branch is no longer than what is kept, and as long only where it is all of it

within_by : (id : List ℕ) (b : Block) (older : List Block) → length (branch b.header.previous older) ≤ length older → length (branch id older) ≤ length older →
    (t : Bool) → length (if t then b ∷ branch b.header.previous older else branch id older) ≤ suc (length older)
within_by id b older below rest true = omega (arith, below)
within_by id b older below rest false = omega (arith, rest)

pub branch_within : (id : List ℕ) (kept : List Block) → length (branch id kept) ≤ length kept
branch_within id [] = omega arith
branch_within id (b ∷ older) = within_by id b older (branch_within b.header.previous older) (branch_within id older) (bytes_eq id (id_of b))

whole_step : (n : ℕ) (id : List ℕ) (b : Block) (older : List Block) → (length (branch b.header.previous older) ≡ length older → opened n b.header.previous older ≡ older) →
    length (branch id (b ∷ older)) ≡ length (b ∷ older) → (t : Bool) → bytes_eq id (id_of b) ≡ t → opened n id (b ∷ older) ≡ b ∷ older
whole_step n id b older below long true e =
    let h : suc (length (branch b.header.previous older)) ≡ suc (length older) = rw e at long in
    rw e (ap (λ bs. b ∷ bs) (below (omega (arith, h))))
whole_step n id b older below long false e =
    let h : length (branch id older) ≡ suc (length older) = rw e at long in
    absurd (omega (arith, h, branch_within id older))

pub whole_opened : (n : ℕ) (id : List ℕ) (kept : List Block) → length (branch id kept) ≡ length kept → opened n id kept ≡ kept
whole_opened n id [] long = refl
whole_opened n id (b ∷ older) long = whole_step n id b older (whole_opened n b.header.previous older) long (bytes_eq id (id_of b)) refl

-- a block whose number is as great as there are blocks has all of them below it
pub full_opened : (n : ℕ) (genesis : List ℕ) (b : Block) (older : List Block) → block_num genesis ≡ 1 → AllPlaced genesis (b ∷ older) → num_of b ≡ length older + 2 →
    opened n b.header.previous older ≡ older
full_opened n genesis b older first placed full =
    let below : block_num b.header.previous ≡ length (branch b.header.previous older) + 1 = placed_num genesis older b.header.previous first placed.1 placed.0.linked in
    whole_opened n b.header.previous older (omega (arith, below, placed.0.num, full))

-- no block's number is greater than how many are as old, and one
pub num_within : (genesis : List ℕ) (b : Block) (older : List Block) → block_num genesis ≡ 1 → AllPlaced genesis (b ∷ older) → num_of b ≤ length older + 2
num_within genesis b older first placed =
    let below : block_num b.header.previous ≡ length (branch b.header.previous older) + 1 = placed_num genesis older b.header.previous first placed.1 placed.0.linked in
    omega (arith, below, placed.0.num, branch_within b.header.previous older)

-- ---- the oldest nodes pass the test that all of them pass

pub front_length : (ns : List Node) → length (newest ns) ≡ length ns
front_length [] = refl
front_length (n ∷ ns) = omega (arith, length-append (newest ns) (n.block.value ∷ []), front_length ns)

passes : (stays : Block → Bool) (genesis : List ℕ) (front : List Node) (n : Node) → AllPlaced genesis (n.block.value ∷ newest front) → stays n.block.value ≡ true → true ≡ test_on stays genesis front n
passes stays genesis front n placed stay = rw (stay, placed.0.linked) refl

low_turn : (stays : Block → Bool) (genesis : List ℕ) (nodes : List Node) (k : ℕ) (d : Node) → k < length nodes → AllPlaced genesis (newest (take (k + 1) nodes)) → StaysAll stays (newest (take (k + 1) nodes)) →
    (AllPlaced genesis (newest (take k nodes)) → StaysAll stays (newest (take k nodes)) → sifted stays genesis (take k nodes) (drop k nodes) ≡ sifted stays genesis [] nodes) →
    sifted stays genesis (take (k + 1) nodes) (drop (k + 1) nodes) ≡ sifted stays genesis [] nodes
low_turn stays genesis nodes k d within placed stay below =
    let x : Node = slice_index_or nodes k d in
    let front : newest (take (k + 1) nodes) ≡ x.block.value ∷ newest (take k nodes) = ap newest (more_at nodes k d within) ∙ newest_snoc (take k nodes) x in
    let p : AllPlaced genesis (x.block.value ∷ newest (take k nodes)) = subst (AllPlaced genesis) front placed in
    let s : StaysAll stays (x.block.value ∷ newest (take k nodes)) = subst (StaysAll stays) front stay in
    ap (λ ns. sifted stays genesis ns (drop (k + 1) nodes)) (more_at nodes k d within)
    ∙ sym (ap (λ rest. sifted stays genesis (take k nodes) rest) (cut_at nodes k d within) ∙ sifted_turn stays genesis (take k nodes) x (drop (k + 1) nodes) true (passes stays genesis (take k nodes) x p s.0))
    ∙ below p.1 s.1

pub sifted_low : (stays : Block → Bool) (genesis : List ℕ) (nodes : List Node) (k : ℕ) → k ≤ length nodes → AllPlaced genesis (newest (take k nodes)) → StaysAll stays (newest (take k nodes)) →
    sifted stays genesis (take k nodes) (drop k nodes) ≡ sifted stays genesis [] nodes
sifted_low stays genesis nodes zero within placed stay = refl
sifted_low stays genesis nodes (suc k) within placed stay =
    subst (λ j. sifted stays genesis (take j nodes) (drop j nodes) ≡ sifted stays genesis [] nodes) (add-one k)
    (low_turn stays genesis nodes k (some_node nodes k (omega (arith, within))) (omega (arith, within)) (subst (λ j. AllPlaced genesis (newest (take j nodes))) (sym (add-one k)) placed)
    (subst (λ j. StaysAll stays (newest (take j nodes))) (sym (add-one k)) stay) (sifted_low stays genesis nodes k (omega (arith, within))))

pub always_stays : (kept : List Block) → StaysAll always kept
always_stays [] = tt
always_stays (b ∷ older) = (refl, always_stays older)

pub sifted_start : (stays : Block → Bool) (genesis : List ℕ) (all : List Node) (k : ℕ) → k ≤ length all → AllPlaced genesis (newest (take k all)) → StaysAll stays (newest (take k all)) → IsSifted stays genesis all all k
sifted_start stays genesis all k within placed stay = record { within = within; same = sifted_low stays genesis all k within placed stay }

pub linked_start : (genesis : List ℕ) (all : List Node) (k : ℕ) → k ≤ length all → AllPlaced genesis (newest (take k all)) → IsSifted always genesis all all k
linked_start genesis all k within placed = sifted_start always genesis all k within placed (always_stays (newest (take k all)))

pub others_start : (genesis id : List ℕ) (all : List Node) (k : ℕ) → k ≤ length all → AllPlaced genesis (newest (take k all)) → find_block id (newest (take k all)) ≡ None → IsSifted (other_than id) genesis all all k
others_start genesis id all k within placed none = sifted_start (other_than id) genesis all k within placed (others_stay id (newest (take k all)) none)
