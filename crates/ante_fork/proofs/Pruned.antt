-- What is left after blocks are dropped.
use Rattle.std.proofs.Common.{◌≡◌, ℕ, zero, suc, ◌+◌, ◌<◌, ◌≤◌, Bool, true, false, ◌||◌, ◌&&◌, List, [], ◌∷◌, ◌++◌, length, Option, Some, None, is_some, refl, sym, ap, subst, ◌∙◌, arith, if◌then◌else◌, take, drop, add-one, slice_index_or, length-append}
use Rattle.std.specs.Str.{bytes_eq}
use Rattle.std.specs.List.{AllByRecursion}
use Rattle.std.proofs.lemmas.Slice.Eq.{bytes_eq-Decides}
use Rattle.std.proofs.lemmas.List.{append-nil, length-take-le}
use Rattle.std.proofs.Math.Seq.{take-append_seam, drop-append_seam, take-length, drop-cons}
use Rattle.ante_types.specs.declared.chain.Block.{Block}
use Rattle.ante_fork.specs.declared.node.Node.{Node}
use Rattle.ante_fork.specs.Shown.{newest, IsNamed, sifted, test_on}
use Rattle.ante_fork.specs.Tree.{Tree, id_of, find_block, branch, pruned, other_than, dropped, with_block, IsPlaced, AllPlaced, IsTree}
use Rattle.ante_fork.proofs.Branches.{newest_snoc, kept_here, here_kept}

abbrev pub StaysAll : (Block → Bool) → List Block → Type 0
StaysAll stays bs = AllByRecursion (λ b. stays b ≡ true) bs

and_left : (a b : Bool) → (a && b) ≡ true → a ≡ true
and_left true b e = refl
and_left false b e = e

and_right : (a b : Bool) → (a && b) ≡ true → b ≡ true
and_right true b e = e
and_right false b e = cc

some_none : {A : Type 0} (o : Option A) → o ≡ None → is_some o ≡ true → ⊥
some_none None e h = cc
some_none (Some x) e h = cc

pub same_refl : (a : List ℕ) → bytes_eq a a ≡ true
same_refl a = (bytes_eq-Decides a a).1 refl

-- ---- look-ups

none_step : (stays : Block → Bool) (genesis x : List ℕ) (b : Block) (older rest : List Block) → (find_block x older ≡ None → find_block x rest ≡ None) →
    find_block x (b ∷ older) ≡ None → (t : Bool) → bytes_eq x (id_of b) ≡ t → (s : Bool) → find_block x (if s then b ∷ rest else rest) ≡ None
none_step stays genesis x b older rest ih none true e s = absurd (some_none (find_block x (b ∷ older)) none (rw e refl))
none_step stays genesis x b older rest ih none false e true = rw e (ih (rw e at none))
none_step stays genesis x b older rest ih none false e false = ih (rw e at none)

pub find_pruned : (stays : Block → Bool) (genesis x : List ℕ) (kept : List Block) → find_block x kept ≡ None → find_block x (pruned stays genesis kept) ≡ None
find_pruned stays genesis x [] none = none
find_pruned stays genesis x (b ∷ older) none =
    none_step stays genesis x b older (pruned stays genesis older) (find_pruned stays genesis x older) none (bytes_eq x (id_of b)) refl
    (stays b && (bytes_eq b.header.previous genesis || is_some (find_block b.header.previous (pruned stays genesis older))))

placed_step : (stays : Block → Bool) (genesis : List ℕ) (b : Block) (older : List Block) → IsPlaced genesis b older → AllPlaced genesis (pruned stays genesis older) →
    (s : Bool) → (stays b && (bytes_eq b.header.previous genesis || is_some (find_block b.header.previous (pruned stays genesis older)))) ≡ s →
    AllPlaced genesis (if s then b ∷ pruned stays genesis older else pruned stays genesis older)
placed_step stays genesis b older is rest true e =
    (record { linked = and_right (stays b) _ e; num = is.num; small = is.small; apart = is.apart; new = find_pruned stays genesis (id_of b) older is.new }, rest)
placed_step stays genesis b older is rest false e = rest

pub pruned_placed : (stays : Block → Bool) (genesis : List ℕ) (kept : List Block) → AllPlaced genesis kept → AllPlaced genesis (pruned stays genesis kept)
pruned_placed stays genesis [] placed = tt
pruned_placed stays genesis (b ∷ older) placed = placed_step stays genesis b older placed.0 (pruned_placed stays genesis older placed.1) _ refl

-- ---- branches whose blocks all stay

pub record IsWhole (genesis x : List ℕ) (left kept : List Block) : Type 0 where
  pub branch : branch x left ≡ branch x kept
  pub here : (bytes_eq x genesis || is_some (find_block x left)) ≡ true

or_right : (a : Bool) → (a || true) ≡ true
or_right true = refl
or_right false = refl

whole_false : (genesis x : List ℕ) (b : Block) (older rest : List Block) → bytes_eq x (id_of b) ≡ false → IsWhole genesis x rest older → (s : Bool) →
    IsWhole genesis x (if s then b ∷ rest else rest) (b ∷ older)
whole_false genesis x b older rest e is true = record { branch = rw e is.branch; here = rw e is.here }
whole_false genesis x b older rest e is false = record { branch = rw e is.branch; here = is.here }

whole_true : (stays : Block → Bool) (genesis x : List ℕ) (b : Block) (older rest : List Block) → bytes_eq x (id_of b) ≡ true → stays b ≡ true → IsWhole genesis b.header.previous rest older →
    IsWhole genesis x (if stays b && (bytes_eq b.header.previous genesis || is_some (find_block b.header.previous rest)) then b ∷ rest else rest) (b ∷ older)
whole_true stays genesis x b older rest e on is =
    rw (on, is.here) (record { branch = rw e (ap (λ bs. b ∷ bs) is.branch); here = rw e (or_right (bytes_eq x genesis)) })

whole_step : (stays : Block → Bool) (genesis x : List ℕ) (b : Block) (older : List Block) → (bytes_eq x genesis || is_some (find_block x (b ∷ older))) ≡ true →
    StaysAll stays (branch x (b ∷ older)) → (StaysAll stays (branch b.header.previous older) → IsWhole genesis b.header.previous (pruned stays genesis older) older) →
    ((bytes_eq x genesis || is_some (find_block x older)) ≡ true → StaysAll stays (branch x older) → IsWhole genesis x (pruned stays genesis older) older) →
    (t : Bool) → bytes_eq x (id_of b) ≡ t → IsWhole genesis x (pruned stays genesis (b ∷ older)) (b ∷ older)
whole_step stays genesis x b older here all below rest true e =
    let h = rw e at all in whole_true stays genesis x b older (pruned stays genesis older) e h.0 (below h.1)
whole_step stays genesis x b older here all below rest false e =
    whole_false genesis x b older (pruned stays genesis older) e (rest (rw e at here) (rw e at all)) _

pub pruned_branch : (stays : Block → Bool) (genesis x : List ℕ) (kept : List Block) → AllPlaced genesis kept → (bytes_eq x genesis || is_some (find_block x kept)) ≡ true →
    StaysAll stays (branch x kept) → IsWhole genesis x (pruned stays genesis kept) kept
pruned_branch stays genesis x [] placed here all = record { branch = refl; here = here }
pruned_branch stays genesis x (b ∷ older) placed here all =
    whole_step stays genesis x b older here all (pruned_branch stays genesis b.header.previous older placed.1 placed.0.linked)
    (pruned_branch stays genesis x older placed.1) (bytes_eq x (id_of b)) refl

-- ---- where all stay

others_step : (id : List ℕ) (b : Block) (older : List Block) → (find_block id older ≡ None → StaysAll (other_than id) older) → find_block id (b ∷ older) ≡ None →
    (t : Bool) → bytes_eq id (id_of b) ≡ t → StaysAll (other_than id) (b ∷ older)
others_step id b older ih none true e = absurd (some_none (find_block id (b ∷ older)) none (rw e refl))
others_step id b older ih none false e = (rw e refl, ih (rw e at none))

pub others_stay : (id : List ℕ) (kept : List Block) → find_block id kept ≡ None → StaysAll (other_than id) kept
others_stay id [] none = tt
others_stay id (b ∷ older) none = others_step id b older (others_stay id older) none (bytes_eq id (id_of b)) refl

pub pruned_same : (stays : Block → Bool) (genesis : List ℕ) (kept : List Block) → AllPlaced genesis kept → StaysAll stays kept → pruned stays genesis kept ≡ kept
pruned_same stays genesis [] placed all = refl
pruned_same stays genesis (b ∷ older) placed all = rw (pruned_same stays genesis older placed.1 all.1, all.0, placed.0.linked) refl

-- a block that was just added is dropped without a trace
pub dropped_added : (t : Tree) (b : Block) → AllPlaced (id_of t.genesis) t.kept → find_block (id_of b) t.kept ≡ None → dropped (id_of b) (with_block b t) ≡ t
dropped_added t b placed none = rw (same_refl (id_of b), pruned_same (other_than (id_of b)) (id_of t.genesis) t.kept placed (others_stay (id_of b) t.kept none)) refl

-- dropping a block off the head's branch leaves a tree, and that branch
pub dropped_tree : (t : Tree) (id : List ℕ) → IsTree t → find_block id (branch t.head t.kept) ≡ None → IsTree (dropped id t)
dropped_tree t id is off =
    let whole = pruned_branch (other_than id) (id_of t.genesis) t.head t.kept is.placed (kept_here t t.head is.head) (others_stay id (branch t.head t.kept) off) in
    record {
      placed = pruned_placed (other_than id) (id_of t.genesis) t.kept is.placed;
      first = is.first;
      head = here_kept (dropped id t) t.head whole.here;
      producers = is.producers;
      few = is.few;
    }

pub dropped_head : (t : Tree) (id : List ℕ) → IsTree t → find_block id (branch t.head t.kept) ≡ None → branch t.head (dropped id t).kept ≡ branch t.head t.kept
dropped_head t id is off =
    (pruned_branch (other_than id) (id_of t.genesis) t.head t.kept is.placed (kept_here t t.head is.head) (others_stay id (branch t.head t.kept) off)).branch

-- ---- the code goes through the nodes from the oldest up

snoc_on : (done : List Node) (n : Node) (rest : List Node) → (done ++ n ∷ []) ++ rest ≡ done ++ n ∷ rest
snoc_on [] n rest = refl
snoc_on (d ∷ done) n rest = ap (λ ns. d ∷ ns) (snoc_on done n rest)

sift_step : (stays : Block → Bool) (genesis : List ℕ) (done front : List Node) (n : Node) → newest front ≡ pruned stays genesis (newest done) → (s : Bool) →
    test_on stays genesis front n ≡ s → newest (if s then front ++ n ∷ [] else front) ≡ pruned stays genesis (newest (done ++ n ∷ []))
sift_step stays genesis done front n e true test =
    newest_snoc front n ∙ rw (newest_snoc done n, ← e, test) refl
sift_step stays genesis done front n e false test =
    rw (newest_snoc done n, ← e, test) refl

pub sifted_pruned : (stays : Block → Bool) (genesis : List ℕ) (done front rest : List Node) → newest front ≡ pruned stays genesis (newest done) →
    newest (sifted stays genesis front rest) ≡ pruned stays genesis (newest (done ++ rest))
sifted_pruned stays genesis done front [] e = rw append-nil e
sifted_pruned stays genesis done front (n ∷ rest) e =
    sifted_pruned stays genesis (done ++ n ∷ []) (if test_on stays genesis front n then front ++ n ∷ [] else front) rest (sift_step stays genesis done front n e _ refl)
    ∙ ap (λ ns. pruned stays genesis (newest ns)) (snoc_on done n rest)

pub record IsSifted (stays : Block → Bool) (genesis : List ℕ) (all nodes : List Node) (at : ℕ) : Type 0 where
  pub within : at ≤ length nodes
  pub same : sifted stays genesis (take at nodes) (drop at nodes) ≡ sifted stays genesis [] all

-- the node at a place, with what lies before it and after
pub cut_at : (nodes : List Node) (at : ℕ) (d : Node) → at < length nodes → drop at nodes ≡ slice_index_or nodes at d ∷ drop (at + 1) nodes
cut_at nodes at d within = rw add-one (drop-cons nodes at d within)

more_suc : (ns : List Node) (k : ℕ) (d : Node) → k < length ns → take (suc k) ns ≡ take k ns ++ slice_index_or ns k d ∷ []
more_suc [] k d within = absurd (omega arith)
more_suc (n ∷ ns) zero d within = refl
more_suc (n ∷ ns) (suc k) d within = ap (λ xs. n ∷ xs) (more_suc ns k d (omega arith))

pub more_at : (ns : List Node) (k : ℕ) (d : Node) → k < length ns → take (k + 1) ns ≡ take k ns ++ slice_index_or ns k d ∷ []
more_at ns k d within = rw add-one (more_suc ns k d within)

drop_all : (ns : List Node) → drop (length ns) ns ≡ []
drop_all [] = refl
drop_all (n ∷ ns) = drop_all ns

pub sifted_turn : (stays : Block → Bool) (genesis : List ℕ) (front : List Node) (n : Node) (rest : List Node) (s : Bool) → s ≡ test_on stays genesis front n →
    sifted stays genesis front (n ∷ rest) ≡ sifted stays genesis (if s then front ++ n ∷ [] else front) rest
sifted_turn stays genesis front n rest s e = ap (λ q. sifted stays genesis (if q then front ++ n ∷ [] else front) rest) (sym e)

pub some_node : (ns : List Node) (at : ℕ) → at < length ns → Node
some_node [] at within = absurd (omega arith)
some_node (n ∷ ns) at within = n

pub sifted_stays : (stays : Block → Bool) (genesis : List ℕ) (all nodes : List Node) (at : ℕ) (d : Node) → IsSifted stays genesis all nodes at → at < length nodes →
    true ≡ test_on stays genesis (take at nodes) (slice_index_or nodes at d) → IsSifted stays genesis all nodes (at + 1)
sifted_stays stays genesis all nodes at d is within test = record {
  within = omega arith;
  same =
      ap (λ front. sifted stays genesis front (drop (at + 1) nodes)) (more_at nodes at d within)
      ∙ sym (ap (λ rest. sifted stays genesis (take at nodes) rest) (cut_at nodes at d within) ∙ sifted_turn stays genesis (take at nodes) (slice_index_or nodes at d) (drop (at + 1) nodes) true test)
      ∙ is.same;
}

without_at : (ns : List Node) (k : ℕ) → AllByRecursion IsNamed ns → AllByRecursion IsNamed (take k ns ++ drop (suc k) ns)
without_at [] zero h = tt
without_at [] (suc k) h = tt
without_at (n ∷ ns) zero h = h.1
without_at (n ∷ ns) (suc k) h = (h.0, without_at ns k h.1)

pub removed_named : (nodes : List Node) (at : ℕ) → AllByRecursion IsNamed nodes → AllByRecursion IsNamed (take at nodes ++ drop (at + 1) nodes)
removed_named nodes at h = rw add-one (without_at nodes at h)

pub sifted_goes : (stays : Block → Bool) (genesis : List ℕ) (all nodes left : List Node) (at : ℕ) (d : Node) → IsSifted stays genesis all nodes at → at < length nodes →
    false ≡ test_on stays genesis (take at nodes) (slice_index_or nodes at d) → left ≡ take at nodes ++ drop (at + 1) nodes → IsSifted stays genesis all left at
sifted_goes stays genesis all nodes left at d is within test e =
    let long : length (take at nodes) ≡ at = length-take-le at nodes (omega arith) in
    let front : take at left ≡ take at nodes =
    ap (take at) e ∙ subst (λ k. take k (take at nodes ++ drop (at + 1) nodes) ≡ take at nodes) long (take-append_seam (take at nodes) (drop (at + 1) nodes)) in
    let back : drop at left ≡ drop (at + 1) nodes =
    ap (drop at) e ∙ subst (λ k. drop k (take at nodes ++ drop (at + 1) nodes) ≡ drop (at + 1) nodes) long (drop-append_seam (take at nodes) (drop (at + 1) nodes)) in
    record {
      within = omega (arith, ap length e, length-append (take at nodes) (drop (at + 1) nodes), long);
      same =
          rw (front, back) (sym (ap (λ rest. sifted stays genesis (take at nodes) rest) (cut_at nodes at d within) ∙ sifted_turn stays genesis (take at nodes) (slice_index_or nodes at d) (drop (at + 1) nodes) false test) ∙ is.same);
    }

pub sifted_end : (stays : Block → Bool) (genesis : List ℕ) (all nodes : List Node) (at : ℕ) → IsSifted stays genesis all nodes at → length nodes ≤ at →
    newest nodes ≡ pruned stays genesis (newest all)
sifted_end stays genesis all nodes at is over =
    let e : at ≡ length nodes = omega (arith, is.within) in
    let t : take at nodes ≡ nodes = ap (λ k. take k nodes) e ∙ take-length nodes in
    let d : drop at nodes ≡ [] = ap (λ k. drop k nodes) e ∙ drop_all nodes in
    ap newest (rw (t, d) at is.same) ∙ sifted_pruned stays genesis [] [] all refl
