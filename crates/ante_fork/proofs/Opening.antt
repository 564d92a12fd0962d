-- What is left beside the head's branch, and that settling leaves a tree.
use Rattle.std.proofs.Common.{◌≡◌, ℕ, ◌+◌, ◌-◌, ◌<◌, ◌≤◌, Bool, true, false, ◌||◌, List, [], ◌∷◌, ◌++◌, length, take, drop, Some, is_some, refl, sym, ap, subst, ◌∙◌, arith, append_assoc, length-append, slice_index_or, nat_lt, if◌then◌else◌}
use Rattle.std.specs.Str.{bytes_eq}
use Rattle.std.proofs.lemmas.List.{append-nil, length-take-le}
use Rattle.std.proofs.Math.Seq.{take-append_seam, drop-append_seam, take-length}
use Rattle.ante_types.specs.declared.chain.Block.{Block}
use Rattle.ante_types.specs.Ids.{block_num}
use Rattle.ante_fork.specs.declared.node.Node.{Node}
use Rattle.ante_fork.specs.Shown.{newest}
use Rattle.ante_fork.specs.Tree.{Tree, id_of, num_of, find_block, branch, pruned, IsPlaced, AllPlaced, IsTree}
use Rattle.ante_fork.specs.Finality.{is_open, settled_at, kept_by, always, opened}
use Rattle.ante_fork.proofs.Branches.{newest_snoc, kept_here, here_kept}
use Rattle.ante_fork.proofs.Pruned.{StaysAll, same_refl, pruned_branch, pruned_placed, cut_at, more_at}
use Rattle.ante_fork.proofs.Low.{full_opened, front_length}
use Rattle.ante_fork.proofs.Finding.{newest_append, take_drop}
use Rattle.ante_fork.proofs.Apart.{off_branch, found_by, differs_by}

-- what stands from the place on is done, and all before it is as it was
pub record IsOpening (n : ℕ) (genesis head : List ℕ) (all items : List Node) (next : List ℕ) (at : ℕ) : Type 0 where
  pub within : at ≤ length items
  pub low : AllPlaced genesis (newest (take at items))
  pub same : newest (drop at items) ++ opened n next (newest (take at items)) ≡ opened n head (newest all)

drop_end : (ns : List Node) → drop (length ns) ns ≡ []
drop_end [] = refl
drop_end (n ∷ ns) = drop_end ns

pub opening_start : (n : ℕ) (genesis head : List ℕ) (all : List Node) (k : ℕ) → k ≡ length all → AllPlaced genesis (newest all) → IsOpening n genesis head all all head k
opening_start n genesis head all k e placed = record {
  within = omega (arith, e);
  low = subst (AllPlaced genesis) (sym (ap (λ j. newest (take j all)) e ∙ ap newest (take-length all))) placed;
  same =
      ap (λ j. newest (drop j all) ++ opened n head (newest (take j all))) e
      ∙ ap (λ ns. newest ns ++ opened n head (newest (take (length all) all))) (drop_end all) ∙ ap (λ ns. opened n head (newest ns)) (take-length all);
}

pub opening_end : (n : ℕ) (genesis head : List ℕ) (all items : List Node) (next : List ℕ) (at : ℕ) → IsOpening n genesis head all items next at → at ≤ 0 → newest items ≡ opened n head (newest all)
opening_end n genesis head all items next at is none =
    let e : at ≡ 0 = omega arith in
    sym (append-nil (newest items)) ∙ ap (λ j. newest (drop j items) ++ opened n next (newest (take j items))) (sym e) ∙ is.same

-- the node below, with what lies before it and after
pub record IsBelow (items : List Node) (at : ℕ) (x : Node) : Type 0 where
  pub back : drop (at - 1) items ≡ x ∷ drop at items
  pub front : newest (take at items) ≡ x.block.value ∷ newest (take (at - 1) items)

pub is_below : (items : List Node) (at : ℕ) (d : Node) → 0 < at → at ≤ length items → IsBelow items at (slice_index_or items (at - 1) d)
is_below items at d some within =
    let e : at - 1 + 1 ≡ at = omega arith in
    record {
      back = cut_at items (at - 1) d (omega arith) ∙ ap (λ j. slice_index_or items (at - 1) d ∷ drop j items) e;
      front = ap (λ j. newest (take j items)) (sym e) ∙ ap newest (more_at items (at - 1) d (omega arith)) ∙ newest_snoc (take (at - 1) items) (slice_index_or items (at - 1) d);
    }

low_below : (genesis : List ℕ) (items : List Node) (at : ℕ) (x : Node) → IsBelow items at x → AllPlaced genesis (newest (take at items)) → AllPlaced genesis (x.block.value ∷ newest (take (at - 1) items))
low_below genesis items at x is low = subst (AllPlaced genesis) is.front low

stay_same : (n : ℕ) (next next2 : List ℕ) (items : List Node) (at : ℕ) (x : Node) → IsBelow items at x → opened n next (x.block.value ∷ newest (take (at - 1) items)) ≡ x.block.value ∷ opened n next2 (newest (take (at - 1) items)) →
    newest (drop (at - 1) items) ++ opened n next2 (newest (take (at - 1) items)) ≡ newest (drop at items) ++ opened n next (newest (take at items))
stay_same n next next2 items at x is e =
    ap (λ ns. newest ns ++ opened n next2 (newest (take (at - 1) items))) is.back
    ∙ append_assoc (newest (drop at items)) (x.block.value ∷ []) (opened n next2 (newest (take (at - 1) items)))
    ∙ ap (λ bs. newest (drop at items) ++ bs) (sym e ∙ ap (opened n next) (sym is.front))

on_way : (n : ℕ) (next : List ℕ) (b : Block) (older : List Block) → bytes_eq next (id_of b) ≡ true → opened n next (b ∷ older) ≡ b ∷ opened n b.header.previous older
on_way n next b older e = rw e refl

above_it : (n : ℕ) (next : List ℕ) (b : Block) (older : List Block) → bytes_eq next (id_of b) ≡ false → nat_lt n (num_of b) ≡ true → opened n next (b ∷ older) ≡ b ∷ opened n next older
above_it n next b older e f = rw (e, f) refl

gone_it : (n : ℕ) (next : List ℕ) (b : Block) (older : List Block) → bytes_eq next (id_of b) ≡ false → nat_lt n (num_of b) ≡ false → opened n next (b ∷ older) ≡ opened n next older
gone_it n next b older e f = rw (e, f) refl

pub opening_on : (n : ℕ) (genesis head : List ℕ) (all items : List Node) (next prev : List ℕ) (at : ℕ) (d : Node) → IsOpening n genesis head all items next at → 0 < at →
    bytes_eq next (id_of (slice_index_or items (at - 1) d).block.value) ≡ true → prev ≡ (slice_index_or items (at - 1) d).block.value.header.previous → IsOpening n genesis head all items prev (at - 1)
opening_on n genesis head all items next prev at d is some e p =
    let x = slice_index_or items (at - 1) d in
    let below = is_below items at d some is.within in
    subst (λ q. IsOpening n genesis head all items q (at - 1)) (sym p) (record {
      within = omega (arith, is.within);
      low = (low_below genesis items at x below is.low).1;
      same = stay_same n next x.block.value.header.previous items at x below (on_way n next x.block.value (newest (take (at - 1) items)) e) ∙ is.same;
    })

pub opening_above : (n : ℕ) (genesis head : List ℕ) (all items : List Node) (next : List ℕ) (at : ℕ) (d : Node) → IsOpening n genesis head all items next at → 0 < at →
    bytes_eq next (id_of (slice_index_or items (at - 1) d).block.value) ≡ false → nat_lt n (num_of (slice_index_or items (at - 1) d).block.value) ≡ true → IsOpening n genesis head all items next (at - 1)
opening_above n genesis head all items next at d is some e f =
    let x = slice_index_or items (at - 1) d in
    let below = is_below items at d some is.within in
    record {
      within = omega (arith, is.within);
      low = (low_below genesis items at x below is.low).1;
      same = stay_same n next next items at x below (above_it n next x.block.value (newest (take (at - 1) items)) e f) ∙ is.same;
    }

pub opening_gone : (n : ℕ) (genesis head : List ℕ) (all items left : List Node) (next : List ℕ) (at : ℕ) (d : Node) → IsOpening n genesis head all items next at → 0 < at →
    bytes_eq next (id_of (slice_index_or items (at - 1) d).block.value) ≡ false → nat_lt n (num_of (slice_index_or items (at - 1) d).block.value) ≡ false →
    left ≡ take (at - 1) items ++ drop (at - 1 + 1) items → IsOpening n genesis head all left next (at - 1)
opening_gone n genesis head all items left next at d is some e f cut =
    let x = slice_index_or items (at - 1) d in
    let low : List Node = take (at - 1) items in
    let high : List Node = drop (at - 1 + 1) items in
    let up : drop (at - 1 + 1) items ≡ drop at items = let j : at - 1 + 1 ≡ at = omega arith in ap (λ j. drop j items) j in
    let long : length low ≡ at - 1 = length-take-le (at - 1) items (omega (arith, is.within)) in
    let front : take (at - 1) left ≡ low = ap (take (at - 1)) cut ∙ subst (λ k. take k (low ++ high) ≡ low) long (take-append_seam low high) in
    let back : drop (at - 1) left ≡ drop at items = ap (drop (at - 1)) cut ∙ subst (λ k. drop k (low ++ high) ≡ high) long (drop-append_seam low high) ∙ up in
    let below = is_below items at d some is.within in
    record {
      within = omega (arith, ap length cut, length-append low high, long);
      low = subst (λ ns. AllPlaced genesis (newest ns)) (sym front) (low_below genesis items at x below is.low).1;
      same =
          rw (front, back) (ap (λ bs. newest (drop at items) ++ bs) (sym (gone_it n next x.block.value (newest low) e f) ∙ ap (opened n next) (sym below.front)) ∙ is.same);
    }

-- a block on the way that has all older ones below it
pub record IsOpened (n : ℕ) (genesis head : List ℕ) (all items : List Node) (at : ℕ) : Type 0 where
  pub within : at ≤ length items
  pub low : AllPlaced genesis (newest (take at items))
  pub left : newest items ≡ opened n head (newest all)

apart_at : (ns : List Node) (k : ℕ) → newest (drop k ns) ++ newest (take k ns) ≡ newest ns
apart_at ns k = sym (newest_append (take k ns) (drop k ns)) ∙ ap newest (take_drop ns k)

pub opening_full : (n : ℕ) (genesis head : List ℕ) (all items : List Node) (next : List ℕ) (at : ℕ) (d : Node) → block_num genesis ≡ 1 → IsOpening n genesis head all items next at → 0 < at →
    bytes_eq next (id_of (slice_index_or items (at - 1) d).block.value) ≡ true → num_of (slice_index_or items (at - 1) d).block.value ≡ at - 1 + 2 → IsOpened n genesis head all items (at - 1)
opening_full n genesis head all items next at d first is some e full =
    let x = slice_index_or items (at - 1) d in
    let older : List Block = newest (take (at - 1) items) in
    let below = is_below items at d some is.within in
    let placed : AllPlaced genesis (x.block.value ∷ older) = low_below genesis items at x below is.low in
    let long : length older ≡ at - 1 = front_length (take (at - 1) items) ∙ length-take-le (at - 1) items (omega (arith, is.within)) in
    record {
      within = omega (arith, is.within);
      low = placed.1;
      left =
          sym (apart_at items (at - 1))
          ∙ ap (λ bs. newest (drop (at - 1) items) ++ bs) (sym (full_opened n genesis x.block.value older first placed (omega (arith, full, long))))
          ∙ stay_same n next x.block.value.header.previous items at x below (on_way n next x.block.value older e) ∙ is.same;
    }

-- ---- the two passes are the one rule

split_step : (stays : Block → Bool) (genesis : List ℕ) (b : Block) (older : List Block) → pruned stays genesis older ≡ pruned always genesis (kept_by stays older) → (s : Bool) → stays b ≡ s →
    pruned stays genesis (b ∷ older) ≡ pruned always genesis (if s then b ∷ kept_by stays older else kept_by stays older)
split_step stays genesis b older ih true e = rw (e, ih) refl
split_step stays genesis b older ih false e = rw e ih

pub pruned_split : (stays : Block → Bool) (genesis : List ℕ) (kept : List Block) → pruned stays genesis kept ≡ pruned always genesis (kept_by stays kept)
pruned_split stays genesis [] = refl
pruned_split stays genesis (b ∷ older) = split_step stays genesis b older (pruned_split stays genesis older) (stays b) refl

-- the branch from here on is what the whole one has of these blocks
abbrev pub Agrees : List Block → List ℕ → List Block → Type 0
Agrees chosen next kept = (c : Block) → is_some (find_block (id_of c) kept) ≡ true → is_some (find_block (id_of c) chosen) ≡ is_some (find_block (id_of c) (branch next kept))

found_self : (b : Block) (older : List Block) → is_some (find_block (id_of b) (b ∷ older)) ≡ true
found_self b older = ap (λ t. is_some (if t then Some b else find_block (id_of b) older)) (same_refl (id_of b))

or_left : (a : Bool) → (a || true) ≡ true
or_left true = refl
or_left false = refl

or_not : (a : Bool) → (a || false) ≡ a
or_not true = refl
or_not false = refl

agrees_on : (chosen : List Block) (genesis next : List ℕ) (b : Block) (older : List Block) → IsPlaced genesis b older → Agrees chosen next (b ∷ older) → bytes_eq next (id_of b) ≡ true → Agrees chosen b.header.previous older
agrees_on chosen genesis next b older is h e = λ c here.
    h c (found_by (id_of c) b older here (bytes_eq (id_of c) (id_of b))) ∙ rw (e, differs_by c b older is.new here (bytes_eq (id_of c) (id_of b)) refl) refl

agrees_off : (chosen : List Block) (next : List ℕ) (b : Block) (older : List Block) → Agrees chosen next (b ∷ older) → bytes_eq next (id_of b) ≡ false → Agrees chosen next older
agrees_off chosen next b older h e = λ c here. h c (found_by (id_of c) b older here (bytes_eq (id_of c) (id_of b))) ∙ rw e refl

opened_step : (n : ℕ) (chosen : List Block) (genesis next : List ℕ) (b : Block) (older : List Block) → IsPlaced genesis b older → Agrees chosen next (b ∷ older) →
    ((x : List ℕ) → Agrees chosen x older → opened n x older ≡ kept_by (is_open n chosen) older) → (t : Bool) → bytes_eq next (id_of b) ≡ t → opened n next (b ∷ older) ≡ kept_by (is_open n chosen) (b ∷ older)
opened_step n chosen genesis next b older is h ih true e =
    let found : is_some (find_block (id_of b) chosen) ≡ true = h b (found_self b older) ∙ rw e (found_self b (branch b.header.previous older)) in
    rw (e, found, or_left (nat_lt n (num_of b))) (ap (λ bs. b ∷ bs) (ih b.header.previous (agrees_on chosen genesis next b older is h e)))
opened_step n chosen genesis next b older is h ih false e =
    let off : is_some (find_block (id_of b) chosen) ≡ false = h b (found_self b older) ∙ rw e (ap is_some (off_branch (id_of b) next older is.new)) in
    rw (e, off, or_not (nat_lt n (num_of b))) (ap (λ bs. if nat_lt n (num_of b) then b ∷ bs else bs) (ih next (agrees_off chosen next b older h e)))

opened_kept : (n : ℕ) (chosen : List Block) (genesis next : List ℕ) (kept : List Block) → AllPlaced genesis kept → Agrees chosen next kept → opened n next kept ≡ kept_by (is_open n chosen) kept
opened_kept n chosen genesis next [] placed h = refl
opened_kept n chosen genesis next (b ∷ older) placed h =
    opened_step n chosen genesis next b older placed.0 h (λ x g. opened_kept n chosen genesis x older placed.1 g) (bytes_eq next (id_of b)) refl

pub settled_kept : (n : ℕ) (t : Tree) → IsTree t → pruned always (id_of t.genesis) (opened n t.head t.kept) ≡ (settled_at n t).kept
settled_kept n t is =
    ap (pruned always (id_of t.genesis)) (opened_kept n (branch t.head t.kept) (id_of t.genesis) t.head t.kept is.placed (λ c here. refl))
    ∙ sym (pruned_split (is_open n (branch t.head t.kept)) (id_of t.genesis) t.kept)

abbrev pub settled_with : ℕ → Tree → List Block → Tree
settled_with n t kept = record { producers = t.producers; genesis = t.genesis; kept = kept; head = t.head; irreversible = n }

-- ---- and it leaves a tree

found_more : (x : List ℕ) (c : Block) (bs : List Block) → is_some (find_block x bs) ≡ true → (t : Bool) → is_some (if t then Some c else find_block x bs) ≡ true
found_more x c bs h true = refl
found_more x c bs h false = h

on_self : (n : ℕ) (all bs : List Block) → ((c : Block) → is_some (find_block (id_of c) bs) ≡ true → is_some (find_block (id_of c) all) ≡ true) → StaysAll (is_open n all) bs
on_self n all [] sub = tt
on_self n all (b ∷ bs) sub =
    (ap (λ x. nat_lt n (num_of b) || x) (sub b (found_self b bs)) ∙ or_left (nat_lt n (num_of b)), on_self n all bs (λ c h. sub c (found_more (id_of c) b bs h (bytes_eq (id_of c) (id_of b)))))

pub settled_tree : (n : ℕ) (t : Tree) → IsTree t → IsTree (settled_at n t)
settled_tree n t is =
    let chosen : List Block = branch t.head t.kept in
    let whole = pruned_branch (is_open n chosen) (id_of t.genesis) t.head t.kept is.placed (kept_here t t.head is.head) (on_self n chosen chosen (λ c h. h)) in
    record {
      placed = pruned_placed (is_open n chosen) (id_of t.genesis) t.kept is.placed;
      first = is.first;
      head = here_kept (settled_at n t) t.head whole.here;
      producers = is.producers;
      few = is.few;
    }
