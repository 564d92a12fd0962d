-- Where nothing below the irreversible block is left beside the head's branch, each longer branch leaves the head's at that block or above.
use Rattle.std.proofs.Common.{◌≡◌, ℕ, zero, suc, ◌+◌, ◌-◌, ◌<◌, ◌≤◌, Bool, true, false, ◌||◌, ◌&&◌, List, [], ◌∷◌, ◌++◌, length, take, drop, reverse, Option, Some, None, is_some, refl, sym, ap, subst, ◌∙◌, arith, nat_lt, nat_le, ◌==◌, ◌*◌, ◌/◌, map, slice_index_or, if◌then◌else◌}
use Rattle.std.specs.Str.{bytes_eq}
use Rattle.std.specs.List.{AllByRecursion, slice_get}
use Rattle.std.proofs.lemmas.Bool.Decides.{nat_tests}
use Rattle.std.proofs.lemmas.List.{length-drop, length-reverse, reverse-append, take-append-drop}
use Rattle.std.proofs.Math.Seq.{take-append_seam}
use Rattle.ante_pack.specs.declared.names.Name.{Name}
use Rattle.ante_types.specs.declared.chain.Block.{Block}
use Rattle.ante_types.specs.Ids.{block_num}
use Rattle.ante_undo.specs.Stack.{Stack, committed}
use Rattle.ante_fork.specs.Tree.{Tree, id_of, num_of, block_at, find_block, branch, meeting, pruned, IsTree, AllPlaced}
use Rattle.ante_fork.specs.Finality.{is_open, settled_at, agreed, last_number, insert_down, descending}
use Rattle.ante_fork.proofs.Branches.{counted, is_path, kept_here, here_kept, placed_num}
use Rattle.ante_fork.proofs.Pruned.{StaysAll, pruned_branch, pruned_placed, same_refl}
use Rattle.ante_fork.proofs.Apart.{apart}
use Rattle.ante_control.specs.Chosen.{Play}
use Rattle.ante_control.specs.Tabled.{worlds, Holds, AllOpen}
use Rattle.ante_control.proofs.Ways.{rise, is_cut}

and_left : (a b : Bool) → (a && b) ≡ true → a ≡ true
and_left true b e = refl
and_left false b e = e

open_step : (stays : Block → Bool) (b : Block) (rest : List Block) (s : Bool) → (s ≡ true → stays b ≡ true) → StaysAll stays rest → StaysAll stays (if s then b ∷ rest else rest)
open_step stays b rest true on all = (on refl, all)
open_step stays b rest false on all = all

-- after pruning the test holds of all
pub pruned_all : (stays : Block → Bool) (genesis : List ℕ) (kept : List Block) → StaysAll stays (pruned stays genesis kept)
pruned_all stays genesis [] = tt
pruned_all stays genesis (b ∷ older) =
    open_step stays b (pruned stays genesis older) (stays b && (bytes_eq b.header.previous genesis || is_some (find_block b.header.previous (pruned stays genesis older))))
    (and_left (stays b) _) (pruned_all stays genesis older)

or_true : (a : Bool) → (a || true) ≡ true
or_true true = refl
or_true false = refl

found_more : (x : List ℕ) (c : Block) (bs : List Block) → is_some (find_block x bs) ≡ true → (t : Bool) → is_some (if t then Some c else find_block x bs) ≡ true
found_more x c bs h true = refl
found_more x c bs h false = h

-- a branch's own blocks are on it
on_self : (n : ℕ) (all bs : List Block) → ((c : Block) → is_some (find_block (id_of c) bs) ≡ true → is_some (find_block (id_of c) all) ≡ true) → StaysAll (is_open n all) bs
on_self n all [] sub = tt
on_self n all (b ∷ bs) sub = (
  ap (λ x. nat_lt n (num_of b) || x) (sub b (ap (λ t. is_some (if t then Some b else find_block (id_of b) bs)) (same_refl (id_of b)))) ∙ or_true (nat_lt n (num_of b)),
  on_self n all bs (λ c h. sub c (found_more (id_of c) b bs h (bytes_eq (id_of c) (id_of b)))),
)

pub record IsSettled (n : ℕ) (t t2 : Tree) : Type 0 where
  pub tree : IsTree t2
  pub same : branch t2.head t2.kept ≡ branch t.head t.kept
  pub open_up : AllOpen n (branch t2.head t2.kept) t2.kept

-- settling keeps the head's branch, and leaves nothing below the number beside it
pub settles : (n : ℕ) (t : Tree) → IsTree t → IsSettled n t (settled_at n t)
settles n t is =
    let chosen : List Block = branch t.head t.kept in
    let stays : Block → Bool = is_open n chosen in
    let whole = pruned_branch stays (id_of t.genesis) t.head t.kept is.placed (kept_here t t.head is.head) (on_self n chosen chosen (λ c h. h)) in
    record {
      tree = record {
        placed = pruned_placed stays (id_of t.genesis) t.kept is.placed;
        first = is.first;
        head = here_kept (settled_at n t) t.head whole.here;
        producers = is.producers;
        few = is.few;
      };
      same = whole.branch;
      open_up = subst (λ bs. AllOpen n bs (pruned stays (id_of t.genesis) t.kept)) (sym whole.branch) (pruned_all stays (id_of t.genesis) t.kept);
    }

lt_of : (m n : ℕ) → nat_lt m n ≡ true → m < n
lt_of m n e = grind (arith, nat_tests)

or_none : (a : Bool) → (a || false) ≡ true → a ≡ true
or_none true e = refl
or_none false e = e

above_by : (n m : ℕ) (o : Option Block) → (nat_lt n m || is_some o) ≡ true → o ≡ None → n < m
above_by n m None e none = lt_of n m (or_none (nat_lt n m) e)
above_by n m (Some b) e none = cc

in_by : (P : Block → Type 0) (b : Block) (below rest : List Block) → P b → ((k : ℕ) (c : Block) → slice_get below k ≡ Some c → P c) → ((k : ℕ) (c : Block) → slice_get rest k ≡ Some c → P c) →
    (t : Bool) (k : ℕ) (c : Block) → slice_get (if t then b ∷ below else rest) k ≡ Some c → P c
in_by P b below rest here down other true zero c e = let h : b ≡ c = cc in subst P h here
in_by P b below rest here down other true (suc k) c e = down k c e
in_by P b below rest here down other false k c e = other k c e

-- what holds of all kept blocks holds along a branch
is_in : (P : Block → Type 0) (a : List ℕ) (kept : List Block) → AllByRecursion P kept → (k : ℕ) (c : Block) → slice_get (branch a kept) k ≡ Some c → P c
is_in P a [] all k c e = cc
is_in P a (b ∷ older) all k c e =
    in_by P b (branch b.header.previous older) (branch a older) all.0 (is_in P b.header.previous older all.1) (is_in P a older all.1) (bytes_eq a (id_of b)) k c e

get_some : (bs : List Block) (k : ℕ) → k < length bs → (c : Block) × (slice_get bs k ≡ Some c)
get_some [] k lt = absurd (omega arith)
get_some (b ∷ bs) zero lt = (b, refl)
get_some (b ∷ bs) (suc k) lt = get_some bs k (omega arith)

all_numbered : (genesis : List ℕ) (kept : List Block) → AllPlaced genesis kept → AllByRecursion (λ c. num_of c ≡ block_num c.header.previous + 1) kept
all_numbered genesis [] placed = tt
all_numbered genesis (b ∷ older) placed = (placed.0.num, all_numbered genesis older placed.1)

-- a branch that isn't the head's leaves it at the number or above
pub deep_enough : (n : ℕ) (t : Tree) (id : List ℕ) → IsTree t → is_some (block_at id t) ≡ true → AllOpen n (branch t.head t.kept) t.kept → 0 < rise t id →
    n ≤ length (meeting id t.head t.kept) + 1
deep_enough n t id is here all up =
    let bs : List Block = branch id t.kept in
    let got = get_some bs (rise t id - 1) (omega (arith, up)) in
    let cut = is_cut bs (counted (id_of t.genesis) t.kept id is.first is.placed) (rise t id - 1) got.0 got.1 in
    let off = apart (id_of t.genesis) t.kept id t.head is.placed (rise t id - 1) got.0 got.1 (omega (arith, up)) in
    let clear = above_by n (num_of got.0) (find_block (id_of got.0) (branch t.head t.kept)) (is_in (λ b. is_open n (branch t.head t.kept) b ≡ true) id t.kept all (rise t id - 1) got.0 got.1) off in
    let num = is_in (λ c. num_of c ≡ block_num c.header.previous + 1) id t.kept (all_numbered (id_of t.genesis) t.kept is.placed) (rise t id - 1) got.0 got.1 in
    omega (arith, clear, num, cut.num, length-drop (rise t id - 1 + 1) bs, (is_path t id is here).within, up)

take_none : {A : Type 0} (k : ℕ) → take {A = A} k [] ≡ []
take_none zero = refl
take_none (suc k) = refl

module _ {W : Type 0} where
  holds_take : (p : Play W) (bs : List Block) (k : ℕ) (ws : List W) → Holds p bs ws → Holds p bs (take k ws)
  holds_take p [] zero ws h = tt
  holds_take p (b ∷ bs) zero ws h = tt
  holds_take p [] (suc k) [] h = h
  holds_take p (b ∷ bs) (suc k) [] h = h
  holds_take p [] (suc k) (w ∷ ws) h = (h.0, ap (take k) h.1 ∙ take_none k)
  holds_take p (b ∷ bs) (suc k) (w ∷ ws) h = (h.0, holds_take p bs k ws h.1)

  -- committing forgets worlds, and changes none
  pub committed_worlds : (r : ℕ) (s : Stack W) → worlds (committed r s) ≡ take (suc (length s.under - (length s.under - (s.revision - r)))) (worlds s)
  committed_worlds r s =
      let m : ℕ = length s.under - (s.revision - r) in
      let back = drop m s.under in
      let front = take m s.under in
      let long : length (reverse back) ≡ length s.under - m = length-reverse back ∙ length-drop m s.under in
      let cut : take (length s.under - m) (reverse s.under) ≡ reverse back =
      ap (λ xs. take (length s.under - m) (reverse xs)) (sym (take-append-drop m s.under)) ∙ ap (take (length s.under - m)) (reverse-append front back)
      ∙ subst (λ k. take k (reverse back ++ reverse front) ≡ reverse back) long (take-append_seam (reverse back) (reverse front)) in
      reverse-append back (s.top ∷ []) ∙ ap (λ xs. s.top ∷ xs) (sym cut) ∙ sym (ap (take (suc (length s.under - m))) (reverse-append s.under (s.top ∷ [])))

  pub committed_holds : (p : Play W) (bs : List Block) (r : ℕ) (s : Stack W) → Holds p bs (worlds s) → Holds p bs (worlds (committed r s))
  committed_holds p bs r s h =
      subst (Holds p bs) (sym (committed_worlds r s)) (holds_take p bs (suc (length s.under - (length s.under - (s.revision - r)))) (worlds s) h)

  -- and the stack is as deep as the number asks
  pub committed_enough : (i r : ℕ) (s : Stack W) → s.revision ≤ i + length s.under → i ≤ r → s.revision ≤ r + length (committed r s).under
  committed_enough i r s deep le = omega (arith, deep, le, length-drop (length s.under - (s.revision - r)) s.under)

-- ---- the irreversible number is at most the head's

abbrev pub Numbered : List Block → Type 0
Numbered [] = Unit {0}
Numbered (c ∷ below) = (num_of c ≡ length below + 2) × Numbered below

numbered_by : (b : Block) (older : List Block) (a : List ℕ) → num_of b ≡ length (branch b.header.previous older) + 2 → Numbered (branch b.header.previous older) → Numbered (branch a older) →
    (t : Bool) → Numbered (if t then b ∷ branch b.header.previous older else branch a older)
numbered_by b older a num below rest true = (num, below)
numbered_by b older a num below rest false = rest

pub numbered : (genesis : List ℕ) (kept : List Block) (a : List ℕ) → block_num genesis ≡ 1 → AllPlaced genesis kept → Numbered (branch a kept)
numbered genesis [] a first placed = tt
numbered genesis (b ∷ older) a first placed =
    let below = placed_num genesis older b.header.previous first placed.1 placed.0.linked in
    numbered_by b older a (omega (arith, placed.0.num, below)) (numbered genesis older b.header.previous first placed.1) (numbered genesis older a first placed.1) (bytes_eq a (id_of b))

low_by : (m k : ℕ) (t : Bool) (x y : ℕ) → x ≤ m → y ≤ m → (if t then x else y) ≤ m
low_by m k true x y h g = h
low_by m k false x y h g = g

last_low : (genesis : Block) (bs : List Block) (p : Name) → Numbered bs → last_number genesis bs p ≤ length bs + 1
last_low genesis [] p h = low_by 1 0 (p.0 == genesis.header.producer.0) 1 0 (omega arith) (omega arith)
last_low genesis (c ∷ below) p h =
    low_by (length (c ∷ below) + 1) 0 (p.0 == c.header.producer.0) (num_of c) (last_number genesis below p) (omega (arith, h.0)) (let r = last_low genesis below p h.1 in omega (arith, r))

abbrev AllLow : ℕ → List ℕ → Type 0
AllLow m [] = Unit {0}
AllLow m (n ∷ ns) = (n ≤ m) × AllLow m ns

insert_by : (m n k : ℕ) (ns ins : List ℕ) → n ≤ m → k ≤ m → AllLow m ns → AllLow m ins → (t : Bool) → AllLow m (if t then n ∷ k ∷ ns else k ∷ ins)
insert_by m n k ns ins a b c d true = (a, (b, c))
insert_by m n k ns ins a b c d false = (b, d)

insert_low : (m n : ℕ) (ns : List ℕ) → n ≤ m → AllLow m ns → AllLow m (insert_down n ns)
insert_low m n [] a h = (a, tt)
insert_low m n (k ∷ ns) a h = insert_by m n k ns (insert_down n ns) a h.0 h.1 (insert_low m n ns a h.1) (nat_le k n)

descending_low : (m : ℕ) (f : Name → ℕ) (ps : List Name) → ((p : Name) → f p ≤ m) → AllLow m (descending (map f ps))
descending_low m f [] h = tt
descending_low m f (p ∷ ps) h = insert_low m (f p) (descending (map f ps)) (h p) (descending_low m f ps h)

at_low : (m : ℕ) (ns : List ℕ) (k : ℕ) → AllLow m ns → slice_index_or ns k 0 ≤ m
at_low m [] k h = omega arith
at_low m (n ∷ ns) zero h = h.0
at_low m (n ∷ ns) (suc k) h = at_low m ns k h.1

pub agreed_low : (t : Tree) → IsTree t → agreed t ≤ block_num t.head
agreed_low t is =
    let head = placed_num (id_of t.genesis) t.kept t.head is.first is.placed (kept_here t t.head is.head) in
    let bs : List Block = branch t.head t.kept in
    let low : agreed t ≤ length bs + 1 =
    at_low (length bs + 1) (descending (map (last_number t.genesis bs) t.producers)) (2 * length t.producers / 3)
    (descending_low (length bs + 1) (last_number t.genesis bs) t.producers (λ p. last_low t.genesis bs p (numbered (id_of t.genesis) t.kept t.head is.first is.placed))) in
    omega (arith, low, head)
