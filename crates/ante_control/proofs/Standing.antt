-- What holds of every chain, where a block has come into the tree or gone out of it.
use Rattle.std.proofs.Common.{◌≡◌, ℕ, ◌<◌, ◌≤◌, Bool, true, false, List, [], ◌∷◌, Some, None, is_some, refl, sym, ap, subst, ◌∙◌, arith, nat_lt, max, ◌||◌, ◌&&◌, if◌then◌else◌}
use Rattle.std.proofs.lemmas.Bool.Decides.{nat_tests}
use Rattle.std.specs.Str.{bytes_eq}
use Rattle.std.specs.List.{AllByRecursion}
use Rattle.ante_types.specs.declared.chain.Block.{Block}
use Rattle.ante_types.specs.Ids.{block_num}
use Rattle.ante_fork.specs.Finality.{settled, agreed, is_open}
use Rattle.ante_fork.specs.Rules.{refusal}
use Rattle.ante_fork.specs.Tree.{Tree, id_of, num_of, block_at, find_block, branch, pruned, other_than, with_block, with_head, dropped, IsTree, AllPlaced, IsPlaced}
use Rattle.ante_fork.proofs.Added.{added, added_head, fits, is_new}
use Rattle.ante_fork.proofs.Apart.{off_branch}
use Rattle.ante_fork.proofs.Branches.{same}
use Rattle.ante_fork.proofs.Pruned.{dropped_added, same_refl, find_pruned}
use Rattle.ante_control.specs.Tabled.{AllOpen, AllWithin}
use Rattle.ante_control.proofs.Open.{settles, agreed_low}

pub longer_true : (m n : ℕ) → m < n → nat_lt m n ≡ true
longer_true m n h = grind (arith, nat_tests)

pub longer_false : (m n : ℕ) → n ≤ m → nat_lt m n ≡ false
longer_false m n h = grind (arith, nat_tests)

-- what a new block is to the tree that it has entered
pub record IsFresh (t : Tree) (b : Block) : Type 0 where
  pub tree : IsTree (with_block b t)
  pub here : is_some (block_at (id_of b) (with_block b t)) ≡ true
  pub off : find_block (id_of b) (branch t.head (b ∷ t.kept)) ≡ None
  pub same : branch t.head (b ∷ t.kept) ≡ branch t.head t.kept
  pub gone : dropped (id_of b) (with_block b t) ≡ t

here_by : (b : Block) (x : Bool) (g : Block) → is_some (if x then Some g else Some b) ≡ true
here_by b true g = refl
here_by b false g = refl

pub fresh : (t : Tree) (b : Block) → IsTree t → refusal t b ≡ None → block_num b.header.previous < 4294967295 → IsFresh t b
fresh t b is fit small =
    let n = is_new t b (fits t b fit).new in
    let same = added_head t b is fit in
    record {
      tree = added t b is fit small;
      here = rw (same_refl (id_of b)) (here_by b (bytes_eq (id_of b) (id_of t.genesis)) t.genesis);
      off = rw same (off_branch (id_of b) t.head t.kept n.none);
      same = same;
      gone = dropped_added t b is.placed n.none;
    }

-- the tree with the block as its head
pub headed : (t : Tree) (b : Block) → IsTree t → refusal t b ≡ None → block_num b.header.previous < 4294967295 → IsTree (with_head (id_of b) (with_block b t))
headed t b is fit small =
    let f = fresh t b is fit small in
    record { placed = f.tree.placed; first = f.tree.first; head = f.here; producers = f.tree.producers; few = f.tree.few }

-- ---- rules of all kept blocks

all_by : (P : Block → Type 0) (b : Block) (rest : List Block) → P b → AllByRecursion P rest → (s : Bool) → AllByRecursion P (if s then b ∷ rest else rest)
all_by P b rest h all true = (h, all)
all_by P b rest h all false = all

pub all_pruned : (P : Block → Type 0) (stays : Block → Bool) (genesis : List ℕ) (kept : List Block) → AllByRecursion P kept → AllByRecursion P (pruned stays genesis kept)
all_pruned P stays genesis [] all = tt
all_pruned P stays genesis (b ∷ older) all =
    all_by P b (pruned stays genesis older) all.0 (all_pruned P stays genesis older all.1)
    (stays b && (bytes_eq b.header.previous genesis || is_some (find_block b.header.previous (pruned stays genesis older))))

pub within_up : (m n : ℕ) (kept : List Block) → m ≤ n → AllWithin m kept → AllWithin n kept
within_up m n [] le all = tt
within_up m n (b ∷ older) le all = (omega (arith, le, all.0), within_up m n older le all.1)

-- the new block and all others are open
pub open_new : (t : Tree) (b : Block) → branch t.head (b ∷ t.kept) ≡ branch t.head t.kept → t.irreversible < num_of b → AllOpen t.irreversible (branch t.head t.kept) t.kept →
    AllOpen t.irreversible (branch t.head (b ∷ t.kept)) (b ∷ t.kept)
open_new t b same up all =
    (ap (λ x. x || is_some (find_block (id_of b) (branch t.head (b ∷ t.kept)))) (longer_true t.irreversible (num_of b) up), subst (λ bs. AllOpen t.irreversible bs t.kept) (sym same) all)

-- ---- a tree that was settled

pub record IsAfter (t t2 : Tree) : Type 0 where
  pub tree : IsTree t2
  pub same : branch t2.head t2.kept ≡ branch t.head t.kept
  pub open_up : AllOpen t2.irreversible (branch t2.head t2.kept) t2.kept
  pub low : t2.irreversible ≤ block_num t2.head
  pub within : AllWithin (block_num t.head) t.kept → AllWithin (block_num t2.head) t2.kept
  pub head : t2.head ≡ t.head
  pub up : t.irreversible ≤ t2.irreversible

pub after : (t t2 : Tree) → IsTree t → t.irreversible ≤ block_num t.head → t2 ≡ settled t → IsAfter t t2
after t t2 is low e =
    let st = settles (max t.irreversible (agreed t)) t is in
    subst (λ x. IsAfter t x) (sym e) (record {
      tree = st.tree;
      same = st.same;
      open_up = st.open_up;
      low = omega (arith, low, agreed_low t is);
      within = λ all. all_pruned (λ c. num_of c ≤ block_num t.head) (is_open (max t.irreversible (agreed t)) (branch t.head t.kept)) (id_of t.genesis) t.kept all;
      head = refl;
      up = omega arith;
    })

-- ---- a block that was just added is on no branch of the tree, and can be taken out again

pub entered_off : (t t1 : Tree) (b : Block) (id : List ℕ) → IsTree t → refusal t b ≡ None → block_num b.header.previous < 4294967295 → id ≡ id_of b → t1 ≡ with_block b t →
    find_block id (branch t1.head t1.kept) ≡ None
entered_off t t1 b id is fit small e f =
    subst (λ x. find_block id (branch x.head x.kept) ≡ None) (sym f) (subst (λ i. find_block i (branch t.head (b ∷ t.kept)) ≡ None) (sym e) (fresh t b is fit small).off)

pub entered_gone : (t t1 t2 : Tree) (b : Block) (id : List ℕ) → IsTree t → refusal t b ≡ None → block_num b.header.previous < 4294967295 → id ≡ id_of b → t1 ≡ with_block b t →
    t2 ≡ dropped id t1 → t2 ≡ t
entered_gone t t1 t2 b id is fit small e f g = g ∙ ap (dropped id) f ∙ ap (λ i. dropped i (with_block b t)) e ∙ (fresh t b is fit small).gone

-- ---- the upper end of a branch goes with any of its blocks

-- whether a block stays on what stays below it
abbrev pub stays_on : (gone genesis : List ℕ) → Block → List Block → Bool
stays_on gone genesis b rest = other_than gone b && (bytes_eq b.header.previous genesis || is_some (find_block b.header.previous rest))

pub record IsGone (gone genesis x : List ℕ) (rest : List Block) : Type 0 where
  pub none : find_block x rest ≡ None
  pub apart : bytes_eq x genesis ≡ false

falls_by : (gone genesis : List ℕ) (b : Block) (below rest : List Block) → (is_some (find_block gone below) ≡ true → IsGone gone genesis b.header.previous rest) → (t : Bool) →
    is_some (if t then Some b else find_block gone below) ≡ true → ((if t then false else true) && (bytes_eq b.header.previous genesis || is_some (find_block b.header.previous rest))) ≡ false
falls_by gone genesis b below rest down true h = refl
falls_by gone genesis b below rest down false h = let k = down h in rw (k.apart, k.none) refl

gone_here : (gone genesis x : List ℕ) (b : Block) (older rest : List Block) → IsPlaced genesis b older → x ≡ id_of b → find_block x rest ≡ None → (s : Bool) → s ≡ false →
    IsGone gone genesis x (if s then b ∷ rest else rest)
gone_here gone genesis x b older rest placed e none true f = cc
gone_here gone genesis x b older rest placed e none false f = record { none = none; apart = subst (λ i. bytes_eq i genesis ≡ false) (sym e) placed.apart }

gone_past : (gone genesis x : List ℕ) (b : Block) (rest : List Block) → bytes_eq x (id_of b) ≡ false → IsGone gone genesis x rest → (s : Bool) → IsGone gone genesis x (if s then b ∷ rest else rest)
gone_past gone genesis x b rest other is true = record { none = ap (λ t. if t then Some b else find_block x rest) other ∙ is.none; apart = is.apart }
gone_past gone genesis x b rest other is false = is

gone_step : (gone genesis x : List ℕ) (b : Block) (older : List Block) → IsPlaced genesis b older →
    (is_some (find_block gone (branch b.header.previous older)) ≡ true → IsGone gone genesis b.header.previous (pruned (other_than gone) genesis older)) →
    (is_some (find_block gone (branch x older)) ≡ true → IsGone gone genesis x (pruned (other_than gone) genesis older)) →
    (t : Bool) → bytes_eq x (id_of b) ≡ t → is_some (find_block gone (if t then b ∷ branch b.header.previous older else branch x older)) ≡ true →
    IsGone gone genesis x (pruned (other_than gone) genesis (b ∷ older))
gone_step gone genesis x b older placed down other true e h =
    let here : x ≡ id_of b = same x (id_of b) e in
    let rest : List Block = pruned (other_than gone) genesis older in
    gone_here gone genesis x b older rest placed here (find_pruned (other_than gone) genesis x older (subst (λ i. find_block i older ≡ None) (sym here) placed.new))
    (stays_on gone genesis b rest) (falls_by gone genesis b (branch b.header.previous older) rest down (bytes_eq gone (id_of b)) h)
gone_step gone genesis x b older placed down other false e h =
    let rest : List Block = pruned (other_than gone) genesis older in
    gone_past gone genesis x b rest e (other h) (stays_on gone genesis b rest)

pub gone_up : (gone genesis : List ℕ) (kept : List Block) (x : List ℕ) → AllPlaced genesis kept → is_some (find_block gone (branch x kept)) ≡ true →
    IsGone gone genesis x (pruned (other_than gone) genesis kept)
gone_up gone genesis [] x placed h = cc
gone_up gone genesis (b ∷ older) x placed h =
    gone_step gone genesis x b older placed.0 (gone_up gone genesis older b.header.previous placed.1) (gone_up gone genesis older x placed.1) (bytes_eq x (id_of b)) refl h

drops_by : (b : Block) (rest : List Block) (n : ℕ) → AllWithin n rest → (s : Bool) → s ≡ false → AllWithin n (if s then b ∷ rest else rest)
drops_by b rest n all true e = cc
drops_by b rest n all false e = all

-- without a block of the new block's branch, the new one isn't there
pub within_dropped : (gone genesis : List ℕ) (b : Block) (older : List Block) (n : ℕ) → AllPlaced genesis (b ∷ older) → AllWithin n older →
    is_some (find_block gone (branch (id_of b) (b ∷ older))) ≡ true → AllWithin n (pruned (other_than gone) genesis (b ∷ older))
within_dropped gone genesis b older n placed all on =
    let rest : List Block = pruned (other_than gone) genesis older in
    let on2 : is_some (find_block gone (b ∷ branch b.header.previous older)) ≡ true = rw (same_refl (id_of b)) at on in
    drops_by b rest n (all_pruned (λ c. num_of c ≤ n) (other_than gone) genesis older all) (stays_on gone genesis b rest)
    (falls_by gone genesis b (branch b.header.previous older) rest (gone_up gone genesis older b.header.previous placed.1) (bytes_eq gone (id_of b)) on2)
