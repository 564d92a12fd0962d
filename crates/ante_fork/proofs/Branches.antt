-- Ways down: their lengths are numbers, and where two meet.
use Rattle.std.proofs.Common.{◌≡◌, ℕ, zero, suc, ◌+◌, ◌<◌, ◌≤◌, Bool, true, false, ◌||◌, List, [], ◌∷◌, ◌++◌, length, Option, Some, is_some, refl, sym, ap, subst, ◌∙◌, arith, length-append, if◌then◌else◌, take, add-one, slice_index_or}
use Rattle.std.specs.Str.{bytes_eq}
use Rattle.std.specs.List.{AllByRecursion}
use Rattle.std.proofs.lemmas.Slice.Eq.{bytes_eq-Decides}
use Rattle.ante_types.specs.declared.chain.Block.{Block}
use Rattle.ante_types.specs.Ids.{block_num}
use Rattle.ante_fork.specs.declared.node.Node.{Node}
use Rattle.ante_fork.specs.Shown.{newest, IsNamed, IsNewest}
use Rattle.ante_fork.specs.Tree.{Tree, id_of, num_of, find_block, branch, meeting, tip, block_at, IsPlaced, AllPlaced, IsTree}

pub newest_snoc : (ns : List Node) (n : Node) → newest (ns ++ n ∷ []) ≡ n.block.value ∷ newest ns
newest_snoc [] n = refl
newest_snoc (m ∷ ns) n = ap (λ bs. bs ++ m.block.value ∷ []) (newest_snoc ns n)

pub named_snoc : (ns : List Node) (n : Node) → AllByRecursion IsNamed (ns ++ n ∷ []) → AllByRecursion IsNamed ns × IsNamed n
named_snoc [] n h = (tt, h.0)
named_snoc (m ∷ ns) n h = let r : AllByRecursion IsNamed ns × IsNamed n = named_snoc ns n h.1 in ((h.0, r.0), r.1)

pub snoc_named : (ns : List Node) (n : Node) → AllByRecursion IsNamed ns → IsNamed n → AllByRecursion IsNamed (ns ++ n ∷ [])
snoc_named [] n h p = (p, tt)
snoc_named (m ∷ ns) n h p = (h.0, snoc_named ns n h.1 p)

pub is_newest : (nodes : List Node) (n : Node) (older : List Node) → nodes ≡ older ++ n ∷ [] → length older + 1 ≡ length nodes → AllByRecursion IsNamed nodes → IsNewest nodes n older
is_newest nodes n older e l h =
    let r : AllByRecursion IsNamed older × IsNamed n = named_snoc older n (subst (AllByRecursion IsNamed) e h) in
    record { newest = ap newest e ∙ newest_snoc older n; id = r.1; named = r.0; shorter = omega arith }

pub no_nodes : (nodes : List Node) → length nodes ≡ 0 → newest nodes ≡ []
no_nodes [] e = refl
no_nodes (n ∷ ns) e = absurd (omega arith)

take_more_suc : (ns : List Node) (i : ℕ) (n : Node) → i < length ns → n ≡ slice_index_or ns i n → newest (take (suc i) ns) ≡ n.block.value ∷ newest (take i ns)
take_more_suc [] i n within e = absurd (omega arith)
take_more_suc (m ∷ ns) zero n within e = ap (λ x. x.block.value ∷ []) (sym e)
take_more_suc (m ∷ ns) (suc i) n within e = ap (λ bs. bs ++ m.block.value ∷ []) (take_more_suc ns i n (omega arith) e)

pub take_more : (ns : List Node) (i : ℕ) (n : Node) → i < length ns → n ≡ slice_index_or ns i n → newest (take (i + 1) ns) ≡ n.block.value ∷ newest (take i ns)
take_more ns i n within e = rw add-one (take_more_suc ns i n within e)

pub same : (a b : List ℕ) → bytes_eq a b ≡ true → a ≡ b
same a b e = (bytes_eq-Decides a b).0 e

from_or : (b : Bool) → (b || false) ≡ true → b ≡ true
from_or true e = refl
from_or false e = e

placed_step : (genesis : List ℕ) (b : Block) (older : List Block) (id : List ℕ) → block_num b.header.previous ≡ length (branch b.header.previous older) + 1 →
    ((bytes_eq id genesis || is_some (find_block id older)) ≡ true → block_num id ≡ length (branch id older) + 1) → IsPlaced genesis b older →
    (bytes_eq id genesis || is_some (find_block id (b ∷ older))) ≡ true → (t : Bool) → bytes_eq id (id_of b) ≡ t → block_num id ≡ length (branch id (b ∷ older)) + 1
placed_step genesis b older id below rest placed here true e = rw e (omega (arith, ap block_num (same id (id_of b) e), placed.num, below))
placed_step genesis b older id below rest placed here false e = rw e (rest (rw e at here))

-- a kept block's number is one more than how many blocks of its branch stand above genesis
pub placed_num : (genesis : List ℕ) (kept : List Block) (id : List ℕ) → block_num genesis ≡ 1 → AllPlaced genesis kept →
    (bytes_eq id genesis || is_some (find_block id kept)) ≡ true → block_num id ≡ length (branch id kept) + 1
placed_num genesis [] id first placed here = ap block_num (same id genesis (from_or _ here)) ∙ first
placed_num genesis (b ∷ older) id first placed here =
    placed_step genesis b older id (placed_num genesis older b.header.previous first placed.1 placed.0.linked)
    (placed_num genesis older id first placed.1) placed.0 here (bytes_eq id (id_of b)) refl

-- ---- where two ways down meet

meeting_step : (genesis : List ℕ) (g c : Block) (older : List Block) (a b : List ℕ) (placed : IsPlaced genesis c older) →
    block_num c.header.previous ≡ length (branch c.header.previous older) + 1 →
    ((bytes_eq b genesis || is_some (find_block b older)) ≡ true → block_num (tip g (meeting c.header.previous b older)) ≡ length (meeting c.header.previous b older) + 1) →
    ((bytes_eq a genesis || is_some (find_block a older)) ≡ true → block_num (tip g (meeting a c.header.previous older)) ≡ length (meeting a c.header.previous older) + 1) →
    ((bytes_eq a genesis || is_some (find_block a older)) ≡ true → (bytes_eq b genesis || is_some (find_block b older)) ≡ true → block_num (tip g (meeting a b older)) ≡ length (meeting a b older) + 1) →
    (bytes_eq a genesis || is_some (find_block a (c ∷ older))) ≡ true → (bytes_eq b genesis || is_some (find_block b (c ∷ older))) ≡ true →
    (s t : Bool) → bytes_eq a (id_of c) ≡ s → bytes_eq b (id_of c) ≡ t → block_num (tip g (meeting a b (c ∷ older))) ≡ length (meeting a b (c ∷ older)) + 1
meeting_step genesis g c older a b placed num left right both ha hb true true es et = rw (es, et) (omega (arith, placed.num, num))
meeting_step genesis g c older a b placed num left right both ha hb true false es et = rw (es, et) (left (rw et at hb))
meeting_step genesis g c older a b placed num left right both ha hb false true es et = rw (es, et) (right (rw es at ha))
meeting_step genesis g c older a b placed num left right both ha hb false false es et = rw (es, et) (both (rw es at ha) (rw et at hb))

pub meeting_num : (g : Block) (kept : List Block) (a b : List ℕ) → num_of g ≡ 1 → AllPlaced (id_of g) kept →
    (bytes_eq a (id_of g) || is_some (find_block a kept)) ≡ true → (bytes_eq b (id_of g) || is_some (find_block b kept)) ≡ true →
    block_num (tip g (meeting a b kept)) ≡ length (meeting a b kept) + 1
meeting_num g [] a b first placed ha hb = first
meeting_num g (c ∷ older) a b first placed ha hb =
    meeting_step (id_of g) g c older a b placed.0 (placed_num (id_of g) older c.header.previous first placed.1 placed.0.linked)
    (meeting_num g older c.header.previous b first placed.1 placed.0.linked)
    (λ ha2. meeting_num g older a c.header.previous first placed.1 ha2 placed.0.linked)
    (meeting_num g older a b first placed.1) ha hb (bytes_eq a (id_of c)) (bytes_eq b (id_of c)) refl refl

-- what lies above the meeting on each way
pub record Meets (a b : List ℕ) (kept : List Block) : Type 0 where
  pub ups : List Block
  pub downs : List Block
  pub first : branch a kept ≡ ups ++ meeting a b kept
  pub second : branch b kept ≡ downs ++ meeting a b kept

meets_step : (c : Block) (older : List Block) (a b : List ℕ) → Meets c.header.previous b older → Meets a c.header.previous older → Meets a b older →
    (s t : Bool) → bytes_eq a (id_of c) ≡ s → bytes_eq b (id_of c) ≡ t → Meets a b (c ∷ older)
meets_step c older a b left right both true true es et = record { ups = []; downs = []; first = rw (es, et) refl; second = rw (et, es) refl }
meets_step c older a b left right both true false es et = record { ups = c ∷ left.ups; downs = left.downs; first = rw (es, et) (ap (λ xs. c ∷ xs) left.first); second = rw (et, es) left.second }
meets_step c older a b left right both false true es et = record { ups = right.ups; downs = c ∷ right.downs; first = rw (es, et) right.first; second = rw (et, es) (ap (λ xs. c ∷ xs) right.second) }
meets_step c older a b left right both false false es et = record { ups = both.ups; downs = both.downs; first = rw (es, et) both.first; second = rw (et, es) both.second }

pub meets : (kept : List Block) (a b : List ℕ) → Meets a b kept
meets [] a b = record { ups = []; downs = []; first = refl; second = refl }
meets (c ∷ older) a b =
    meets_step c older a b (meets older c.header.previous b) (meets older a c.header.previous) (meets older a b) (bytes_eq a (id_of c)) (bytes_eq b (id_of c)) refl refl

-- ---- look-ups

pub or_some : (t : Bool) (g : Block) (o : Option Block) → is_some (if t then Some g else o) ≡ (t || is_some o)
or_some true g o = refl
or_some false g o = refl

pub kept_here : (t : Tree) (id : List ℕ) → is_some (block_at id t) ≡ true → (bytes_eq id (id_of t.genesis) || is_some (find_block id t.kept)) ≡ true
kept_here t id h = sym (or_some (bytes_eq id (id_of t.genesis)) t.genesis (find_block id t.kept)) ∙ h

-- ---- numbers along a branch

-- Each block's predecessor has as many blocks below it, genesis counted, as its number says.
abbrev pub Counted : List Block → Type 0
Counted [] = Unit {0}
Counted (c ∷ below) = (block_num c.header.previous ≡ length below + 1) × (block_num c.header.previous < 4294967295) × Counted below

counted_step : (b : Block) (older : List Block) (id : List ℕ) → (block_num b.header.previous ≡ length (branch b.header.previous older) + 1) → block_num b.header.previous < 4294967295 →
    Counted (branch b.header.previous older) → Counted (branch id older) → (t : Bool) → bytes_eq id (id_of b) ≡ t → Counted (branch id (b ∷ older))
counted_step b older id num small below rest true e = rw e (num, small, below)
counted_step b older id num small below rest false e = rw e rest

pub counted : (genesis : List ℕ) (kept : List Block) (id : List ℕ) → block_num genesis ≡ 1 → AllPlaced genesis kept → Counted (branch id kept)
counted genesis [] id first placed = tt
counted genesis (b ∷ older) id first placed =
    counted_step b older id (placed_num genesis older b.header.previous first placed.1 placed.0.linked) placed.0.small
    (counted genesis older b.header.previous first placed.1) (counted genesis older id first placed.1) (bytes_eq id (id_of b)) refl

pub here_kept : (t : Tree) (id : List ℕ) → (bytes_eq id (id_of t.genesis) || is_some (find_block id t.kept)) ≡ true → is_some (block_at id t) ≡ true
here_kept t id h = or_some (bytes_eq id (id_of t.genesis)) t.genesis (find_block id t.kept) ∙ h

-- the numbers on a kept block's way down to where it meets the head's
pub record IsPath (t : Tree) (id : List ℕ) : Type 0 where
  pub num : block_num id ≡ length (branch id t.kept) + 1
  pub fork : block_num (tip t.genesis (meeting id t.head t.kept)) ≡ length (meeting id t.head t.kept) + 1
  pub within : length (meeting id t.head t.kept) ≤ length (branch id t.kept)

pub is_path : (t : Tree) (id : List ℕ) → IsTree t → is_some (block_at id t) ≡ true → IsPath t id
is_path t id is here =
    let m = meets t.kept id t.head in
    record {
      num = placed_num (id_of t.genesis) t.kept id is.first is.placed (kept_here t id here);
      fork = meeting_num t.genesis t.kept id t.head is.first is.placed (kept_here t id here) (kept_here t t.head is.head);
      within = omega (arith, ap length m.first, length-append m.ups (meeting id t.head t.kept));
    }
