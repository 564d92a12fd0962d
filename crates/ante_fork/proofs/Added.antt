-- A block that fits has its place in the tree.
use Rattle.std.proofs.Common.{◌≡◌, ℕ, ◌+◌, ◌^◌, ◌<◌, ◌≤◌, ◌==◌, Bool, true, false, ◌||◌, List, [], ◌∷◌, ◌++◌, length, take, replicate, Option, Some, None, is_some, refl, sym, ap, ◌∙◌, arith, if◌then◌else◌}
use Rattle.std.specs.Int.{w32, from_be_bytes, to_be_bytes}
use Rattle.std.specs.Str.{bytes_eq}
use Rattle.std.proofs.lemmas.Nat.{from_be_bytes-to_be_bytes_4}
use Rattle.ante_pack.specs.declared.names.Name.{Name}
use Rattle.ante_types.specs.declared.chain.Block.{Block}
use Rattle.ante_types.specs.declared.chain.Header.{Header}
use Rattle.ante_types.specs.declared.chain.Genesis.{Genesis}
use Rattle.ante_types.specs.declared.chain.Head.{Head}
use Rattle.ante_types.specs.Genesis.{genesis_header, genesis_head}
use Rattle.ante_types.specs.Ids.{block_num, block_id}
use Rattle.ante_fork.specs.declared.AddError.TheVariants.{Known, Unlinkable}
use Rattle.ante_fork.specs.Tree.{Tree, id_of, num_of, find_block, branch, block_at, with_block, root, genesis_block, IsPlaced, IsTree}
use Rattle.ante_fork.specs.Rules.{misplaced, refusal}
use Rattle.ante_fork.proofs.Branches.{same, kept_here, here_kept, or_some}
use Rattle.ante_fork.proofs.Pruned.{same_refl}

front_four : (n : ℕ) (rest : List ℕ) → take 4 (to_be_bytes w32 n ++ rest) ≡ to_be_bytes w32 n
front_four n rest = refl

-- a block's number is one more than its predecessor's
pub id_num : (h : Header) → block_num h.previous + 1 < 2 ^ 32 → block_num (block_id h) ≡ block_num h.previous + 1
unfolding block_num block_id
id_num h small = from_be_bytes-to_be_bytes_4 (from_be_bytes w32 (take 4 h.previous) + 1) small

zero_num : block_num (replicate 32 0) ≡ 0
unfolding block_num
zero_num = refl

pub genesis_first : (g : Genesis) → num_of (genesis_block g) ≡ 1
unfolding genesis_header
genesis_first g = id_num (genesis_header g) (rw zero_num (omega arith)) ∙ ap (λ n. n + 1) zero_num

pub head_id : (g : Genesis) (head : Head) → head ≡ genesis_head g → head.id ≡ id_of (genesis_block g)
unfolding genesis_head
head_id g head e = ap (λ h. h.id) e

pub genesis_tree : (g : Genesis) → 1 ≤ length g.producers → length g.producers ≤ 21 → IsTree (root g.producers (genesis_block g))
genesis_tree g some few = record {
  placed = tt;
  first = genesis_first g;
  head = rw (same_refl (id_of (genesis_block g))) refl;
  producers = some;
  few = few;
}

pub rooted : (producers ps : List Name) (b g : Block) (kept : List Block) (head : List ℕ) → producers ≡ ps → b ≡ g → kept ≡ [] → head ≡ id_of g →
    record { producers = producers; genesis = b; kept = kept; head = head; irreversible = 1 } ≡ root ps g
rooted producers ps b g kept head e f k h = λ i. record { producers = e i; genesis = f i; kept = k i; head = h i; irreversible = 1 }

pub record Fits (t : Tree) (b : Block) : Type 0 where
  pub new : is_some (block_at (id_of b) t) ≡ false
  pub linked : is_some (block_at b.header.previous t) ≡ true

fits_by : (t : Tree) (b : Block) (x : Bool) (n o : Option Block) → is_some (block_at (id_of b) t) ≡ is_some n → is_some (block_at b.header.previous t) ≡ is_some o →
    (if x then Some (Unlinkable b.header.previous) else (if is_some n then Some Known else misplaced t.producers o b)) ≡ None → Fits t b
fits_by t b true n o en eo e = cc
fits_by t b false (Some m) o en eo e = cc
fits_by t b false None None en eo e = cc
fits_by t b false None (Some p) en eo e = record { new = en; linked = eo }

pub fits : (t : Tree) (b : Block) → refusal t b ≡ None → Fits t b
fits t b e = fits_by t b (block_num b.header.previous == 4294967295) (block_at (id_of b) t) (block_at b.header.previous t) refl refl e

or_false : (a b : Bool) → (a || b) ≡ false → (a ≡ false) × (b ≡ false)
or_false true b e = cc
or_false false b e = (refl, e)

none_of : {A : Type 0} (o : Option A) → is_some o ≡ false → o ≡ None
none_of None e = refl
none_of (Some x) e = cc

-- no kept block has the id
pub record IsNew (t : Tree) (b : Block) : Type 0 where
  pub apart : bytes_eq (id_of b) (id_of t.genesis) ≡ false
  pub none : find_block (id_of b) t.kept ≡ None

pub is_new : (t : Tree) (b : Block) → is_some (block_at (id_of b) t) ≡ false → IsNew t b
is_new t b e =
    let p = or_false (bytes_eq (id_of b) (id_of t.genesis)) (is_some (find_block (id_of b) t.kept)) (sym (or_some (bytes_eq (id_of b) (id_of t.genesis)) t.genesis (find_block (id_of b) t.kept)) ∙ e) in
    record { apart = p.0; none = none_of (find_block (id_of b) t.kept) p.1 }

other_by : (t : Tree) (b : Block) (id : List ℕ) → is_some (block_at id t) ≡ true → is_some (block_at (id_of b) t) ≡ false → (q : Bool) → bytes_eq id (id_of b) ≡ q → q ≡ false
other_by t b id here new true e = let h = rw (same id (id_of b) e) at here in cc
other_by t b id here new false e = refl

-- a kept block is another one than a new one
pub other : (t : Tree) (b : Block) (id : List ℕ) → is_some (block_at id t) ≡ true → is_some (block_at (id_of b) t) ≡ false → bytes_eq id (id_of b) ≡ false
other t b id here new = other_by t b id here new (bytes_eq id (id_of b)) refl

pub placed : (t : Tree) (b : Block) → Fits t b → block_num b.header.previous < 4294967295 → IsPlaced (id_of t.genesis) b t.kept
placed t b f small =
    let n = is_new t b f.new in
    record { linked = kept_here t b.header.previous f.linked; num = id_num b.header (omega arith); small = small; apart = n.apart; new = n.none }

still_here : (t : Tree) (b : Block) (id : List ℕ) → is_some (block_at id t) ≡ true → bytes_eq id (id_of b) ≡ false → is_some (block_at id (with_block b t)) ≡ true
still_here t b id here e = here_kept (with_block b t) id (rw e (kept_here t id here))

-- the tree with a block that fits is one, and the head's branch is as before
pub added : (t : Tree) (b : Block) → IsTree t → refusal t b ≡ None → block_num b.header.previous < 4294967295 → IsTree (with_block b t)
added t b is e small =
    let f = fits t b e in
    record {
      placed = (placed t b f small, is.placed);
      first = is.first;
      head = still_here t b t.head is.head (other t b t.head is.head f.new);
      producers = is.producers;
      few = is.few;
    }

pub added_head : (t : Tree) (b : Block) → IsTree t → refusal t b ≡ None → branch t.head (b ∷ t.kept) ≡ branch t.head t.kept
added_head t b is e = rw (other t b t.head is.head (fits t b e).new) refl
