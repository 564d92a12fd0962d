-- Kept blocks, and the way down from one of them to genesis.
use Rattle.std.specs.Prelude.{◌≡◌, ℕ, ◌+◌, ◌<◌, ◌≤◌, Bool, true, false, ◌||◌, ◌&&◌, nat_lt, if◌then◌else◌, List, [], ◌∷◌, length, Option, Some, None, is_some, bytes_eq}
use Rattle.ante_pack.specs.declared.names.Name.{Name}
use Rattle.ante_types.specs.declared.chain.Block.{Block}
use Rattle.ante_types.specs.declared.chain.Genesis.{Genesis}
use Rattle.ante_types.specs.Genesis.{genesis_header}
use Rattle.ante_types.specs.Ids.{block_id, block_num}

-- Genesis, and the blocks kept above it, the newest first. The head is one of all these.
pub record Tree : Type 0 where
  pub producers : List Name
  pub genesis : Block
  pub kept : List Block
  pub head : List ℕ
  pub irreversible : ℕ

abbrev pub id_of : Block → List ℕ
id_of b = block_id b.header

abbrev pub num_of : Block → ℕ
num_of b = block_num (block_id b.header)

-- the kept block of an id
abbrev pub find_block : List ℕ → List Block → Option Block
find_block id [] = None
find_block id (b ∷ older) = if bytes_eq id (id_of b) then Some b else find_block id older

abbrev pub block_at : List ℕ → Tree → Option Block
block_at id t = if bytes_eq id (id_of t.genesis) then Some t.genesis else find_block id t.kept

-- The branch that ends at an id, from there down to the block above genesis. Each block's predecessor is older.
abbrev pub branch : List ℕ → List Block → List Block
branch id [] = []
branch id (b ∷ older) = if bytes_eq id (id_of b) then b ∷ branch b.header.previous older else branch id older

-- Where the branches of two ids meet: what lies on both ways down.
abbrev pub meeting : List ℕ → List ℕ → List Block → List Block
meeting a b [] = []
meeting a b (c ∷ older) =
    if bytes_eq a (id_of c)
    then (if bytes_eq b (id_of c) then c ∷ branch c.header.previous older else meeting c.header.previous b older)
    else (if bytes_eq b (id_of c) then meeting a c.header.previous older else meeting a b older)

-- the id at the upper end of a branch
abbrev pub tip : Block → List Block → List ℕ
tip genesis [] = id_of genesis
tip genesis (b ∷ below) = id_of b

-- among the head and these blocks the one of greatest number, among several the head or the oldest
abbrev pub best_of : List ℕ → List Block → List ℕ
best_of head [] = head
best_of head (b ∷ older) = let best : List ℕ = best_of head older in if nat_lt (block_num best) (num_of b) then id_of b else best

-- A block stays where the test says so and its predecessor stays.
abbrev pub pruned : (Block → Bool) → List ℕ → List Block → List Block
pruned stays genesis [] = []
pruned stays genesis (b ∷ older) =
    let rest : List Block = pruned stays genesis older in
    if stays b && (bytes_eq b.header.previous genesis || is_some (find_block b.header.previous rest)) then b ∷ rest else rest

abbrev pub with_kept : List Block → Tree → Tree
with_kept kept t = record { producers = t.producers; genesis = t.genesis; kept = kept; head = t.head; irreversible = t.irreversible }

abbrev pub with_block : Block → Tree → Tree
with_block b t = with_kept (b ∷ t.kept) t

abbrev pub with_head : List ℕ → Tree → Tree
with_head id t = record { producers = t.producers; genesis = t.genesis; kept = t.kept; head = id; irreversible = t.irreversible }

-- without the block of an id and all above it
abbrev pub other_than : List ℕ → Block → Bool
other_than id b = if bytes_eq id (id_of b) then false else true

abbrev pub dropped : List ℕ → Tree → Tree
dropped id t = with_kept (pruned (other_than id) (id_of t.genesis) t.kept) t

-- genesis as a block: its header, no seal, no receipts
abbrev pub genesis_block : Genesis → Block
genesis_block g = record { header = genesis_header g; seal = []; receipts = [] }

-- genesis alone
abbrev pub root : List Name → Block → Tree
root producers genesis = record { producers = producers; genesis = genesis; kept = []; head = id_of genesis; irreversible = 1 }

-- Each block's predecessor is genesis or older, its number is one more, and no id is there twice.
pub record IsPlaced (genesis : List ℕ) (b : Block) (older : List Block) : Type 0 where
  pub linked : (bytes_eq b.header.previous genesis || is_some (find_block b.header.previous older)) ≡ true
  pub num : num_of b ≡ block_num b.header.previous + 1
  pub small : block_num b.header.previous < 4294967295
  pub apart : bytes_eq (id_of b) genesis ≡ false
  pub new : find_block (id_of b) older ≡ None

abbrev pub AllPlaced : List ℕ → List Block → Type 0
AllPlaced genesis [] = Unit {0}
AllPlaced genesis (b ∷ older) = IsPlaced genesis b older × AllPlaced genesis older

pub record IsTree (t : Tree) : Type 0 where
  pub placed : AllPlaced (id_of t.genesis) t.kept
  pub first : num_of t.genesis ≡ 1
  pub head : is_some (block_at t.head t) ≡ true
  pub producers : 1 ≤ length t.producers
  pub few : length t.producers ≤ 21
