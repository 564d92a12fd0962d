-- From which block on a branch may still change.
use Rattle.std.specs.Prelude.{ℕ, ◌*◌, ◌/◌, ◌==◌, Bool, true, ◌||◌, nat_le, nat_lt, if◌then◌else◌, max, List, [], ◌∷◌, map, length, is_some, slice_index_or, bytes_eq}
use Rattle.ante_pack.specs.declared.names.Name.{Name}
use Rattle.ante_types.specs.declared.chain.Block.{Block}
use Rattle.ante_fork.specs.Tree.{Tree, id_of, num_of, branch, find_block, pruned}

-- the number of a producer's last block on a branch, 0 where it has none
abbrev pub last_number : Block → List Block → Name → ℕ
last_number genesis [] producer = if producer.0 == genesis.header.producer.0 then 1 else 0
last_number genesis (b ∷ below) producer = if producer.0 == b.header.producer.0 then num_of b else last_number genesis below producer

-- the numbers from the greatest to the least
abbrev pub insert_down : ℕ → List ℕ → List ℕ
insert_down n [] = n ∷ []
insert_down n (m ∷ ms) = if nat_le m n then n ∷ m ∷ ms else m ∷ insert_down n ms

abbrev pub descending : List ℕ → List ℕ
descending [] = []
descending (n ∷ ns) = insert_down n (descending ns)

-- more than two thirds of the producers have built on the block of this number
abbrev pub agreed_on : List Name → Block → List Block → ℕ
agreed_on producers genesis chosen = slice_index_or (descending (map (last_number genesis chosen) producers)) (2 * length producers / 3) 0

abbrev pub agreed : Tree → ℕ
agreed t = agreed_on t.producers t.genesis (branch t.head t.kept)

-- A block up to the irreversible one stays where it is on the head's branch. What stands on a block that goes, goes too:
-- so of those above, the descendants of the irreversible block stay.
abbrev pub is_open : ℕ → List Block → Block → Bool
is_open irreversible chosen b = nat_lt irreversible (num_of b) || is_some (find_block (id_of b) chosen)

abbrev pub settled_at : ℕ → Tree → Tree
settled_at n t = record {
  producers = t.producers;
  genesis = t.genesis;
  kept = pruned (is_open n (branch t.head t.kept)) (id_of t.genesis) t.kept;
  head = t.head;
  irreversible = n;
}

-- The irreversible number is the greatest yet.
abbrev pub settled : Tree → Tree
settled t = settled_at (max t.irreversible (agreed t)) t

-- The blocks that a test lets through.
abbrev pub kept_by : (Block → Bool) → List Block → List Block
kept_by stays [] = []
kept_by stays (b ∷ older) = if stays b then b ∷ kept_by stays older else kept_by stays older

abbrev pub always : Block → Bool
always b = true

-- what lies on the way down from an id, and of the rest what is above the number
abbrev pub opened : ℕ → List ℕ → List Block → List Block
opened n id [] = []
opened n id (b ∷ older) =
    if bytes_eq id (id_of b) then b ∷ opened n b.header.previous older
    else (if nat_lt n (num_of b) then b ∷ opened n id older else opened n id older)
