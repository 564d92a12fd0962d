-- Where a branch leaves the head's, and the blocks on both.
use Rattle.std.specs.Prelude.{ℕ, ◌-◌, ◌==◌, nat_lt, slice_get, List, [], ◌∷◌, length, Option, Some, None, is_some, if◌then◌else◌}
use Rattle.ante_types.specs.declared.chain.Block.{Block}
use Rattle.ante_types.specs.Ids.{block_num}
use Rattle.ante_fork.specs.declared.tree.ForkPath.{ForkPath}
use Rattle.ante_fork.specs.Tree.{Tree, num_of, block_at, branch, meeting, tip}

abbrev pub fork_id : List ℕ → Tree → List ℕ
fork_id id t = tip t.genesis (meeting id t.head t.kept)

abbrev pub path_of : List ℕ → Tree → Option ForkPath
path_of id t =
    if is_some (block_at id t)
    then Some (record {
      fork = record { num = block_num (fork_id id t); id = fork_id id t };
      above = length (branch id t.kept) - length (meeting id t.head t.kept);
    })
    else None

-- the k-th block above the fork point on the way to an id
abbrev pub above_on : Option ForkPath → List Block → ℕ → Option Block
above_on None blocks k = None
above_on (Some p) blocks k = if nat_lt k p.above then slice_get blocks (p.above - 1 - k) else None

abbrev pub above_fork : List ℕ → ℕ → Tree → Option Block
above_fork id k t = above_on (path_of id t) (branch id t.kept) k

-- the block of a number on a branch and in genesis below it
abbrev pub num_on : ℕ → Block → List Block → Option Block
num_on num genesis [] = if num_of genesis == num then Some genesis else None
num_on num genesis (b ∷ below) = if num_of b == num then Some b else num_on num genesis below

abbrev pub by_num : ℕ → Tree → Option Block
by_num num t = num_on num t.genesis (branch t.head t.kept)
