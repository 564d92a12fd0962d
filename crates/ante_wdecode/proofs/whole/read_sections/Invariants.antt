use Rattle.std.proofs.Common.{◌≡◌, ◌≤◌, ℕ, length}
use Rattle.ante_wtree.specs.Trees.{tree_of}
use Rattle.ante_wdecode.specs.Sections.{bare}
use Rattle.ante_wdecode.specs.Decoding.{sections_at}
use Rattle.ante_wdecode.proofs.whole.read_sections.Given as goal

abbrev pub invariant-sections : goal.invariant-sections
invariant-sections l = (n : ℕ) × (length l.rest ≤ n) × (sections_at n l.last (tree_of l.module) l.rest ≡ sections_at (length l.fn.bytes) 0 bare l.fn.bytes)

abbrev pub decreases-sections : goal.decreases-sections
decreases-sections l = length l.rest
