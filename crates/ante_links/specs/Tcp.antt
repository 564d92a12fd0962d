-- What one call of a stream answers.
use Rattle.std.specs.Prelude.{ℕ, ◌≤◌}
use Rattle.ante_links.specs.declared.links.LinkRead.{LinkRead}
use Rattle.ante_links.specs.declared.links.LinkRead.TheVariants as read
use Rattle.ante_links.specs.declared.links.LinkWrite.{LinkWrite}
use Rattle.ante_links.specs.declared.links.LinkWrite.TheVariants as write

-- at least one byte came, and no more than there was room for
abbrev pub Came : ℕ → LinkRead → Type 0
Came room (read.Bytes n) = (1 ≤ n) × (n ≤ room)
Came room read.NotReady = Unit {0}
Came room read.End = Unit {0}
Came room read.Failed = Unit {0}

-- at least one byte was taken, and no more than there were
abbrev pub Took : ℕ → LinkWrite → Type 0
Took most (write.Wrote n) = (1 ≤ n) × (n ≤ most)
Took most write.NotReady = Unit {0}
Took most write.Failed = Unit {0}
