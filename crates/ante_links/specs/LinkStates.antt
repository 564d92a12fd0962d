-- What contracts see of links, and of the door through which they come.
use Rattle.std.specs.Prelude.{ℕ, Bool, false, List, [], Option, None}
use Rattle.ante_links.specs.declared.links.LinkWrite.{LinkWrite}

-- A link: what is left of its input and what was written to it, where it tells them; how often a call of it failed, a read waited and a
-- write waited; how many reads answered with bytes or waited; whether its input is over; and what its last write answered
pub record LinkState : Type 0 where
  pub left : List ℕ
  pub written : List ℕ
  pub faults : ℕ
  pub read_waits : ℕ
  pub write_waits : ℕ
  pub reads : ℕ
  pub is_over : Bool
  pub last : Option LinkWrite

-- a link when it is given
abbrev pub fresh_link : List ℕ → LinkState
fresh_link input = record { left = input; written = []; faults = 0; read_waits = 0; write_waits = 0; reads = 0; is_over = false; last = None }

-- The door: how often `listen` or `accept` failed, and how often `accept` waited
pub record Door : Type 0 where
  pub faults : ℕ
  pub waits : ℕ
