-- A machine over sessions: the pending block is the newest session.
use Rattle.std.specs.Prelude.{◌≡◌, ℕ, ◌+◌, ◌-◌, ◌≤◌, ◌<◌, ◌^◌, List, length, take, Option, Some, None, Result, Ok, Err}
use Rattle.ante_types.specs.declared.chain.BlockInfo.{BlockInfo}
use Rattle.ante_undo.specs.Stack.{Stack, under_top, with_top, IsAbove}
use Rattle.ante_port.specs.declared.block.BlockRunError.{BlockRunError}
use Rattle.ante_port.specs.declared.block.BlockRunError.TheVariants.{OutOfMemory, Invalid}
use Rattle.ante_machine.specs.Stacks.{Pending}

pub record Parts (W : Type 0) : Type 0 where
  pub chain : List ℕ
  pub stack : Stack W
  pub pending : Option (Pending W)
  pub counted : ℕ

module _ {W : Type 0} where
  -- without the newest session
  abbrev pub without_session : Stack W → Stack W
  without_session s = record { under = take (length s.under - 1) s.under; top = under_top s; revision = s.revision - 1; shelf = s.shelf }

  abbrev pub parts : List ℕ → Stack W → Option BlockInfo → ℕ → Parts W
  parts chain s None counted = record { chain = chain; stack = s; pending = None; counted = counted }
  parts chain s (Some info) counted = record { chain = chain; stack = without_session s; pending = Some (record { info = info; world = s.top }); counted = counted }

  -- the world that stands now: the pending block's, or the newest block's
  abbrev pub newest_of : Option (Pending W) → Stack W → W
  newest_of None s = s.top
  newest_of (Some p) s = p.world

  abbrev pub newest : Parts W → W
  newest p = newest_of p.pending p.stack

  pub record IsOpened (s : Stack W) : Type 0 where
    pub session : 0 < length s.under
    pub above : IsAbove 1 s
    pub revision : 0 < s.revision
    pub small : s.revision < 4294967296

  abbrev pub IsSession : Stack W → Option BlockInfo → Type 0
  IsSession s None = Unit {0}
  IsSession s (Some info) = IsOpened s

  -- a block's run in a session of its own: the top becomes its world, or nothing is said of the top
  abbrev pub Makes : Result W ℕ → Stack W → Stack W → Result (Unit {0}) BlockRunError → Type 0
  Makes step old new (Ok done) = (w : W) × ((step ≡ Ok w) × (new ≡ with_top w old))
  Makes step old new (Err OutOfMemory) = new ≡ with_top new.top old
  Makes step old new (Err (Invalid code)) = (step ≡ Err code) × (new ≡ with_top new.top old)
