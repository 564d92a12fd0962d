-- What a machine's calls answer and leave of its stack of worlds.
use Rattle.std.specs.Prelude.{◌≡◌, ℕ, ◌+◌, ◌^◌, min, Result, Ok, Err}
use Rattle.ante_port.specs.declared.block.BlockRunError.{BlockRunError}
use Rattle.ante_port.specs.declared.block.BlockRunError.TheVariants.{OutOfMemory, Invalid}
use Rattle.ante_types.specs.declared.chain.BlockInfo.{BlockInfo}
use Rattle.ante_undo.specs.Stack.{Stack, with_top, begun}

-- the block that is being made, and the world as it has come so far
pub record Pending (W : Type 0) : Type 0 where
  pub info : BlockInfo
  pub world : W

module _ {W : Type 0} where
  -- one world more
  abbrev pub above : W → Stack W → Stack W
  above w s = with_top w (begun s)

-- A block's run adds the world that the block gives ..
pub record Runs {W : Type 0} (w : W) (run : Result W ℕ) (old new : Stack W) : Type 0 where
  pub gives : run ≡ Ok w
  pub stands : new ≡ above w old

-- .. or the block fails with this number, and the stack is as before.
pub record Fails {W : Type 0} (code : ℕ) (run : Result W ℕ) (old new : Stack W) : Type 0 where
  pub gives : run ≡ Err code
  pub stands : new ≡ old

module _ {W : Type 0} where
  abbrev pub RunsTo : Result W ℕ → Stack W → Stack W → Result (Unit {0}) BlockRunError → Type 0
  RunsTo run old new (Ok done) = (w : W) × Runs w run old new
  RunsTo run old new (Err (Invalid code)) = Fails code run old new
  RunsTo run old new (Err OutOfMemory) = new ≡ old

-- a count that rises by one, and stays at 2^63
abbrev pub counted_once : ℕ → ℕ
counted_once n = min (n + 1) (2 ^ 63)
