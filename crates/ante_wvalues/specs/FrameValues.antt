-- What contracts see of the values of a run.
use Rattle.std.specs.Prelude.{ℕ, List}

-- The values of all frames: the locals and operands of the frames below as they lie, then this frame's.
pub record FrameValues : Type 0 where
  pub below : List ℕ
  pub locals : List ℕ
  pub stack : List ℕ
