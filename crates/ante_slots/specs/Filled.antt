-- What contracts see of slots.
use Rattle.std.specs.Prelude.{ℕ, List}

-- The numbers, and how many of them there may be without further memory.
pub record Filled : Type 0 where
  pub items : List ℕ
  pub space : ℕ
