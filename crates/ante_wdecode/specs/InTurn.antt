-- One thing, and then what follows such a thing, as `do` writes it.
use Rattle.ante_wdecode.specs.Rules.{Rule, in_turn}

infixl 10 ◌>>=◌
abbrev pub ◌>>=◌ : {A B : Type 0} → Rule A → (A → Rule B) → Rule B
first >>= next = in_turn first next
