-- Refusals in order: of several the first is given.
use Rattle.std.specs.Prelude.{List, [], ◌∷◌, Option, None, Some, Result, Err}
use Rattle.std.specs.Option.{option_or}

-- the value at the first item that has one
abbrev pub first_refusal : {A E : Type 0} → (A → Option E) → List A → Option E
first_refusal refusal [] = None
first_refusal refusal (x ∷ xs) = option_or (refusal x) (first_refusal refusal xs)

abbrev pub unless : {A E : Type 0} → Option E → Result A E → Result A E
unless (Some e) result = Err e
unless None result = result
