-- What reading with a stop comes to.
use Rattle.std.specs.Prelude.{◌≡◌, ℕ, List, [], ◌∷◌, ◌++◌, Option, Some, None, Result, Ok, Err}
use Rattle.ante_base.specs.Stops.{Looks}
use Rattle.ante_port.specs.declared.ReadEnd.{ReadEnd}
use Rattle.ante_port.specs.declared.ReadEnd.TheVariants.{Done, Cut}

-- The reply, whatever the looks answered; or a cut, where the last look asked for it. Refused memory ends it anywhere
abbrev pub EndsAs : {R E : Type 0} → R → List (Option ℕ) → Result (ReadEnd R) E → Type 0
EndsAs reply answers (Ok (Done r)) = r ≡ reply
EndsAs reply answers (Ok (Cut at)) = (before : List (Option ℕ)) × (answers ≡ before ++ Some at ∷ [])
EndsAs reply answers (Err e) = Unit {0}

-- The stop was only looked at, and what it answered led to this end
abbrev pub ReadsTo : {P R E : Type 0} → R → (P → Option ℕ → P → Type 0) → P → P → Result (ReadEnd R) E → Type 0
ReadsTo reply may old new end = (answers : List (Option ℕ)) × Looks may old answers new × EndsAs reply answers end
