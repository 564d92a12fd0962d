-- What a seat knows, and what each call makes of it.
use Rattle.std.specs.Prelude.{◌≡◌, ℕ, ◌+◌, ◌-◌, ◌/◌, ◌≤◌, true, false, ◌||◌, ◌==◌, if◌then◌else◌, List, [], ◌∷◌, ◌++◌, Option, Some, None}
use Rattle.std.specs.Option.{option_or}
use Rattle.ante_pool.specs.declared.words.Known.{Known}
use Rattle.ante_pool.specs.declared.Looked.{Looked}
use Rattle.ante_pool.specs.declared.Looked.TheVariants.{Running, Rung}
use Rattle.ante_pool.specs.declared.Ringing.{Ringing}
use Rattle.ante_pool.specs.declared.Ringing.TheVariants.{Won, Lost}

-- the share of the seat that closes the pool
abbrev pub whole_share : ℕ
whole_share = 4294967296

abbrev pub first_seat : ℕ → Known
first_seat jobs = record { jobs = jobs; share = whole_share; numbers = []; moments = []; won = None; ended = false }

-- what a seat keeps when another is split off
abbrev pub kept_half : Known → Known
kept_half v = record v { share = v.share - v.share / 2 }

-- the seat that is split off: half the share rounded down, and what was seen, but no jobs and no ring
abbrev pub new_half : Known → Known
new_half v = record v { share = v.share / 2; numbers = []; won = None }

-- a seat with all that another had
abbrev pub joined : Known → Known → Known
joined v w = record { jobs = v.jobs; share = v.share + w.share; numbers = v.numbers ++ w.numbers; moments = v.moments ++ w.moments; won = option_or v.won w.won; ended = v.ended || w.ended }

-- what is left of a seat that was joined into another
abbrev pub spent : Known
spent = record { jobs = 0; share = 0; numbers = []; moments = []; won = None; ended = false }

-- the seat after a claim, by its answer
abbrev pub after_claim : Known → Option ℕ → Known
after_claim v None = record v { ended = true }
after_claim v (Some n) = record v { numbers = v.numbers ++ n ∷ [] }

abbrev pub after_look : Known → Looked → Known
after_look v Running = v
after_look v (Rung m) = record v { moments = v.moments ++ m ∷ [] }

abbrev pub after_ring : Known → ℕ → Ringing → Known
after_ring v moment Won = record v { moments = v.moments ++ moment ∷ []; won = Some moment }
after_ring v moment (Lost m) = record v { moments = v.moments ++ m ∷ [] }

-- how often x stands in the list
abbrev pub times : ℕ → List ℕ → ℕ
times x [] = 0
times x (y ∷ ys) = (if y == x then 1 else 0) + times x ys

-- all numbers of the list are below this one
abbrev pub AllBelow : ℕ → List ℕ → Type 0
AllBelow n xs = (x : ℕ) → n ≤ x → times x xs ≡ 0

-- no number stands there twice
abbrev pub IsOnce : List ℕ → Type 0
IsOnce xs = (x : ℕ) → times x xs ≤ 1
