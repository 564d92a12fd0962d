-- For every list of events there is an environment that begins with them.
use Rattle.std.proofs.Common.{◌≡◌, ℕ, zero, suc, ◌+◌, nat_lt, not, List, [], ◌∷◌, Option, None, refl, ap, ◌∙◌, arith}
use Rattle.std.proofs.lemmas.Bool.{le-ltb, lt-ltb}
use Rattle.ante_wmeaning.specs.Environment.{Environment, Event, Looked, Supplied, CallSupplied, Begins, past, looks_of, Wanting}

-- what it answers from the k-th on
abbrev Answers : (ℕ → Option ℕ) → ℕ → List (Option ℕ) → Type 0
Answers f k [] = Unit {0}
Answers f k (a ∷ xs) = (f k ≡ a) × Answers f (suc k) xs

abbrev pub nth : List (Option ℕ) → ℕ → Option ℕ
nth [] n = None
nth (a ∷ xs) zero = a
nth (a ∷ xs) (suc n) = nth xs n

later : (f g : ℕ → Option ℕ) → ((n : ℕ) → f (suc n) ≡ g n) → (k : ℕ) (xs : List (Option ℕ)) → Answers g k xs → Answers f (suc k) xs
later f g e k [] h = tt
later f g e k (a ∷ xs) h = (e k ∙ h.0, later f g e (suc k) xs h.1)

nth_answers : (xs : List (Option ℕ)) → Answers (nth xs) 0 xs
nth_answers [] = tt
nth_answers (a ∷ xs) = (refl, later (nth (a ∷ xs)) (nth xs) (λ n. refl) 0 xs (nth_answers xs))

-- how many instructions, and how many host calls, had the memory that they wanted
abbrev pub supplies : List Event → ℕ
supplies [] = 0
supplies (Looked a ∷ events) = supplies events
supplies (Supplied ∷ events) = suc (supplies events)
supplies (CallSupplied ∷ events) = supplies events

abbrev pub call_supplies : List Event → ℕ
call_supplies [] = 0
call_supplies (Looked a ∷ events) = call_supplies events
call_supplies (Supplied ∷ events) = call_supplies events
call_supplies (CallSupplied ∷ events) = suc (call_supplies events)

-- looks have these answers, and so many instructions and host calls have memory
abbrev told : (ℕ → Option ℕ) → (k i c items calls : ℕ) → Environment
told f k i c items calls = record { looks = k; look_answer = f; items = i; item_lacks = λ n. not (nat_lt n items); calls = c; call_lacks = λ n. not (nat_lt n calls) }

begins_told : (events : List Event) (f : ℕ → Option ℕ) (k i c items calls : ℕ) → Answers f k (looks_of events) → items ≡ i + supplies events → calls ≡ c + call_supplies events →
    Begins (told f k i c items calls) events × Wanting (past (told f k i c items calls) events)
begins_told [] f k i c items calls h e g = (tt, (ap not (le-ltb i items (omega (arith, e))), ap not (le-ltb c calls (omega (arith, g)))))
begins_told (Looked a ∷ events) f k i c items calls h e g = let r = begins_told events f (suc k) i c items calls h.1 e g in ((h.0, r.0), r.1)
begins_told (Supplied ∷ events) f k i c items calls h e g =
    let r = begins_told events f k (suc i) c items calls h (omega (arith, e)) g in ((ap not (lt-ltb i items (omega (arith, e))), r.0), r.1)
begins_told (CallSupplied ∷ events) f k i c items calls h e g =
    let r = begins_told events f k i (suc c) items calls h e (omega (arith, g)) in ((ap not (lt-ltb c calls (omega (arith, g))), r.0), r.1)

-- the environment that begins with these, and has no memory after them
abbrev pub start_of : List Event → Environment
start_of events = told (nth (looks_of events)) 0 0 0 (supplies events) (call_supplies events)

pub start_begins : (events : List Event) → Begins (start_of events) events × Wanting (past (start_of events) events)
start_begins events = begins_told events (nth (looks_of events)) 0 0 0 (supplies events) (call_supplies events) (nth_answers (looks_of events)) (omega arith) (omega arith)

pub some_start : (events : List Event) → (v : Environment) × Begins v events
some_start events = (start_of events, (start_begins events).0)
