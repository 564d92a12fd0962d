-- What the run's environment decides while it lasts, and what it was asked so far.
use Rattle.std.specs.Prelude.{◌≡◌, ℕ, suc, ◌-◌, Bool, true, false, List, [], ◌∷◌, replicate, Option, None, Some}
use Rattle.ante_base.specs.Stops.{Looks, Rises}

-- ---- what the environment decides while a run lasts

-- Three questions are asked of the environment, each time the next of its kind, counted from 0: what a look answers;
-- whether memory is wanted for an instruction, and refused; whether it is in a host call.
pub record Environment : Type 0 where
  pub looks : ℕ
  pub look_answer : ℕ → Option ℕ
  pub items : ℕ
  pub item_lacks : ℕ → Bool
  pub calls : ℕ
  pub call_lacks : ℕ → Bool

abbrev pub after_look : Environment → Environment
after_look o = record o { looks = suc o.looks }

abbrev pub after_item : Environment → Environment
after_item o = record o { items = suc o.items }

abbrev pub after_call : Environment → Environment
after_call o = record o { calls = suc o.calls }

-- no look stops the run, and there is always memory
abbrev pub Calm : Environment → Type 0
Calm o = ((n : ℕ) → o.look_answer n ≡ None) × ((n : ℕ) → o.item_lacks n ≡ false) × ((n : ℕ) → o.call_lacks n ≡ false)

-- there is always memory, and no look asks the run to stop
abbrev pub undisturbed : Environment
undisturbed = record { looks = 0; look_answer = λ n. None; items = 0; item_lacks = λ n. false; calls = 0; call_lacks = λ n. false }

-- the environment in which from here on no look asks the run to stop, and there is always memory
abbrev pub calm_from : Environment → Environment
calm_from o = record { looks = o.looks; look_answer = λ n. None; items = o.items; item_lacks = λ n. false; calls = o.calls; call_lacks = λ n. false }

-- ---- the questions so far

-- a look and what it answered, an instruction that had the memory that it wanted, a host call that had it
pub data Event : Type 0 where
  Looked : Option ℕ → Event
  Supplied : Event
  CallSupplied : Event

-- the next question of its kind has this answer
abbrev pub Agrees : Event → Environment → Type 0
Agrees (Looked answer) o = o.look_answer o.looks ≡ answer
Agrees Supplied o = o.item_lacks o.items ≡ false
Agrees CallSupplied o = o.call_lacks o.calls ≡ false

abbrev pub asked : Event → Environment → Environment
asked (Looked answer) o = after_look o
asked Supplied o = after_item o
asked CallSupplied o = after_call o

-- the environment answers these first
abbrev pub Begins : Environment → List Event → Type 0
Begins o [] = Unit {0}
Begins o (e ∷ events) = Agrees e o × Begins (asked e o) events

-- the environment after them
abbrev pub past : Environment → List Event → Environment
past o [] = o
past o (e ∷ events) = past (asked e o) events

abbrev pub with_look : Event → List (Option ℕ) → List (Option ℕ)
with_look (Looked answer) answers = answer ∷ answers
with_look Supplied answers = answers
with_look CallSupplied answers = answers

-- what the looks among them answered
abbrev pub looks_of : List Event → List (Option ℕ)
looks_of [] = []
looks_of (e ∷ events) = with_look e (looks_of events)

-- the next instruction and the next host call want memory that they don't get
abbrev pub Wanting : Environment → Type 0
Wanting o = (o.item_lacks o.items ≡ true) × (o.call_lacks o.calls ≡ true)

-- some list of events leads the stop from old to new, and this holds of it
abbrev pub ByEvents : {S : Type 0} → (may : S → Option ℕ → S → Type 0) → (old new : S) → (List Event → Type 0) → Type 0
ByEvents may old new holds = (events : List Event) × Looks may old (looks_of events) new × holds events

-- This holds of each environment that begins with what was asked while the stop came from old to new, and of what it is afterwards.
abbrev pub Throughout : {S : Type 0} → (may : S → Option ℕ → S → Type 0) → (old new : S) → (Environment → Environment → Type 0) → Type 0
Throughout may old new holds = ByEvents may old new (λ events. (before : Environment) → Begins before events → holds before (past before events))

-- the count of looks, where the stop tells it, rose by those that were made between these
abbrev pub CountsLooks : (old new : Option ℕ) → (before after : Environment) → Type 0
CountsLooks old new before after = Rises (after.looks - before.looks) old new

-- the stop was looked at some number of times, and no look asked the run to stop
abbrev pub Passes : {S : Type 0} → (may : S → Option ℕ → S → Type 0) → (old new : S) → Type 0
Passes may old new = (n : ℕ) × Looks may old (replicate n None) new

-- the last look asked the run to stop, and told this moment; none before it did
abbrev pub AskedLast : {S : Type 0} → (may : S → Option ℕ → S → Type 0) → (old : S) → (at : ℕ) → (new : S) → Type 0
AskedLast {S} may old at new = (before : S) × Passes may old before × may before (Some at) new
