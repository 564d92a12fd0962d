-- Worked examples of an action with all that it causes, over codes that are written as functions, with expected values from outside.
use Rattle.std.proofs.Common.{◌≡◌, refl, ℕ, false, List, [], ◌∷◌, ◌++◌}
use Rattle.std.specs.Prelude.{map, nat_lt, ◌==◌, None, Ok, Err, Result, if◌then◌else◌, length}
use Rattle.ante_pack.specs.declared.names.Name.{Name}
use Rattle.ante_pack.specs.Names.{name_number, number_of}
use Rattle.ante_types.specs.declared.chain.Action.{Action}
use Rattle.ante_types.specs.declared.context.Mode.TheVariants as mode
use Rattle.ante_types.specs.declared.failure.Failure.{Failure}
use Rattle.ante_types.specs.declared.failure.Failure.TheVariants as failure
use Rattle.ante_types.specs.declared.trace.ActionTrace.{ActionTrace}
use Rattle.ante_types.specs.World.{World}
use Rattle.ante_calls.specs.Views.{Seen}
use Rattle.ante_execution.specs.Actions.{Scene, Going, Failed, run_one, apply}
use Rattle.ante_execution.specs.Runs.{Codes, fine, fails, runs}
use Rattle.ante_execution.specs.Transactions.{looks_of}
use Rattle.ante_execution.proofs.Weights.{named, account}

abbrev pub action : ℕ → Action
action n = record { account = named n; name = named 0; authorization = []; bytes = [] }

abbrev pub saying : Seen → (recipients : List Name) → (inlines : List Action) → Seen
saying s recipients inlines = record s { run = record s.run { recipients = s.run.recipients ++ recipients; inlines = inlines; console = s.run.sender.0 ∷ [] } }

-- 1 notifies 2 and 3 and sends to 4 and 5; 4 sends to 6; each prints its sender
abbrev pub does : ℕ → Seen → Seen
does n s = if n == 1 then saying s (named 2 ∷ named 3 ∷ []) (action 4 ∷ action 5 ∷ []) else if n == 4 then saying s [] (action 6 ∷ []) else saying s [] []

abbrev pub scripted : Codes
scripted = record { accepts = λ code. false; pages = λ code. 0; runs = λ code args s left. fine (does s.run.receiver.0 s) left }

abbrev pub world : World
world = record {
  accounts = account 1 (1 ∷ []) ∷ account 2 (1 ∷ []) ∷ account 3 (1 ∷ []) ∷ account 4 (1 ∷ []) ∷ account 5 (1 ∷ []) ∷ account 6 (1 ∷ []) ∷ [];
  permissions = [];
  links = [];
  quotas = [];
  recent = [];
  references = [];
  tables = [];
  rows = [];
  index64 = [];
  index128 = [];
  index256 = [];
}

abbrev pub scene : Scene
scene = record { mode = mode.Writing; slot = 0; packed = [] }

abbrev pub start : (left : ℕ) → Going
start left = record { world = world; left = left; traces = []; looks = 0 }

-- receiver, ordinal, creator, sender
abbrev pub shown_trace : ActionTrace → ℕ × ℕ × ℕ × List ℕ
shown_trace t = (t.receiver.0, t.ordinal, t.creator, t.console)

abbrev pub shown : Result Going Failed → List (ℕ × ℕ × ℕ × List ℕ)
shown (Ok g) = map shown_trace g.traces
shown (Err f) = map shown_trace f.traces

all_runs : shown (apply scripted scene (action 1) (start 100))
    ≡ (1, 1, 0, 0 ∷ []) ∷ (2, 2, 1, 1 ∷ []) ∷ (3, 3, 1, 1 ∷ []) ∷ (4, 4, 1, 1 ∷ []) ∷ (6, 5, 4, 4 ∷ []) ∷ (5, 6, 1, 1 ∷ []) ∷ []
unfolding apply run_one runs name_number number_of
all_runs = refl

abbrev pub left_after : Result Going Failed → ℕ
left_after (Ok g) = g.left
left_after (Err f) = f.left

-- a step each
steps : left_after (apply scripted scene (action 1) (start 100)) ≡ 94
unfolding apply run_one runs name_number number_of
steps = refl

-- the fourth run doesn't fit: it is begun, and has used all that was left
abbrev pub failure_of : Result Going Failed → Result (Unit {0}) Failure
failure_of (Ok g) = Ok tt
failure_of (Err f) = Err f.failure

no_steps : failure_of (apply scripted scene (action 1) (start 3)) ≡ Err failure.StepLimit
unfolding apply run_one runs name_number number_of
no_steps = refl

begun : shown (apply scripted scene (action 1) (start 3)) ≡ (1, 1, 0, 0 ∷ []) ∷ (2, 2, 1, 1 ∷ []) ∷ (3, 3, 1, 1 ∷ []) ∷ (4, 4, 1, []) ∷ []
unfolding apply run_one runs name_number number_of
begun = refl

-- ---- one that sends to itself at each depth up to 3, and one that tries it at depth 4 too

abbrev pub nested : Codes
nested = record { accepts = λ code. false; pages = λ code. 0; runs = λ code args s left. if nat_lt s.run.depth 4 then fine (saying s [] (action 1 ∷ [])) left else fine s left }

abbrev pub nested_more : Codes
nested_more = record { accepts = λ code. false; pages = λ code. 0; runs = λ code args s left. if nat_lt s.run.depth 4 then fine (saying s [] (action 1 ∷ [])) left else fails failure.InlineDepth s left }

five_runs : length (shown (apply nested scene (action 1) (start 100))) ≡ 5
unfolding apply run_one runs name_number number_of
five_runs = refl

all_kept : failure_of (apply nested scene (action 1) (start 100)) ≡ Ok tt
unfolding apply run_one runs name_number number_of
all_kept = refl

five_traced : length (shown (apply nested_more scene (action 1) (start 100))) ≡ 5
unfolding apply run_one runs name_number number_of
five_traced = refl

too_deep : failure_of (apply nested_more scene (action 1) (start 100)) ≡ Err failure.InlineDepth
unfolding apply run_one runs name_number number_of
too_deep = refl

-- ---- looks: those of all runs of code, of one that fails too; a run that doesn't begin takes none

abbrev pub looking : Codes
looking = record { accepts = λ code. false; pages = λ code. 0; runs = λ code args s left. record { failure = None; seen = does s.run.receiver.0 s; left = left; looks = 2 } }

six_look : looks_of (apply looking scene (action 1) (start 100)) ≡ 12
unfolding apply run_one runs name_number number_of
six_look = refl

three_look : looks_of (apply looking scene (action 1) (start 3)) ≡ 6
unfolding apply run_one runs name_number number_of
three_look = refl
