-- What a read-only transaction gives in a world where no account has code, as in that of the built-in genesis.
use Rattle.std.specs.Prelude.{ℕ, ◌+◌, List, [], ◌∷◌, length, codes, Bool, true, not, ◌&&◌, ◌==◌, nat_lt, Option, Some, None, option_map, if◌then◌else◌}
use Rattle.std.specs.List.{list_any, position}
use Rattle.sha2.specs.Sha256.{sha256}
use Rattle.ante_pack.specs.declared.names.Name.{Name}
use Rattle.ante_pack.specs.Names.{name_number, name_text}
use Rattle.ante_types.specs.declared.chain.Action.{Action}
use Rattle.ante_types.specs.declared.chain.Head.{Head}
use Rattle.ante_types.specs.declared.chain.Transaction.{Transaction}
use Rattle.ante_types.specs.declared.trace.ActionTrace.{ActionTrace}
use Rattle.ante_types.specs.declared.trace.Trace.{Trace}
use Rattle.ante_types.specs.declared.failure.Failure.{Failure}
use Rattle.ante_types.specs.declared.failure.Failure.TheVariants.{NoAction, Unsupported, TooBig, HasAuthorization, UnknownAccount, WriteRefused}
use Rattle.ante_types.specs.Genesis.{builtin_genesis, eosio}
use Rattle.ante_types.specs.GenesisWorld.{genesis_world}
use Rattle.ante_types.specs.World.{World}
use Rattle.ante_types.specs.Jobs.{Job}
use Rattle.ante_types.specs.Limits.{most_transaction_bytes}

-- ---- the world

-- an account with this name is there
abbrev pub is_there : World → Name → Bool
is_there world name = list_any (λ e. name.0 == e.0.0) world.accounts

-- the world of the built-in genesis
abbrev pub builtin_world : World
builtin_world = genesis_world builtin_genesis

-- ---- the checks

abbrev pub first_some : {B : Type 0} → Option B → Option B → Option B
first_some (Some b) other = Some b
first_some None other = other

-- the value at the first item that has one
unfoldable pub first_where : {A B : Type 0} → (A → Option B) → List A → Option B
first_where f [] = None
first_where f (x ∷ xs) = first_some (f x) (first_where f xs)

abbrev pub has_level : Action → Bool
has_level a = not (length a.authorization == 0)

abbrev pub unknown_account : World → Action → Option Name
unknown_account world a = if is_there world a.account then None else Some a.account

-- no action has a level, and each action's account is there
unfoldable pub account_failure : World → List Action → Option Failure
account_failure world actions =
    first_some (option_map HasAuthorization (position has_level actions)) (option_map UnknownAccount (first_where (unknown_account world) actions))

-- The first check that fails, in this order: an action is there; nothing is used that isn't supported; the packed bytes
-- aren't too many; no action has a level; each action's account is there.
unfoldable pub check_failure : World → ℕ → Transaction → Option Failure
check_failure world size t =
    if length t.actions == 0 then Some NoAction
    else if not (length t.context_free_actions == 0) then Some (Unsupported (codes "context_free_actions"))
    else if not (t.delay_sec == 0) then Some (Unsupported (codes "delay_sec"))
    else if not (length t.extensions == 0) then Some (Unsupported (codes "extensions"))
    else if nat_lt most_transaction_bytes size then Some TooBig
    else account_failure world t.actions

-- ---- the runs

-- the actions that the system's account does itself, all of which write
abbrev pub native_names : List (List ℕ)
native_names = codes "newaccount" ∷ codes "setcode" ∷ codes "setabi" ∷ codes "updateauth" ∷ codes "deleteauth" ∷ codes "linkauth" ∷ codes "unlinkauth" ∷ []

abbrev pub is_native : Action → Bool
is_native a = (a.account.0 == eosio.0) && list_any (λ text. name_number text == a.name.0) native_names

-- An action is one run of one step. A native one is begun, and then refused by its name.
abbrev pub run_of : ℕ → Action → ActionTrace
run_of ordinal a = record {
  ordinal = ordinal;
  creator = 0;
  receiver = a.account;
  account = a.account;
  name = a.name;
  bytes = a.bytes;
  console = [];
  return_value = [];
  steps = 1;
}

-- the runs of the actions in their order, up to the first that is native
unfoldable pub runs_from : ℕ → List Action → List ActionTrace
runs_from ordinal [] = []
runs_from ordinal (a ∷ others) = run_of ordinal a ∷ (if is_native a then [] else runs_from (ordinal + 1) others)

abbrev pub write_refused : Action → Option Failure
write_refused a = if is_native a then Some (WriteRefused (name_text a.name.0)) else None

-- ---- the trace

abbrev pub trace_of : ℕ → Head → List ℕ → Option Failure → List ActionTrace → Trace
trace_of position head packed failure runs =
    record { position = position; head = head; id = sha256 packed; failure = failure; steps = length runs; actions = runs }

abbrev pub checked_trace : Option Failure → ℕ → Head → Job → Trace
checked_trace (Some failure) position head job = trace_of position head job.packed (Some failure) []
checked_trace None position head job = trace_of position head job.packed (first_where write_refused job.trx.actions) (runs_from 1 job.trx.actions)

-- The trace of a read-only transaction in a world at a head. It depends on nothing else.
unfoldable pub read_only : World → ℕ → Head → Job → Trace
read_only world position head job = checked_trace (check_failure world (length job.packed) job.trx) position head job
