-- Transactions: what is asked of one before it runs, what it makes of the state, and the trace of it. A read-only one gives a trace alone.
use Rattle.std.specs.Prelude.{ℕ, ◌+◌, ◌-◌, ◌*◌, ◌==◌, nat_lt, nat_le, ℤ, pos, int_lt, Bool, true, false, not, ◌&&◌, List, [], ◌∷◌, length, take, drop, codes, position, Option, None, Some, is_some, option_map, Result, Ok, Err, if◌then◌else◌}
use Rattle.std.specs.Int.{w32, from_le_bytes}
use Rattle.std.specs.List.{list_all}
use Rattle.std.specs.Option.{option_or}
use Rattle.std.specs.Ordering.{nat_cmp}
use Rattle.std.specs.FinMap.Entries.{find}
use Rattle.sha2.specs.Sha256.{sha256}
use Rattle.ante_pack.specs.declared.names.Name.{Name}
use Rattle.ante_pack.specs.Forms.{list_of, string}
use Rattle.ante_state.specs.Orders.{recent_order}
use Rattle.ante_types.specs.Ids.{signing_digest}
use Rattle.ante_types.specs.declared.chain.Action.{Action}
use Rattle.ante_types.specs.declared.chain.BlockInfo.{BlockInfo}
use Rattle.ante_types.specs.declared.chain.Head.{Head}
use Rattle.ante_types.specs.declared.chain.Transaction.{Transaction}
use Rattle.ante_types.specs.declared.context.Mode.TheVariants as mode
use Rattle.ante_types.specs.declared.failure.Failure.{Failure}
use Rattle.ante_types.specs.declared.failure.Failure.TheVariants as failure
use Rattle.ante_types.specs.declared.trace.ActionTrace.{ActionTrace}
use Rattle.ante_types.specs.declared.trace.Trace.{Trace}
use Rattle.ante_types.specs.Limits.{most_transaction_bytes, most_transaction_steps}
use Rattle.ante_types.specs.World.{World, used}
use Rattle.ante_store.specs.declared.change.Change.TheVariants as change
use Rattle.ante_store.specs.Changes.{after}
use Rattle.ante_calls.specs.Accounts.{is_account}
use Rattle.ante_calls.specs.Calls.{unsupported}
use Rattle.ante_execution.specs.Actions.{Scene, Going, Failed, apply_all}
use Rattle.ante_execution.specs.Authorities.{check_action}
use Rattle.ante_execution.specs.Refusals.{first_refusal}
use Rattle.ante_execution.specs.Runs.{Codes}

-- ---- limits

-- bytes of a signature
abbrev pub most_signature : ℕ
most_signature = 256

-- ---- what is asked first of every transaction

-- it has an action, nothing that isn't supported, and isn't too big
abbrev pub form_refusal : (size : ℕ) → Transaction → Option Failure
form_refusal size t =
    if length t.actions == 0 then Some failure.NoAction
    else if not (length t.context_free_actions == 0) then Some (unsupported (codes "context_free_actions"))
    else if not (t.delay_sec == 0) then Some (unsupported (codes "delay_sec"))
    else if not (length t.extensions == 0) then Some (unsupported (codes "extensions"))
    else if nat_lt most_transaction_bytes size then Some failure.TooBig
    else None

abbrev pub has_no_level : Action → Bool
has_no_level a = length a.authorization == 0

-- ---- the time

-- Half seconds from 1970 to the first slot, which begins with the year 2000.
abbrev pub first_slot : ℕ
first_slot = 1893369600

-- a second is two slots
abbrev pub is_expired : (expiration slot : ℕ) → Bool
is_expired expiration slot = nat_lt (2 * expiration) (first_slot + slot)

-- more than an hour ahead
abbrev pub is_too_far : (expiration slot : ℕ) → Bool
is_too_far expiration slot = nat_lt (first_slot + slot + 7200) (2 * expiration)

-- ---- reference, repetition, signatures

abbrev pub has_prefix : Option (List ℕ) → (prefix : ℕ) → Bool
has_prefix None prefix = false
has_prefix (Some id) prefix = from_le_bytes w32 (take 4 (drop 8 id)) == prefix

-- the last block with these low bits of its number has this prefix: bytes 8 to 11 of its id
abbrev pub refers : Transaction → World → Bool
refers t w = has_prefix (find nat_cmp t.ref_block_num w.references) t.ref_block_prefix

abbrev pub is_recent : (expiration : ℕ) → (id : List ℕ) → World → Bool
is_recent expiration id w = is_some (find recent_order (record { expiration = expiration; id = id }) w.recent)

-- the key that the outside gives for a digest and a signature, if it gives one
abbrev pub Recovers : Type 0
Recovers = (digest : List ℕ) → (signature : List ℕ) → Option (List ℕ)

abbrev pub may_be_signature : List ℕ → Bool
may_be_signature signature = nat_le 1 (length signature) && nat_le (length signature) most_signature

abbrev pub key_of : Recovers → (digest : List ℕ) → (signature : List ℕ) → Option (List ℕ)
key_of recovers digest signature = if may_be_signature signature then recovers digest signature else None

abbrev pub with_key : Option (List ℕ) → (place : ℕ) → Result (List (List ℕ)) ℕ → Result (List (List ℕ)) ℕ
with_key None place others = Err place
with_key (Some key) place (Ok keys) = Ok (key ∷ keys)
with_key (Some key) place (Err later) = Err later

-- the keys of all signatures, or the place of the first that has none
abbrev pub keys_from : Recovers → (digest : List ℕ) → (place : ℕ) → (signatures : List (List ℕ)) → Result (List (List ℕ)) ℕ
keys_from recovers digest place [] = Ok []
keys_from recovers digest place (s ∷ signatures) = with_key (key_of recovers digest s) place (keys_from recovers digest (place + 1) signatures)

-- each action's levels, by these keys
abbrev pub authority_refusal : World → List Action → Result (List (List ℕ)) ℕ → Option Failure
authority_refusal w actions (Err place) = Some (failure.BadSignature place)
authority_refusal w actions (Ok keys) = first_refusal (λ a. check_action w a keys None) actions

-- ---- the checks of a transaction, in order

abbrev pub packed_size : (packed : List ℕ) → (signatures : List (List ℕ)) → ℕ
packed_size packed signatures = length packed + length ((list_of string).spell signatures)

abbrev pub standing_refusal : World → (slot : ℕ) → Transaction → (id : List ℕ) → Option Failure
standing_refusal w slot t id =
    if is_expired t.expiration slot then Some failure.Expired
    else if is_too_far t.expiration slot then Some failure.TooFar
    else if not (refers t w) then Some failure.BadReference
    else if is_recent t.expiration id w then Some failure.Duplicate
    else if list_all has_no_level t.actions then Some failure.NoAuthorization
    else None

unfoldable pub transaction_refusal : Recovers → (chain_id : List ℕ) → World → (slot : ℕ) → Transaction →
    (packed : List ℕ) → (signatures : List (List ℕ)) → Option Failure
transaction_refusal recovers chain_id w slot t packed signatures =
    option_or (form_refusal (packed_size packed signatures) t)
    (option_or (standing_refusal w slot t (sha256 packed))
    (authority_refusal w t.actions (keys_from recovers (signing_digest chain_id packed) 0 signatures)))

-- ---- memory, when all actions have run

-- it uses more than before, and more than its quota
abbrev pub quota_refusal : (old new : World) → Name × ℤ → Option Failure
quota_refusal old new e =
    if nat_lt (used old e.0) (used new e.0) && int_lt e.1 (pos (used new e.0)) then Some (failure.RamExceeded e.0 (used new e.0) e.1) else None

-- the first such account
abbrev pub memory_refusal : (old new : World) → Option Failure
memory_refusal old new = first_refusal (quota_refusal old new) new.quotas

-- ---- what a transaction does

-- a trace, and the state after it: the old one where the transaction failed
pub record Done : Type 0 where
  pub trace : Trace
  pub world : World

abbrev pub trace_with : (position : ℕ) → Head → (packed : List ℕ) → Option Failure → (steps : ℕ) → List ActionTrace → Trace
trace_with position head packed failure steps actions =
    record { position = position; head = head; id = sha256 packed; failure = failure; steps = steps; actions = actions }

-- the predecessor of the block that a transaction runs in
abbrev pub head_of : BlockInfo → Head
head_of info = record { num = info.num - 1; id = info.previous }

abbrev pub with_recent : Transaction → (packed : List ℕ) → World → World
with_recent t packed w = after (change.SetRecent t.expiration (sha256 packed) true) w

module _ (head : Head) (t : Transaction) (packed : List ℕ) (w : World) where
  abbrev pub refused_as : Failure → (left : ℕ) → List ActionTrace → Done
  refused_as f left traces = record { trace = trace_with 0 head packed (Some f) (most_transaction_steps - left) traces; world = w }

  abbrev pub finished : Option Failure → Going → Done
  finished (Some f) g = refused_as f g.left g.traces
  finished None g = record { trace = trace_with 0 head packed None (most_transaction_steps - g.left) g.traces; world = with_recent t packed g.world }

  abbrev pub acted : Result Going Failed → Done
  acted (Err f) = refused_as f.failure f.left f.traces
  acted (Ok g) = finished (memory_refusal w g.world) g

abbrev pub fresh : World → Going
fresh w = record { world = w; left = most_transaction_steps; traces = []; looks = 0 }

abbrev pub writing_scene : (slot : ℕ) → (packed : List ℕ) → Scene
writing_scene slot packed = record { mode = mode.Writing; slot = slot; packed = packed }

abbrev pub transacted : Codes → Option Failure → BlockInfo → World → Transaction → (packed : List ℕ) → Done
transacted codes (Some f) info w t packed = refused_as (head_of info) t packed w f most_transaction_steps []
transacted codes None info w t packed = acted (head_of info) t packed w (apply_all codes (writing_scene info.slot packed) t.actions (fresh w))

-- A transaction in the block that is being made, at position 0. The chain's id is the digest of the packed genesis.
unfoldable pub transact : Codes → Recovers → (chain_id : List ℕ) → BlockInfo → World → Transaction → (packed : List ℕ) → (signatures : List (List ℕ)) → Done
transact codes recovers chain_id info w t packed signatures =
    transacted codes (transaction_refusal recovers chain_id w info.slot t packed signatures) info w t packed

-- ---- read-only transactions

abbrev pub has_level : Action → Bool
has_level a = not (has_no_level a)

abbrev pub account_refusal : World → Action → Option Failure
account_refusal w a = if is_account a.account w then None else Some (failure.UnknownAccount a.account)

-- no action has a level, and each action's account is there; signatures, time, reference and repetition aren't looked at
unfoldable pub reading_refusal : World → Transaction → (packed : List ℕ) → Option Failure
reading_refusal w t packed =
    option_or (form_refusal (length packed) t)
    (option_or (option_map (λ place. failure.HasAuthorization place) (position has_level t.actions))
    (first_refusal (account_refusal w) t.actions))

abbrev pub reading_scene : (slot : ℕ) → (packed : List ℕ) → Scene
reading_scene slot packed = record { mode = mode.Reading; slot = slot; packed = packed }

abbrev pub reads : Codes → World → (slot : ℕ) → Transaction → (packed : List ℕ) → Result Going Failed
reads codes w slot t packed = apply_all codes (reading_scene slot packed) t.actions (fresh w)

abbrev pub read : (position : ℕ) → Head → (packed : List ℕ) → Result Going Failed → Trace
read position head packed (Ok g) = trace_with position head packed None (most_transaction_steps - g.left) g.traces
read position head packed (Err f) = trace_with position head packed (Some f.failure) (most_transaction_steps - f.left) f.traces

abbrev pub read_unless : Codes → Option Failure → World → (position : ℕ) → Head → (slot : ℕ) → Transaction → (packed : List ℕ) → Trace
read_unless codes (Some f) w position head slot t packed = trace_with position head packed (Some f) 0 []
read_unless codes None w position head slot t packed = read position head packed (reads codes w slot t packed)

-- the trace of a read-only transaction at a head, with that block's slot
unfoldable pub read_only : Codes → World → (position : ℕ) → Head → (slot : ℕ) → Transaction → (packed : List ℕ) → Trace
read_only codes w position head slot t packed = read_unless codes (reading_refusal w t packed) w position head slot t packed

-- ---- and how many looks at the stop it takes

abbrev pub looks_of : Result Going Failed → ℕ
looks_of (Ok g) = g.looks
looks_of (Err f) = f.looks

abbrev pub looks_unless : Codes → Option Failure → World → (slot : ℕ) → Transaction → (packed : List ℕ) → ℕ
looks_unless codes (Some f) w slot t packed = 0
looks_unless codes None w slot t packed = looks_of (reads codes w slot t packed)

unfoldable pub reading_looks : Codes → World → (slot : ℕ) → Transaction → (packed : List ℕ) → ℕ
reading_looks codes w slot t packed = looks_unless codes (reading_refusal w t packed) w slot t packed
