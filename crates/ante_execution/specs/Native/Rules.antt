-- What the native actions have in common: what is asked of the account that acts, what an authority must be, and how changes are made.
use Rattle.std.specs.Prelude.{ℕ, ◌+◌, ◌==◌, nat_le, Bool, true, not, ◌&&◌, ◌||◌, List, [], ◌∷◌, length, take, codes, sum_by, bytes_eq, Option, None, Some, Result, Ok, Err, if◌then◌else◌}
use Rattle.std.specs.List.{list_all}
use Rattle.std.specs.declared.cmp.Ordering.{Ordering}
use Rattle.std.specs.Cmp.Lexicographic.{slice_cmp}
use Rattle.std.specs.Ordering.{nat_cmp, is_lt}
use Rattle.ante_pack.specs.declared.authority.Authority.{Authority}
use Rattle.ante_pack.specs.declared.authority.KeyWeight.{KeyWeight}
use Rattle.ante_pack.specs.declared.authority.Level.{Level}
use Rattle.ante_pack.specs.declared.authority.LevelWeight.{LevelWeight}
use Rattle.ante_pack.specs.declared.names.Name.{Name}
use Rattle.ante_pack.specs.Names.{name_text}
use Rattle.ante_state.specs.Orders.{level_order}
use Rattle.ante_types.specs.declared.context.RunContext.{RunContext}
use Rattle.ante_types.specs.declared.failure.Failure.{Failure}
use Rattle.ante_types.specs.declared.failure.Failure.TheVariants as failure
use Rattle.ante_types.specs.World.{World}
use Rattle.ante_store.specs.declared.change.Change.{Change}
use Rattle.ante_store.specs.declared.change.WriteError.{WriteError}
use Rattle.ante_store.specs.Changes.{after, refusal}
use Rattle.ante_calls.specs.Accounts.{same_name, no_name, is_account, has_permission, is_actor}
use Rattle.ante_calls.specs.Calls.{unsupported}
use Rattle.ante_execution.specs.NativeData.{eosio_code}

-- ---- who acts

-- the account that the data names first is an actor of the action's levels, and is there
abbrev pub acting_refusal : (account : Name) → RunContext → World → Option Failure
acting_refusal account run w =
    if not (is_actor account run.action) then Some (failure.MissingAuth account no_name)
    else if not (is_account account w) then Some (failure.UnknownAccount account)
    else None

-- the text of the name begins with `eosio.`
abbrev pub is_reserved : Name → Bool
is_reserved name = bytes_eq (take 6 (name_text name.0)) (codes "eosio.")

-- ---- what an authority must be

-- each item is below the next
abbrev pub rises : {A : Type 0} → (A → A → Ordering) → List A → Bool
rises order [] = true
rises order (x ∷ []) = true
rises order (x ∷ y ∷ xs) = is_lt (order x y) && rises order (y ∷ xs)

abbrev pub key_order : KeyWeight → KeyWeight → Ordering
key_order a b = slice_cmp nat_cmp a.key b.key

abbrev pub account_order : LevelWeight → LevelWeight → Ordering
account_order a b = level_order a.level b.level

abbrev pub all_weights : Authority → ℕ
all_weights a = sum_by (λ k. k.weight) a.keys + sum_by (λ l. l.weight) a.accounts

-- a threshold that can be reached, keys and levels in strict order, and each level there
abbrev pub is_sound : (there : Level → Bool) → Authority → Bool
is_sound there a =
    nat_le 1 a.threshold && rises key_order a.keys && rises account_order a.accounts && nat_le a.threshold (all_weights a) && list_all (λ l. there l.level) a.accounts

abbrev pub authority_refusal : (there : Level → Bool) → Authority → Option Failure
authority_refusal there a =
    if not (length a.waits == 0) then Some (unsupported (codes "waits"))
    else if not (is_sound there a) then Some (failure.Native 1)
    else None

-- a level is there, or it is `eosio.code` of an account that is there
abbrev pub is_there : World → Level → Bool
is_there w level = has_permission level w || (same_name level.permission eosio_code && is_account level.actor w)

-- ---- changes

abbrev pub made : Option WriteError → Result World Failure → Result World Failure
made (Some e) result = Err failure.RamTotal
made None result = result

-- the changes one after another
abbrev pub make_all : List Change → World → Result World Failure
make_all [] w = Ok w
make_all (c ∷ cs) w = made (refusal c w) (make_all cs (after c w))
