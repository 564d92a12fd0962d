-- Who may send an action: the weights that satisfy a permission, and the permission that an action asks for.
use Rattle.std.specs.Prelude.{ℕ, zero, suc, ◌+◌, nat_le, Bool, false, not, ◌||◌, List, [], ◌∷◌, length, sum_by, bytes_eq, Option, None, Some, Result, Ok, Err, unwrap_or, if◌then◌else◌}
use Rattle.std.specs.List.{list_any}
use Rattle.std.specs.Option.{option_or}
use Rattle.std.specs.FinMap.Entries.{find}
use Rattle.ante_pack.specs.declared.authority.KeyWeight.{KeyWeight}
use Rattle.ante_pack.specs.declared.authority.Level.{Level}
use Rattle.ante_pack.specs.declared.authority.LevelWeight.{LevelWeight}
use Rattle.ante_pack.specs.declared.fault.PackFault.{PackFault}
use Rattle.ante_pack.specs.declared.names.Name.{Name}
use Rattle.ante_pack.specs.Forms.{whole}
use Rattle.ante_state.specs.Orders.{link_order}
use Rattle.ante_state.specs.declared.objects.PermissionRow.{PermissionRow}
use Rattle.ante_types.specs.declared.chain.Action.{Action}
use Rattle.ante_types.specs.declared.failure.Failure.{Failure}
use Rattle.ante_types.specs.declared.failure.Failure.TheVariants as failure
use Rattle.ante_types.specs.World.{World}
use Rattle.ante_calls.specs.Accounts.{same_name, no_name, same_level, is_account, permission_at, has_permission}
use Rattle.ante_execution.specs.declared.kinds.NativeAction.{NativeAction}
use Rattle.ante_execution.specs.declared.kinds.NativeAction.TheVariants as native
use Rattle.ante_execution.specs.declared.kinds.Weighed.{Weighed}
use Rattle.ante_execution.specs.declared.kinds.Weighed.TheVariants as weighed
use Rattle.ante_execution.specs.NativeData.{active, eosio_code, native_of, UpdateAuth, updateauth, DeleteAuth, deleteauth}
use Rattle.ante_execution.specs.Refusals.{first_refusal}

-- ---- the sum of weights

-- each level of an action may visit so many permissions, and none that lies deeper
abbrev pub most_visits : ℕ
most_visits = 512

abbrev pub most_levels : ℕ
most_levels = 6

-- a visit is counted before all else
abbrev pub visiting : (visits : ℕ) → (ℕ → Weighed × ℕ) → Weighed × ℕ
visiting zero go = (weighed.Spent, 0)
visiting (suc visits) go = go visits

-- a permission that is satisfied adds its weight
abbrev pub adding : Weighed × ℕ → (weight : ℕ) → (ℕ → ℕ → Weighed × ℕ) → Weighed × ℕ
adding (weighed.Yes, visits) weight go = go weight visits
adding (weighed.No, visits) weight go = go 0 visits
adding (weighed.Spent, visits) weight go = (weighed.Spent, visits)

-- levels are looked at in order until the threshold is reached
abbrev pub add_levels : (Level → ℕ → Weighed × ℕ) → (threshold total : ℕ) → List LevelWeight → (visits : ℕ) → Weighed × ℕ
add_levels satisfies threshold total [] visits = if nat_le threshold total then (weighed.Yes, visits) else (weighed.No, visits)
add_levels satisfies threshold total (l ∷ ls) visits = if nat_le threshold total then (weighed.Yes, visits)
    else adding (satisfies l.level visits) l.weight (λ weight left. add_levels satisfies threshold (total + weight) ls left)

module _ (w : World) (keys : List (List ℕ)) (code : Option Name) where
  -- a key counts where it is given
  abbrev pub key_weight : KeyWeight → ℕ
  key_weight k = if list_any (bytes_eq k.key) keys then k.weight else 0

  -- keys come before levels
  abbrev pub weigh : (Level → ℕ → Weighed × ℕ) → Option PermissionRow → (visits : ℕ) → Weighed × ℕ
  weigh satisfies None visits = (weighed.No, visits)
  weigh satisfies (Some row) visits = add_levels satisfies row.authority.threshold (sum_by key_weight row.authority.keys) row.authority.accounts visits

  -- the calling contract satisfies its own `eosio.code`
  abbrev pub is_code_level : Option Name → Level → Bool
  is_code_level None level = false
  is_code_level (Some name) level = same_level level (record { actor = name; permission = eosio_code })

  -- whether the permission is satisfied where so many levels more may be gone down, and the visits left
  abbrev pub satisfied_within : (levels : ℕ) → Level → (visits : ℕ) → Weighed × ℕ
  satisfied_within zero level visits = visiting visits (λ left. (weighed.No, left))
  satisfied_within (suc levels) level visits = visiting visits (λ left.
      if is_code_level code level then (weighed.Yes, left) else weigh (satisfied_within levels) (permission_at level w) left)

  unfoldable pub satisfied : Level → (visits : ℕ) → Weighed × ℕ
  satisfied level visits = satisfied_within most_levels level visits

-- ---- the permission that an action asks for

abbrev pub link_at : (account code action : Name) → World → Option Name
link_at account code action w = find link_order (record { account = account; code = code; action = action }) w.links

-- by the account's links: for this action, else for the whole contract, else `active`
abbrev pub linked : (actor : Name) → Action → World → Name
linked actor action w = unwrap_or (option_or (link_at actor action.account action.name w) (link_at actor action.account no_name w)) active

-- Data that doesn't read asks for `active`.
abbrev pub updated : (actor : Name) → Result UpdateAuth PackFault → World → Name
updated actor (Err f) w = active
updated actor (Ok d) w = if has_permission (record { actor = actor; permission = d.permission }) w then d.permission else d.parent

abbrev pub deleted : Result DeleteAuth PackFault → Name
deleted (Err f) = active
deleted (Ok d) = d.permission

abbrev pub least_of : (actor : Name) → Option NativeAction → Action → World → Name
least_of actor None action w = linked actor action w
least_of actor (Some native.UpdateAuth) action w = updated actor (whole updateauth action.bytes) w
least_of actor (Some native.DeleteAuth) action w = deleted (whole deleteauth action.bytes)
least_of actor (Some native.NewAccount) action w = active
least_of actor (Some native.SetCode) action w = active
least_of actor (Some native.SetAbi) action w = active
least_of actor (Some native.LinkAuth) action w = active
least_of actor (Some native.UnlinkAuth) action w = active

-- the minimum permission of an actor for an action
abbrev pub least_permission : (actor : Name) → Action → World → Name
least_permission actor action w = least_of actor (native_of action) action w

-- ---- ancestors

abbrev pub parent_of : Option PermissionRow → (Name → Bool) → Bool
parent_of None go = false
parent_of (Some row) go = go row.parent

-- the permission is `name`, or an ancestor of it at most so many parents above
abbrev pub is_within : (most : ℕ) → (actor permission name : Name) → World → Bool
is_within zero actor permission name w = same_name name permission
is_within (suc most) actor permission name w = same_name name permission
    || parent_of (permission_at (record { actor = actor; permission = name }) w) (λ parent. is_within most actor permission parent w)

-- No chain of parents without a loop is longer than there are permissions.
abbrev pub is_or_is_above : (actor permission name : Name) → World → Bool
is_or_is_above actor permission name w = is_within (length w.permissions) actor permission name w

-- ---- the check of an action

abbrev pub unsatisfied : Weighed → Level → Option Failure
unsatisfied weighed.Yes level = None
unsatisfied weighed.No level = Some (failure.MissingAuth level.actor level.permission)
unsatisfied weighed.Spent level = Some failure.AuthWork

module _ (w : World) (action : Action) (keys : List (List ℕ)) (code : Option Name) where
  -- it is there; it is what the action asks for or an ancestor of that; it is satisfied
  abbrev pub level_refusal : Level → Option Failure
  level_refusal level =
      if not (has_permission level w) then Some (failure.MissingAuth level.actor level.permission)
      else if not (is_or_is_above level.actor level.permission (least_permission level.actor action w) w)
      then Some (failure.Irrelevant level.actor level.permission)
      else unsatisfied (satisfied w keys code level most_visits).0 level

  -- the account first, and then each level in order
  unfoldable pub check_action : Option Failure
  check_action = if not (is_account action.account w) then Some (failure.UnknownAccount action.account) else first_refusal level_refusal action.authorization
