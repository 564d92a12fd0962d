-- What a world says of accounts, and what a run may ask of them.
use Rattle.std.specs.Prelude.{◌==◌, Bool, false, not, ◌&&◌, ◌||◌, Option, Some, None, is_some}
use Rattle.std.specs.List.{list_any}
use Rattle.std.specs.FinMap.Entries.{find}
use Rattle.ante_pack.specs.declared.names.Name.{Name}
use Rattle.ante_pack.specs.declared.authority.Level.{Level}
use Rattle.ante_state.specs.Orders.{name_order, level_order}
use Rattle.ante_state.specs.declared.objects.AccountRow.{AccountRow}
use Rattle.ante_state.specs.declared.objects.PermissionRow.{PermissionRow}
use Rattle.ante_types.specs.declared.chain.Action.{Action}
use Rattle.ante_types.specs.declared.context.RunContext.{RunContext}
use Rattle.ante_types.specs.Genesis.{eosio}
use Rattle.ante_types.specs.World.{World}

abbrev pub same_name : Name → Name → Bool
same_name a b = a.0 == b.0

abbrev pub no_name : Name
no_name = record { 0 = 0 }

-- ---- accounts

abbrev pub account_at : Name → World → Option AccountRow
account_at name w = find name_order name w.accounts

abbrev pub is_account : Name → World → Bool
is_account name w = is_some (account_at name w)

abbrev pub is_privileged_row : Option AccountRow → Bool
is_privileged_row None = false
is_privileged_row (Some row) = row.privileged

abbrev pub is_privileged : Name → World → Bool
is_privileged name w = is_privileged_row (account_at name w)

-- ---- permissions

abbrev pub permission_at : Level → World → Option PermissionRow
permission_at level w = find level_order level w.permissions

abbrev pub has_permission : Level → World → Bool
has_permission level w = is_some (permission_at level w)

-- ---- the levels of an action

-- some level of the action is of this account
abbrev pub is_actor : Name → Action → Bool
is_actor name action = list_any (λ level. same_name level.actor name) action.authorization

abbrev pub same_level : Level → Level → Bool
same_level a b = same_name a.actor b.actor && same_name a.permission b.permission

abbrev pub has_level : Level → Action → Bool
has_level level action = list_any (same_level level) action.authorization

-- ---- billing

-- A run may bill its own receiver, and, unless it is a notification, the actors of its action; the system bills anybody.
abbrev pub may_bill : Name → RunContext → Bool
may_bill payer run = same_name run.receiver eosio || same_name payer run.receiver || (not run.notified && is_actor payer run.action)
