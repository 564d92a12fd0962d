-- The chain's own objects, and what asks for a permission.
use Rattle.std.specs.Prelude.{ℕ, Bool, ◌==◌, ◌&&◌, List, Option, Some, None, if◌then◌else◌}
use Rattle.std.specs.List.{list_any}
use Rattle.std.specs.Ordering.{nat_cmp}
use Rattle.std.specs.FinMap.Entries.{find}
use Rattle.ante_undo.specs.Entries.{changed}
use Rattle.ante_state.specs.Orders.{name_order, level_order, link_order, recent_order}
use Rattle.ante_pack.specs.declared.names.Name.{Name}
use Rattle.ante_pack.specs.declared.authority.Level.{Level}
use Rattle.ante_state.specs.declared.objects.AccountRow.{AccountRow}
use Rattle.ante_state.specs.declared.objects.PermissionRow.{PermissionRow}
use Rattle.ante_state.specs.declared.objects.LinkKey.{LinkKey}
use Rattle.ante_state.specs.declared.objects.RecentKey.{RecentKey}
use Rattle.ante_objects.specs.declared.objects.ObjectsMap.{ObjectsMap}

-- the permission is of the level's account, and has the level's permission as its parent
abbrev pub is_child : Level → Level × PermissionRow → Bool
is_child level e = e.0.actor.0 == level.actor.0 && e.1.parent.0 == level.permission.0

abbrev pub has_child : Level → List (Level × PermissionRow) → Bool
has_child level permissions = list_any (is_child level) permissions

-- the link is of the level's account, and asks for the level's permission
abbrev pub asks_for : Level → LinkKey × Name → Bool
asks_for level e = e.0.account.0 == level.actor.0 && e.1.0 == level.permission.0

abbrev pub has_link_to : Level → List (LinkKey × Name) → Bool
has_link_to level links = list_any (asks_for level) links

-- an account, a contract and an action as a key, and back with what the link asks for
abbrev pub link_key : Name × Name × Name → LinkKey
link_key link = record { account = link.0; code = link.1; action = link.2 }

abbrev pub shown_link : LinkKey × Name → (Name × Name × Name) × Name
shown_link e = ((e.0.account, e.0.code, e.0.action), e.1)

-- the permission that the link asks for, if there is one
abbrev pub requirement_of : Name × Name × Name → ObjectsMap → Option Name
requirement_of link m = find link_order (link_key link) m.links

-- an expiration and an id as a key, and back
abbrev pub recent_key : ℕ × List ℕ → RecentKey
recent_key recent = record { expiration = recent.0; id = recent.1 }

abbrev pub shown_recent : RecentKey × Unit {0} → ℕ × List ℕ
shown_recent e = (e.0.expiration, e.0.id)

-- the objects with another list of one kind
abbrev pub with_accounts : List (Name × AccountRow) → ObjectsMap → ObjectsMap
with_accounts accounts m = record { accounts = accounts; permissions = m.permissions; links = m.links; recent = m.recent; references = m.references }

abbrev pub with_permissions : List (Level × PermissionRow) → ObjectsMap → ObjectsMap
with_permissions permissions m = record { accounts = m.accounts; permissions = permissions; links = m.links; recent = m.recent; references = m.references }

abbrev pub with_links : List (LinkKey × Name) → ObjectsMap → ObjectsMap
with_links links m = record { accounts = m.accounts; permissions = m.permissions; links = links; recent = m.recent; references = m.references }

abbrev pub with_recent : List (RecentKey × Unit {0}) → ObjectsMap → ObjectsMap
with_recent recent m = record { accounts = m.accounts; permissions = m.permissions; links = m.links; recent = recent; references = m.references }

abbrev pub with_references : List (ℕ × List ℕ) → ObjectsMap → ObjectsMap
with_references references m = record { accounts = m.accounts; permissions = m.permissions; links = m.links; recent = m.recent; references = references }

-- the objects after a change at one key: an object is put there, or what was there is taken away
abbrev pub account_set : Name → Option AccountRow → ObjectsMap → ObjectsMap
account_set name row m = with_accounts (changed name_order m.accounts name row) m

abbrev pub permission_set : Level → Option PermissionRow → ObjectsMap → ObjectsMap
permission_set level row m = with_permissions (changed level_order m.permissions level row) m

abbrev pub link_set : LinkKey → Option Name → ObjectsMap → ObjectsMap
link_set key requirement m = with_links (changed link_order m.links key requirement) m

-- nothing is said of a recent transaction but that it is there
abbrev pub there_if : Bool → Option (Unit {0})
there_if there = if there then Some tt else None

abbrev pub recent_set : RecentKey → Bool → ObjectsMap → ObjectsMap
recent_set key there m = with_recent (changed recent_order m.recent key (there_if there)) m

abbrev pub reference_set : ℕ → Option (List ℕ) → ObjectsMap → ObjectsMap
reference_set low id m = with_references (changed nat_cmp m.references low id) m
