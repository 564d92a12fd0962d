-- What the state answers to a query. It is a function of the world alone.
use Rattle.std.specs.Prelude.{ℕ, zero, suc, Bool, true, false, ◌==◌, ◌&&◌, ◌||◌, nat_lt, nat_le, Option, Some, None, is_some, option_map}
use Rattle.std.specs.Prelude.{List, [], length, map, take, drop, filter, reverse, if◌then◌else◌}
use Rattle.std.specs.List.{sum_by}
use Rattle.std.specs.FinMap.Entries.{find}
use Rattle.sha2.specs.Sha256.{sha256}
use Rattle.ante_undo.specs.Entries.{first_entry}
use Rattle.ante_pack.specs.declared.names.Name.{Name}
use Rattle.ante_pack.specs.declared.names.TableKey.{TableKey}
use Rattle.ante_pack.specs.declared.authority.Level.{Level}
use Rattle.ante_pack.specs.Packed.{authority}
use Rattle.ante_state.specs.Orders.{name_order, table_order}
use Rattle.ante_state.specs.declared.tables.RowKey.{RowKey}
use Rattle.ante_state.specs.declared.tables.TableRow.{TableRow}
use Rattle.ante_state.specs.declared.tables.PrimaryRow.{PrimaryRow}
use Rattle.ante_state.specs.declared.objects.AccountRow.{AccountRow}
use Rattle.ante_state.specs.declared.objects.PermissionRow.{PermissionRow}
use Rattle.ante_types.specs.World.{World, used}
use Rattle.ante_rows.specs.Rows.{rows_of}
use Rattle.ante_digest.specs.Digest.{quota}
use Rattle.ante_views.specs.declared.queries.ViewQuery.{ViewQuery}
use Rattle.ante_views.specs.declared.queries.ViewQuery.TheVariants as queries
use Rattle.ante_views.specs.declared.answers.PermissionView.{PermissionView}
use Rattle.ante_views.specs.declared.answers.ScopeView.{ScopeView}
use Rattle.ante_views.specs.declared.answers.ViewAnswer.{ViewAnswer}
use Rattle.ante_views.specs.declared.answers.ViewAnswer.TheVariants as answers

-- ---- bounds, both inclusive: one that isn't given bounds nothing

abbrev pub not_below : Option ℕ → ℕ → Bool
not_below None key = true
not_below (Some lower) key = nat_le lower key

abbrev pub not_above : Option ℕ → ℕ → Bool
not_above None key = true
not_above (Some upper) key = nat_le key upper

-- ---- the rows of a table

-- from the least primary key up, or from the greatest one down
abbrev pub in_direction : (backward : Bool) → List (ℕ × PrimaryRow) → List (ℕ × PrimaryRow)
in_direction false rows = rows
in_direction true rows = reverse rows

-- the table's rows between the bounds, in the order in which they are given
abbrev pub rows_between : (lower upper : Option ℕ) → (backward : Bool) → TableKey → List (RowKey × PrimaryRow)
    → List (ℕ × PrimaryRow)
rows_between lower upper backward table rows =
    filter (λ row. not_below lower row.0 && not_above upper row.0) (in_direction backward (rows_of table_order table rows))

-- the most bytes of rows that are given at once
abbrev pub most_bytes : ℕ
most_bytes = 1048576

abbrev pub bytes_of : List (ℕ × PrimaryRow) → ℕ
bytes_of rows = sum_by (λ row. length row.1.bytes) rows

-- one row alone may have any number of bytes
abbrev pub fits : List (ℕ × PrimaryRow) → Bool
fits rows = nat_le (length rows) 1 || nat_le (bytes_of rows) most_bytes

-- the longest front of the rows that fits and has at most so many
abbrev pub page : (limit : ℕ) → List (ℕ × PrimaryRow) → List (ℕ × PrimaryRow)
page zero rows = []
page (suc limit) rows = if fits (take (suc limit) rows) then take (suc limit) rows else page limit rows

-- the first row that isn't given
abbrev pub next_row : (limit : ℕ) → List (ℕ × PrimaryRow) → Option (ℕ × PrimaryRow)
next_row limit rows = first_entry (drop (length (page limit rows)) rows)

-- the bytes of the rows that are given, whether there are more, and the primary key of the next
abbrev pub rows_answer : (limit : ℕ) → List (ℕ × PrimaryRow) → ViewAnswer
rows_answer limit rows =
    let next = next_row limit rows in
    answers.Rows (is_some next) (option_map (λ row. row.0) next) (map (λ row. row.1.bytes) (page limit rows))

-- ---- the tables of a contract

abbrev pub is_named : Option Name → Name → Bool
is_named None name = true
is_named (Some wanted) name = name.0 == wanted.0

-- the table is the contract's, has the name, if one is given, and its scope isn't below the bound
abbrev pub is_asked : (code : Name) → (table : Option Name) → (lower : Option ℕ) → TableKey → Bool
is_asked code table lower key = key.code.0 == code.0 && not_below lower key.scope.0 && is_named table key.table

-- all such tables, by scope and then by name
abbrev pub tables_from : (code : Name) → (table : Option Name) → (lower : Option ℕ) → List (TableKey × TableRow)
    → List (TableKey × TableRow)
tables_from code table lower tables = filter (λ t. is_asked code table lower t.0) tables

abbrev pub scope_view : TableKey × TableRow → ScopeView
scope_view t = record { code = t.0.code; scope = t.0.scope; table = t.0.table; payer = t.1.payer; count = t.1.count }

abbrev pub scopes_answer : (limit : ℕ) → List (TableKey × TableRow) → ViewAnswer
scopes_answer limit tables = answers.Scopes (nat_lt limit (length tables)) (map scope_view (take limit tables))

-- ---- an account

abbrev pub permission_view : Level × PermissionRow → PermissionView
permission_view e = record { perm_name = e.0.permission; parent = e.1.parent; packed_auth = authority.spell e.1.authority }

-- the account's permissions, in the order of their names' numbers
abbrev pub permissions_of : Name → List (Level × PermissionRow) → List (Level × PermissionRow)
permissions_of account permissions = filter (λ e. e.0.actor.0 == account.0) permissions

abbrev pub account_answer : Name → Option AccountRow → World → ViewAnswer
account_answer name None w = answers.Missing
account_answer name (Some row) w =
    let permissions = map permission_view (permissions_of name w.permissions) in
    answers.Account name (sha256 row.code) permissions row.privileged (quota w name) (used w name)

-- ---- the answer to each query; the chain answers those on itself and on its blocks

abbrev pub state_answer : World → ViewQuery → ViewAnswer
state_answer w queries.Info = answers.Missing
state_answer w (queries.Block block) = answers.Missing
state_answer w (queries.Account name) = account_answer name (find name_order name w.accounts) w
state_answer w (queries.Rows code scope table lower upper limit backward) =
    rows_answer limit (rows_between lower upper backward (record { code = code; scope = scope; table = table }) w.rows)
state_answer w (queries.Scopes code table lower limit) = scopes_answer limit (tables_from code table lower w.tables)
