-- What the calls that change rows come to, with what they looked up and wrote.
use Rattle.std.proofs.Common.{◌≡◌, ℕ, ◌+◌, ◌≤◌, ◌<◌, false, List, [], ◌∷◌, ◌++◌, length, Option, Some, None, is_some, refl, sym, ap, ◌∙◌, arith}
use Rattle.std.specs.Prelude.{nat_le}
use Rattle.std.specs.FinMap.Entries.{find}
use Rattle.std.proofs.lemmas.Bool.Decides.{nat_tests}
use Rattle.ante_undo.specs.Stack.{Stack, with_top}
use Rattle.ante_undo.specs.Entries.{changed}
use Rattle.ante_pack.specs.declared.names.Name.{Name}
use Rattle.ante_pack.specs.declared.names.TableKey.{TableKey}
use Rattle.ante_state.specs.Billing.{row_size, most_usage, most_rows}
use Rattle.ante_state.specs.Orders.{table_order, row_order}
use Rattle.ante_state.specs.declared.tables.TableRow.{TableRow}
use Rattle.ante_state.specs.declared.tables.PrimaryRow.{PrimaryRow}
use Rattle.ante_rows.specs.Rows.{table_set, row_set}
use Rattle.ante_ram.specs.Usage.{usage_sum}
use Rattle.ante_store.specs.declared.change.Change.{Change}
use Rattle.ante_store.specs.declared.change.Change.TheVariants as change
use Rattle.ante_store.specs.Bills.{opening_bills, closing_bills, IsRebilled}
use Rattle.ante_store.specs.Changes.{with_row, without_row, count_of}
use Rattle.ante_store.specs.declared.parts.Maps.{Maps}
use Rattle.ante_store.specs.Worlds.{IsBilled}
use Rattle.ante_store.specs.Applied.{in_rows, with_usage, IsMade}
use Rattle.ante_store.proofs.Made.{Leads, leads_as, made_then, twice}
use Rattle.ante_store.proofs.RowChanges.{store_leads, remove_leads}

pub none_of : {X : Type 0} (o : Option X) → is_some o ≡ false → o ≡ None
none_of None h = refl
none_of (Some x) h = cc

pub not_full : (n : ℕ) → n < most_rows → nat_le most_rows n ≡ false
not_full n h = grind (arith, nat_tests)

-- the maps after both were written
abbrev pub both_set : TableKey → Option TableRow → ℕ → Option PrimaryRow → Maps → Maps
both_set table object primary row old = in_rows (λ m. row_set table primary row (table_set table object m)) old

-- a change that writes a table object and a row
pub rows_made : (c : Change) (removed added : List (Name × ℕ)) (table : TableKey) (object put : Option TableRow) (primary : ℕ) (row : Option PrimaryRow) (old mid later new : Stack Maps) →
    put ≡ object → IsBilled old.top → Leads c removed added old.top (both_set table object primary row old.top) →
    IsRebilled removed added old.top.usage mid.top.usage → usage_sum mid.top.usage ≤ most_usage → mid ≡ with_top (with_usage mid.top.usage old.top) old →
    later ≡ with_top (in_rows (table_set table put) mid.top) mid → new ≡ with_top (in_rows (row_set table primary row) later.top) later → IsMade c old.top new.top
rows_made c removed added table object put primary row old mid later new is_object is leads rebilled small same e e2 =
    made_then c removed added (λ m. in_rows (row_set table primary row) (in_rows (table_set table put) m)) (both_set table object primary row old.top) old mid new
    (λ shares. ap (λ o. with_usage shares (both_set table o primary row old.top)) is_object) is leads rebilled small same
    (twice (in_rows (table_set table put)) (in_rows (row_set table primary row)) mid later new e e2)

pub row_stored : (table : TableKey) (primary : ℕ) (payer : Name) (bytes : List ℕ) (object : Option TableRow) (bill : Name × ℕ) (removed added : List (Name × ℕ)) (old : Maps) → IsBilled old →
    object ≡ find table_order table old.rows.tables → bill ≡ (payer, row_size + length bytes) → removed ≡ [] → added ≡ opening_bills object payer ++ bill ∷ [] →
    is_some (find row_order (record { table = table; primary = primary }) old.rows.rows) ≡ false → count_of object < most_rows →
    Leads (change.StoreRow table primary payer bytes) removed added old (both_set table (Some (with_row (find table_order table old.rows.tables) payer)) primary (Some (record { payer = payer; bytes = bytes })) old)
row_stored table primary payer bytes object bill removed added old is is_object is_bill is_removed is_added absent room =
    leads_as _ _ _ _ _ _ _ is_removed
    (is_added ∙ ap (λ o. opening_bills o payer ++ bill ∷ []) is_object ∙ ap (λ b. opening_bills (find table_order table old.rows.tables) payer ++ b ∷ []) is_bill)
    (store_leads table primary payer bytes old is (none_of (find row_order (record { table = table; primary = primary }) old.rows.rows) absent)
    (not_full (count_of (find table_order table old.rows.tables)) (omega (arith, ap count_of is_object, room))))

pub row_removed : (table : TableKey) (primary : ℕ) (was : PrimaryRow) (object : Option TableRow) (bill : Name × ℕ) (removed added : List (Name × ℕ)) (old : Maps) → IsBilled old →
    object ≡ find table_order table old.rows.tables → bill ≡ (was.payer, row_size + length was.bytes) → removed ≡ closing_bills object ++ bill ∷ [] → added ≡ [] →
    Some was ≡ find row_order (record { table = table; primary = primary }) old.rows.rows →
    Leads (change.RemoveRow table primary) removed added old (both_set table (without_row (find table_order table old.rows.tables)) primary None old)
row_removed table primary was object bill removed added old is is_object is_bill is_removed is_added there =
    leads_as _ _ _ _ _ _ _
    (is_removed ∙ ap (λ o. closing_bills o ++ bill ∷ []) is_object ∙ ap (λ b. closing_bills (find table_order table old.rows.tables) ++ b ∷ []) is_bill)
    is_added
    (remove_leads table primary was old is (sym there))
