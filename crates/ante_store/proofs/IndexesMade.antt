-- What the calls that change rows of a secondary index come to, with what they looked up and wrote.
use Rattle.std.proofs.Common.{◌≡◌, ℕ, ◌+◌, ◌≤◌, ◌<◌, false, List, [], ◌∷◌, ◌++◌, Option, Some, None, is_some, option_map, true≢false, refl, ap, ◌∙◌, arith, Ordering}
use Rattle.std.specs.FinMap.Entries.{find}
use Rattle.ante_undo.specs.Stack.{Stack, with_top}
use Rattle.ante_pack.specs.declared.names.Name.{Name}
use Rattle.ante_pack.specs.declared.names.TableKey.{TableKey}
use Rattle.ante_state.specs.Billing.{most_usage, most_rows}
use Rattle.ante_state.specs.Orders.{table_order}
use Rattle.ante_state.specs.declared.tables.IndexKey.{IndexKey}
use Rattle.ante_state.specs.declared.tables.TableRow.{TableRow}
use Rattle.ante_rows.specs.Rows.{table_set}
use Rattle.ante_ram.specs.Usage.{usage_sum}
use Rattle.ante_secidx.specs.Index.{Rows, index_row, with_index_row, without_index_row, moved}
use Rattle.ante_secidx.specs.declared.indexes.IndexesMap.{IndexesMap}
use Rattle.ante_store.specs.declared.change.Change.{Change}
use Rattle.ante_store.specs.Bills.{opening_bills, closing_bills, IsRebilled}
use Rattle.ante_store.specs.Changes.{with_row, without_row, count_of}
use Rattle.ante_store.specs.declared.parts.Maps.{Maps}
use Rattle.ante_store.specs.Worlds.{IsBilled}
use Rattle.ante_store.specs.Applied.{in_rows, in_indexes, with_usage, IsMade}
use Rattle.ante_store.specs.Widths.{IsSlot, AreChanges}
use Rattle.ante_store.proofs.IndexChanges.{index_store_leads, index_update_leads, index_remove_leads}
use Rattle.ante_store.proofs.Made.{Leads, leads_as, made_then, twice}
use Rattle.ante_store.proofs.RowsMade.{none_of, not_full}

module _ {K : Type 0} (keys : K → K → Ordering) (size : ℕ) (got : IndexesMap → Rows K) (put : Rows K → IndexesMap → IndexesMap) where
  -- the maps with other rows of this width
  abbrev pub with_index : (Rows K → Rows K) → Maps → Maps
  with_index change m = in_indexes (put (change (got m.indexes))) m

  -- a change that writes a table object and rows of this width
  pub index_made : (c : Change) (removed added : List (Name × ℕ)) (table : TableKey) (object written : Option TableRow) (change : Rows K → Rows K) (old mid later new : Stack Maps) →
      written ≡ object → IsBilled old.top → Leads c removed added old.top (with_index change (in_rows (table_set table object) old.top)) →
      IsRebilled removed added old.top.usage mid.top.usage → usage_sum mid.top.usage ≤ most_usage → mid ≡ with_top (with_usage mid.top.usage old.top) old →
      later ≡ with_top (in_rows (table_set table written) mid.top) mid → new ≡ with_top (with_index change later.top) later → IsMade c old.top new.top
  index_made c removed added table object written change old mid later new is_object is leads rebilled small same e e2 =
      made_then c removed added (λ m. with_index change (in_rows (table_set table written) m)) (with_index change (in_rows (table_set table object) old.top)) old mid new
      (λ shares. ap (λ o. with_usage shares (with_index change (in_rows (table_set table o) old.top))) is_object) is leads rebilled small same
      (twice (in_rows (table_set table written)) (with_index change) mid later new e e2)

  module _ (slot : IsSlot keys size got put) where
    module _ (storing updating : TableKey → K → ℕ → Name → Change) (removing : TableKey → ℕ → Change) (are : AreChanges keys size got put storing updating removing) where
      pub index_stored : (table : TableKey) (key : K) (primary : ℕ) (payer : Name) (bytes : ℕ) (object : Option TableRow) (removed added : List (Name × ℕ)) (old : Maps) → IsBilled old →
          object ≡ find table_order table old.rows.tables → bytes ≡ size → removed ≡ [] → added ≡ opening_bills object payer ++ (payer, bytes) ∷ [] →
          is_some (index_row table primary (got old.indexes)) ≡ false → count_of object < most_rows →
          Leads (storing table key primary payer) removed added old
          (with_index (with_index_row keys table key primary payer) (in_rows (table_set table (Some (with_row (find table_order table old.rows.tables) payer))) old))
      index_stored table key primary payer bytes object removed added old is is_object is_size is_removed is_added absent room =
          leads_as _ _ _ _ _ _ _ is_removed
          (is_added ∙ ap (λ o. opening_bills o payer ++ (payer, bytes) ∷ []) is_object ∙ ap (λ b. opening_bills (find table_order table old.rows.tables) payer ++ (payer, b) ∷ []) is_size)
          (index_store_leads keys size got put slot storing updating removing are table key primary payer old is (none_of (index_row table primary (got old.indexes)) absent)
          (not_full (count_of (find table_order table old.rows.tables)) (omega (arith, ap count_of is_object, room))))

      pub index_updated : (table : TableKey) (key : K) (primary : ℕ) (payer was : Name) (bytes bytes2 : ℕ) (removed added : List (Name × ℕ)) (old : Maps) → IsBilled old →
          bytes ≡ size → bytes2 ≡ size → removed ≡ (was, bytes) ∷ [] → added ≡ (payer, bytes2) ∷ [] → Some was ≡ option_map (λ e. e.1) (index_row table primary (got old.indexes)) →
          is_some (index_row table primary (without_index_row keys table primary (got old.indexes))) ≡ false →
          Leads (updating table key primary payer) removed added old (with_index (moved keys table key primary payer) old)
      index_updated table key primary payer was bytes bytes2 removed added old is is_size is_size2 is_removed is_added there single =
          of_row (index_row table primary (got old.indexes)) refl there
        where
          of_row : (found : Option (IndexKey K × Name)) → index_row table primary (got old.indexes) ≡ found → Some was ≡ option_map (λ e. e.1) found →
              Leads (updating table key primary payer) removed added old (with_index (moved keys table key primary payer) old)
          of_row None e h = absurd (true≢false (ap is_some h))
          of_row (Some row) e h =
              let payer_is : was ≡ row.1 = cc in
              leads_as _ _ _ _ _ _ _ (is_removed ∙ ap (λ b. (was, b) ∷ []) is_size ∙ ap (λ p. (p, size) ∷ []) payer_is) (is_added ∙ ap (λ b. (payer, b) ∷ []) is_size2)
              (index_update_leads keys size got put slot storing updating removing are table key primary payer row old is e (none_of (index_row table primary (without_index_row keys table primary (got old.indexes))) single))

      pub index_removed : (table : TableKey) (primary : ℕ) (was : Name) (bytes : ℕ) (object : Option TableRow) (removed added : List (Name × ℕ)) (old : Maps) → IsBilled old →
          object ≡ find table_order table old.rows.tables → bytes ≡ size → removed ≡ closing_bills object ++ (was, bytes) ∷ [] → added ≡ [] →
          Some was ≡ option_map (λ e. e.1) (index_row table primary (got old.indexes)) →
          Leads (removing table primary) removed added old (with_index (without_index_row keys table primary) (in_rows (table_set table (without_row (find table_order table old.rows.tables))) old))
      index_removed table primary was bytes object removed added old is is_object is_size is_removed is_added there =
          of_row (index_row table primary (got old.indexes)) refl there
        where
          of_row : (found : Option (IndexKey K × Name)) → index_row table primary (got old.indexes) ≡ found → Some was ≡ option_map (λ e. e.1) found →
              Leads (removing table primary) removed added old (with_index (without_index_row keys table primary) (in_rows (table_set table (without_row (find table_order table old.rows.tables))) old))
          of_row None e h = absurd (true≢false (ap is_some h))
          of_row (Some row) e h =
              let payer_is : was ≡ row.1 = cc in
              leads_as _ _ _ _ _ _ _
              (is_removed ∙ ap (λ o. closing_bills o ++ (was, bytes) ∷ []) is_object ∙ ap (λ b. closing_bills (find table_order table old.rows.tables) ++ (was, b) ∷ []) is_size
              ∙ ap (λ p. closing_bills (find table_order table old.rows.tables) ++ (p, size) ∷ []) payer_is) is_added
              (index_remove_leads keys size got put slot storing updating removing are table primary row old is e)
