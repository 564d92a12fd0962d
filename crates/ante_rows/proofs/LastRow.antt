-- The last row, found by the greatest key, which all keys are within.
use Rattle.std.proofs.Common.{◌≡◌, ℕ, ◌<◌, ◌≤◌, true≢false, true, false, cond, List, [], ◌∷◌, Option, Some, None, IfSome, Result, Ok, Err, OnOk, OnErr}
use Rattle.std.proofs.Common.{refl, sym, ap, subst, ◌∙◌, arith, Ordering, Less, Equal, Greater, is_eq}
use Rattle.std.specs.Ordering.{is_le, is_gt, nat_cmp, MatchOrdering}
use Rattle.std.specs.Option.{option_or}
use Rattle.std.specs.Cmp.{ranks}
use Rattle.std.specs.List.{AllByRecursion}
use Rattle.ante_undo.specs.Entries.{changed, entry_after, entry_up_to, last_entry}
use Rattle.ante_undo.specs.Stack.{Stack, with_top}
use Rattle.ante_undo.proofs.Entries.{all_changed}
use Rattle.ante_sessions.specs.Seen.{Throughout}
use Rattle.ante_sessions.specs.Zipped.{zip_stacks}
use Rattle.ante_pack.specs.declared.names.TableKey.{TableKey}
use Rattle.ante_state.specs.Orders.{table_order, row_order}
use Rattle.ante_state.specs.declared.tables.RowKey.{RowKey}
use Rattle.ante_state.specs.declared.tables.PrimaryRow.{PrimaryRow}
use Rattle.ante_rows.specs.Rows.{rows_of, greatest_key, KeysFit}

some_none : {X : Type 0} (x : X) → Some x ≡ None → ⊥
some_none x h = absurd (true≢false cc)

-- where no key is above a key, the last entry that is not above it is the last of all
pub last_up_to : {K V : Type 0} (cmp : K → K → Ordering) (key : K) (m : List (K × V)) → entry_after cmp key m ≡ None → entry_up_to cmp key m ≡ last_entry m
last_up_to cmp key [] h = refl
last_up_to cmp key (e ∷ es) h = from (cmp e.0 key) (last_up_to cmp key es) h
  where
    from : (r : Ordering) → (entry_after cmp key es ≡ None → entry_up_to cmp key es ≡ last_entry es) → cond (is_gt r) (Some e) (entry_after cmp key es) ≡ None → option_or (entry_up_to cmp key es) (cond (is_le r) (Some e) None) ≡ option_or (last_entry es) (Some e)
    from Less rest h = ap (λ l. option_or l (Some e)) (rest h)
    from Equal rest h = ap (λ l. option_or l (Some e)) (rest h)
    from Greater rest h = absurd (some_none e h)

within : (n : ℕ) → n ≤ greatest_key → is_gt (nat_cmp n greatest_key) ≡ false
within n fits = from (nat_cmp n greatest_key) (ranks n greatest_key)
  where
    from : (r : Ordering) → MatchOrdering r (n < greatest_key) (n ≡ greatest_key) (greatest_key < n) → is_gt r ≡ false
    from Less is = refl
    from Equal is = refl
    from Greater is = absurd (omega (arith, is, fits))

-- no row comes after the greatest key
pub none_after : {V : Type 0} (t : TableKey) (m : List (RowKey × V)) → AllByRecursion (λ e. e.0.primary ≤ greatest_key) m → entry_after nat_cmp greatest_key (rows_of table_order t m) ≡ None
none_after t [] all = refl
none_after t (e ∷ es) all =
    let rest = none_after t es all.1 in
    elim (is_eq (table_order e.0.table t)) as (λ b. entry_after nat_cmp greatest_key (cond b ((e.0.primary, e.1) ∷ rows_of table_order t es) (rows_of table_order t es)) ≡ None) [
      | true ↦ ap (λ b. cond b (Some (e.0.primary, e.1)) (entry_after nat_cmp greatest_key (rows_of table_order t es))) (within e.0.primary all.0) ∙ rest
      | false ↦ rest
    ]

module _ {X A E : Type 0} (a : Stack X) (b : Stack (List (RowKey × PrimaryRow))) where
  -- keys fit after a change of the rows
  pub rows_kept : (b' : Stack (List (RowKey × PrimaryRow))) (r : Result A E) (key : RowKey) (row : Option PrimaryRow) → key.primary ≤ greatest_key →
      OnOk r (b' ≡ with_top (changed row_order b.top key row) b) → OnErr r (b' ≡ b) → Throughout KeysFit (zip_stacks a b) → Throughout KeysFit (zip_stacks a b')
  rows_kept b' (Ok x) key row fits ok err is = subst (λ b. Throughout KeysFit (zip_stacks a b)) (sym ok) (record {
    under = is.under;
    top = all_changed row_order (λ e. e.0.primary ≤ greatest_key) b.top key row (fits_if row) is.top;
    shelf = is.shelf;
  })
    where
      fits_if : (row : Option PrimaryRow) → IfSome row (λ v. key.primary ≤ greatest_key)
      fits_if None = tt
      fits_if (Some row) = fits
  rows_kept b' (Err e) key row fits ok err is = subst (λ b. Throughout KeysFit (zip_stacks a b)) (sym err) is
