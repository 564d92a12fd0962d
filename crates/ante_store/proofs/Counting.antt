-- How many rows of all kinds a table has as one comes or goes, and the table object with it.
use Rattle.std.proofs.Common.{◌≡◌, ℕ, ◌+◌, ◌-◌, ◌≤◌, ◌<◌, Bool, true, false, cond, T, List, [], ◌∷◌, Option, Some, None, IfSome, refl, sym, ap, subst, ◌∙◌, arith, Ordering, Less, Equal, Greater, is_eq}
use Rattle.std.specs.Prelude.{nat_le}
use Rattle.std.specs.Ordering.{eq_by_cmp, ordering_reverse}
use Rattle.std.specs.Cmp.{IsTotalOrder}
use Rattle.std.specs.List.{sum_by}
use Rattle.std.specs.FinMap.Entries.{find, is_sorted}
use Rattle.std.proofs.lemmas.Bool.Decides.{nat_tests}
use Rattle.std.proofs.lemmas.Cmp.{tied_itself}
use Rattle.ante_undo.specs.Entries.{changed}
use Rattle.ante_undo.proofs.Entries.{find_changed}
use Rattle.ante_sums.specs.Weights.{weight_of, weight_at}
use Rattle.ante_sums.proofs.Changed.{weight_within, weight_changed}
use Rattle.ante_pack.specs.declared.names.Name.{Name}
use Rattle.ante_pack.specs.declared.names.TableKey.{TableKey}
use Rattle.ante_state.specs.Billing.{table_size}
use Rattle.ante_state.specs.Orders.{table_order}
use Rattle.ante_state.specs.declared.tables.TableRow.{TableRow}
use Rattle.ante_types.specs.World.{table_bills}
use Rattle.ante_store.specs.Bills.{bills_at, opening_bills, closing_bills}
use Rattle.ante_store.specs.Changes.{with_row, without_row, count_of}
use Rattle.ante_store.specs.Worlds.{of_table}
use Rattle.ante_store.proofs.KeyOrders.{tables_total, tables_exact}

flip_eq : (r : Ordering) → is_eq (ordering_reverse r) ≡ is_eq r
flip_eq Less = refl
flip_eq Equal = refl
flip_eq Greater = refl

eq_flip : (a b : TableKey) → eq_by_cmp table_order a b ≡ eq_by_cmp table_order b a
eq_flip a b = ap is_eq (tables_total.antisymm a b) ∙ flip_eq (table_order b a)

pub tied : (r : Ordering) → is_eq r ≡ true → r ≡ Equal
tied Less p = cc
tied Equal p = refl
tied Greater p = cc

-- how many rows stand at a place
abbrev pub one : {V : Type 0} → Option V → ℕ
one None = 0
one (Some row) = 1

-- so many, where the table is this one
abbrev pub here : TableKey → TableKey → ℕ → ℕ
here table t n = cond (eq_by_cmp table_order t table) n 0

pub here_itself : (table : TableKey) (n : ℕ) → here table table n ≡ n
here_itself table n = ap (λ r. cond (is_eq r) n 0) (tied_itself tables_total table)

pub either : (b : Bool) (n : ℕ) → cond b n n ≡ n
either true n = refl
either false n = refl

module _ {K V : Type 0} (cmp : K → K → Ordering) (o : IsTotalOrder cmp) (exact : (a b : K) → cmp a b ≡ Equal → a ≡ b) (its_table : K → TableKey) where
  alike : (t : TableKey) (k x : K) (v : V) → cmp k x ≡ Equal → of_table its_table t (x, v) ≡ of_table its_table t (k, v)
  alike t k x v p = ap (λ y. of_table its_table t (y, v)) (sym (exact k x p))

  one_at : (t : TableKey) (key : K) (v : Option V) → weight_at (of_table its_table t) key v ≡ here (its_table key) t (one v)
  one_at t key None = sym (either (eq_by_cmp table_order t (its_table key)) 0)
  one_at t key (Some row) = ap (λ b. cond b 1 0) (eq_flip (its_table key) t)

  -- the rows of each table after a change of one row
  pub row_moves : (rows : List (K × V)) (key : K) (v : Option V) → T (is_sorted cmp rows) → (t : TableKey) →
      weight_of (of_table its_table t) (changed cmp rows key v) + here (its_table key) t (one (find cmp key rows)) ≡ weight_of (of_table its_table t) rows + here (its_table key) t (one v)
  row_moves rows key v sorted t = omega (
    arith,
    weight_changed cmp (of_table its_table t) (alike t) o rows key v sorted,
    one_at t key (find cmp key rows),
    one_at t key v,
  )

  -- a row is one of its table's
  pub row_within : (rows : List (K × V)) (key : K) (t : TableKey) → here (its_table key) t (one (find cmp key rows)) ≤ weight_of (of_table its_table t) rows
  row_within rows key t = omega (arith, weight_within cmp (of_table its_table t) (alike t) key rows, one_at t key (find cmp key rows))

-- the table's own count is what it was but for the one row
pub counted_after : (tables : List (TableKey × TableRow)) (table : TableKey) (object : Option TableRow) (old new : TableKey → ℕ) (before later : ℕ) →
    ((t : TableKey) → old t ≡ count_of (find table_order t tables)) → ((t : TableKey) → new t + here table t before ≡ old t + here table t later) →
    count_of object + before ≡ count_of (find table_order table tables) + later →
    (t : TableKey) → new t ≡ count_of (find table_order t (changed table_order tables table object))
counted_after tables table object old new before later counted moved step t =
    let found = ap count_of (find_changed table_order tables_total tables table object t) in
    by_test (eq_by_cmp table_order t table) refl (moved t) found
  where
    by_test : (b : Bool) → eq_by_cmp table_order t table ≡ b → new t + here table t before ≡ old t + here table t later →
        count_of (find table_order t (changed table_order tables table object)) ≡ count_of (cond (eq_by_cmp table_order t table) object (find table_order t tables)) →
        new t ≡ count_of (find table_order t (changed table_order tables table object))
    by_test true p moved found = omega (
      arith,
      moved,
      ap (λ b. cond b before 0) p,
      ap (λ b. cond b later 0) p,
      found ∙ ap (λ b. count_of (cond b object (find table_order t tables))) p,
      counted t ∙ ap (λ x. count_of (find table_order x tables)) (tables_exact t table (tied (table_order t table) p)),
      step,
    )
    by_test false p moved found = omega (
      arith,
      moved,
      ap (λ b. cond b before 0) p,
      ap (λ b. cond b later 0) p,
      found ∙ ap (λ b. count_of (cond b object (find table_order t tables))) p,
      counted t,
    )

-- a table object stands for one row at least
abbrev pub HasRows : Option TableRow → Type 0
HasRows object = IfSome object (λ t. 0 < t.count)

pub some_after : (tables : List (TableKey × TableRow)) (table : TableKey) (object : Option TableRow) → HasRows object →
    ((t : TableKey) → HasRows (find table_order t tables)) → (t : TableKey) → HasRows (find table_order t (changed table_order tables table object))
some_after tables table object has some t =
    subst HasRows (sym (find_changed table_order tables_total tables table object t)) (by_test (eq_by_cmp table_order t table))
  where
    by_test : (b : Bool) → HasRows (cond b object (find table_order t tables))
    by_test true = has
    by_test false = some t

pub count_with : (object : Option TableRow) (payer : Name) → (with_row object payer).count ≡ count_of object + 1
count_with None payer = refl
count_with (Some t) payer = refl

pub count_without : (object : Option TableRow) → 1 ≤ count_of object → count_of (without_row object) + 1 ≡ count_of object
count_without None h = omega (arith, h)
count_without (Some t) h = elim (nat_le t.count 1) as (λ b. nat_le t.count 1 ≡ b → count_of (cond b None (Some (record { payer = t.payer; count = t.count - 1 }))) + 1 ≡ t.count) [
  | true ↦ λ p. grind (arith, nat_tests)
  | false ↦ λ p. omega (arith, h)
] refl

pub some_without : (object : Option TableRow) → HasRows (without_row object)
some_without None = tt
some_without (Some t) = elim (nat_le t.count 1) as (λ b. nat_le t.count 1 ≡ b → HasRows (cond b None (Some (record { payer = t.payer; count = t.count - 1 })))) [
  | true ↦ λ p. tt
  | false ↦ λ p. grind (arith, nat_tests)
] refl

-- ---- the bills of the table object

pub opened : (part : Name × ℕ → ℕ) (table : TableKey) (object : Option TableRow) (payer : Name) →
    sum_by part (bills_at table_bills table (Some (with_row object payer))) ≡ sum_by part (bills_at table_bills table object) + sum_by part (opening_bills object payer)
opened part table None payer = omega arith
opened part table (Some t) payer = omega arith

pub closed : (part : Name × ℕ → ℕ) (table : TableKey) (object : Option TableRow) →
    sum_by part (bills_at table_bills table (without_row object)) + sum_by part (closing_bills object) ≡ sum_by part (bills_at table_bills table object)
closed part table None = refl
closed part table (Some t) = elim (nat_le t.count 1) as (λ b. sum_by part (bills_at table_bills table (cond b None (Some (record { payer = t.payer; count = t.count - 1 })))) + sum_by part (cond b ((t.payer, table_size) ∷ []) []) ≡ sum_by part ((t.payer, table_size) ∷ [])) [
  | true ↦ omega arith
  | false ↦ omega arith
]
