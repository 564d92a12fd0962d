-- The orders of tables and of rows tell all keys apart, and so do the tests by which iterators are found.
use Rattle.std.proofs.Common.{◌≡◌, ℕ, Bool, true, false, true≢false, ◌&&◌, nat_cmp, refl, sym, ap, ◌∙◌, Ordering, Less, Equal, Greater, is_eq, ◌==◌, eqb-true, arith}
use Rattle.std.specs.Ordering.{ordering_then}
use Rattle.std.specs.Cmp.{Equal-is}
use Rattle.std.proofs.lemmas.Map.Lookups.{exact_unsigned}
use Rattle.ante_pack.specs.declared.names.Name.{Name}
use Rattle.ante_pack.specs.declared.names.TableKey.{TableKey}
use Rattle.ante_state.specs.declared.tables.RowKey.{RowKey}
use Rattle.ante_state.specs.Orders.{name_order, table_order, row_order}
use Rattle.ante_itercache.specs.declared.met.MetRow.{MetRow}
use Rattle.ante_itercache.specs.Iterators.{is_table, is_row}
use Rattle.ante_itercache.specs.Places.{live_at}

then_equal : (a b : Ordering) → ordering_then a b ≡ Equal → (a ≡ Equal) × (b ≡ Equal)
then_equal Less b h = absurd (true≢false (sym (ap is_eq h)))
then_equal Equal b h = (refl, h)
then_equal Greater b h = absurd (true≢false (sym (ap is_eq h)))

both_true : (a b : Bool) → a && b ≡ true → (a ≡ true) × (b ≡ true)
both_true true b h = (refl, h)
both_true false b h = absurd (true≢false (sym h))

number_itself : (n : ℕ) → nat_cmp n n ≡ Equal
number_itself n = grind arith

name_ties : (a b : Name) → name_order a b ≡ Equal → a ≡ b
name_ties a b h = ap (λ n. record { 0 = n }) (exact_unsigned a.0 b.0 h)

pub table_ties : (a b : TableKey) → table_order a b ≡ Equal → a ≡ b
table_ties a b h =
    let e = then_equal _ _ h in
    let f = then_equal _ _ e.1 in
    let c = name_ties a.code b.code e.0 in
    let s = name_ties a.scope b.scope f.0 in
    let t = name_ties a.table b.table f.1 in
    λ i. record { code = c i; scope = s i; table = t i }

pub table_itself : (a : TableKey) → table_order a a ≡ Equal
table_itself a = ap (λ r. ordering_then r (ordering_then (name_order a.scope a.scope) (name_order a.table a.table))) (number_itself a.code.0)
    ∙ ap (λ r. ordering_then r (name_order a.table a.table)) (number_itself a.scope.0) ∙ number_itself a.table.0

pub row_ties : (a b : RowKey) → row_order a b ≡ Equal → a ≡ b
row_ties a b h =
    let e = then_equal _ _ h in
    let t = table_ties a.table b.table e.0 in
    let p = exact_unsigned a.primary b.primary e.1 in
    λ i. record { table = t i; primary = p i }

pub row_itself : (a : RowKey) → row_order a a ≡ Equal
row_itself a = ap (λ r. ordering_then r (nat_cmp a.primary a.primary)) (table_itself a.table) ∙ number_itself a.primary

pub live_apart : (a b : RowKey) → live_at a ≡ live_at b → a ≡ b
live_apart a b h = λ i. record { table = (h i).table; primary = (h i).primary }

-- ---- the tests

pub one_table : (key met : TableKey) → is_table key met ≡ true → met ≡ key
one_table key met h = sym (table_ties key met ((Equal-is (table_order key met)).0 h))

pub table_passes : (key : TableKey) → is_table key key ≡ true
table_passes key = ap is_eq (table_itself key)

pub one_row : (key : RowKey) (r : MetRow) → is_row key.table key.primary r ≡ true → r ≡ live_at key
one_row key r h =
    let e = both_true (is_table key.table r.table && r.primary == key.primary) r.live h in
    let f = both_true (is_table key.table r.table) (r.primary == key.primary) e.0 in
    let t = one_table key.table r.table f.0 in
    let p = eqb-true r.primary key.primary f.1 in
    λ i. record { table = t i; primary = p i; live = e.1 i }

pub row_passes : (key : RowKey) → is_row key.table key.primary (live_at key) ≡ true
row_passes key = ap (λ b. b && key.primary == key.primary && true) (table_passes key.table) ∙ grind arith
