-- Worked examples of a secondary index, over a state that has these rows: keys of 256 bits, stored in another order than theirs.
use Rattle.std.proofs.Common.{◌≡◌, refl, ℕ, ◌-◌, ◌^◌, [], ◌∷◌, None, Some}
use Rattle.std.specs.Prelude.{pos, negsuc}
use Rattle.ante_pack.specs.declared.names.Key256.{Key256}
use Rattle.ante_pack.specs.declared.names.Name.{Name}
use Rattle.ante_state.specs.declared.tables.IndexKey.{IndexKey}
use Rattle.ante_calls.specs.IndexCalls.{key256, rows256, index_kind, find_primary, lowerbound, upperbound}
use Rattle.ante_calls.specs.Rows.{next, previous}
use Rattle.ante_calls.specs.Views.{RowView}
use Rattle.ante_calls.proofs.Iterated.{key, one_row, view, answer}

abbrev pub words : ℕ → ℕ → Key256
words first second = record { first = first; second = second }

abbrev pub row : Key256 → ℕ → IndexKey Key256 × Name
row secondary primary = (record { table = key; key = secondary; primary = primary }, record { 0 = 1 })

-- (1, 0) with primary keys 7 and 9, (1, 2^128 - 1) with primary key 3
abbrev pub start : RowView
start = view (record one_row { index256 = row (words 1 0) 7 ∷ row (words 1 0) 9 ∷ row (words 1 (2 ^ 128 - 1)) 3 ∷ [] })

lower_of_least : (lowerbound key256 rows256 key (words 0 0) start).0 ≡ (pos 0, Some (words 1 0, 7))
lower_of_least = refl

lower_of_equal : (lowerbound key256 rows256 key (words 1 0) start).0 ≡ (pos 0, Some (words 1 0, 7))
lower_of_equal = refl

upper_of_equal : (upperbound key256 rows256 key (words 1 0) start).0 ≡ (pos 0, Some (words 1 (2 ^ 128 - 1), 3))
upper_of_equal = refl

upper_of_greatest : (upperbound key256 rows256 key (words 1 (2 ^ 128 - 1)) start).0 ≡ (negsuc 1, None)
upper_of_greatest = refl

abbrev pub at_end : RowView
at_end = (upperbound key256 rows256 key (words 1 (2 ^ 128 - 1)) start).1

before_end : answer (pos 9, None) (previous (index_kind key256 rows256) (negsuc 1) at_end) ≡ (pos 0, Some 3)
before_end = refl

abbrev pub first_met : RowView
first_met = (find_primary key256 rows256 key 7 start).1

before_first : answer (pos 9, None) (previous (index_kind key256 rows256) (pos 0) first_met) ≡ (negsuc 0, None)
before_first = refl

after_first : answer (pos 9, None) (next (index_kind key256 rows256) (pos 0) first_met) ≡ (pos 1, Some 9)
after_first = refl
