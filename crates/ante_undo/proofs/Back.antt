-- Lists of logs: what taking them back leads to, and how often they name a key.
use Rattle.std.proofs.Common.{◌≡◌, ◌+◌, ◌≤◌, true, false, T, List, [], ◌∷◌, ◌++◌, length, Option, refl, ap, ◌∙◌, Ordering, arith}
use Rattle.std.specs.Ordering.{eq_by_cmp}
use Rattle.std.specs.Cmp.{IsTotalOrder}
use Rattle.std.specs.FinMap.Entries.{is_sorted}
use Rattle.ante_undo.specs.Entries.{changed}
use Rattle.ante_undo.specs.Logs.{one_if, total, named_in, named_in_all, taken_back, taken_back_all, maps_under, maps_over}
use Rattle.ante_undo.proofs.Entries.{sorted_changed}

module _ {X : Type 0} where
  pub total_append : (xs ys : List (List X)) → total (xs ++ ys) ≡ total xs + total ys
  total_append [] ys = omega arith
  total_append (x ∷ xs) ys = let rest = total_append xs ys in omega arith

  pub length_append : (xs ys : List X) → length (xs ++ ys) ≡ length xs + length ys
  length_append [] ys = omega arith
  length_append (x ∷ xs) ys = let rest = length_append xs ys in omega arith

module _ {K V : Type 0} (cmp : K → K → Ordering) where
  pub named_append : (q : K) (xs ys : List (K × Option V)) → named_in cmp q (xs ++ ys) ≡ named_in cmp q xs + named_in cmp q ys
  named_append q [] ys = omega arith
  named_append q (c ∷ xs) ys = let rest = named_append q xs ys in omega arith

  pub named_append_all : (q : K) (xs ys : List (List (K × Option V))) → named_in_all cmp q (xs ++ ys) ≡ named_in_all cmp q xs + named_in_all cmp q ys
  named_append_all q [] ys = omega arith
  named_append_all q (log ∷ xs) ys = let rest = named_append_all q xs ys in omega arith

  pub back_append : (m : List (K × V)) (xs ys : List (K × Option V)) → taken_back cmp m (xs ++ ys) ≡ taken_back cmp (taken_back cmp m ys) xs
  back_append m [] ys = refl
  back_append m (c ∷ xs) ys = ap (λ m. changed cmp m c.0 c.1) (back_append m xs ys)

  pub back_append_all : (m : List (K × V)) (xs ys : List (List (K × Option V))) → taken_back_all cmp m (xs ++ ys) ≡ taken_back_all cmp (taken_back_all cmp m ys) xs
  back_append_all m [] ys = refl
  back_append_all m (log ∷ xs) ys = ap (λ m. taken_back cmp m log) (back_append_all m xs ys)

  -- the maps under the last log and those before it
  pub under_append : (m : List (K × V)) (xs ys : List (List (K × Option V))) → maps_under cmp m (xs ++ ys) ≡ maps_under cmp (taken_back_all cmp m ys) xs ++ maps_under cmp m ys
  under_append m [] ys = refl
  under_append m (log ∷ xs) ys = λ i. taken_back cmp (back_append_all m xs ys i) log ∷ under_append m xs ys i

  pub under_last : (m : List (K × V)) (logs : List (List (K × Option V))) (log : List (K × Option V)) → maps_under cmp m (logs ++ log ∷ []) ≡ maps_under cmp (taken_back cmp m log) logs ++ taken_back cmp m log ∷ []
  under_last m logs log = under_append m logs (log ∷ [])

  pub over_last : (m : List (K × V)) (logs : List (List (K × Option V))) (log : List (K × Option V)) → maps_over cmp m (logs ++ log ∷ []) ≡ taken_back cmp m log ∷ maps_over cmp (taken_back cmp m log) logs
  over_last m [] log = refl
  over_last m (l ∷ logs) log =
      ap (λ ms. ms ++ taken_back_all cmp m ((l ∷ logs) ++ log ∷ []) ∷ []) (over_last m logs log)
      ∙ ap (λ b. taken_back cmp m log ∷ (maps_over cmp (taken_back cmp m log) logs ++ taken_back cmp b l ∷ [])) (back_append_all m logs (log ∷ []))

  pub length_under : (m : List (K × V)) (logs : List (List (K × Option V))) → length (maps_under cmp m logs) ≡ length logs
  length_under m [] = refl
  length_under m (log ∷ logs) = let rest = length_under m logs in omega arith

  pub length_over : (m : List (K × V)) (logs : List (List (K × Option V))) → length (maps_over cmp m logs) ≡ length logs
  length_over m [] = refl
  length_over m (log ∷ logs) =
      let rest = length_over m logs in
      let more = length_append (maps_over cmp m logs) (taken_back_all cmp m (log ∷ logs) ∷ []) in
      omega arith

  -- a key is named at most as often as there are entries
  pub named_few : (q : K) (log : List (K × Option V)) → named_in cmp q log ≤ length log
  named_few q [] = omega arith
  named_few q (c ∷ log) = let rest = named_few q log in elim (eq_by_cmp cmp c.0 q) as (λ b. one_if b + named_in cmp q log ≤ length (c ∷ log)) [ true ↦ omega arith | false ↦ omega arith ]

  pub named_few_all : (q : K) (logs : List (List (K × Option V))) → named_in_all cmp q logs ≤ total logs
  named_few_all q [] = omega arith
  named_few_all q (log ∷ logs) = let first = named_few q log in let rest = named_few_all q logs in omega arith

  pub sorted_back : (o : IsTotalOrder cmp) (m : List (K × V)) (log : List (K × Option V)) → T (is_sorted cmp m) → T (is_sorted cmp (taken_back cmp m log))
  sorted_back o m [] h = h
  sorted_back o m (c ∷ log) h = sorted_changed cmp o (taken_back cmp m log) c.0 c.1 (sorted_back o m log h)
