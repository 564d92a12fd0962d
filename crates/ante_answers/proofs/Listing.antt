-- The tables that a walk has given when it stops.
use Rattle.std.proofs.Common.{◌≡◌, ℕ, ◌<◌, ◌≤◌, Bool, true, false, nat_lt, List, length, map, take, Option, Some, None, refl, sym, ap, ◌∙◌, arith}
use Rattle.std.proofs.lemmas.Bool.Decides.{nat_tests}
use Rattle.std.proofs.lemmas.Option.{slice_get_within}
use Rattle.ante_pack.specs.declared.names.TableKey.{TableKey}
use Rattle.ante_state.specs.declared.tables.TableRow.{TableRow}
use Rattle.ante_views.specs.declared.answers.ScopeView.{ScopeView}
use Rattle.ante_views.specs.declared.answers.ViewAnswer.TheVariants as answers
use Rattle.ante_answers.specs.Answers.{scope_view, scopes_answer}
use Rattle.ante_answers.specs.Walks.{IsFront}
use Rattle.ante_answers.proofs.Fronts.{there, whole, front_is_all, take_all}

none_left : (limit n : ℕ) → n ≤ limit → nat_lt limit n ≡ false
none_left limit n le = grind (arith, nat_tests)

some_left : (limit n : ℕ) → limit < n → nat_lt limit n ≡ true
some_left limit n lt = grind (arith, nat_tests)

module _ (all : List (TableKey × TableRow)) (limit : ℕ) (given : List ScopeView) where
  pub list_ends : IsFront scope_view all given None → length given ≤ limit → answers.Scopes false given ≡ scopes_answer limit all
  list_ends front few =
      let same = whole scope_view all given front in
      let le : length all ≤ limit = omega (arith, same, few) in
      let items = front_is_all scope_view all given front ∙ sym (ap (map scope_view) (take_all scope_view limit all le)) in
      λ i. answers.Scopes (sym (none_left limit (length all) le) i) (items i)

  pub list_stops : (e : TableKey × TableRow) → IsFront scope_view all given (Some e) → length given ≤ limit → limit ≤ length given → answers.Scopes true given ≡ scopes_answer limit all
  list_stops e front few many =
      let full : length given ≡ limit = omega (arith, few, many) in
      let inside = slice_get_within all (length given) e (there all (length given) e front.next) in
      let items = front.items ∙ ap (λ n. map scope_view (take n all)) full in
      λ i. answers.Scopes (sym (some_left limit (length all) (omega (arith, inside, full))) i) (items i)
