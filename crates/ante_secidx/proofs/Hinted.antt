-- Rows and hints as they change, and what a hint tells of the rows.
use Rattle.std.proofs.Common.{◌≡◌, ℕ, Bool, true, false, true≢false, cond, not, T, List, [], ◌∷◌, Option, Some, None, is_some, option_map, Result, Ok, Err, OnOk, OnErr, refl, sym, ap, subst, ◌∙◌, Ordering, is_eq}
use Rattle.std.specs.Ordering.{eq_by_cmp}
use Rattle.std.specs.Cmp.{IsTotalOrder}
use Rattle.std.specs.List.{AllByRecursion}
use Rattle.std.specs.FinMap.{IsAntisymmetric}
use Rattle.std.specs.FinMap.Entries.{find}
use Rattle.std.proofs.lemmas.Cmp.{tied_itself}
use Rattle.ante_undo.specs.Entries.{first_where, without_key, changed}
use Rattle.ante_undo.specs.Stack.{Stack, with_top}
use Rattle.ante_undo.proofs.Entries.{equal, find_changed, sorted_changed, all_changed}
use Rattle.ante_sessions.specs.Seen.{Throughout}
use Rattle.ante_sessions.specs.Zipped.{zip_stacks}
use Rattle.ante_sessions.proofs.Seen.{kept_top}
use Rattle.ante_pack.specs.declared.names.Name.{Name}
use Rattle.ante_pack.specs.declared.names.TableKey.{TableKey}
use Rattle.ante_state.specs.Orders.{row_order, index_order}
use Rattle.ante_state.specs.declared.tables.RowKey.{RowKey}
use Rattle.ante_state.specs.declared.tables.IndexKey.{IndexKey}
use Rattle.ante_secidx.specs.Index.{Rows, index_key, row_key, index_row, without, without_index_row}
use Rattle.ante_secidx.specs.Hints.{FitsAt, IsHinted, AreHinted, Tells}

some_none : {X : Type 0} (x : X) → Some x ≡ None → ⊥
some_none x h = absurd (true≢false (ap is_some h))

module _ {X V : Type 0} where
  some_is : (P : X × V → Type 0) (test : X → Bool) (m : List (X × V)) (e : X × V) → AllByRecursion P m → first_where test m ≡ Some e → P e × (test e.0 ≡ true)
  some_is P test [] e all h = absurd (some_none e (sym h))
  some_is P test (x ∷ xs) e all h =
      elim (test x.0) as (λ b. test x.0 ≡ b → cond b (Some x) (first_where test xs) ≡ Some e → P e × (test e.0 ≡ true)) [
        | true ↦ λ is q. let same : x ≡ e = cc in subst (λ e. P e × (test e.0 ≡ true)) same (all.0, is)
        | false ↦ λ is q. some_is P test xs e all.1 q
      ] refl h

  none_is : (test : X → Bool) (m : List (X × V)) → is_some (first_where test m) ≡ false → AllByRecursion (λ e. test e.0 ≡ false) m
  none_is test [] h = tt
  none_is test (x ∷ xs) h =
      elim (test x.0) as (λ b. test x.0 ≡ b → is_some (cond b (Some x) (first_where test xs)) ≡ false → (test x.0 ≡ false) × AllByRecursion (λ e. test e.0 ≡ false) xs) [
        | true ↦ λ is q. absurd (true≢false q)
        | false ↦ λ is q. (is, none_is test xs q)
      ] refl h

tied : {X : Type 0} (cmp : X → X → Ordering) → IsAntisymmetric cmp → (a b : X) → eq_by_cmp cmp a b ≡ true → a ≡ b
tied cmp exact a b h = exact a b (equal (cmp a b) (subst T (sym h) tt))

-- the row that is taken away is the one that was found
pub taken_is : {K : Type 0} (keys : K → K → Ordering) (t : TableKey) (p : ℕ) (place : IndexKey K) (m : Rows K) → option_map (λ e. e.0) (index_row t p m) ≡ Some place → changed (index_order keys) m place None ≡ without_index_row keys t p m
taken_is {K = K} keys t p place m is = from (index_row t p m) is
  where
    from : (o : Option (IndexKey K × Name)) → option_map (λ e. e.0) o ≡ Some place → changed (index_order keys) m place None ≡ without keys o m
    from None q = absurd (some_none place (sym q))
    from (Some e) q = let same : e.0 ≡ place = cc in ap (λ x. changed (index_order keys) m x None) (sym same)

module _ {K : Type 0} (fits : K → Type 0) (exact : IsAntisymmetric row_order) (hints : List (RowKey × K)) where
  -- a row that is told at the place's table and primary key stands at the place
  same_place : (place x : IndexKey K) → find row_order (row_key place) hints ≡ Some place.key → IsHinted fits hints x → eq_by_cmp row_order (row_key x) (row_key place) ≡ true → x ≡ place
  same_place place x told is ties =
      let row : row_key x ≡ row_key place = tied row_order exact (row_key x) (row_key place) ties in
      let both : Some x.key ≡ Some place.key = sym is.1 ∙ ap (λ r. find row_order r hints) row ∙ told in
      let key : x.key ≡ place.key = cc in
      ap (λ r. index_key r.table x.key r.primary) row ∙ ap (λ k. index_key place.table k place.primary) key

  -- nothing is told, and no row is there
  pub none_told : (t : TableKey) (p : ℕ) (m : Rows K) → AllByRecursion (λ e. IsHinted fits hints e.0) m → find row_order (record { table = t; primary = p }) hints ≡ None → index_row t p m ≡ None
  none_told t p [] all none = refl
  none_told t p (e ∷ es) all none =
      elim (eq_by_cmp row_order (row_key e.0) (record { table = t; primary = p })) as (λ b. eq_by_cmp row_order (row_key e.0) (record { table = t; primary = p }) ≡ b → cond b (Some e) (index_row t p es) ≡ None) [
        | true ↦ λ is. absurd (some_none e.0.key (sym all.0.1 ∙ ap (λ r. find row_order r hints) (tied row_order exact (row_key e.0) (record { table = t; primary = p }) is) ∙ none))
        | false ↦ λ is. none_told t p es all.1 none
      ] refl

  module _ (keys : K → K → Ordering) (o : IsTotalOrder (index_order keys)) where
    module _ (rows : IsTotalOrder row_order) (places : IsAntisymmetric (index_order keys)) where
      -- a key is told, and the row is there or at no place
      pub told : (t : TableKey) (key : K) (p : ℕ) (m : Rows K) → AllByRecursion (λ e. IsHinted fits hints e.0) m → find row_order (record { table = t; primary = p }) hints ≡ Some key → index_row t p m ≡ option_map (λ payer. (index_key t key p, payer)) (find (index_order keys) (index_key t key p) m)
      told t key p [] all some = refl
      told t key p (e ∷ es) all some =
          elim (eq_by_cmp row_order (row_key e.0) (record { table = t; primary = p })) as (λ b. eq_by_cmp row_order (row_key e.0) (record { table = t; primary = p }) ≡ b → cond b (Some e) (index_row t p es) ≡ option_map (λ payer. (index_key t key p, payer)) (cond (is_eq (index_order keys (index_key t key p) e.0)) (Some e.1) (find (index_order keys) (index_key t key p) es))) [
            | true ↦ λ is. here (same_place (index_key t key p) e.0 some all.0 is)
            | false ↦ λ is. there is (eq_by_cmp (index_order keys) (index_key t key p) e.0) refl (told t key p es all.1 some)
          ] refl
        where
          here : e.0 ≡ index_key t key p → Some e ≡ option_map (λ payer. (index_key t key p, payer)) (cond (is_eq (index_order keys (index_key t key p) e.0)) (Some e.1) (find (index_order keys) (index_key t key p) es))
          here same =
              ap (λ x. Some (x, e.1)) same
              ∙ sym (ap (λ r. option_map (λ payer. (index_key t key p, payer)) (cond (is_eq r) (Some e.1) (find (index_order keys) (index_key t key p) es)))
              (ap (index_order keys (index_key t key p)) same ∙ tied_itself o (index_key t key p)))

          there : eq_by_cmp row_order (row_key e.0) (record { table = t; primary = p }) ≡ false → (b : Bool) → eq_by_cmp (index_order keys) (index_key t key p) e.0 ≡ b → index_row t p es ≡ option_map (λ payer. (index_key t key p, payer)) (find (index_order keys) (index_key t key p) es) → index_row t p es ≡ option_map (λ payer. (index_key t key p, payer)) (cond b (Some e.1) (find (index_order keys) (index_key t key p) es))
          there other true is rest = absurd (true≢false
              (sym (ap is_eq (tied_itself rows (record { table = t; primary = p })))
              ∙ ap (λ x. eq_by_cmp row_order (row_key x) (record { table = t; primary = p })) (tied (index_order keys) places (index_key t key p) e.0 is) ∙ other))
          there other false is rest = rest

    gone : (place : IndexKey K) → find row_order (row_key place) hints ≡ Some place.key → (m : Rows K) → AllByRecursion (λ e. IsHinted fits hints e.0) m → is_some (index_row place.table place.primary (without_key (index_order keys) place m)) ≡ false
    gone place some [] all = refl
    gone place some (x ∷ xs) all =
        elim (eq_by_cmp (index_order keys) place x.0) as (λ b. eq_by_cmp (index_order keys) place x.0 ≡ b → is_some (index_row place.table place.primary (cond (not b) (x ∷ without_key (index_order keys) place xs) (without_key (index_order keys) place xs))) ≡ false) [
          | true ↦ λ is. gone place some xs all.1
          | false ↦ λ is. kept is (eq_by_cmp row_order (row_key x.0) (row_key place)) refl (gone place some xs all.1)
        ] refl
      where
        kept : eq_by_cmp (index_order keys) place x.0 ≡ false → (b : Bool) → eq_by_cmp row_order (row_key x.0) (row_key place) ≡ b → is_some (index_row place.table place.primary (without_key (index_order keys) place xs)) ≡ false → is_some (cond b (Some x) (index_row place.table place.primary (without_key (index_order keys) place xs))) ≡ false
        kept apart true is rest = absurd (true≢false (sym (ap is_eq (ap (index_order keys place) (same_place place x.0 some all.0 is) ∙ tied_itself o place)) ∙ apart))
        kept apart false is rest = rest

    -- once the row is taken away, none is there
    pub taken_free : (t : TableKey) (p : ℕ) (place : IndexKey K) (m : Rows K) → AllByRecursion (λ e. IsHinted fits hints e.0) m → option_map (λ e. e.0) (index_row t p m) ≡ Some place → is_some (index_row t p (without_index_row keys t p m)) ≡ false
    taken_free t p place m all is = from (index_row t p m) refl is
      where
        from : (o : Option (IndexKey K × Name)) → index_row t p m ≡ o → option_map (λ e. e.0) o ≡ Some place → is_some (index_row t p (without_index_row keys t p m)) ≡ false
        from None e q = absurd (some_none place (sym q))
        from (Some e) e1 q =
            let found = some_is (λ e. IsHinted fits hints e.0) (λ x. eq_by_cmp row_order (row_key x) (record { table = t; primary = p })) m e all e1 in
            let row : row_key e.0 ≡ record { table = t; primary = p } = tied row_order exact (row_key e.0) (record { table = t; primary = p }) found.1 in
            ap (λ o. is_some (index_row t p (without keys o m))) e1
            ∙ ap (λ (r : RowKey). is_some (index_row r.table r.primary (without_key (index_order keys) e.0 m))) (sym row)
            ∙ gone e.0 found.0.1 m all

    -- and so there is one at most
    pub single : (t : TableKey) (p : ℕ) (m : Rows K) → AllByRecursion (λ e. IsHinted fits hints e.0) m → is_some (index_row t p (without_index_row keys t p m)) ≡ false
    single t p m all = from (index_row t p m) refl
      where
        from : (o : Option (IndexKey K × Name)) → index_row t p m ≡ o → is_some (index_row t p (without_index_row keys t p m)) ≡ false
        from None e = ap (λ o. is_some (index_row t p (without keys o m))) e ∙ ap is_some e
        from (Some found) e = taken_free t p found.0 m all (ap (option_map (λ e. e.0)) e)

    -- what is told of a row, if something is
    pub tells : (rows : IsTotalOrder row_order) (places : IsAntisymmetric (index_order keys)) (t : TableKey) (p : ℕ) (m : Rows K) (key : Option K) → AllByRecursion (λ e. IsHinted fits hints e.0) m → key ≡ find row_order (record { table = t; primary = p }) hints → Tells keys t p m key
    tells rows places t p m None all is = none_told t p m all (sym is)
    tells rows places t p m (Some key) all is = told rows places t key p m all (sym is)

    -- a row that a call took away isn't there, unless the call was refused
    pub free_after : {A E : Type 0} (r : Result A E) (old new : Stack (List (RowKey × K) × Rows K)) (t : TableKey) (p : ℕ) (place : IndexKey K) → OnOk r (new ≡ with_top (old.top.0, changed (index_order keys) old.top.1 place None) old) → option_map (λ e. e.0) (index_row t p old.top.1) ≡ Some place → AllByRecursion (λ e. IsHinted fits hints e.0) old.top.1 → OnOk r (is_some (index_row t p new.top.1) ≡ false)
    free_after (Ok a) old new t p place ok there all =
        ap (λ s. is_some (index_row t p s.top.1)) ok
        ∙ ap (λ m. is_some (index_row t p m)) (taken_is keys t p place old.top.1 there)
        ∙ taken_free t p place old.top.1 all there
    free_after (Err e) old new t p place ok there all = ok

module _ {K : Type 0} (fits : K → Type 0) (rows : IsTotalOrder row_order) where
  -- what is told of a row that isn't there changes nothing for the others
  told_besides : (hints : List (RowKey × K)) (row : RowKey) (key : Option K) (m : Rows K) → AllByRecursion (λ e. eq_by_cmp row_order (row_key e.0) row ≡ false) m → AllByRecursion (λ e. IsHinted fits hints e.0) m → AllByRecursion (λ e. IsHinted fits (changed row_order hints row key) e.0) m
  told_besides hints row key [] none all = tt
  told_besides hints row key (e ∷ es) none all = (
    (all.0.0, find_changed row_order rows hints row key (row_key e.0) ∙ ap (λ b. cond b key (find row_order (row_key e.0) hints)) none.0 ∙ all.0.1),
    told_besides hints row key es none.1 all.1,
  )

  module _ (keys : K → K → Ordering) where
    hint_changed : (m : List (RowKey × K) × Rows K) (row : RowKey) (key : Option K) → is_some (index_row row.table row.primary m.1) ≡ false → AreHinted fits keys m → AreHinted fits keys (changed row_order m.0 row key, m.1)
    hint_changed m row key free is = record {
      ordered = is.ordered;
      hinted = told_besides m.0 row key m.1 (none_is (λ x. eq_by_cmp row_order (row_key x) row) m.1 free) is.hinted;
    }

    -- a hint is set or taken away where no row stands, or the call is refused
    pub hint_kept : {A E : Type 0} (old new : Stack (List (RowKey × K) × Rows K)) (r : Result A E) (row : RowKey) (key : Option K) → OnOk r (new ≡ with_top (changed row_order old.top.0 row key, old.top.1) old) → OnErr r (new ≡ old) → is_some (index_row row.table row.primary old.top.1) ≡ false → Throughout (AreHinted fits keys) old → Throughout (AreHinted fits keys) new
    hint_kept old new (Ok a) row key ok err free is = kept_top (AreHinted fits keys) (changed row_order old.top.0 row key, old.top.1) old new ok (hint_changed old.top row key free is.top) is
    hint_kept old new (Err e) row key ok err free is = subst (Throughout (AreHinted fits keys)) (sym err) is

    hint_stands : (old hinted : Stack (List (RowKey × K) × Rows K)) (place : IndexKey K) → hinted ≡ with_top (changed row_order old.top.0 (row_key place) (Some place.key), old.top.1) old → is_some (index_row place.table place.primary old.top.1) ≡ false → Throughout (AreHinted fits keys) old → Throughout (AreHinted fits keys) hinted
    hint_stands old hinted place e free is = kept_top (AreHinted fits keys) (changed row_order old.top.0 (row_key place) (Some place.key), old.top.1) old hinted e (hint_changed old.top (row_key place) (Some place.key) free is.top) is

    hint_is : (old hinted : Stack (List (RowKey × K) × Rows K)) (place : IndexKey K) → hinted ≡ with_top (changed row_order old.top.0 (row_key place) (Some place.key), old.top.1) old → find row_order (row_key place) hinted.top.0 ≡ Some place.key
    hint_is old hinted place e =
        ap (λ s. find row_order (row_key place) s.top.0) e
        ∙ find_changed row_order rows old.top.0 (row_key place) (Some place.key) (row_key place)
        ∙ ap (λ r. cond (is_eq r) (Some place.key) (find row_order (row_key place) old.top.0)) (tied_itself rows (row_key place))

    module _ (o : IsTotalOrder (index_order keys)) where
      row_put : (m : List (RowKey × K) × Rows K) (place : IndexKey K) (payer : Name) → FitsAt fits place → find row_order (row_key place) m.0 ≡ Some place.key → AreHinted fits keys m → AreHinted fits keys (m.0, changed (index_order keys) m.1 place (Some payer))
      row_put m place payer fit hint is = record {
        ordered = sorted_changed (index_order keys) o m.1 place (Some payer) is.ordered;
        hinted = all_changed (index_order keys) (λ e. IsHinted fits m.0 e.0) m.1 place (Some payer) (fit, hint) is.hinted;
      }

      row_taken : (m : List (RowKey × K) × Rows K) (place : IndexKey K) → AreHinted fits keys m → AreHinted fits keys (m.0, changed (index_order keys) m.1 place None)
      row_taken m place is = record {
        ordered = sorted_changed (index_order keys) o m.1 place None is.ordered;
        hinted = all_changed (index_order keys) (λ e. IsHinted fits m.0 e.0) m.1 place None tt is.hinted;
      }

      -- a row is taken away, or the call is refused
      pub take_kept : {A E : Type 0} (old new : Stack (List (RowKey × K) × Rows K)) (r : Result A E) (place : IndexKey K) → OnOk r (new ≡ with_top (old.top.0, changed (index_order keys) old.top.1 place None) old) → OnErr r (new ≡ old) → Throughout (AreHinted fits keys) old → Throughout (AreHinted fits keys) new
      take_kept old new (Ok a) place ok err is = kept_top (AreHinted fits keys) (old.top.0, changed (index_order keys) old.top.1 place None) old new ok (row_taken old.top place is.top) is
      take_kept old new (Err e) place ok err is = subst (Throughout (AreHinted fits keys)) (sym err) is

      -- a row is put where its hint has been set, or the call is refused
      pub put_kept : {A E : Type 0} (old hinted new : Stack (List (RowKey × K) × Rows K)) (r : Result A E) (place : IndexKey K) (payer : Name) → hinted ≡ with_top (changed row_order old.top.0 (row_key place) (Some place.key), old.top.1) old → OnOk r (new ≡ with_top (hinted.top.0, changed (index_order keys) hinted.top.1 place (Some payer)) hinted) → OnErr r (new ≡ hinted) → FitsAt fits place → is_some (index_row place.table place.primary old.top.1) ≡ false → Throughout (AreHinted fits keys) old → Throughout (AreHinted fits keys) new
      put_kept old hinted new (Ok a) place payer e ok err fit free is =
          kept_top (AreHinted fits keys) (hinted.top.0, changed (index_order keys) hinted.top.1 place (Some payer)) hinted new ok
          (row_put hinted.top place payer fit (hint_is old hinted place e) (hint_stands old hinted place e free is).top) (hint_stands old hinted place e free is)
      put_kept old hinted new (Err a) place payer e ok err fit free is = subst (Throughout (AreHinted fits keys)) (sym err) (hint_stands old hinted place e free is)

-- a change of the first or of the second of two values
pub first_set : {X Y A E : Type 0} (r : Result A E) (a a2 : Stack X) (b : Stack Y) (m : X) → OnOk r (a2 ≡ with_top m a) → OnOk r (zip_stacks a2 b ≡ with_top (m, b.top) (zip_stacks a b))
first_set (Ok x) a a2 b m ok = ap (λ s. zip_stacks s b) ok
first_set (Err e) a a2 b m ok = ok

pub second_set : {X Y A E : Type 0} (r : Result A E) (a : Stack X) (b b2 : Stack Y) (m : Y) → OnOk r (b2 ≡ with_top m b) → OnOk r (zip_stacks a b2 ≡ with_top (a.top, m) (zip_stacks a b))
second_set (Ok x) a b b2 m ok = ap (zip_stacks a) ok
second_set (Err e) a b b2 m ok = ok
