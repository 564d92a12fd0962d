-- Going over a map in the order of its keys, step by step.
use Rattle.std.proofs.Common.{◌≡◌, Bool, true, false, true≢false, cond, T, List, [], ◌∷◌, Option, Some, None, refl, sym, ap, subst, ◌∙◌, Ordering, Less, Equal, Greater}
use Rattle.std.specs.Ordering.{is_gt, ordering_reverse}
use Rattle.std.specs.Cmp.{IsTotalOrder}
use Rattle.std.specs.FinMap.Entries.{is_sorted, below_all}
use Rattle.std.proofs.lemmas.Cmp.{upto, tied_itself}
use Rattle.ante_undo.specs.Entries.{entry_after, first_entry}
use Rattle.ante_undo.proofs.Entries.{first, second, less}
use Rattle.ante_sessions.specs.Walk.{past}

module _ {K : Type 0} (cmp : K → K → Ordering) (o : IsTotalOrder cmp) where
  not_past : (x e key : K) → is_gt (cmp x key) ≡ false → is_gt (cmp e key) ≡ true → is_gt (cmp x e) ≡ false
  not_past x e key h p = upto o x key e h (ap is_gt (o.antisymm key e) ∙ reversed (cmp e key) p)
    where
      reversed : (r : Ordering) → is_gt r ≡ true → is_gt (ordering_reverse r) ≡ false
      reversed Less h = absurd (true≢false (sym h))
      reversed Equal h = absurd (true≢false (sym h))
      reversed Greater h = refl

module _ {K V : Type 0} (cmp : K → K → Ordering) where
  -- the entry after a key is the first one past it
  pub after_first : (key : K) (m : List (K × V)) → entry_after cmp key m ≡ first_entry (past cmp (Some key) m)
  after_first key [] = refl
  after_first key (e ∷ es) =
      elim (is_gt (cmp e.0 key)) as (λ b. cond b (Some e) (entry_after cmp key es) ≡ first_entry (cond b (e ∷ es) (past cmp (Some key) es))) [
        | true ↦ refl
        | false ↦ after_first key es
      ]

  module _ (o : IsTotalOrder cmp) where
    -- the head of what is past a key lies past it
    head_past : (key : K) (m : List (K × V)) (e : K × V) (rest : List (K × V)) → past cmp (Some key) m ≡ e ∷ rest → is_gt (cmp e.0 key) ≡ true
    head_past key [] e rest h = absurd (true≢false cc)
    head_past key (x ∷ xs) e rest h =
        elim (is_gt (cmp x.0 key)) as (λ t. is_gt (cmp x.0 key) ≡ t → cond t (x ∷ xs) (past cmp (Some key) xs) ≡ e ∷ rest → is_gt (cmp e.0 key) ≡ true) [
          | true ↦ λ t q. let same : x ≡ e = cc in ap (λ e. is_gt (cmp e.0 key)) (sym same) ∙ t
          | false ↦ λ t q. head_past key xs e rest q
        ] refl h

    -- all keys after the first one of a sorted map lie past it
    past_head : (e : K × V) (es : List (K × V)) → T (is_sorted cmp (e ∷ es)) → past cmp (Some e.0) (e ∷ es) ≡ es
    past_head e es sorted = ap (λ r. cond (is_gt r) (e ∷ es) (past cmp (Some e.0) es)) (tied_itself o e.0) ∙ all_past e.0 es (first _ _ sorted)
      where
        all_past : (key : K) (es : List (K × V)) → T (below_all cmp key es) → past cmp (Some key) es ≡ es
        all_past key [] h = refl
        all_past key (e ∷ es) h = ap (λ r. cond (is_gt r) (e ∷ es) (past cmp (Some key) es)) (o.antisymm e.0 key ∙ ap ordering_reverse (less _ (first _ _ h)))

    past_step : (m : List (K × V)) (e : K × V) (rest : List (K × V)) → T (is_sorted cmp m) → m ≡ e ∷ rest → past cmp (Some e.0) m ≡ rest
    past_step m e rest sorted h = ap (past cmp (Some e.0)) h ∙ past_head e rest (subst (λ m. T (is_sorted cmp m)) h sorted)

    -- past the first of the entries still to come are the rest of them
    pub past_next : (at : Option K) (m : List (K × V)) (e : K × V) (rest : List (K × V)) → T (is_sorted cmp m) → past cmp at m ≡ e ∷ rest → past cmp (Some e.0) m ≡ rest
    past_next None m e rest sorted h = past_step m e rest sorted h
    past_next (Some key) [] e rest sorted h = absurd (true≢false cc)
    past_next (Some key) (x ∷ xs) e rest sorted h =
        elim (is_gt (cmp x.0 key)) as (λ t. is_gt (cmp x.0 key) ≡ t → cond t (x ∷ xs) (past cmp (Some key) xs) ≡ e ∷ rest → past cmp (Some e.0) (x ∷ xs) ≡ rest) [
          | true ↦ λ t q. past_step (x ∷ xs) e rest sorted q
          | false ↦ λ t q. ap (λ b. cond b (x ∷ xs) (past cmp (Some e.0) xs)) (not_past cmp o x.0 e.0 key t (head_past key xs e rest q)) ∙ past_next (Some key) xs e rest (second _ _ sorted) q
        ] refl h
