-- Recent transactions, of which the first is forgotten.
use Rattle.std.proofs.Common.{◌≡◌, ℕ, zero, suc, ◌-◌, ◌<◌, arith, Bool, true, false, not, cond, List, [], ◌∷◌, None, Some, T, refl, sym, ap, subst, ◌∙◌}
use Rattle.std.specs.declared.cmp.Ordering.{Ordering}
use Rattle.std.specs.declared.cmp.Ordering.TheVariants.{Less, Equal, Greater}
use Rattle.std.specs.Ordering.{is_lt, is_eq}
use Rattle.std.specs.Bool.{IsTrue, passes}
use Rattle.std.specs.Option.{option_map}
use Rattle.std.specs.Cmp.{IsTotalOrder, tied_itself}
use Rattle.std.specs.FinMap.Entries.{below_all, is_sorted}
use Rattle.ante_state.specs.Orders.{recent_order}
use Rattle.ante_state.specs.declared.objects.RecentKey.{RecentKey}
use Rattle.ante_undo.proofs.Entries.{first, second}
use Rattle.ante_undo.specs.Entries.{first_entry, without_key}
use Rattle.ante_objects.specs.Objects.{shown_recent}
use Rattle.ante_execution.specs.Blocks.{without_expired}
use Rattle.ante_execution.specs.Transactions.{is_expired}

-- ---- any map without its first key

below_differs : (o : Ordering) → T (is_lt o) → is_eq o ≡ false
below_differs Less below = refl
below_differs Equal below = absurd below
below_differs Greater below = absurd below

module _ {K V : Type 0} (cmp : K → K → Ordering) where
  all_kept : (k : K) (es : List (K × V)) → T (below_all cmp k es) → without_key cmp k es ≡ es
  all_kept k [] below = refl
  all_kept k (e ∷ es) below =
      ap (λ b. cond (not b) (e ∷ without_key cmp k es) (without_key cmp k es)) (below_differs (cmp k e.0) (first _ _ below))
      ∙ ap (λ rest. e ∷ rest) (all_kept k es (second _ _ below))

  first_goes : (e : K × V) (es : List (K × V)) → cmp e.0 e.0 ≡ Equal → T (is_sorted cmp (e ∷ es)) → without_key cmp e.0 (e ∷ es) ≡ es
  first_goes e es same sorted =
      ap (λ o. cond (not (is_eq o)) (e ∷ without_key cmp e.0 es) (without_key cmp e.0 es)) same ∙ all_kept e.0 es (first _ _ sorted)

-- ---- recent transactions

abbrev pub Recent : Type 0
Recent = List (RecentKey × Unit {0})

module _ (slot most : ℕ) where
  pub nothing_there : (es : Recent) → None ≡ option_map shown_recent (first_entry es) → without_expired (suc most) slot es ≡ es
  nothing_there [] none = refl
  nothing_there (e ∷ es) none = cc

  pub first_stays : (es : Recent) (x : ℕ × List ℕ) → Some x ≡ option_map shown_recent (first_entry es) → is_expired x.0 slot ≡ false →
      without_expired (suc most) slot es ≡ es
  first_stays [] x is expired = refl
  first_stays (e ∷ es) x is expired =
      let same : e.0.expiration ≡ x.0 = cc in
      ap (λ n. cond (is_expired n slot) (without_expired most slot es) (e ∷ es)) same ∙ ap (λ b. cond b (without_expired most slot es) (e ∷ es)) expired

  pub first_forgotten : IsTotalOrder recent_order → (es : Recent) (x : ℕ × List ℕ) → Some x ≡ option_map shown_recent (first_entry es) → T (is_sorted recent_order es) →
      is_expired x.0 slot ≡ true →
      without_expired (suc most) slot es ≡ without_expired most slot (without_key recent_order (record { expiration = x.0; id = x.1 }) es)
  first_forgotten total [] x is sorted expired = cc
  first_forgotten total (e ∷ es) x is sorted expired =
      let time : e.0.expiration ≡ x.0 = cc in
      let id : e.0.id ≡ x.1 = cc in
      let key : ◌≡◌ {A = RecentKey} e.0 (record { expiration = x.0; id = x.1 }) = λ i. record { expiration = time i; id = id i } in
      ap (λ n. cond (is_expired n slot) (without_expired most slot es) (e ∷ es)) time ∙ ap (λ b. cond b (without_expired most slot es) (e ∷ es)) expired
      ∙ ap (without_expired most slot) (sym (first_goes recent_order e es (tied_itself total e.0) sorted))
      ∙ ap (λ k. without_expired most slot (without_key recent_order k (e ∷ es))) key

-- the same, in any order of recent transactions that is theirs, as the code finds it out
pub forgotten_in : (cmp : RecentKey → RecentKey → Ordering) → cmp ≡ recent_order → IsTotalOrder cmp → (slot : ℕ) (found es : Recent) → found ≡ es → (x : ℕ × List ℕ) →
    Some x ≡ option_map shown_recent (first_entry found) → IsTrue (is_sorted cmp found) → (b : Bool) → b ≡ is_expired x.0 slot → b ≡ true → (most : ℕ) →
    without_expired (suc most) slot es ≡ without_expired most slot (without_key recent_order (record { expiration = x.0; id = x.1 }) es)
forgotten_in cmp same total slot found es these x is sorted b told expired most =
    let rise : IsTrue (is_sorted recent_order es) = subst (λ y. IsTrue (is_sorted recent_order y)) these (subst (λ c. IsTrue (is_sorted c found)) same sorted) in
    first_forgotten slot most (subst IsTotalOrder same total) es x (subst (λ (y : Recent). Some x ≡ option_map shown_recent (first_entry y)) these is)
    (passes (is_sorted recent_order es) rise) (sym told ∙ expired)

-- one more is forgotten, of those that still may be
pub one_forgotten : (slot most more : ℕ) (first before after : Recent) (went : Bool) → 0 < more → without_expired most slot first ≡ without_expired more slot before →
    ((n : ℕ) → without_expired (suc n) slot before ≡ cond went (without_expired n slot after) after) → went ≡ true →
    without_expired most slot first ≡ without_expired (more - 1) slot after
one_forgotten slot most zero first before after went some so_far one is = absurd (omega (arith, some))
one_forgotten slot most (suc n) first before after went some so_far one is =
    so_far ∙ one n ∙ ap (λ b. cond b (without_expired n slot after) after) is ∙ ap (λ k. without_expired k slot after) (omega arith)
