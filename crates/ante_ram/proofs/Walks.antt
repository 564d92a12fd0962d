-- Going over the accounts one by one.
use Rattle.std.proofs.Common.{◌≡◌, ℕ, ℤ, ◌<◌, ◌≤◌, suc, Bool, true, false, true≢false, cond, T, List, [], ◌∷◌, length, Option, Some, None, option_map, refl, sym, ap, subst, ◌∙◌, le_refl, arith, Ordering}
use Rattle.std.specs.Ordering.{is_gt}
use Rattle.std.specs.Cmp.{IsTotalOrder}
use Rattle.std.specs.List.{AllByRecursion}
use Rattle.std.specs.FinMap.Entries.{is_sorted}
use Rattle.ante_undo.specs.Entries.{first_entry}
use Rattle.ante_sessions.specs.Walk.{past}
use Rattle.ante_pack.specs.declared.names.Name.{Name}
use Rattle.ante_ram.specs.declared.parts.Share.{Share}
use Rattle.ante_ram.specs.Usage.{is_over, first_over, shown_share}

module _ (cmp : Name → Name → Ordering) where
  -- what holds of all entries holds of the next one
  pub all_past : (Q : Name × Share → Type 0) (at : Option Name) (m : List (Name × Share)) → AllByRecursion Q m → AllByRecursion Q (past cmp at m)
  all_past Q None m all = all
  all_past Q (Some key) [] all = tt
  all_past Q (Some key) (e ∷ es) all = elim (is_gt (cmp e.0 key)) as (λ b. AllByRecursion Q (cond b (e ∷ es) (past cmp (Some key) es))) [
    | true ↦ all
    | false ↦ all_past Q (Some key) es all.1
  ]

  pub next_holds : (Q : Name × Share → Type 0) (es : List (Name × Share)) (e : Name × Share) → Some e ≡ first_entry es → AllByRecursion Q es → Q e
  next_holds Q [] e h all = absurd (true≢false cc)
  next_holds Q (x ∷ xs) e h all = let same : x ≡ e = cc in subst Q same all.0

pub is_true : (b : Bool) → T b → b ≡ true
is_true true h = refl
is_true false h = absurd h
