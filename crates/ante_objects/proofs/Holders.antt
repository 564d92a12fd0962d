-- The keys of one account: where they begin and where they end in the order of permissions and of links.
use Rattle.std.proofs.Common.{◌≡◌, ℕ, ◌<◌, ◌≤◌, ◌==◌, ◌&&◌, Bool, false, true≢false, sym, ap, subst, arith, Ordering, Less, Equal, Greater, is_lt}
use Rattle.std.specs.Ordering.{nat_cmp, ordering_then, MatchOrdering}
use Rattle.std.specs.Cmp.{ranks}
use Rattle.std.proofs.lemmas.Bool.Decides.{nat_tests}
use Rattle.ante_pack.specs.declared.names.Name.{Name}
use Rattle.ante_pack.specs.declared.authority.Level.{Level}
use Rattle.ante_state.specs.Orders.{level_order, link_order}
use Rattle.ante_state.specs.declared.objects.LinkKey.{LinkKey}
use Rattle.ante_state.specs.declared.objects.PermissionRow.{PermissionRow}
use Rattle.ante_objects.specs.Objects.{is_child, asks_for}

not_less : {X : Type 0} → Equal ≡ Less → X
not_less h = absurd (true≢false (sym (ap is_lt h)))

more_not_less : {X : Type 0} → Greater ≡ Less → X
more_not_less h = absurd (true≢false (sym (ap is_lt h)))

-- what comes first in an order by two numbers has no greater first one
leads : (x y : ℕ) (r : Ordering) → ordering_then (nat_cmp x y) r ≡ Less → x ≤ y
leads x y r h = from (nat_cmp x y) (ranks x y) h
  where
    from : (s : Ordering) → MatchOrdering s (x < y) (x ≡ y) (y < x) → ordering_then s r ≡ Less → x ≤ y
    from Less is h = omega (arith, is)
    from Equal is h = omega (arith, is)
    from Greater is h = more_not_less h

-- and a lesser one, where the second can't be less
leads_alone : (x y : ℕ) (r : Ordering) → (r ≡ Less → ⊥) → ordering_then (nat_cmp x y) r ≡ Less → x < y
leads_alone x y r never h = from (nat_cmp x y) (ranks x y) h
  where
    from : (s : Ordering) → MatchOrdering s (x < y) (x ≡ y) (y < x) → ordering_then s r ≡ Less → x < y
    from Less is h = is
    from Equal is h = absurd (never h)
    from Greater is h = more_not_less h

none_below_zero : (x : ℕ) → nat_cmp x 0 ≡ Less → ⊥
none_below_zero x h = let below = subst (λ r. MatchOrdering r (x < 0) (x ≡ 0) (0 < x)) h (ranks x 0) in absurd (omega (arith, below))

none_below_zeros : (x y : ℕ) → ordering_then (nat_cmp x 0) (nat_cmp y 0) ≡ Less → ⊥
none_below_zeros x y h = let below = leads_alone x 0 (nat_cmp y 0) (none_below_zero y) h in absurd (omega (arith, below))

below_differs : (a b : ℕ) (t : Bool) → a < b → (a == b && t) ≡ false
below_differs a b t h = ap (λ s. s && t) (differs a b h)
  where
    differs : (a b : ℕ) → a < b → (a == b) ≡ false
    differs a b h = grind (arith, nat_tests)

above_differs : (a b : ℕ) (t : Bool) → b < a → (a == b && t) ≡ false
above_differs a b t h = ap (λ s. s && t) (differs a b h)
  where
    differs : (a b : ℕ) → b < a → (a == b) ≡ false
    differs a b h = grind (arith, nat_tests)

module _ (level : Level) where
  pub no_child_before : (e : Level × PermissionRow) → level_order e.0 (record { actor = level.actor; permission = record { 0 = 0 } }) ≡ Less → is_child level e ≡ false
  no_child_before e h = below_differs e.0.actor.0 level.actor.0 (e.1.parent.0 == level.permission.0) (leads_alone e.0.actor.0 level.actor.0 (nat_cmp e.0.permission.0 0) (none_below_zero e.0.permission.0) h)

  pub no_child_past : (at : Level) → level.actor.0 < at.actor.0 → (e : Level × PermissionRow) → level_order at e.0 ≡ Less → is_child level e ≡ false
  no_child_past at above e h =
      above_differs e.0.actor.0 level.actor.0 (e.1.parent.0 == level.permission.0)
      (let later = leads at.actor.0 e.0.actor.0 (nat_cmp at.permission.0 e.0.permission.0) h in omega (arith, later, above))

  pub no_child_there : (e : Level × PermissionRow) → level.actor.0 < e.0.actor.0 → is_child level e ≡ false
  no_child_there e above = above_differs e.0.actor.0 level.actor.0 (e.1.parent.0 == level.permission.0) above

  pub no_link_before : (e : LinkKey × Name) → link_order e.0 (record { account = level.actor; code = record { 0 = 0 }; action = record { 0 = 0 } }) ≡ Less → asks_for level e ≡ false
  no_link_before e h =
      below_differs e.0.account.0 level.actor.0 (e.1.0 == level.permission.0)
      (leads_alone e.0.account.0 level.actor.0 (ordering_then (nat_cmp e.0.code.0 0) (nat_cmp e.0.action.0 0)) (none_below_zeros e.0.code.0 e.0.action.0) h)

  pub no_link_past : (at : LinkKey) → level.actor.0 < at.account.0 → (e : LinkKey × Name) → link_order at e.0 ≡ Less → asks_for level e ≡ false
  no_link_past at above e h =
      above_differs e.0.account.0 level.actor.0 (e.1.0 == level.permission.0)
      (let later = leads at.account.0 e.0.account.0 (ordering_then (nat_cmp at.code.0 e.0.code.0) (nat_cmp at.action.0 e.0.action.0)) h in omega (arith, later, above))

  pub no_link_there : (e : LinkKey × Name) → level.actor.0 < e.0.account.0 → asks_for level e ≡ false
  no_link_there e above = above_differs e.0.account.0 level.actor.0 (e.1.0 == level.permission.0) above
