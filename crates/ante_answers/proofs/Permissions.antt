-- The permissions of one account stand together: from the least that it can have to the last that is no later account's.
use Rattle.std.proofs.Common.{◌≡◌, ℕ, suc, ◌<◌, ◌≤◌, ◌==◌, Bool, true, false, true≢false, cond, ◌&&◌, nat_le, T, List, [], ◌∷◌, filter, Option, Some, None, is_some, refl, sym, ap, subst, ◌∙◌, arith, Ordering, Less, Equal, Greater, is_eq}
use Rattle.std.specs.List.{AllByRecursion}
use Rattle.std.specs.Ordering.{nat_cmp, ordering_then, ordering_reverse, is_ge, is_gt, eq_by_cmp, MatchOrdering}
use Rattle.std.specs.Cmp.{IsTotalOrder, ranks}
use Rattle.std.specs.FinMap.Entries.{find, is_sorted}
use Rattle.std.proofs.lemmas.Bool.Decides.{nat_tests}
use Rattle.std.proofs.lemmas.Cmp.{tied_itself}
use Rattle.ante_undo.specs.Entries.{first_where, first_entry, entry_after}
use Rattle.ante_sessions.specs.Walk.{past}
use Rattle.ante_sessions.proofs.Past.{after_first}
use Rattle.ante_pack.specs.declared.names.Name.{Name}
use Rattle.ante_pack.specs.declared.authority.Level.{Level}
use Rattle.ante_state.specs.Orders.{level_order}
use Rattle.ante_state.specs.declared.objects.PermissionRow.{PermissionRow}
use Rattle.ante_store.proofs.KeyOrders.{levels_total, levels_exact}
use Rattle.ante_answers.specs.Answers.{permissions_of}
use Rattle.ante_answers.specs.Walks.{within, Follows}
use Rattle.ante_answers.proofs.Rising.{Rising, above, above_once, rises, first_left, first_agrees, first_within, next_left, left_passes, none_is_some}

is_equal : (r : Ordering) → is_eq r ≡ true → r ≡ Equal
is_equal Less h = absurd (true≢false (sym h))
is_equal Equal h = refl
is_equal Greater h = absurd (true≢false (sym h))

below_it : (r : Ordering) → is_gt r ≡ true → is_ge (ordering_reverse r) ≡ false
below_it Less h = absurd (true≢false (sym h))
below_it Equal h = absurd (true≢false (sym h))
below_it Greater h = refl

untied : (r : Ordering) → is_eq r ≡ false → is_ge (ordering_reverse r) ≡ is_gt (ordering_reverse r)
untied Less h = refl
untied Equal h = absurd (true≢false h)
untied Greater h = refl

module _ {K V : Type 0} (cmp : K → K → Ordering) (o : IsTotalOrder cmp) (exact : (a b : K) → cmp a b ≡ Equal → a ≡ b) where
  found_above : (key q : K) (v : V) (es : List (K × V)) → AllByRecursion (λ x. is_gt (cmp x.0 key) ≡ true) es → find cmp q es ≡ Some v → is_gt (cmp q key) ≡ true
  found_above key q v [] all there = none_is_some v there
  found_above key q v (e ∷ es) all there = by (is_eq (cmp q e.0)) refl there (found_above key q v es all.1)
    where
      by : (b : Bool) → is_eq (cmp q e.0) ≡ b → cond b (Some e.1) (find cmp q es) ≡ Some v → (find cmp q es ≡ Some v → is_gt (cmp q key) ≡ true) → is_gt (cmp q key) ≡ true
      by true is there rest = subst (λ k. is_gt (cmp k key) ≡ true) (sym (exact q e.0 (is_equal _ is))) all.0
      by false is there rest = rest there

  -- the first entry that isn't below a key is the one at the key, where it is there
  pub from_found : (q : K) (v : V) (es : List (K × V)) → Rising (above cmp o) es → find cmp q es ≡ Some v → first_where (λ k. is_ge (cmp k q)) es ≡ Some (q, v)
  from_found q v [] rising there = none_is_some v there
  from_found q v (e ∷ es) rising there = by (is_eq (cmp q e.0)) refl there (from_found q v es rising.1)
    where
      here : q ≡ e.0 → e.1 ≡ v → cond (is_ge (cmp e.0 q)) (Some e) (first_where (λ k. is_ge (cmp k q)) es) ≡ Some (q, v)
      here same value =
          ap (λ k. cond (is_ge (cmp e.0 k)) (Some e) (first_where (λ k. is_ge (cmp k q)) es)) same
          ∙ ap (λ r. cond (is_ge r) (Some e) (first_where (λ k. is_ge (cmp k q)) es)) (tied_itself o e.0)
          ∙ (λ i. Some (sym same i, value i))

      by : (b : Bool) → is_eq (cmp q e.0) ≡ b → cond b (Some e.1) (find cmp q es) ≡ Some v → (find cmp q es ≡ Some v → first_where (λ k. is_ge (cmp k q)) es ≡ Some (q, v))
          → cond (is_ge (cmp e.0 q)) (Some e) (first_where (λ k. is_ge (cmp k q)) es) ≡ Some (q, v)
      by true is there rest = let value : e.1 ≡ v = cc in here (exact q e.0 (is_equal _ is)) value
      by false is there rest =
          let below = ap is_ge (o.antisymm e.0 q) ∙ below_it (cmp q e.0) (found_above e.0 q v es rising.0 there) in
          ap (λ b. cond b (Some e) (first_where (λ k. is_ge (cmp k q)) es)) below ∙ rest there

  -- and else the one after it
  pub from_after : (q : K) (es : List (K × V)) → find cmp q es ≡ None → first_where (λ k. is_ge (cmp k q)) es ≡ entry_after cmp q es
  from_after q [] none = refl
  from_after q (e ∷ es) none = by (is_eq (cmp q e.0)) refl none (from_after q es)
    where
      by : (b : Bool) → is_eq (cmp q e.0) ≡ b → cond b (Some e.1) (find cmp q es) ≡ None → (find cmp q es ≡ None → first_where (λ k. is_ge (cmp k q)) es ≡ entry_after cmp q es)
          → cond (is_ge (cmp e.0 q)) (Some e) (first_where (λ k. is_ge (cmp k q)) es) ≡ cond (is_gt (cmp e.0 q)) (Some e) (entry_after cmp q es)
      by true is none rest = none_is_some e.1 (sym none)
      by false is none rest =
          let same = ap is_ge (o.antisymm e.0 q) ∙ untied (cmp q e.0) is ∙ sym (ap is_gt (o.antisymm e.0 q)) in
          ap (λ b. cond b (Some e) (first_where (λ k. is_ge (cmp k q)) es)) same ∙ ap (λ rest. cond (is_gt (cmp e.0 q)) (Some e) rest) (rest none)

-- ---- accounts

-- a later permission's account is no earlier one
leads : (x y : ℕ) (r : Ordering) → is_gt (ordering_then (nat_cmp x y) r) ≡ true → y ≤ x
leads x y r h = from (nat_cmp x y) (ranks x y) h
  where
    from : (s : Ordering) → MatchOrdering s (x < y) (x ≡ y) (y < x) → is_gt (ordering_then s r) ≡ true → y ≤ x
    from Less is h = absurd (true≢false (sym h))
    from Equal is h = omega (arith, is)
    from Greater is h = omega (arith, is)

ends : (account x y : ℕ) → x ≤ y → nat_le x account ≡ false → nat_le y account ≡ false
ends account x y le out = grind (arith, nat_tests)

same_account : (account x : ℕ) → account ≤ x → (x == account) ≡ nat_le x account
same_account account x le = grind (arith, nat_tests)

other_account : (account x : ℕ) → x < account → (x == account) ≡ false
other_account account x lt = grind (arith, nat_tests)

is_same : (x account : ℕ) → (x == account) ≡ true → x ≡ account
is_same x account h = grind (arith, nat_tests)

not_before_zero : (y : ℕ) → is_ge (nat_cmp y 0) ≡ true
not_before_zero y = grind (arith, nat_tests)

itself : (n : ℕ) → nat_le n n ≡ true
itself n = grind (arith, nat_tests)

module _ (account : Name) where
  abbrev of_account : Level → Bool
  of_account l = l.actor.0 == account.0

  abbrev up_to : Level → Bool
  up_to l = nat_le l.actor.0 account.0

  abbrev least : Level
  least = record { actor = account; permission = record { 0 = 0 } }

  up_to_ends : (x y : Level) → is_gt (level_order y x) ≡ true → up_to x ≡ false → up_to y ≡ false
  up_to_ends x y later out = ends account.0 x.actor.0 y.actor.0 (leads y.actor.0 x.actor.0 (nat_cmp y.permission.0 x.permission.0) later) out

  -- the account's permissions are those from its least one on that are no later account's
  begins : (l : Level) → of_account l ≡ (is_ge (level_order l least) && up_to l)
  begins l = from (nat_cmp l.actor.0 account.0) (ranks l.actor.0 account.0)
    where
      from : (r : Ordering) → MatchOrdering r (l.actor.0 < account.0) (l.actor.0 ≡ account.0) (account.0 < l.actor.0)
          → of_account l ≡ (is_ge (ordering_then r (nat_cmp l.permission.0 0)) && up_to l)
      from Less is = other_account account.0 l.actor.0 is
      from Equal is = same_account account.0 l.actor.0 (omega (arith, is)) ∙ sym (ap (λ b. b && up_to l) (not_before_zero l.permission.0))
      from Greater is = same_account account.0 l.actor.0 (omega (arith, is))

  goes_on : (at l : Level) → of_account at ≡ true → (is_gt (level_order l at) && of_account l) ≡ (is_gt (level_order l at) && up_to l)
  goes_on at l of = by (is_gt (level_order l at)) refl
    where
      by : (b : Bool) → is_gt (level_order l at) ≡ b → (b && of_account l) ≡ (b && up_to l)
      by true is =
          let same = is_same at.actor.0 account.0 of in
          let le = leads l.actor.0 at.actor.0 (nat_cmp l.permission.0 at.permission.0) is in
          same_account account.0 l.actor.0 (omega (arith, same, le))
      by false is = refl

  module _ (permissions : List (Level × PermissionRow)) (sorted : T (is_sorted level_order permissions)) where
    up : Rising (above level_order levels_total) permissions
    up = rises level_order levels_total permissions sorted

    first_is : first_entry (permissions_of account permissions) ≡ within up_to (first_where (λ l. is_ge (level_order l least)) permissions)
    first_is =
        first_left of_account permissions
        ∙ first_agrees of_account (λ l. is_ge (level_order l least) && up_to l) permissions begins
        ∙ first_within (above level_order levels_total) (λ l. is_ge (level_order l least)) up_to up_to_ends permissions up

    -- the account's first permission is its least one, where that is there
    pub first_at : (row : PermissionRow) → find level_order least permissions ≡ Some row → Some (least, row) ≡ first_entry (permissions_of account permissions)
    first_at row there = sym (
        first_is
        ∙ ap (within up_to) (from_found level_order levels_total levels_exact least row permissions up there)
        ∙ ap (λ b. cond b (Some (least, row)) None) (itself account.0))

    -- and else the next one
    pub first_past : (next : Option (Level × PermissionRow)) → find level_order least permissions ≡ None → next ≡ first_entry (past level_order (Some least) permissions) → within up_to next ≡ first_entry (permissions_of account permissions)
    first_past next none is = sym (
        first_is
        ∙ ap (within up_to) (from_after level_order levels_total levels_exact least permissions none ∙ after_first level_order least permissions ∙ sym is))

    pub next_past : (at : Level) (next : Option (Level × PermissionRow)) → next ≡ first_entry (past level_order (Some at) permissions) → Follows (permissions_of account permissions) at (within up_to next)
    next_past at next is place value there = sym (
        next_left (above level_order levels_total) (above_once level_order levels_total) of_account permissions up place (at, value) there
        ∙ first_agrees (λ l. is_gt (level_order l at) && of_account l) (λ l. is_gt (level_order l at) && up_to l) permissions (λ l. goes_on at l (left_passes of_account permissions place (at, value) there))
        ∙ first_within (above level_order levels_total) (λ l. is_gt (level_order l at)) up_to up_to_ends permissions up
        ∙ ap (within up_to) (after_first level_order at permissions ∙ sym is))
