-- The ancestors of a permission as a walk from permission to permission.
use Rattle.std.proofs.Common.{◌≡◌, ℕ, zero, suc, ◌+◌, ◌≤◌, Bool, true, false, ◌||◌, true≢false, List, [], ◌∷◌, ◌++◌, map, length, Option, Some, None, is_some, refl, sym, ap, subst, ◌∙◌, arith, Ordering, Less, Equal, Greater, is_eq}
use Rattle.std.specs.List.{list_any, sum_by, flat_map}
use Rattle.std.specs.Option.{option_map}
use Rattle.std.specs.Ordering.{ordering_then, eq_by_cmp}
use Rattle.std.specs.Cmp.{ranked}
use Rattle.std.proofs.lemmas.List.{length-map}
use Rattle.std.specs.FinMap.Entries.{is_some-find}
use Rattle.std.proofs.lemmas.List.Sums.{sum_by-append}
use Rattle.ante_pack.specs.declared.names.Name.{Name}
use Rattle.ante_pack.specs.declared.authority.Level.{Level}
use Rattle.ante_state.specs.Orders.{name_order, level_order}
use Rattle.ante_state.specs.declared.objects.PermissionRow.{PermissionRow}
use Rattle.ante_state.specs.Billing.{index64_size, index128_size, index256_size}
use Rattle.ante_types.specs.World.{World, used_by_all, account_bills, permission_bills, link_bills, table_bills, row_bills, index_bills}
use Rattle.ante_calls.specs.Accounts.{same_name, permission_at}
use Rattle.ante_execution.specs.Authorities.{parent_of, is_within, is_or_is_above}
use Rattle.ante_authz.proofs.Marked.{if_onward, within, Walked, begun, stepped, marking, never, ended, went_round, arrived, exhausted}

-- ---- permissions as keys

equal_both : (r s : Ordering) → is_eq (ordering_then r s) ≡ true → (r ≡ Equal) × (s ≡ Equal)
equal_both Less s h = absurd (true≢false (sym h))
equal_both Greater s h = absurd (true≢false (sym h))
equal_both Equal Less h = absurd (true≢false (sym h))
equal_both Equal Greater h = absurd (true≢false (sym h))
equal_both Equal Equal h = (refl, refl)

pub level_exact : (a b : Level) → eq_by_cmp level_order a b ≡ true → a ≡ b
level_exact a b h =
    let both = equal_both (name_order a.actor b.actor) (name_order a.permission b.permission) h in
    λ i. record { actor = record { 0 = ranked a.actor.0 b.actor.0 Equal (sym both.0) i }; permission = record { 0 = ranked a.permission.0 b.permission.0 Equal (sym both.1) i } }

pub level_itself : (a : Level) → eq_by_cmp level_order a a ≡ true
level_itself a = grind arith

module _ (w : World) where
  -- the permission above
  abbrev pub step : Level → Option Level
  step level = option_map (λ row. record { actor = level.actor; permission = row.parent }) (permission_at level w)

  abbrev pub keys : List Level
  keys = map (λ e. e.0) w.permissions

  known : (x y : Level) → step x ≡ Some y → list_any (eq_by_cmp level_order x) keys ≡ true
  known x y h = sym (is_some-find level_order x w.permissions) ∙ on (permission_at x w) h
    where
      on : (o : Option PermissionRow) → option_map (λ row. record { actor = x.actor; permission = row.parent }) o ≡ Some y → is_some o ≡ true
      on None e = ap is_some e
      on (Some row) e = refl

  module _ (actor permission : Name) where
    abbrev pub at : Name → Level
    at name = record { actor = actor; permission = name }

    abbrev pub hit : Level → Bool
    hit level = same_name level.permission permission

    as_walk : (most : ℕ) (name : Name) → is_within most actor permission name w ≡ within step hit most (at name)
    as_walk zero name = refl
    as_walk (suc most) name = ap (λ b. same_name name permission || b) (on (as_walk most) (permission_at (at name) w))
      where
        on : ((p : Name) → is_within most actor permission p w ≡ within step hit most (at p)) → (o : Option PermissionRow) → parent_of o (λ parent. is_within most actor permission parent w) ≡ if_onward (option_map (λ row. at row.parent) o) (within step hit most)
        on rest None = refl
        on rest (Some row) = rest row.parent

    near : (name : Name) → is_or_is_above actor permission name w ≡ within step hit (length keys) (at name)
    near name = as_walk (length w.permissions) name ∙ ap (λ n. within step hit n (at name)) (sym (length-map w.permissions (λ e. e.0)))

    -- the walk from `least` has come to `name`, past `mark`
    pub record Climbed (least mark name : Name) (steps : ℕ) : Type 0 where
      pub walked : Walked step hit (at least) (at mark) (at name) steps

    pub foot : (least : Name) → Climbed least least least 0
    foot least = record { walked = begun step hit (at least) }

    row_above : (name : Name) (next : Option Name) → next ≡ option_map (λ row. row.parent) (permission_at (at name) w) → step (at name) ≡ option_map at next
    row_above name next is = on (permission_at (at name) w) ∙ ap (option_map at) (sym is)
      where
        on : (o : Option PermissionRow) → option_map (λ row. at row.parent) o ≡ option_map at (option_map (λ row. row.parent) o)
        on None = refl
        on (Some row) = refl

    pub climbed : (least mark name : Name) (steps after : ℕ) (next : Name) → after ≡ steps + 1 → Climbed least mark name steps → same_name name permission ≡ false → Some next ≡ option_map (λ row. row.parent) (permission_at (at name) w) → Climbed least mark next after
    climbed least mark name steps after next e c miss is = record { walked = stepped step hit (at least) (at mark) (at name) (at next) steps after e c.walked miss (row_above name (Some next) is) }

    pub marked : (least mark name : Name) (steps : ℕ) → Climbed least mark name steps → Climbed least name name steps
    marked least mark name steps c = record { walked = marking step hit (at least) (at mark) (at name) steps c.walked }

    -- what the walk comes to

    pub is_there : (least mark name : Name) (steps : ℕ) → Climbed least mark name steps → same_name name permission ≡ true → is_or_is_above actor permission least w ≡ true
    is_there least mark name steps c h = near least ∙ arrived step hit (eq_by_cmp level_order) level_exact level_itself keys known (at least) (at mark) (at name) steps c.walked h

    pub is_over : (least mark name : Name) (steps : ℕ) → Climbed least mark name steps → same_name name permission ≡ false → None ≡ option_map (λ row. row.parent) (permission_at (at name) w) → is_or_is_above actor permission least w ≡ false
    is_over least mark name steps c miss is = near least ∙ never step hit (at least) (at mark) (at name) steps c.walked (ended step hit (at name) miss (row_above name None is)) (length keys)

    pub is_round : (least mark name : Name) (steps : ℕ) (next : Name) → Climbed least mark name steps → same_name name permission ≡ false → Some next ≡ option_map (λ row. row.parent) (permission_at (at name) w) → next ≡ mark → is_or_is_above actor permission least w ≡ false
    is_round least mark name steps next c miss is back = near least ∙ went_round step hit (at least) (at mark) (at name) (at next) steps c.walked miss (row_above name (Some next) is) (ap at back) (length keys)

    pub is_long : (least mark name : Name) (steps : ℕ) → length w.permissions ≤ steps → Climbed least mark name steps → same_name name permission ≡ is_or_is_above actor permission least w
    is_long least mark name steps le c = exhausted step hit (eq_by_cmp level_order) level_exact level_itself keys known (at least) (at mark) (at name) steps (subst (λ n. n ≤ steps) (sym (length-map w.permissions (λ e. e.0))) le) c.walked ∙ sym (near least)

-- ---- how many permissions there are at most

permissions_billed : (ps : List (Level × PermissionRow)) → length ps ≤ sum_by (λ bill. bill.1) (flat_map permission_bills ps)
permissions_billed [] = omega arith
permissions_billed (p ∷ ps) = omega (arith, permissions_billed ps, sum_by-append (λ (bill : Name × ℕ). bill.1) (permission_bills p) (flat_map permission_bills ps))

pub few_permissions : (w : World) → length w.permissions ≤ used_by_all w
few_permissions w =
    let g = λ (bill : Name × ℕ). bill.1 in
    let a = flat_map account_bills w.accounts in
    let b = flat_map permission_bills w.permissions in
    let c = flat_map link_bills w.links in
    let d = flat_map table_bills w.tables in
    let e = flat_map row_bills w.rows in
    let f = flat_map (index_bills index64_size) w.index64 in
    let h = flat_map (index_bills index128_size) w.index128 in
    let k = flat_map (index_bills index256_size) w.index256 in
    omega (
      arith,
      permissions_billed w.permissions,
      sum_by-append g a b,
      sum_by-append g (a ++ b) c,
      sum_by-append g (a ++ b ++ c) d,
      sum_by-append g (a ++ b ++ c ++ d) e,
      sum_by-append g (a ++ b ++ c ++ d ++ e) f,
      sum_by-append g (a ++ b ++ c ++ d ++ e ++ f) h,
      sum_by-append g (a ++ b ++ c ++ d ++ e ++ f ++ h) k,
    )

pub one_name : (a b : Name) → same_name a b ≡ true → a ≡ b
one_name a b h = let e : a.0 ≡ b.0 = grind arith in λ i. record { 0 = e i }
