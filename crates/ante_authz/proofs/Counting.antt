-- How the sum of weights goes on from permission to permission, where what is wanted is counted down.
use Rattle.std.proofs.Common.{◌≡◌, ℕ, zero, suc, ◌+◌, ◌-◌, ◌<◌, nat_le, bytes_eq, ◌||◌, true, false, if◌then◌else◌, List, [], ◌∷◌, Option, Some, None, is_some, true≢false, refl, sym, ap, ◌∙◌, arith}
use Rattle.std.specs.List.{list_any, sum_by}
use Rattle.std.specs.Cmp.Lexicographic.{nat_list_eq_equiv}
use Rattle.std.proofs.lemmas.List.Sums.{sum_by-cons}
use Rattle.ante_pack.specs.declared.names.Name.{Name}
use Rattle.ante_pack.specs.declared.authority.KeyWeight.{KeyWeight}
use Rattle.ante_pack.specs.declared.authority.Level.{Level}
use Rattle.ante_pack.specs.declared.authority.LevelWeight.{LevelWeight}
use Rattle.ante_state.specs.declared.objects.PermissionRow.{PermissionRow}
use Rattle.ante_types.specs.World.{World}
use Rattle.ante_calls.specs.Accounts.{permission_at}
use Rattle.ante_execution.specs.declared.kinds.Weighed.{Weighed}
use Rattle.ante_execution.specs.declared.kinds.Weighed.TheVariants as weighed
use Rattle.ante_execution.specs.Authorities.{visiting, adding, add_levels, is_code_level, weigh, satisfied_within}
use Rattle.ante_authz.specs.Gains.{gained}

reached : (threshold total : ℕ) → nat_le threshold total ≡ nat_le (threshold - total) 0
reached threshold total = grind arith

pub wanting : (wanted : ℕ) → 0 < wanted → nat_le wanted 0 ≡ false
wanting wanted h = grind arith

module _ (S : Level → ℕ → Weighed × ℕ) where
  counted : (threshold total : ℕ) (ls : List LevelWeight) (visits : ℕ) → add_levels S threshold total ls visits ≡ add_levels S (threshold - total) 0 ls visits
  counted threshold total [] visits = ap (λ b. if b then (weighed.Yes, visits) else (weighed.No, visits)) (reached threshold total)
  counted threshold total (l ∷ ls) visits = whole (λ t n v. counted t n ls v) (S l.level visits)
    where
      rest : ((t n v : ℕ) → add_levels S t n ls v ≡ add_levels S (t - n) 0 ls v) → (r : Weighed × ℕ) → adding r l.weight (λ weight left. add_levels S threshold (total + weight) ls left) ≡ adding r l.weight (λ weight left. add_levels S (threshold - total) (0 + weight) ls left)
      rest again (weighed.Yes, v) = again threshold (total + l.weight) v ∙ ap (λ n. add_levels S n 0 ls v) (omega arith) ∙ sym (again (threshold - total) (0 + l.weight) v)
      rest again (weighed.No, v) = again threshold (total + 0) v ∙ ap (λ n. add_levels S n 0 ls v) (omega arith) ∙ sym (again (threshold - total) (0 + 0) v)
      rest again (weighed.Spent, v) = refl

      whole : ((t n v : ℕ) → add_levels S t n ls v ≡ add_levels S (t - n) 0 ls v) → (r : Weighed × ℕ) → (if nat_le threshold total then (weighed.Yes, visits) else adding r l.weight (λ weight left. add_levels S threshold (total + weight) ls left)) ≡ (if nat_le (threshold - total) 0 then (weighed.Yes, visits) else adding r l.weight (λ weight left. add_levels S (threshold - total) (0 + weight) ls left))
      whole again r = ap (λ b. if b then (weighed.Yes, visits) else adding r l.weight (λ weight left. add_levels S threshold (total + weight) ls left)) (reached threshold total) ∙ ap (λ x. if nat_le (threshold - total) 0 then (weighed.Yes, visits) else x) (rest again r)

  -- one permission more
  pub gains : (wanted gain visits left : ℕ) (found : Weighed) (l : LevelWeight) (ls : List LevelWeight) → 0 < wanted → (found, left) ≡ S l.level visits → gained found l.weight ≡ Some gain → add_levels S wanted 0 (l ∷ ls) visits ≡ add_levels S (wanted - gain) 0 ls left
  gains wanted gain visits left found l ls h is g =
      ap (λ b. if b then (weighed.Yes, visits) else adding (S l.level visits) l.weight (λ weight left. add_levels S wanted (0 + weight) ls left)) (wanting wanted h)
      ∙ ap (λ r. adding r l.weight (λ weight left. add_levels S wanted (0 + weight) ls left)) (sym is)
      ∙ on found g
    where
      value : (a b : ℕ) → Some a ≡ Some b → a ≡ b
      value a b e = ap (λ o. elim o as (λ _. ℕ) [ None ↦ 0 | Some x ↦ x ]) e

      on : (f : Weighed) → gained f l.weight ≡ Some gain → adding (f, left) l.weight (λ weight left. add_levels S wanted (0 + weight) ls left) ≡ add_levels S (wanted - gain) 0 ls left
      on weighed.Yes e = counted wanted (0 + l.weight) ls left ∙ ap (λ n. add_levels S n 0 ls left) (omega (arith, value _ _ e))
      on weighed.No e = counted wanted (0 + 0) ls left ∙ ap (λ n. add_levels S n 0 ls left) (omega (arith, value _ _ e))
      on weighed.Spent e = absurd (true≢false (sym (ap is_some e)))

  pub spends : (wanted visits left : ℕ) (found : Weighed) (l : LevelWeight) (ls : List LevelWeight) → 0 < wanted → (found, left) ≡ S l.level visits → gained found l.weight ≡ None → add_levels S wanted 0 (l ∷ ls) visits ≡ (weighed.Spent, left)
  spends wanted visits left found l ls h is g =
      ap (λ b. if b then (weighed.Yes, visits) else adding (S l.level visits) l.weight (λ weight left. add_levels S wanted (0 + weight) ls left)) (wanting wanted h)
      ∙ ap (λ r. adding r l.weight (λ weight left. add_levels S wanted (0 + weight) ls left)) (sym is)
      ∙ on found g
    where
      on : (f : Weighed) → gained f l.weight ≡ None → adding (f, left) l.weight (λ weight left. add_levels S wanted (0 + weight) ls left) ≡ (weighed.Spent, left)
      on weighed.Yes e = absurd (true≢false (ap is_some e))
      on weighed.No e = absurd (true≢false (ap is_some e))
      on weighed.Spent e = refl

-- ---- one visit

pub visited : (visits : ℕ) (go : ℕ → Weighed × ℕ) → 0 < visits → visiting visits go ≡ go (visits - 1)
visited zero go h = absurd (omega (arith, h))
visited (suc n) go h = ap go (omega arith)

-- what is wanted goes down key by key
pub less_wanted : (f : KeyWeight → ℕ) (wanted weight : ℕ) (k : KeyWeight) (ks : List KeyWeight) → weight ≡ f k → (wanted - weight) - sum_by f ks ≡ wanted - sum_by f (k ∷ ks)
less_wanted f wanted weight k ks h = omega (arith, h, sum_by-cons f k ks)

pub given_either : (k : List ℕ) (keys : List (List ℕ)) → list_any (λ y. bytes_eq y k) keys ≡ list_any (bytes_eq k) keys
given_either k [] = refl
given_either k (y ∷ ys) = ap (λ b. b || list_any (λ z. bytes_eq z k) ys) (nat_list_eq_equiv.symm y k) ∙ ap (λ b. bytes_eq k y || b) (given_either k ys)

-- ---- one permission

module _ (w : World) (keys : List (List ℕ)) (code : Option Name) where
  pub no_visits : (levels : ℕ) (level : Level) (visits : ℕ) → visits ≡ 0 → satisfied_within w keys code levels level visits ≡ (weighed.Spent, visits)
  no_visits zero level zero h = refl
  no_visits (suc levels) level zero h = refl
  no_visits levels level (suc visits) h = absurd (omega (arith, h))

  pub too_deep : (levels : ℕ) (level : Level) (visits : ℕ) → levels ≡ 0 → 0 < visits → satisfied_within w keys code levels level visits ≡ (weighed.No, visits - 1)
  too_deep zero level visits h v = visited visits _ v
  too_deep (suc levels) level visits h v = absurd (omega (arith, h))

  within_more : (levels : ℕ) (level : Level) (visits : ℕ) → 0 < levels → 0 < visits → satisfied_within w keys code levels level visits
      ≡ (if is_code_level w keys code code level then (weighed.Yes, visits - 1) else weigh w keys code (satisfied_within w keys code (levels - 1)) (permission_at level w) (visits - 1))
  within_more zero level visits h v = absurd (omega (arith, h))
  within_more (suc n) level visits h v = visited visits _ v ∙ ap (λ k. if is_code_level w keys code code level then (weighed.Yes, visits - 1) else weigh w keys code (satisfied_within w keys code k) (permission_at level w) (visits - 1)) (omega arith)

  pub by_code : (levels : ℕ) (level : Level) (visits : ℕ) → 0 < levels → 0 < visits → is_code_level w keys code code level ≡ true → satisfied_within w keys code levels level visits ≡ (weighed.Yes, visits - 1)
  by_code levels level visits h v c = within_more levels level visits h v ∙ ap (λ b. if b then (weighed.Yes, visits - 1) else weigh w keys code (satisfied_within w keys code (levels - 1)) (permission_at level w) (visits - 1)) c

  by_row : (levels : ℕ) (level : Level) (visits : ℕ) (row : Option PermissionRow) → 0 < levels → 0 < visits → is_code_level w keys code code level ≡ false → permission_at level w ≡ row → satisfied_within w keys code levels level visits ≡ weigh w keys code (satisfied_within w keys code (levels - 1)) row (visits - 1)
  by_row levels level visits row h v c r =
      within_more levels level visits h v
      ∙ ap (λ b. if b then (weighed.Yes, visits - 1) else weigh w keys code (satisfied_within w keys code (levels - 1)) (permission_at level w) (visits - 1)) c
      ∙ ap (λ o. weigh w keys code (satisfied_within w keys code (levels - 1)) o (visits - 1)) r

  pub not_there : (levels : ℕ) (level : Level) (visits : ℕ) → 0 < levels → 0 < visits → is_code_level w keys code code level ≡ false → permission_at level w ≡ None → satisfied_within w keys code levels level visits ≡ (weighed.No, visits - 1)
  not_there levels level visits h v c r = by_row levels level visits None h v c r

  pub by_weights : (levels : ℕ) (level : Level) (visits wanted : ℕ) (row : PermissionRow) → 0 < levels → 0 < visits → is_code_level w keys code code level ≡ false → permission_at level w ≡ Some row
      → wanted ≡ row.authority.threshold - sum_by (λ k. if list_any (bytes_eq k.key) keys then k.weight else 0) row.authority.keys
      → satisfied_within w keys code levels level visits ≡ add_levels (satisfied_within w keys code (levels - 1)) wanted 0 row.authority.accounts (visits - 1)
  by_weights levels level visits wanted row h v c r e =
      by_row levels level visits (Some row) h v c r
      ∙ counted (satisfied_within w keys code (levels - 1)) row.authority.threshold (sum_by (λ k. if list_any (bytes_eq k.key) keys then k.weight else 0) row.authority.keys) row.authority.accounts (visits - 1)
      ∙ ap (λ n. add_levels (satisfied_within w keys code (levels - 1)) n 0 row.authority.accounts (visits - 1)) (sym e)
