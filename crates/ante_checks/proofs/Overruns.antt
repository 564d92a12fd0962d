-- The first account that is over its quota, in the map of usage and in the world.
use Rattle.std.proofs.Common.{◌≡◌, ℕ, ◌==◌, ◌&&◌, nat_lt, ℤ, pos, negsuc, int_lt, Bool, true, false, not, cond, T, List, [], ◌∷◌, Option, None, Some, option_map, refl, sym, ap, subst, ◌∙◌}
use Rattle.std.specs.Cmp.{IsTotalOrder, signed_Decides, tied_itself, unsigned_Decides}
use Rattle.std.specs.List.{AllByRecursion}
use Rattle.std.specs.Option.{option_or}
use Rattle.std.specs.Ordering.{int_eq, is_eq, is_lt, ordering_reverse}
use Rattle.std.specs.declared.cmp.Ordering.{Ordering}
use Rattle.std.specs.declared.cmp.Ordering.TheVariants.{Less, Equal, Greater}
use Rattle.std.specs.FinMap.Entries.{below_all, find, is_sorted}
use Rattle.ante_pack.specs.declared.names.Name.{Name}
use Rattle.ante_state.specs.Orders.{name_order}
use Rattle.ante_ram.specs.declared.parts.Share.{Share}
use Rattle.ante_ram.specs.Usage.{exceeds, first_over, is_over, shown_share, used_of}
use Rattle.ante_store.specs.Bills.{quotas_of}
use Rattle.ante_undo.proofs.Entries.{first, second}
use Rattle.ante_types.specs.declared.failure.Failure.{Failure}
use Rattle.ante_types.specs.declared.failure.Failure.TheVariants as failure
use Rattle.ante_types.specs.World.{World, used}
use Rattle.ante_execution.specs.Refusals.{first_refusal}
use Rattle.ante_execution.specs.Transactions.{memory_refusal, quota_refusal}

-- ---- each entry of a map is found at its key

is_below : (o : Ordering) → T (is_lt o) → o ≡ Less
is_below Less below = refl
is_below Equal below = absurd below
is_below Greater below = absurd below

module _ (o : IsTotalOrder name_order) where
  -- an entry before those that are found hides none of them
  still_found : (e : Name × Share) (es rest : List (Name × Share)) → T (below_all name_order e.0 rest) → AllByRecursion (λ x. find name_order x.0 es ≡ Some x.1) rest →
      AllByRecursion (λ x. find name_order x.0 (e ∷ es) ≡ Some x.1) rest
  still_found e es [] below all = tt
  still_found e es (x ∷ rest) below all =
      let above : name_order x.0 e.0 ≡ Greater = o.antisymm x.0 e.0 ∙ ap ordering_reverse (is_below (name_order e.0 x.0) (first _ _ below)) in
      (ap (λ r. cond (is_eq r) (Some e.1) (find name_order x.0 es)) above ∙ all.0, still_found e es rest (second _ _ below) all.1)

  all_found : (es : List (Name × Share)) → T (is_sorted name_order es) → AllByRecursion (λ x. find name_order x.0 es ≡ Some x.1) es
  all_found [] sorted = tt
  all_found (e ∷ es) sorted =
      (ap (λ r. cond (is_eq r) (Some e.1) (find name_order e.0 es)) (tied_itself o e.0), still_found e es es (first _ _ sorted) (all_found es (second _ _ sorted)))

-- ---- the refusal of one account

abbrev pub exceeded : Name × ℕ × ℤ → Failure
exceeded e = failure.RamExceeded e.0 e.1 e.2

-- a quota is exceeded where the usage is more, unless it is none
below_same : (q : ℕ) → negsuc q ≡ negsuc 0 → q ≡ 0
below_same q e = cc

differs : (x : Bool) → (x ≡ true → ⊥) → x ≡ false
differs true none = absurd (none refl)
differs false none = refl

by_number : (q : ℕ) (b : Bool) → q == 0 ≡ b → not b ≡ not (int_eq (negsuc q) (negsuc 0))
by_number q true e = ap not (sym ((signed_Decides (negsuc q) (negsuc 0)).1 (ap negsuc ((unsigned_Decides q 0).0 e))))
by_number q false e = ap not (sym (differs (int_eq (negsuc q) (negsuc 0)) (λ same.
    let f : q == 0 ≡ true = (unsigned_Decides q 0).1 (below_same q ((signed_Decides (negsuc q) (negsuc 0)).0 same)) in cc)))

by_quota : (q n : ℕ) → exceeds n (negsuc q) ≡ not (int_eq (negsuc q) (negsuc 0))
by_quota q n = by_number q (q == 0) refl

over_quota : (quota : ℤ) (n : ℕ) → int_eq quota (negsuc 0) ≡ false → exceeds n quota ≡ int_lt quota (pos n)
over_quota (pos q) n some = refl
over_quota (negsuc q) n some = by_quota q n ∙ ap not some

no_quota : (quota : ℤ) (n : ℕ) → int_eq quota (negsuc 0) ≡ true → exceeds n quota ≡ false
no_quota (pos q) n none = cc
no_quota (negsuc q) n none = by_quota q n ∙ ap not none

module _ (old new : World) (before : List (Name × Share)) (was : (account : Name) → used_of (find name_order account before) ≡ used old account) where
  abbrev Uses : Name × Share → Type 0
  Uses e = e.1.used ≡ used new e.0

  one_over : (e : Name × Share) → Uses e → int_eq e.1.quota (negsuc 0) ≡ false →
      cond (is_over name_order before (shown_share e)) (Some (exceeded (shown_share e))) None ≡ quota_refusal old new (e.0, e.1.quota)
  one_over e uses some =
      ap (λ n. cond (nat_lt n e.1.used && exceeds e.1.used e.1.quota) (Some (failure.RamExceeded e.0 e.1.used e.1.quota)) None) (was e.0)
      ∙ ap (λ n. cond (nat_lt (used old e.0) n && exceeds n e.1.quota) (Some (failure.RamExceeded e.0 n e.1.quota)) None) uses
      ∙ ap (λ b. cond (nat_lt (used old e.0) (used new e.0) && b) (Some (failure.RamExceeded e.0 (used new e.0) e.1.quota)) None) (over_quota e.1.quota (used new e.0) some)

  or_next : (b : Bool) (x : Name × ℕ × ℤ) (rest : Option (Name × ℕ × ℤ)) →
      option_map exceeded (cond b (Some x) rest) ≡ option_or (cond b (Some (exceeded x)) None) (option_map exceeded rest)
  or_next true x rest = refl
  or_next false x rest = refl

  over_false : (b : Bool) (x : Name × ℕ × ℤ) (rest : Option (Name × ℕ × ℤ)) (c : Bool) → c ≡ false → cond (b && c) (Some x) rest ≡ rest
  over_false true x rest c e = ap (λ c. cond c (Some x) rest) e
  over_false false x rest c e = refl

  one_first : (e : Name × Share) (es : List (Name × Share)) → Uses e →
      option_map exceeded (first_over name_order before es) ≡ first_refusal (quota_refusal old new) (quotas_of es) → (b : Bool) → int_eq e.1.quota (negsuc 0) ≡ b →
      option_map exceeded (first_over name_order before (e ∷ es)) ≡ first_refusal (quota_refusal old new) (cond b (quotas_of es) ((e.0, e.1.quota) ∷ quotas_of es))
  one_first e es uses rest true none =
      ap (option_map exceeded) (over_false (nat_lt (used_of (find name_order e.0 before)) e.1.used) (shown_share e) (first_over name_order before es)
      (exceeds e.1.used e.1.quota) (no_quota e.1.quota e.1.used none)) ∙ rest
  one_first e es uses rest false some =
      or_next (is_over name_order before (shown_share e)) (shown_share e) (first_over name_order before es)
      ∙ ap (λ o. option_or o (option_map exceeded (first_over name_order before es))) (one_over e uses some)
      ∙ ap (option_or (quota_refusal old new (e.0, e.1.quota))) rest

  firsts : (es : List (Name × Share)) → AllByRecursion Uses es → option_map exceeded (first_over name_order before es) ≡ first_refusal (quota_refusal old new) (quotas_of es)
  firsts [] all = refl
  firsts (e ∷ es) all = one_first e es all.0 (firsts es all.1) (int_eq e.1.quota (negsuc 0)) refl

  module _ (o : IsTotalOrder name_order) (now : List (Name × Share)) (sorted : T (is_sorted name_order now)) (is : (account : Name) → used_of (find name_order account now) ≡ used new account)
      (quotas : quotas_of now ≡ new.quotas) where
    all_use : (es : List (Name × Share)) → AllByRecursion (λ x. find name_order x.0 now ≡ Some x.1) es → AllByRecursion Uses es
    all_use [] all = tt
    all_use (e ∷ es) all = (sym (ap used_of all.0) ∙ is e.0, all_use es all.1)

    pub first_refused : option_map exceeded (first_over name_order before now) ≡ memory_refusal old new
    first_refused = firsts now (all_use now (all_found o now sorted)) ∙ ap (first_refusal (quota_refusal old new)) quotas

-- the same, in any order of names that is theirs
pub first_refused_in : (cmp : Name → Name → Ordering) → cmp ≡ name_order → IsTotalOrder cmp → (old new : World) (before now : List (Name × Share)) →
    ((account : Name) → used_of (find name_order account before) ≡ used old account) → ((account : Name) → used_of (find name_order account now) ≡ used new account) →
    quotas_of now ≡ new.quotas → T (is_sorted cmp now) → (over : Option (Name × ℕ × ℤ)) → over ≡ first_over cmp before now →
    option_map exceeded over ≡ memory_refusal old new
first_refused_in cmp same total old new before now was is quotas sorted over found =
    ap (option_map exceeded) (found ∙ ap (λ c. first_over c before now) same)
    ∙ first_refused old new before was (subst IsTotalOrder same total) now (subst (λ c. T (is_sorted c now)) same sorted) is quotas
