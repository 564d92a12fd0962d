-- Kinds are looked for in the order of their places.
use Rattle.std.proofs.Common.{slice_get, Some, ◌∷◌, [], List, inr, inl, ◌≡◌, ⊎_elim, ℕ, suc, ◌+◌, ◌<◌, ◌≤◌, length, refl, sym, ap, subst, ◌∙◌, arith}
use Rattle.std.proofs.lemmas.Bool.{cases_lt, cases_order}
use Rattle.ante_wtree.specs.Trees.{Tree}
use Rattle.ante_wvalid.specs.declared.kinds.ModuleRule.{ModuleRule}
use Rattle.ante_wvalid.specs.declared.kinds.ModuleRule.TheVariants as rule
use Rattle.ante_wvalid.specs.declared.kinds.InvalidKind.{InvalidKind}
use Rattle.ante_wvalid.specs.declared.kinds.InvalidKind.TheVariants as invalid
use Rattle.ante_wvalid.specs.declared.imports.ImportRule.{ImportRule}
use Rattle.ante_wvalid.specs.declared.imports.ImportRule.TheVariants as import_rule
use Rattle.ante_wvalid.specs.Modules.{Applies, Breaks, IsUntyped, HasApply, IsFirstInvalid, IsValid, Precedes, place, index_of, rule_place, imported}
use Rattle.ante_wvalid.specs.OperandStacks.{IsRefused}
use Rattle.ante_wvalid.specs.Refusals.{Clear, HasOneFirst}

pub clear_more : (m : Tree) (n : ℕ) → Clear m n → ((k : InvalidKind) → place k ≡ n → Applies m k → ⊥) → Clear m (suc n)
clear_more m n h g k lt a = ⊎_elim (λ less. h k less a) (λ more. g k (omega arith) a) (cases_lt (place k) n)

pub is_first : (m : Tree) (k : InvalidKind) → Clear m (place k) → Applies m k → ((j : InvalidKind) → place j ≡ place k → index_of j < index_of k → Applies m j → ⊥) → IsFirstInvalid m k
is_first m k c a h = (a, λ j p b. ⊎_elim (λ less. c j less b) (λ same. h j same.0 same.1 b) p)

-- ---- imports

abbrev pub import_kind : ImportRule → ℕ → InvalidKind
import_kind import_rule.Function index = invalid.ImportKind index
import_kind import_rule.Known index = invalid.UnknownImport index
import_kind import_rule.HostType index = invalid.ImportType index

abbrev pub import_place : ImportRule → ℕ
import_place import_rule.Function = 0
import_place import_rule.Known = 1
import_place import_rule.HostType = 2

is_import : (r : ImportRule) (k : InvalidKind) → place k ≡ import_place r → (index : ℕ) × (k ≡ import_kind r index)
is_import import_rule.Function (invalid.ImportKind index) e = (index, refl)
is_import import_rule.Function (invalid.UnknownImport index) e = absurd (omega (arith, e))
is_import import_rule.Function (invalid.ImportType index) e = absurd (omega (arith, e))
is_import import_rule.Function (invalid.Rule r) e = absurd (omega (arith, e))
is_import import_rule.Function (invalid.Body f) e = absurd (omega (arith, e))
is_import import_rule.Function invalid.NoApply e = absurd (omega (arith, e))
is_import import_rule.Known (invalid.ImportKind index) e = absurd (omega (arith, e))
is_import import_rule.Known (invalid.UnknownImport index) e = (index, refl)
is_import import_rule.Known (invalid.ImportType index) e = absurd (omega (arith, e))
is_import import_rule.Known (invalid.Rule r) e = absurd (omega (arith, e))
is_import import_rule.Known (invalid.Body f) e = absurd (omega (arith, e))
is_import import_rule.Known invalid.NoApply e = absurd (omega (arith, e))
is_import import_rule.HostType (invalid.ImportKind index) e = absurd (omega (arith, e))
is_import import_rule.HostType (invalid.UnknownImport index) e = absurd (omega (arith, e))
is_import import_rule.HostType (invalid.ImportType index) e = (index, refl)
is_import import_rule.HostType (invalid.Rule r) e = absurd (omega (arith, e))
is_import import_rule.HostType (invalid.Body f) e = absurd (omega (arith, e))
is_import import_rule.HostType invalid.NoApply e = absurd (omega (arith, e))

applies_import : (m : Tree) (r : ImportRule) (index : ℕ) → Applies m (import_kind r index) ≡ IsRefused m.types r m.imports index
applies_import m import_rule.Function index = refl
applies_import m import_rule.Known index = refl
applies_import m import_rule.HostType index = refl

index_is : (r : ImportRule) (index : ℕ) → index_of (import_kind r index) ≡ index
index_is import_rule.Function index = refl
index_is import_rule.Known index = refl
index_is import_rule.HostType index = refl

place_is : (r : ImportRule) (index : ℕ) → place (import_kind r index) ≡ import_place r
place_is import_rule.Function index = refl
place_is import_rule.Known index = refl
place_is import_rule.HostType index = refl

pub imports_met : (m : Tree) (r : ImportRule) → ((index : ℕ) → IsRefused m.types r m.imports index → ⊥) → Clear m (import_place r) → Clear m (suc (import_place r))
imports_met m r h c = clear_more m (import_place r) c (λ k e a.
    let i = is_import r k e in
    h i.0 (subst (λ A. A) (applies_import m r i.0) (subst (Applies m) i.1 a)))

pub import_first : (m : Tree) (r : ImportRule) (at : ℕ) → IsRefused m.types r m.imports at → ((k : ℕ) → k < at → IsRefused m.types r m.imports k → ⊥) → Clear m (import_place r) → IsFirstInvalid m (import_kind r at)
import_first m r at x h c = is_first m (import_kind r at) (subst (Clear m) (sym (place_is r at)) c) (subst (λ A. A) (sym (applies_import m r at)) x) (λ j e lt b.
    let i = is_import r j (e ∙ place_is r at) in
    h i.0 (omega (arith, lt, ap index_of i.1, index_is r i.0, index_is r at)) (subst (λ A. A) (applies_import m r i.0) (subst (Applies m) i.1 b)))

pub clear_none : (m : Tree) → Clear m 0
clear_none m k lt a = absurd (omega (arith, lt))

-- ---- rules

rule_below : (r : ModuleRule) → rule_place r < 11
rule_below rule.TypeIndex = omega arith
rule_below rule.Results = omega arith
rule_below rule.TwoTables = omega arith
rule_below rule.TwoMemories = omega arith
rule_below rule.Bounds = omega arith
rule_below rule.GlobalInit = omega arith
rule_below rule.ExportIndex = omega arith
rule_below rule.ExportTwice = omega arith
rule_below rule.Start = omega arith
rule_below rule.ElementIndex = omega arith
rule_below rule.SegmentMemory = omega arith

is_rule : (k : InvalidKind) → 3 ≤ place k → place k < 14 → (r : ModuleRule) × (k ≡ invalid.Rule r)
is_rule (invalid.ImportKind index) low high = absurd (omega (arith, low))
is_rule (invalid.UnknownImport index) low high = absurd (omega (arith, low))
is_rule (invalid.ImportType index) low high = absurd (omega (arith, low))
is_rule (invalid.Rule r) low high = (r, refl)
is_rule (invalid.Body f) low high = absurd (omega (arith, high))
is_rule invalid.NoApply low high = absurd (omega (arith, high))

pub rules_kept : (m : Tree) → ((r : ModuleRule) → Breaks m r → ⊥) → Clear m 3 → Clear m 14
rules_kept m h c k lt a = ⊎_elim (λ less. c k less a) (λ more. let r = is_rule k more lt in h r.0 (subst (Applies m) r.1 a)) (cases_lt (place k) 3)

pub rule_first : (m : Tree) (r : ModuleRule) → Breaks m r → ((s : ModuleRule) → rule_place s < rule_place r → Breaks m s → ⊥) → Clear m 3 → IsFirstInvalid m (invalid.Rule r)
rule_first m r x h c = (x, λ j p b. earlier j (sooner j p) b)
  where
    sooner : (j : InvalidKind) → Precedes j (invalid.Rule r) → place j < 3 + rule_place r
    sooner j p = ⊎_elim (λ less. less) (λ same. absurd (omega (arith, same.1))) p

    earlier : (j : InvalidKind) → place j < 3 + rule_place r → Applies m j → ⊥
    earlier j lt b = ⊎_elim (λ less. c j less b) (λ more.
        let s = is_rule j more (omega (arith, lt, rule_below r)) in
        h s.0 (omega (arith, lt, ap place s.1)) (subst (Applies m) s.1 b)) (cases_lt (place j) 3)

-- ---- bodies, and `apply`

is_body : (k : InvalidKind) → place k ≡ 14 → (f : ℕ) × (k ≡ invalid.Body f)
is_body (invalid.ImportKind index) e = absurd (omega (arith, e))
is_body (invalid.UnknownImport index) e = absurd (omega (arith, e))
is_body (invalid.ImportType index) e = absurd (omega (arith, e))
is_body (invalid.Rule r) e = absurd (omega (arith, e, rule_below r))
is_body (invalid.Body f) e = (f, refl)
is_body invalid.NoApply e = absurd (omega (arith, e))

pub bodies_typed : (m : Tree) → ((k : ℕ) → IsUntyped m k → ⊥) → Clear m 14 → Clear m 15
bodies_typed m h c = clear_more m 14 c (λ k e a. let f = is_body k e in let x = subst (Applies m) f.1 a in h x.0 x.2)

pub body_first : (m : Tree) (at : ℕ) → IsUntyped m at → ((k : ℕ) → k < at → IsUntyped m k → ⊥) → Clear m 14 → IsFirstInvalid m (invalid.Body (length (imported m.imports) + at))
body_first m at x h c = is_first m (invalid.Body (length (imported m.imports) + at)) c (at, refl, x) (λ j e lt b.
    let f = is_body j e in
    let y = subst (Applies m) f.1 b in
    h y.0 (omega (arith, lt, ap index_of f.1, y.1)) y.2)

is_no_apply : (k : InvalidKind) → 15 ≤ place k → k ≡ invalid.NoApply
is_no_apply (invalid.ImportKind index) e = absurd (omega (arith, e))
is_no_apply (invalid.UnknownImport index) e = absurd (omega (arith, e))
is_no_apply (invalid.ImportType index) e = absurd (omega (arith, e))
is_no_apply (invalid.Rule r) e = absurd (omega (arith, e, rule_below r))
is_no_apply (invalid.Body f) e = absurd (omega (arith, e))
is_no_apply invalid.NoApply e = refl

pub no_apply_first : (m : Tree) → (HasApply m → ⊥) → Clear m 15 → IsFirstInvalid m invalid.NoApply
no_apply_first m h c = is_first m invalid.NoApply c h (λ j e lt b. absurd (omega (arith, lt, ap index_of (is_no_apply j (omega (arith, e))))))

pub valid : (m : Tree) → HasApply m → Clear m 15 → IsValid m
valid m h c k a = ⊎_elim (λ less. c k less a) (λ more. subst (Applies m) (is_no_apply k more) a h) (cases_lt (place k) 15)

-- ---- one first kind

abbrev all_rules : List ModuleRule
all_rules = rule.TypeIndex ∷ rule.Results ∷ rule.TwoTables ∷ rule.TwoMemories ∷ rule.Bounds ∷ rule.GlobalInit ∷ rule.ExportIndex ∷ rule.ExportTwice ∷ rule.Start ∷ rule.ElementIndex ∷ rule.SegmentMemory ∷ []

rule_at : (r : ModuleRule) → slice_get all_rules (rule_place r) ≡ Some r
rule_at rule.TypeIndex = refl
rule_at rule.Results = refl
rule_at rule.TwoTables = refl
rule_at rule.TwoMemories = refl
rule_at rule.Bounds = refl
rule_at rule.GlobalInit = refl
rule_at rule.ExportIndex = refl
rule_at rule.ExportTwice = refl
rule_at rule.Start = refl
rule_at rule.ElementIndex = refl
rule_at rule.SegmentMemory = refl

some_is : {A : Type 0} {x y : A} → Some x ≡ Some y → x ≡ y
some_is h = cc

same_rule : (r s : ModuleRule) → rule_place r ≡ rule_place s → r ≡ s
same_rule r s e = some_is (sym (rule_at r) ∙ ap (slice_get all_rules) e ∙ rule_at s)

same_kind : (j k : InvalidKind) → place j ≡ place k → index_of j ≡ index_of k → j ≡ k
same_kind j (invalid.ImportKind index) e f = let r = is_import import_rule.Function j e in r.1 ∙ ap invalid.ImportKind (sym (ap index_of r.1) ∙ f)
same_kind j (invalid.UnknownImport index) e f = let r = is_import import_rule.Known j e in r.1 ∙ ap invalid.UnknownImport (sym (ap index_of r.1) ∙ f)
same_kind j (invalid.ImportType index) e f = let r = is_import import_rule.HostType j e in r.1 ∙ ap invalid.ImportType (sym (ap index_of r.1) ∙ f)
same_kind j (invalid.Rule r) e f =
    let s = is_rule j (omega (arith, e)) (omega (arith, e, rule_below r)) in
    s.1 ∙ ap invalid.Rule (same_rule s.0 r (omega (arith, e, ap place s.1)))
same_kind j (invalid.Body function) e f = let r = is_body j e in r.1 ∙ ap invalid.Body (sym (ap index_of r.1) ∙ f)
same_kind j invalid.NoApply e f = is_no_apply j (omega (arith, e))

pub one_first : (m : Tree) → HasOneFirst m
one_first m j k a b =
    ⊎_elim
    (λ e. ⊎_elim
    (λ f. same_kind j k e f)
    (λ f. ⊎_elim (λ lt. absurd (b.1 j (inr (e, lt)) a.0)) (λ gt. absurd (a.1 k (inr (sym e, gt)) b.0)) f)
    (cases_order (index_of j) (index_of k)))
    (λ e. ⊎_elim (λ lt. absurd (b.1 j (inl lt) a.0)) (λ gt. absurd (a.1 k (inl gt) b.0)) e)
    (cases_order (place j) (place k))
