-- The rules for modules, each decided by its test.
use Rattle.std.proofs.Common.{◌≡◌, ◌⊎◌, ℕ, ◌==◌, ◌<◌, ◌≤◌, nat_lt, nat_le, ◌&&◌, ◌||◌, not, Bool, true, false, List, [], ◌∷◌, length, bytes_eq, codes, Any, Option, None, Some, refl, ap, subst, arith}
use Rattle.std.specs.Bool.{Decides}
use Rattle.std.specs.List.{list_all, list_any}
use Rattle.std.proofs.lemmas.Bool.Decides.{Decides-and, Decides-like, Decides-not, nat_tests}
use Rattle.std.proofs.lemmas.Slice.Eq.{bytes_eq-Decides}
use Rattle.ante_wmem.specs.Limits.{most_memory_pages}
use Rattle.ante_wtree.specs.declared.instructions.ValueKind.{ValueKind}
use Rattle.ante_wtree.specs.declared.instructions.ValueKind.TheVariants.{I32, I64}
use Rattle.ante_wtree.specs.declared.modules.Export.{Export}
use Rattle.ante_wtree.specs.declared.modules.ExportKind.{ExportKind}
use Rattle.ante_wtree.specs.declared.modules.ExportKind.TheVariants as export
use Rattle.ante_wtree.specs.declared.modules.Init.{Init}
use Rattle.ante_wtree.specs.declared.modules.Limits.{Limits}
use Rattle.ante_wtree.specs.Limits.{most_table_elements}
use Rattle.ante_wtree.specs.Trees.{Tree}
use Rattle.ante_wvalid.specs.declared.kinds.ModuleRule.{ModuleRule}
use Rattle.ante_wvalid.specs.declared.kinds.ModuleRule.TheVariants as rule
use Rattle.ante_wvalid.specs.Modules.{Breaks, HasApply, HasType, IsApply, IsConstant, OutOfBounds, Twice, constant_kind, count, function_types, is_there}
use Rattle.ante_accepts.specs.Accepting.{are_distinct, has_type, in_bounds, is_apply, is_constant, is_function, is_most, is_of_kind, keeps_rules, may_start}
use Rattle.ante_accepts.proofs.Deciding.{any_decides, neither_decide, none_decides, twice_decides}
use Rattle.ante_accepts.proofs.Imports.{has_type_decides}
use Rattle.ante_accepts.proofs.Stacks.{same_kind_decides}

-- ---- numbers

below_decides : (a b : ℕ) → Decides (nat_lt a b) (b ≤ a → ⊥)
below_decides a b = by (nat_lt a b) refl
  where
    by : (y : Bool) → nat_lt a b ≡ y → Decides y (b ≤ a → ⊥)
    by true e = let lt : a < b = grind (arith, nat_tests) in (λ t le. omega (arith, lt, le), λ n. refl)
    by false e = let le : b ≤ a = grind (arith, nat_tests) in (λ t. cc, λ n. absurd (n le))

least_decides : (a b : ℕ) → Decides (nat_le a b) (b < a → ⊥)
least_decides a b = by (nat_le a b) refl
  where
    by : (y : Bool) → nat_le a b ≡ y → Decides y (b < a → ⊥)
    by true e = let le : a ≤ b = grind (arith, nat_tests) in (λ t lt. omega (arith, lt, le), λ n. refl)
    by false e = let lt : b < a = grind (arith, nat_tests) in (λ t. cc, λ n. absurd (n lt))

-- ---- limits, constants

most_decides : (least : ℕ) (most : Option ℕ) → Decides (is_most least most) ((n : ℕ) × (most ≡ Some n) × (n < least) → ⊥)
most_decides least None = (λ t p. let e = p.1 in cc, λ n. refl)
most_decides least (Some most) = Decides-like (nat_le least most)
    (λ h p. let e : p.0 ≡ most = cc in h (subst (λ n. n < least) e p.2)) (λ h lt. h (most, refl, lt)) (least_decides least most)

bounds_decide : (bound : ℕ) (l : Limits) → Decides (in_bounds bound l) (OutOfBounds bound l → ⊥)
bounds_decide bound l = neither_decide (is_most l.least l.most) (nat_le l.least bound) (most_decides l.least l.most) (least_decides l.least bound)

kind_decides : (kind : ValueKind) (found : Option ValueKind) → Decides (is_of_kind kind found) (found ≡ Some kind)
kind_decides kind None = (λ t. cc, λ e. cc)
kind_decides kind (Some found) = let d = same_kind_decides found kind in (λ t. ap Some (d.0 t), λ e. d.1 cc)

constant_decides : (kind : ValueKind) (init : Init) → Decides (is_constant kind init) ((IsConstant kind init → ⊥) → ⊥)
constant_decides kind init = twice_decides (is_constant kind init) (kind_decides kind (constant_kind init))

-- ---- exports

distinct_decides : (es : List Export) → Decides (are_distinct es) (Twice es → ⊥)
distinct_decides [] = (λ t n. n, λ n. refl)
distinct_decides (e ∷ es) = neither_decide (list_all (λ d. not (bytes_eq d.name e.name)) es) (are_distinct es)
    (none_decides (λ d. not (bytes_eq d.name e.name)) (λ d. d.name ≡ e.name) (λ d. Decides-not (bytes_eq d.name e.name) (bytes_eq-Decides d.name e.name)) es)
    (distinct_decides es)

-- ---- the start, elements and segments

start_decides : (m : Tree) (start : Option ℕ) → Decides (may_start m start) ((f : ℕ) × (start ≡ Some f) × (HasType m.types (function_types m) f [] [] → ⊥) → ⊥)
start_decides m None = (λ t p. let e = p.1 in cc, λ n. refl)
start_decides m (Some f) = Decides-like (has_type m f [] [])
    (λ h p. let e : p.0 ≡ f = cc in h (subst (λ x. HasType m.types (function_types m) x [] [] → ⊥) e p.2)) (λ h n. h (f, refl, n))
    (twice_decides (has_type m f [] []) (has_type_decides m f [] []))

there_decides : {A : Type 0} (xs : List A) → Decides (is_there xs) (xs ≡ [] → ⊥)
there_decides [] = (λ t. cc, λ n. absurd (n refl))
there_decides (x ∷ xs) = (λ t e. cc, λ n. refl)

segment_decides : {A B : Type 0} (segments : List A) (memory : List B) → Decides (length segments == 0 || is_there memory) ((0 < length segments) × (memory ≡ []) → ⊥)
segment_decides segments memory = by (length segments == 0) refl
  where
    by : (b : Bool) → length segments == 0 ≡ b → Decides (b || is_there memory) ((0 < length segments) × (memory ≡ []) → ⊥)
    by true e = let none : length segments ≡ 0 = grind (arith, nat_tests) in (λ t p. omega (arith, none, p.0), λ n. refl)
    by false e =
        let some : 0 < length segments = grind (arith, nat_tests) in
        Decides-like (is_there memory) (λ h p. h p.1) (λ h empty. h (some, empty)) (there_decides memory)

-- ---- all rules

-- each rule is kept
pub record Keeps (m : Tree) : Type 0 where
  pub each : (r : ModuleRule) → Breaks m r → ⊥

abbrev Eleven : Tree → Type 0
Eleven m = (Breaks m rule.TypeIndex → ⊥) × ((Breaks m rule.Results → ⊥) × ((Breaks m rule.TwoTables → ⊥) × ((Breaks m rule.TwoMemories → ⊥) × ((Breaks m rule.Bounds → ⊥)
    × ((Breaks m rule.GlobalInit → ⊥) × ((Breaks m rule.ExportIndex → ⊥) × ((Breaks m rule.ExportTwice → ⊥) × ((Breaks m rule.Start → ⊥) × ((Breaks m rule.ElementIndex → ⊥)
    × (Breaks m rule.SegmentMemory → ⊥))))))))))

eleven_of : (m : Tree) → Eleven m → (r : ModuleRule) → Breaks m r → ⊥
eleven_of m p rule.TypeIndex = p.0
eleven_of m p rule.Results = p.1.0
eleven_of m p rule.TwoTables = p.1.1.0
eleven_of m p rule.TwoMemories = p.1.1.1.0
eleven_of m p rule.Bounds = p.1.1.1.1.0
eleven_of m p rule.GlobalInit = p.1.1.1.1.1.0
eleven_of m p rule.ExportIndex = p.1.1.1.1.1.1.0
eleven_of m p rule.ExportTwice = p.1.1.1.1.1.1.1.0
eleven_of m p rule.Start = p.1.1.1.1.1.1.1.1.0
eleven_of m p rule.ElementIndex = p.1.1.1.1.1.1.1.1.1.0
eleven_of m p rule.SegmentMemory = p.1.1.1.1.1.1.1.1.1.1

pub rules_decide : (m : Tree) → Decides (keeps_rules m) (Keeps m)
rules_decide m = Decides-like (keeps_rules m) (λ p. record { each = eleven_of m p }) (λ k. (
  k.each rule.TypeIndex,
  (
    k.each rule.Results,
    (
      k.each rule.TwoTables,
      (
        k.each rule.TwoMemories,
        (
          k.each rule.Bounds,
          (
            k.each rule.GlobalInit,
            (
              k.each rule.ExportIndex,
              (k.each rule.ExportTwice, (k.each rule.Start, (k.each rule.ElementIndex, k.each rule.SegmentMemory))),
            ),
          ),
        ),
      ),
    ),
  ),
)) (
    Decides-and _ _ (none_decides (λ number. nat_lt number (length m.types)) (λ number. length m.types ≤ number) (λ number. below_decides number (length m.types)) m.functions)
    (Decides-and _ _ (none_decides (λ t. nat_le (length t.results) 1) (λ t. 1 < length t.results) (λ t. least_decides (length t.results) 1) m.types)
    (Decides-and _ _ (least_decides (length m.table) 1)
    (Decides-and _ _ (least_decides (length m.memory) 1)
    (Decides-and _ _ (neither_decide _ _ (none_decides (in_bounds most_table_elements) (OutOfBounds most_table_elements) (bounds_decide most_table_elements) m.table)
    (none_decides (in_bounds most_memory_pages) (OutOfBounds most_memory_pages) (bounds_decide most_memory_pages) m.memory))
    (Decides-and _ _ (neither_decide _ _ (none_decides (λ g. is_constant g.kind g.init) (λ g. IsConstant g.kind g.init → ⊥) (λ g. constant_decides g.kind g.init) m.globals)
    (neither_decide _ _ (none_decides (λ e. is_constant I32 e.offset) (λ e. IsConstant I32 e.offset → ⊥) (λ e. constant_decides I32 e.offset) m.elements)
    (none_decides (λ s. is_constant I32 s.offset) (λ s. IsConstant I32 s.offset → ⊥) (λ s. constant_decides I32 s.offset) m.segments)))
    (Decides-and _ _ (none_decides (λ e. nat_lt e.index (count m e.kind)) (λ e. count m e.kind ≤ e.index) (λ e. below_decides e.index (count m e.kind)) m.exports)
    (Decides-and _ _ (distinct_decides m.exports)
    (Decides-and _ _ (start_decides m m.start)
    (Decides-and _ _ (none_decides (λ e. is_there m.table && list_all (λ f. nat_lt f (length (function_types m))) e.functions)
    (λ e. (m.table ≡ []) ⊎ Any (λ f. length (function_types m) ≤ f) e.functions)
    (λ e. neither_decide _ _ (there_decides m.table) (none_decides (λ f. nat_lt f (length (function_types m))) (λ f. length (function_types m) ≤ f) (λ f. below_decides f (length (function_types m))) e.functions))
    m.elements)
    (segment_decides m.segments m.memory)))))))))))

-- ---- `apply`

function_decides : (k : ExportKind) → Decides (is_function k) (k ≡ export.Function)
function_decides export.Function = (λ t. refl, λ e. refl)
function_decides export.Table = (λ t. cc, λ e. cc)
function_decides export.Memory = (λ t. cc, λ e. cc)
function_decides export.Global = (λ t. cc, λ e. cc)

pub apply_decides : (m : Tree) → Decides (list_any (is_apply m) m.exports) (HasApply m)
apply_decides m = any_decides (is_apply m) (IsApply m.types (function_types m)) (λ e. Decides-like (is_apply m e) (λ p. (p.0, p.1.0, p.1.1)) (λ p. (p.0, (p.1, p.2)))
    (Decides-and (bytes_eq e.name (codes "apply")) (is_function e.kind && has_type m e.index (I64 ∷ I64 ∷ I64 ∷ []) []) (bytes_eq-Decides e.name (codes "apply"))
    (Decides-and (is_function e.kind) (has_type m e.index (I64 ∷ I64 ∷ I64 ∷ []) []) (function_decides e.kind) (has_type_decides m e.index (I64 ∷ I64 ∷ I64 ∷ []) [])))) m.exports
