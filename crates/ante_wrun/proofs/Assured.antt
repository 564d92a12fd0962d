-- A valid module has what making an instance doesn't ask for.
use Rattle.std.proofs.Common.{◌≡◌, ℕ, zero, suc, ◌+◌, ◌<◌, ◌≤◌, List, [], ◌∷◌, length, None, Some, slice_get, refl, arith, ⊎_elim, inl, inr}
use Rattle.std.specs.List.{AllByRecursion}
use Rattle.std.proofs.lemmas.Bool.{cases_lt}
use Rattle.std.proofs.lemmas.Option.{slice_get_within}
use Rattle.ante_wtree.specs.declared.instructions.ValueKind.{ValueKind}
use Rattle.ante_wtree.specs.declared.instructions.ValueKind.TheVariants.{I32}
use Rattle.ante_wtree.specs.declared.modules.ImportKind.{ImportKind}
use Rattle.ante_wtree.specs.declared.modules.ImportKind.TheVariants as import
use Rattle.ante_wtree.specs.declared.modules.Import.{Import}
use Rattle.ante_wtree.specs.declared.modules.Init.{Init}
use Rattle.ante_wtree.specs.Trees.{Tree}
use Rattle.ante_wvalid.specs.declared.kinds.ModuleRule.TheVariants as rule
use Rattle.ante_wvalid.specs.declared.kinds.InvalidKind.TheVariants as invalid
use Rattle.ante_wvalid.specs.Modules.{IsValid, IsFunctionTyped, IsConstant, constant_kind, imported}
use Rattle.ante_wmeaning.specs.Instantiation.{host_place}
use Rattle.ante_wrun.specs.GrantedByValidity.{IsFunctionOf, Links, IsLiteral}
use Rattle.ante_wmeaning.proofs.Programs.{any_at, sure}

all_at : {A : Type 0} (P : A → Type 0) (xs : List A) → ((n : ℕ) (x : A) → slice_get xs n ≡ Some x → P x) → AllByRecursion P xs
all_at P [] h = tt
all_at P (x ∷ xs) h = (h zero x refl, all_at P xs (λ n y e. h (suc n) y e))

no_kind : (kind : ValueKind) (i : Init) → constant_kind i ≡ None → IsConstant kind i → ⊥
no_kind kind i none some = cc

module _ (m : Tree) (valid : IsValid m) where
  link : (k : ℕ) (i : Import) → slice_get m.imports k ≡ Some i → Links m.types i
  link k i at = by_kind i.kind refl
    where
      by_kind : (o : ImportKind) → i.kind ≡ o → IsFunctionOf m.types o × (host_place i.name ≡ None → ⊥)
      by_kind (import.Function n) e = let s = sure m valid k i at n e in (slice_get_within m.types n s.0.0 s.0.1, λ none. cc)
      by_kind (import.Table limits) e = absurd (valid (invalid.ImportKind k) (i, at, λ f. cc))
      by_kind (import.Memory limits) e = absurd (valid (invalid.ImportKind k) (i, at, λ f. cc))
      by_kind (import.Global kind changes) e = absurd (valid (invalid.ImportKind k) (i, at, λ f. cc))

  pub imports_link : AllByRecursion (Links m.types) m.imports
  imports_link = all_at (Links m.types) m.imports link

  pub types_there : AllByRecursion (λ kind. kind < length m.types) m.functions
  types_there = all_at (λ kind. kind < length m.types) m.functions (λ n kind at. ⊎_elim (λ lt. lt)
      (λ le. absurd (valid (invalid.Rule rule.TypeIndex) (any_at (λ k. length m.types ≤ k) m.functions n kind at le)))
      (cases_lt kind (length m.types)))

  -- a place with a function alone, or with a body alone, is untyped
  pub as_many_bodies : length m.functions ≡ length m.codes
  as_many_bodies = ⊎_elim
      (λ lt. absurd (valid (invalid.Body (length (imported m.imports) + length m.functions))
      (length m.functions, refl, (inr lt, λ (t : IsFunctionTyped m (length m.functions)). let within = slice_get_within m.functions (length m.functions) t.0 t.3 in omega (arith, within)))))
      (λ le. ⊎_elim
      (λ lt. absurd (valid (invalid.Body (length (imported m.imports) + length m.codes))
      (length m.codes, refl, (inl lt, λ (t : IsFunctionTyped m (length m.codes)). let within = slice_get_within m.codes (length m.codes) t.2 t.5 in omega (arith, within)))))
      (λ ge. omega (arith, le, ge))
      (cases_lt (length m.codes) (length m.functions)))
      (cases_lt (length m.functions) (length m.codes))

  pub literal_globals : AllByRecursion (λ g. IsLiteral g.init) m.globals
  literal_globals = all_at (λ g. IsLiteral g.init) m.globals (λ n g at none. valid (invalid.Rule rule.GlobalInit)
      (inl (any_at (λ x. IsConstant x.kind x.init → ⊥) m.globals n g at (no_kind g.kind g.init none))))

  pub literal_elements : AllByRecursion (λ e. IsLiteral e.offset) m.elements
  literal_elements = all_at (λ e. IsLiteral e.offset) m.elements (λ n e at none. valid (invalid.Rule rule.GlobalInit)
      (inr (inl (any_at (λ x. IsConstant I32 x.offset → ⊥) m.elements n e at (no_kind I32 e.offset none)))))

  pub literal_segments : AllByRecursion (λ s. IsLiteral s.offset) m.segments
  literal_segments = all_at (λ s. IsLiteral s.offset) m.segments (λ n s at none. valid (invalid.Rule rule.GlobalInit)
      (inr (inr (any_at (λ x. IsConstant I32 x.offset → ⊥) m.segments n s at (no_kind I32 s.offset none)))))
