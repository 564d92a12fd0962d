-- Validity is decided, and so it is told which codes are accepted.
use Rattle.std.proofs.Common.{◌≡◌, inl, inr, ⊎_elim, ℕ, ◌+◌, ◌<◌, Bool, true, false, T, length, Option, None, Some, slice_get, Result, Ok, Err, refl, sym, ap, subst, ◌∙◌}
use Rattle.std.specs.Bool.{Decides, passes}
use Rattle.std.specs.List.{list_any}
use Rattle.std.proofs.lemmas.Bool.Decides.{Decides-and, Decides-below_and, Decides-like}
use Rattle.ante_wtree.specs.declared.modules.FuncType.{FuncType}
use Rattle.ante_wtree.specs.Trees.{Tree, Body}
use Rattle.ante_wtree.specs.Types.{kinds_of, result_of}
use Rattle.ante_wdecode.specs.Decoding.{module_at}
use Rattle.ante_wdecode.specs.Rules.{Fault}
use Rattle.ante_wdecode.proofs.Order.{module_again, module_found}
use Rattle.ante_wvalid.specs.declared.kinds.InvalidKind.{InvalidKind}
use Rattle.ante_wvalid.specs.declared.kinds.InvalidKind.TheVariants as invalid
use Rattle.ante_wvalid.specs.Modules.{Applies, HasApply, IsFunctionTyped, IsValid, context_of, imported}
use Rattle.ante_wvalid.specs.Typing.{type_numbered}
use Rattle.ante_wvalid.proofs.Own.{IsCodeTyped, function_is}
use Rattle.ante_execution.specs.Codes.{Accepts, IsAccepted}
use Rattle.ante_accepts.specs.Accepting.{accepts, all_below, is_apply, is_body_typed, is_function_typed, is_import, is_typed_as, is_valid, is_valid_module}
use Rattle.ante_accepts.proofs.Deciding.{AtEach, each_decides, twice_decides}
use Rattle.ante_accepts.proofs.Imports.{IsImport, import_decides}
use Rattle.ante_accepts.proofs.Rules.{Keeps, apply_decides, rules_decide}
use Rattle.ante_accepts.proofs.Typing.{typing_decided}

-- ---- own functions

module _ (m : Tree) (at : ℕ) where
  body_decides : (t : FuncType) (b : Option Body) → Decides (is_body_typed m t b) ((code : Body) × (b ≡ Some code) × IsCodeTyped m t code)
  body_decides t None = (λ h. cc, λ p. let e = p.1 in cc)
  body_decides t (Some code) =
      let d = typing_decided (context_of m t.params code.locals (result_of t.results)) code.body (kinds_of (result_of t.results)) in
      (λ h. (code, refl, d.0 h), λ p. let e : p.0 ≡ code = cc in d.1 (subst (IsCodeTyped m t) e p.2))

  abbrev IsTypedAs : Option FuncType → Type 0
  IsTypedAs found = (t : FuncType) × (code : Body) × (found ≡ Some t) × (slice_get m.codes at ≡ Some code) × IsCodeTyped m t code

  as_decides : (found : Option FuncType) → Decides (is_typed_as m at found) (IsTypedAs found)
  as_decides None = (λ h. cc, λ p. let e = p.2 in cc)
  as_decides (Some t) = Decides-like (is_typed_as m at (Some t)) (λ p. (t, p.0, refl, p.1, p.2))
      (λ p. let e : p.0 ≡ t = cc in (p.1, p.3, subst (λ x. IsCodeTyped m x p.1) e p.4)) (body_decides t (slice_get m.codes at))

  numbered_decides : (number : Option ℕ) → slice_get m.functions at ≡ number → Decides (is_typed_as m at (type_numbered m.types number)) (IsFunctionTyped m at)
  numbered_decides None is = (λ h. cc, λ p. let e = sym is ∙ p.3 in cc)
  numbered_decides (Some n) is = Decides-like (is_typed_as m at (slice_get m.types n)) (λ p. (function_is m at n p.0 p.1 is p.2 p.3).0 p.4)
      (λ p. let e : p.0 ≡ n = let s = sym p.3 ∙ is in cc in (p.1, p.2, ap (slice_get m.types) (sym e) ∙ p.4, p.5, p.6)) (as_decides (slice_get m.types n))

  pub function_decides : Decides (is_function_typed m at) (IsFunctionTyped m at)
  function_decides = numbered_decides (slice_get m.functions at) refl

-- ---- modules

-- That no kind applies says of imports, functions and `apply` that nothing refutes them.
abbrev Unrefuted : Type 0 → Type 0
Unrefuted A = (A → ⊥) → ⊥

module _ (m : Tree) where
  abbrev AllTyped : ℕ → Type 0
  AllTyped n = (at : ℕ) → at < n → Unrefuted (IsFunctionTyped m at)

  abbrev Parts : Type 0
  Parts = AtEach (λ i. Unrefuted (IsImport m.types i)) m.imports × (Keeps m × (AllTyped (length m.functions) × (AllTyped (length m.codes) × Unrefuted (HasApply m))))

  all_typed : (n : ℕ) → Decides (all_below (is_function_typed m) n) (AllTyped n)
  all_typed n = Decides-below_and (is_function_typed m) (λ at. Unrefuted (IsFunctionTyped m at)) (all_below (is_function_typed m))
      (λ at. twice_decides (is_function_typed m at) (function_decides m at)) refl (λ k. refl) n

  none_applies : Parts → (k : InvalidKind) → Applies m k → ⊥
  none_applies p (invalid.ImportKind index) a = p.0 index a.0 a.1 (λ i. a.2 i.function)
  none_applies p (invalid.UnknownImport index) a = p.0 index a.0 a.1 (λ i. a.2 i.known)
  none_applies p (invalid.ImportType index) a = p.0 index a.0 a.1 (λ i. a.2 i.type)
  none_applies p (invalid.Rule r) a = p.1.0.each r a
  none_applies p (invalid.Body function) a = ⊎_elim (λ lt. p.1.1.0 a.0 lt a.2.1) (λ lt. p.1.1.1.0 a.0 lt a.2.1) a.2.0
  none_applies p invalid.NoApply a = p.1.1.1.1 a

  parts : IsValid m → Parts
  parts valid = (
    λ at i is n. valid (invalid.ImportKind at) (
      i,
      is,
      λ function. valid (invalid.UnknownImport at) (
        i,
        is,
        λ known. valid (invalid.ImportType at) (
          i,
          is,
          λ type.
              n (record { function = function; known = known; type = type }),
        ),
      ),
    ),
    (
      record { each = λ r. valid (invalid.Rule r) },
      (
        λ at lt n. valid (invalid.Body (length (imported m.imports) + at)) (at, refl, (inl lt, n)),
        (λ at lt n. valid (invalid.Body (length (imported m.imports) + at)) (at, refl, (inr lt, n)), valid invalid.NoApply),
      ),
    ),
  )

  valid_decides : Decides (is_valid m) (IsValid m)
  unfolding is_valid
  valid_decides = Decides-like (is_valid m) none_applies parts (
      Decides-and _ _ (each_decides (is_import m.types) (λ i. Unrefuted (IsImport m.types i)) (λ i. twice_decides (is_import m.types i) (import_decides m.types i)) m.imports)
      (Decides-and _ _ (rules_decide m)
      (Decides-and _ _ (all_typed (length m.functions))
      (Decides-and _ _ (all_typed (length m.codes)) (twice_decides (list_any (is_apply m) m.exports) (apply_decides m))))))

-- ---- codes

holds : (b : Bool) → T b → b ≡ true
holds true t = refl
holds false t = absurd t

pub accepted : Accepts accepts
unfolding accepts
accepted code = (to, from)
  where
    by : (r : Result Tree Fault) → module_at code ≡ r → is_valid_module r ≡ true → IsAccepted code
    by (Ok m) is h = (m, module_found code m is, (valid_decides m).0 h)
    by (Err fault) is h = cc

    to : T (is_valid_module (module_at code)) → IsAccepted code
    to t = by (module_at code) refl (holds (is_valid_module (module_at code)) t)

    from : IsAccepted code → T (is_valid_module (module_at code))
    from a = passes (is_valid_module (module_at code)) (ap is_valid_module (module_again code a.0 a.1) ∙ (valid_decides a.0).1 a.2)
