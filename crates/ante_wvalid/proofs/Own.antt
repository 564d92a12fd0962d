-- Own functions, in a module and in the plain one.
use Rattle.std.proofs.Common.{◌≡◌, ◌↔◌, ◌⊎◌, ℕ, ◌+◌, ◌-◌, ◌<◌, ◌≤◌, ◌++◌, Bool, List, [], ◌∷◌, length, map, Option, Some, slice_get, refl, sym, ap, subst, ◌∙◌, arith, length-append}
use Rattle.std.specs.Option.{option_map}
use Rattle.std.proofs.lemmas.List.{length-map}
use Rattle.std.proofs.lemmas.Option.{slice_get-map}
use Rattle.ante_wtree.specs.declared.instructions.ValueKind.{ValueKind}
use Rattle.ante_wtree.specs.declared.modules.FuncType.{FuncType}
use Rattle.ante_wtree.specs.declared.modules.Global.{Global}
use Rattle.ante_wtree.specs.declared.modules.Code.{Code}
use Rattle.ante_wtree.specs.Trees.{Tree, Body, body_of}
use Rattle.ante_wtree.specs.Types.{kinds_of, result_of}
use Rattle.ante_wvalid.specs.Typing.{Context, Typed}
use Rattle.ante_wvalid.specs.Modules.{IsFunctionTyped, context_of, function_types, is_there}

some_is : {A : Type 0} {x y : A} → Some x ≡ Some y → x ≡ y
some_is h = cc

pub body_at : (codes : List Code) (at : ℕ) (code : Code) → slice_get codes at ≡ Some code → slice_get (map body_of codes) at ≡ Some (body_of code)
body_at codes at code e = slice_get-map body_of codes at ∙ ap (option_map body_of) e

-- the body is typed in the function's context
abbrev pub IsCodeTyped : Tree → FuncType → Body → Type 0
IsCodeTyped m t b = Typed (context_of m t.params b.locals (result_of t.results)) b.body [] (kinds_of (result_of t.results))

pub function_is : (m : Tree) (at number : ℕ) (t : FuncType) (b : Body) → slice_get m.functions at ≡ Some number → slice_get m.types number ≡ Some t → slice_get m.codes at ≡ Some b →
    IsCodeTyped m t b ↔ IsFunctionTyped m at
function_is m at number t b e f g = (
  λ h. (number, t, b, e, f, g, h),
  λ x.
      let n : x.0 ≡ number = some_is (sym x.3 ∙ e) in
      let s : x.1 ≡ t = some_is (sym x.4 ∙ ap (slice_get m.types) n ∙ f) in
      let c : x.2 ≡ b = some_is (sym x.5 ∙ g) in
      subst (λ z. IsCodeTyped m z b) s (subst (λ z. IsCodeTyped m x.1 z) c x.6),
)

pub context_is : (m : Tree) (types : List FuncType) (functions : List ℕ) (table memory : Bool) (globals : List Global) (params locals params' locals' : List ValueKind) (result result' : Option ValueKind) →
    types ≡ m.types → functions ≡ function_types m → table ≡ is_there m.table → memory ≡ is_there m.memory → globals ≡ m.globals → params ≡ params' → locals ≡ locals' → result ≡ result' →
    (e : Context → Option ValueKind → Type 0) →
    e (record { types = types; functions = functions; table = table; memory = memory; globals = globals; locals = params ++ locals; labels = result ∷ []; result = result }) result ≡ e (context_of m params' locals' result') result'
context_is m types functions table memory globals params locals params' locals' result result' a b c d f g h i e = rw (a, b, c, d, f, g, h, i) refl

pub own_number : (imported own all : List ℕ) (at n : ℕ) → all ≡ imported ++ own → n ≡ length all - length own + at → n ≡ length imported + at
own_number imported own all at n e f = omega (arith, f, ap length e, length-append imported own)

pub fewer_own : (imported own all : List ℕ) → all ≡ imported ++ own → length own ≤ length all
fewer_own imported own all e = omega (arith, ap length e, length-append imported own)

pub codes_there : (own : List ℕ) (codes : List Code) (at : ℕ) → (at < length own) ⊎ (at < length (map body_of codes)) → (at < length own) ⊎ (at < length codes)
codes_there own codes at h = subst (λ n. (at < length own) ⊎ (at < n)) (length-map codes body_of) h
