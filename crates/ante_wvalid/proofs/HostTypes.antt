-- The type that an import's name asks for is one.
use Rattle.std.proofs.Common.{◌≡◌, ◌↔◌, ℕ, List, Option, None, Some, slice_get, refl, sym, ap, subst, ◌∙◌}
use Rattle.ante_wtree.specs.declared.instructions.ValueKind.{ValueKind}
use Rattle.ante_wtree.specs.declared.modules.FuncType.{FuncType}
use Rattle.ante_wtree.specs.declared.modules.Import.{Import}
use Rattle.ante_wtree.specs.declared.modules.ImportKind.TheVariants as import
use Rattle.ante_wtree.specs.Intrinsics.{name_at, type_at}
use Rattle.ante_wtree.specs.Types.{kinds_of}
use Rattle.ante_wvalid.specs.Modules.{HostType, HasHostType}
use Rattle.ante_wvalid.specs.OperandStacks.{Tells}

abbrev Type' : Type 0
Type' = List ValueKind × Option ValueKind

some_is : {A : Type 0} {x y : A} → Some x ≡ Some y → x ≡ y
some_is h = cc

pub tells_found : (name : List ℕ) (host : ℕ) (found : Option Type') → ((n : ℕ) → (Some host ≡ Some n) ↔ (name_at n ≡ Some name)) → found ≡ type_at host → Tells name found
tells_found name host found h e params gives = (
  λ f. (host, (h host).0 refl, sym e ∙ f),
  λ t. e ∙ ap type_at (some_is ((h t.0).1 t.1)) ∙ t.2,
)

pub tells_none : (name : List ℕ) → ((n : ℕ) → (None ≡ Some n) ↔ (name_at n ≡ Some name)) → Tells name None
tells_none name h params gives = (λ f. cc, λ t. let e = (h t.0).1 t.1 in cc)

same_number : {m n : ℕ} → import.Function m ≡ import.Function n → m ≡ n
same_number h = cc

pub has_none : (types : List FuncType) (i : Import) → Tells i.name None → HasHostType types i → ⊥
has_none types i h x = let e = (h x.1.params x.2).1 x.5 in cc

pub has_found : (types : List FuncType) (i : Import) (number : ℕ) (t : FuncType) (params : List ValueKind) (gives : Option ValueKind) →
    i.kind ≡ import.Function number → slice_get types number ≡ Some t → Tells i.name (Some (params, gives)) → ((t.params ≡ params) × (t.results ≡ kinds_of gives)) ↔ HasHostType types i
has_found types i number t params gives k g h = (
  λ p. (number, t, gives, k, g, subst (λ x. HostType i.name x gives) (sym p.0) ((h params gives).0 refl), p.1),
  λ x.
      let n : x.0 ≡ number = same_number (sym x.3 ∙ k) in
      let s : x.1 ≡ t = some_is (sym x.4 ∙ ap (slice_get types) n ∙ g) in
      let e = some_is ((h x.1.params x.2).1 x.5) in
      (ap (λ z. z.params) (sym s) ∙ sym (ap (λ z. z.0) e), ap (λ z. z.results) (sym s) ∙ x.6 ∙ ap kinds_of (sym (ap (λ z. z.1) e))),
)
