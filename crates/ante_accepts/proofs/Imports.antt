-- Imports: functions that hosts give, with the types that they have there.
use Rattle.std.proofs.Common.{◌≡◌, ℕ, zero, suc, ◌&&◌, List, [], ◌∷◌, map, codes, bytes_eq, Any, Option, None, Some, slice_get, refl, sym, ap, subst, ◌∙◌, arith}
use Rattle.std.specs.Bool.{Decides}
use Rattle.std.specs.Option.{option_map}
use Rattle.std.proofs.lemmas.Bool.Decides.{Decides-and, Decides-like}
use Rattle.std.proofs.lemmas.Option.{slice_get-map}
use Rattle.std.proofs.lemmas.Slice.Eq.{bytes_eq-Decides}
use Rattle.ante_wtree.specs.declared.instructions.ValueKind.{ValueKind}
use Rattle.ante_wtree.specs.declared.modules.FuncType.{FuncType}
use Rattle.ante_wtree.specs.declared.modules.Import.{Import}
use Rattle.ante_wtree.specs.declared.modules.ImportKind.{ImportKind}
use Rattle.ante_wtree.specs.declared.modules.ImportKind.TheVariants as import
use Rattle.ante_wtree.specs.Intrinsics.{HostFunction, host_functions, name_at}
use Rattle.ante_wtree.specs.Trees.{Tree}
use Rattle.ante_wtree.specs.Types.{kinds_of, same_kind, same_kinds}
use Rattle.ante_wvalid.specs.Modules.{HasHostType, HasType, IsFunction, IsKnown, function_types}
use Rattle.ante_wvalid.specs.Typing.{type_numbered}
use Rattle.ante_accepts.specs.Accepting.{has_type, host_has, is_host, is_import, is_type, number_of}
use Rattle.ante_accepts.proofs.Deciding.{any_decides}
use Rattle.ante_accepts.proofs.Stacks.{same_kind_decides}

-- ---- types

pub same_kinds_decides : (js ks : List ValueKind) → Decides (same_kinds js ks) (js ≡ ks)
same_kinds_decides [] [] = (λ t. refl, λ e. refl)
same_kinds_decides [] (k ∷ ks) = (λ t. cc, λ e. cc)
same_kinds_decides (j ∷ js) [] = (λ t. cc, λ e. cc)
same_kinds_decides (j ∷ js) (k ∷ ks) = Decides-like (same_kind j k && same_kinds js ks) (λ p i. p.0 i ∷ p.1 i) (λ e. (cc, cc))
    (Decides-and (same_kind j k) (same_kinds js ks) (same_kind_decides j k) (same_kinds_decides js ks))

module _ (params results : List ValueKind) where
  abbrev IsType : Option FuncType → Type 0
  IsType found = (t : FuncType) × (found ≡ Some t) × (t.params ≡ params) × (t.results ≡ results)

  type_decides : (found : Option FuncType) → Decides (is_type params results found) (IsType found)
  type_decides None = (λ t. cc, λ p. let e = p.1 in cc)
  type_decides (Some t) = Decides-like (same_kinds t.params params && same_kinds t.results results)
      (λ p. (t, refl, p.0, p.1)) (λ p. let e : p.0 ≡ t = cc in (ap (λ (x : FuncType). x.params) (sym e) ∙ p.2, ap (λ (x : FuncType). x.results) (sym e) ∙ p.3))
      (Decides-and (same_kinds t.params params) (same_kinds t.results results) (same_kinds_decides t.params params) (same_kinds_decides t.results results))

pub has_type_decides : (m : Tree) (f : ℕ) (params results : List ValueKind) → Decides (has_type m f params results) (HasType m.types (function_types m) f params results)
has_type_decides m f params results = type_decides params results (type_numbered m.types (slice_get (function_types m) f))

-- ---- the functions of hosts

-- the host's function has this name and this type
pub record IsHost (i : Import) (t : FuncType) (h : HostFunction) : Type 0 where
  pub name : h.name ≡ i.name
  pub params : h.params ≡ t.params
  pub results : t.results ≡ kinds_of h.result

host_decides : (i : Import) (t : FuncType) (h : HostFunction) → Decides (is_host i t h) (IsHost i t h)
host_decides i t h = Decides-like (is_host i t h)
    (λ p. record { name = p.0; params = p.1.0; results = p.1.1 }) (λ p. (p.name, (p.params, p.results)))
    (Decides-and (bytes_eq h.name i.name) (same_kinds h.params t.params && same_kinds t.results (kinds_of h.result)) (bytes_eq-Decides h.name i.name)
    (Decides-and (same_kinds h.params t.params) (same_kinds t.results (kinds_of h.result)) (same_kinds_decides h.params t.params) (same_kinds_decides t.results (kinds_of h.result))))

-- a function of a list by its place
get_any : {A : Type 0} (P : A → Type 0) (xs : List A) → Any P xs → (at : ℕ) × (x : A) × (slice_get xs at ≡ Some x) × P x
get_any P [] (k, x, lt, e, p) = absurd (omega (arith, lt))
get_any P (y ∷ xs) (zero, x, lt, e, p) = (0, y, refl, subst P (sym e) p)
get_any P (y ∷ xs) (suc k, x, lt, e, p) = let r = get_any P xs (k, x, omega arith, e, p) in (suc r.0, r.1, r.2, r.3)

any_get : {A : Type 0} (P : A → Type 0) (xs : List A) (at : ℕ) (x : A) → slice_get xs at ≡ Some x → P x → Any P xs
any_get P [] at x is p = cc
any_get P (y ∷ xs) zero x is p = let e : y ≡ x = cc in (0, y, omega arith, refl, subst P (sym e) p)
any_get P (y ∷ xs) (suc at) x is p = let r = any_get P xs at x is p in (suc r.0, r.1, omega (arith, r.2), r.3, r.4)

module _ (hosts : List HostFunction) where
  abbrev Name : ℕ → List ℕ → Type 0
  Name host name = slice_get (map (λ f. f.name) hosts) host ≡ Some name

  abbrev HasThatType : ℕ → List ValueKind × Option ValueKind → Type 0
  HasThatType host t = slice_get (map (λ f. (f.params, f.result)) hosts) host ≡ Some t

  named : (host : ℕ) (h : HostFunction) → slice_get hosts host ≡ Some h → Name host h.name × HasThatType host (h.params, h.result)
  named host h is =
      (slice_get-map (λ f. f.name) hosts host ∙ ap (option_map (λ f. f.name)) is, slice_get-map (λ f. (f.params, f.result)) hosts host ∙ ap (option_map (λ f. (f.params, f.result))) is)

  by_name : (host : ℕ) (name : List ℕ) (t : List ValueKind × Option ValueKind) → Name host name → HasThatType host t →
      (h : HostFunction) × (slice_get hosts host ≡ Some h) × (h.name ≡ name) × ((h.params, h.result) ≡ t)
  by_name host name t n k =
      by (slice_get hosts host) refl (sym (slice_get-map (λ f. f.name) hosts host) ∙ n) (sym (slice_get-map (λ f. (f.params, f.result)) hosts host) ∙ k)
    where
      by : (found : Option HostFunction) → slice_get hosts host ≡ found → option_map (λ f. f.name) found ≡ Some name → option_map (λ f. (f.params, f.result)) found ≡ Some t →
          (h : HostFunction) × (slice_get hosts host ≡ Some h) × (h.name ≡ name) × ((h.params, h.result) ≡ t)
      by None is d e = cc
      by (Some h) is d e = (h, is, cc, cc)

-- ---- imports

-- what is asked of an import
pub record IsImport (types : List FuncType) (i : Import) : Type 0 where
  pub function : IsFunction i
  pub known : IsKnown i
  pub type : HasHostType types i

function_is : (k : ImportKind) (n : ℕ) → number_of k ≡ Some n → k ≡ import.Function n
function_is (import.Function number) n e = ap import.Function cc
function_is (import.Table limits) n e = cc
function_is (import.Memory limits) n e = cc
function_is (import.Global kind changes) n e = cc

-- a function of some number whose type is there
abbrev Numbered : List FuncType → Import → FuncType → Type 0
Numbered types i t = (n : ℕ) × (number_of i.kind ≡ Some n) × (slice_get types n ≡ Some t)

numbered : (types : List FuncType) (number : Option ℕ) (t : FuncType) → type_numbered types number ≡ Some t → (n : ℕ) × (number ≡ Some n) × (slice_get types n ≡ Some t)
numbered types None t e = cc
numbered types (Some n) t e = (n, refl, e)

module _ (types : List FuncType) (i : Import) where
  import_found : (t : FuncType) → Numbered types i t → i.module ≡ codes "env" → (h : HostFunction) (host : ℕ) → slice_get host_functions host ≡ Some h → IsHost i t h → IsImport types i
  import_found t n env h host at is =
      let both = named host_functions host h at in
      let kind : i.kind ≡ import.Function n.0 = function_is i.kind n.0 n.1 in
      let name : name_at host ≡ Some i.name = both.0 ∙ ap Some is.name in
      record {
        function = (n.0, kind);
        known = (env, (host, name));
        type = (n.0, t, h.result, kind, n.2, (host, name, both.1 ∙ ap (λ p. Some (p, h.result)) is.params), is.results);
      }

  found_import : IsImport types i → (t : FuncType) × Numbered types i t × (i.module ≡ codes "env") × Any (IsHost i t) host_functions
  found_import p =
      let x = p.type in
      let t = x.1 in
      let b = by_name host_functions x.5.0 i.name (t.params, x.2) x.5.1 x.5.2 in (
        t,
        (x.0, ap number_of x.3, x.4),
        p.known.0,
        any_get (IsHost i t) host_functions x.5.0 b.0 b.1 (record {
          name = b.2;
          params = ap (λ (y : List ValueKind × Option ValueKind). y.0) b.3;
          results = x.6 ∙ ap kinds_of (sym (ap (λ (y : List ValueKind × Option ValueKind). y.1) b.3));
        }),
      )

  abbrev found : Option FuncType
  found = type_numbered types (number_of i.kind)

  -- a host's function is there for the type
  abbrev HasHost : Option FuncType → Type 0
  HasHost f = (t : FuncType) × (f ≡ Some t) × Any (IsHost i t) host_functions

  has_host_decides : (f : Option FuncType) → Decides (host_has i f) (HasHost f)
  has_host_decides None = (λ t. cc, λ p. let e = p.1 in cc)
  has_host_decides (Some t) = Decides-like (host_has i (Some t)) (λ a. (t, refl, a)) (λ p. let e : p.0 ≡ t = cc in subst (λ x. Any (IsHost i x) host_functions) e p.2)
      (any_decides (is_host i t) (IsHost i t) (host_decides i t) host_functions)

  pub import_decides : Decides (is_import types i) (IsImport types i)
  import_decides = Decides-like (is_import types i) to from
      (Decides-and (bytes_eq i.module (codes "env")) (host_has i found) (bytes_eq-Decides i.module (codes "env")) (has_host_decides found))
    where
      to : (i.module ≡ codes "env") × HasHost found → IsImport types i
      to (env, (t, is, any)) =
          let n = numbered types (number_of i.kind) t is in
          let h = get_any (IsHost i t) host_functions any in
          import_found t n env h.1 h.0 h.2 h.3

      from : IsImport types i → (i.module ≡ codes "env") × HasHost found
      from p = let f = found_import p in
          (f.2, (f.0, ap (type_numbered types) f.1.1 ∙ f.1.2, f.3))
