-- The function that a valid module exports as `apply` is none of the host's: no host function takes three i64 and gives nothing.
use Rattle.std.proofs.Common.{◌≡◌, ℕ, zero, suc, ◌<◌, Bool, true, false, not, ◌&&◌, cond, List, [], ◌∷◌, ◌++◌, length, Option, None, Some, slice_get, refl, sym, ap, subst, ◌∙◌, arith, inl, inr}
use Rattle.std.specs.Prelude.{codes, slice_index_or, find, is_none, Any}
use Rattle.std.specs.List.{list_all}
use Rattle.std.specs.Str.{bytes_eq}
use Rattle.std.specs.Option.{option_map}
use Rattle.std.proofs.lemmas.Slice.Eq.{bytes_eq-Decides}
use Rattle.ante_wtree.specs.declared.instructions.ValueKind.{ValueKind}
use Rattle.ante_wtree.specs.declared.instructions.ValueKind.TheVariants.{I64}
use Rattle.ante_wtree.specs.declared.modules.FuncType.{FuncType}
use Rattle.ante_wtree.specs.declared.modules.Import.{Import}
use Rattle.ante_wtree.specs.declared.modules.ExportKind.{ExportKind}
use Rattle.ante_wtree.specs.declared.modules.ExportKind.TheVariants as export
use Rattle.ante_wtree.specs.declared.modules.Export.{Export}
use Rattle.ante_wtree.specs.Intrinsics.{types as host_types, type_at}
use Rattle.ante_wtree.specs.Trees.{Tree, Body}
use Rattle.ante_wvalid.specs.declared.kinds.ModuleRule.TheVariants as rule
use Rattle.ante_wvalid.specs.declared.kinds.InvalidKind.TheVariants as invalid
use Rattle.ante_wtree.specs.Types.{kinds_of, same_kinds}
use Rattle.ante_wvalid.specs.Typing.{type_numbered}
use Rattle.ante_wvalid.specs.Modules.{function_of, imported, function_types, HasType, HostType, HasHostType, IsApply, Twice, IsValid}
use Rattle.ante_wmeaning.specs.Configurations.{Given}
use Rattle.ante_wmeaning.specs.HostConditions.{IsHosts}
use Rattle.ante_wmeaning.specs.Instantiation.{given_as, given_functions, own, own_functions, program_in, is_function, named_apply, apply_in}

-- the parameters of `apply`
abbrev pub three : List ValueKind
three = I64 ∷ I64 ∷ I64 ∷ []

-- ---- the types of the host's functions

abbrev is_type_of_apply : List ValueKind × Option ValueKind → Bool
is_type_of_apply t = same_kinds t.0 three && is_none t.1

none_is : list_all (λ t. not (is_type_of_apply t)) host_types ≡ true
none_is = refl

left_true : (a b : Bool) → (a && b) ≡ true → a ≡ true
left_true true b h = refl
left_true false b h = cc

right_true : (a b : Bool) → (a && b) ≡ true → b ≡ true
right_true true b h = h
right_true false b h = cc

all_at : {A : Type 0} (p : A → Bool) (xs : List A) (n : ℕ) (x : A) → list_all p xs ≡ true → slice_get xs n ≡ Some x → p x ≡ true
all_at p [] n x h e = cc
all_at p (y ∷ ys) zero x h e = let is : y ≡ x = cc in subst (λ z. p z ≡ true) is (left_true (p y) (list_all p ys) h)
all_at p (y ∷ ys) (suc n) x h e = all_at p ys n x (right_true (p y) (list_all p ys) h) e

no_host : (host : ℕ) → type_at host ≡ Some (three, None) → ⊥
no_host host h =
    let e : not (is_type_of_apply (three, None)) ≡ true = all_at (λ t. not (is_type_of_apply t)) host_types host (three, None) none_is h in
    cc

-- hosts give a function of some name this type
abbrev IsHostKind : FuncType → Type 0
IsHostKind t = (name : List ℕ) × (result : Option ValueKind) × HostType name t.params result × (t.results ≡ kinds_of result)

not_hosts_kind : (name : List ℕ) (result : Option ValueKind) → kinds_of result ≡ [] → HostType name three result → ⊥
not_hosts_kind name None e h = no_host h.0 h.2
not_hosts_kind name (Some k) e h = cc

not_host_kind : (t : FuncType) → t.params ≡ three → t.results ≡ [] → IsHostKind t → ⊥
not_host_kind t p r h = not_hosts_kind h.0 h.1 (sym h.3 ∙ r) (subst (λ ps. HostType h.0 ps h.1) p h.2)

-- ---- a function of the host's in the program has a type that hosts give

own_is_own : (o : Option FuncType) (b : Body) (kind : FuncType) (number : ℕ) → own o b ≡ Given kind number → ⊥
own_is_own None b kind number h = cc
own_is_own (Some t) b kind number h = cc

pub none_given : (types : List FuncType) (kinds : List ℕ) (bodies : List Body) (f : ℕ) (kind : FuncType) (number : ℕ) →
    slice_get (own_functions types kinds bodies) f ≡ Some (Given kind number) → ⊥
none_given types [] bodies f kind number h = cc
none_given types (k ∷ ks) [] f kind number h = cc
none_given types (k ∷ ks) (b ∷ bs) zero kind number h = own_is_own (slice_get types k) b kind number (cc)
none_given types (k ∷ ks) (b ∷ bs) (suc f) kind number h = none_given types ks bs f kind number h

given_kind : (types : List FuncType) (imports : List Import) (kinds : List ℕ) (bodies : List Body) (f : ℕ) (kind : FuncType) (number : ℕ) →
    slice_get (given_functions types imports ++ own_functions types kinds bodies) f ≡ Some (Given kind number) →
    ((k : ℕ) (i : Import) → slice_get imports k ≡ Some i → (HasHostType types i → ⊥) → ⊥) →
    ((t : FuncType) → type_numbered types (slice_get (imported imports ++ kinds) f) ≡ Some t → IsHostKind t → ⊥) → ⊥
given_kind types [] kinds bodies f kind number h v go = none_given types kinds bodies f kind number h
given_kind types (i ∷ is) kinds bodies zero kind number h v go = v zero i refl
    (λ x. go x.1 (subst (λ k. type_numbered types (slice_get ((function_of k ++ imported is) ++ kinds) zero) ≡ Some x.1) (sym x.3) x.4) (i.name, x.2, x.5, x.6))
given_kind types (i ∷ is) kinds bodies (suc f) kind number h v go = v zero i refl
    (λ x. given_kind types is kinds bodies f kind number
    (subst (λ k. slice_get ((given_as types i.name k ++ given_functions types is) ++ own_functions types kinds bodies) (suc f) ≡ Some (Given kind number)) x.3 h)
    (λ k j e. v (suc k) j e)
    (λ t e. go t (subst (λ k. type_numbered types (slice_get ((function_of k ++ imported is) ++ kinds) (suc f)) ≡ Some t) (sym x.3) e)))

-- ---- the export

abbrev named : Export → Bool
named e = bytes_eq e.name (codes "apply")

abbrev tests : Export → Bool
tests e = bytes_eq e.name (codes "apply") && is_function e.kind

is_function_kind : (k : ExportKind) → k ≡ export.Function → is_function k ≡ true
is_function_kind k e = ap is_function e

both_true : (a b : Bool) → a ≡ true → b ≡ true → (a && b) ≡ true
both_true true true h k = refl
both_true true false h k = cc
both_true false b h k = cc

passes : (types : List FuncType) (functions : List ℕ) (e : Export) → IsApply types functions e → tests e ≡ true
passes types functions e a = both_true (bytes_eq e.name (codes "apply")) (is_function e.kind) ((bytes_eq-Decides e.name (codes "apply")).1 a.0) (is_function_kind e.kind a.1)

some_is : {A : Type 0} (x y : A) → Some x ≡ Some y → x ≡ y
some_is x y h = cc

found_apply : (types : List FuncType) (functions : List ℕ) (es : List Export) → (Twice es → ⊥) → (k : ℕ) (x : Export) → k < length es → slice_index_or es k x ≡ x →
    IsApply types functions x → (f : ℕ) → option_map (λ e. e.index) (find tests es) ≡ Some f → HasType types functions f three []
found_apply types functions [] twice k x lt at a f h = absurd (omega arith)
found_apply types functions (e ∷ es) twice k x lt at a f h =
    head (tests e) refl k lt at (λ j l i g. found_apply types functions es (λ t. twice (inr t)) j x l i a f g)
  where
    found : (b : Bool) → tests e ≡ b → option_map (λ e. e.index) (cond b (Some e) (find tests es)) ≡ Some f
    found b s = subst (λ c. option_map (λ (e : Export). e.index) (cond c (Some e) (find tests es)) ≡ Some f) s h

    head : (b : Bool) → tests e ≡ b → (k : ℕ) → k < length (e ∷ es) → slice_index_or (e ∷ es) k x ≡ x →
        ((j : ℕ) → j < length es → slice_index_or es j x ≡ x → option_map (λ e. e.index) (find tests es) ≡ Some f → HasType types functions f three []) → HasType types functions f three []
    head true s zero lt at rest = subst (λ i. HasType types functions i three []) (ap (λ (e : Export). e.index) (sym at) ∙ some_is e.index f (found true s)) a.2
    head true s (suc j) lt at rest =
        let name : e.name ≡ codes "apply" = (bytes_eq-Decides e.name (codes "apply")).0 (left_true (bytes_eq e.name (codes "apply")) (is_function e.kind) s) in
        absurd (twice (inl (j, x, omega arith, at, a.0 ∙ sym name)))
    head false s zero lt at rest = let t : tests e ≡ true = subst (λ z. tests z ≡ true) (sym at) (passes types functions x a) in cc
    head false s (suc j) lt at rest = rest j (omega arith) at (found false s)

pub apply_is_own : (m : Tree) → IsValid m → (f : ℕ) → apply_in m ≡ Some f → IsHosts (program_in m) f → ⊥
apply_is_own m valid f e h = valid invalid.NoApply (λ (any : Any (IsApply m.types (function_types m)) m.exports).
    let has = found_apply m.types (function_types m) m.exports (λ t. valid (invalid.Rule rule.ExportTwice) t) any.0 any.1 any.2 any.3 any.4 f e in
    given_kind m.types m.imports m.functions m.codes f h.0 h.1 h.2
    (λ k i at no. valid (invalid.ImportType k) (i, at, no))
    (λ t at host. let is : has.0 ≡ t = some_is has.0 t (sym has.1 ∙ at) in not_host_kind t (ap (λ (z : FuncType). z.params) (sym is) ∙ has.2) (ap (λ (z : FuncType). z.results) (sym is) ∙ has.3) host))

-- it is there, and takes three i64
pub apply_typed : (m : Tree) → IsValid m → (f : ℕ) → apply_in m ≡ Some f → (HasType m.types (function_types m) f three [] → ⊥) → ⊥
apply_typed m valid f e not' = valid invalid.NoApply (λ (any : Any (IsApply m.types (function_types m)) m.exports).
    not' (found_apply m.types (function_types m) m.exports (λ t. valid (invalid.Rule rule.ExportTwice) t) any.0 any.1 any.2 any.3 any.4 f e))

none_found : (es : List Export) (k : ℕ) (x : Export) → k < length es → slice_index_or es k x ≡ x → tests x ≡ true → option_map (λ e. e.index) (find tests es) ≡ None → ⊥
none_found [] k x lt at t h = absurd (omega arith)
none_found (e ∷ es) k x lt at t h = head (tests e) refl k lt at (λ j l i g. none_found es j x l i t g)
  where
    none : (b : Bool) → tests e ≡ b → option_map (λ e. e.index) (cond b (Some e) (find tests es)) ≡ None
    none b s = subst (λ c. option_map (λ (e : Export). e.index) (cond c (Some e) (find tests es)) ≡ None) s h

    head : (b : Bool) → tests e ≡ b → (k : ℕ) → k < length (e ∷ es) → slice_index_or (e ∷ es) k x ≡ x →
        ((j : ℕ) → j < length es → slice_index_or es j x ≡ x → option_map (λ e. e.index) (find tests es) ≡ None → ⊥) → ⊥
    head true s k lt at rest = let never = none true s in cc
    head false s zero lt at rest = let passed : tests e ≡ true = subst (λ z. tests z ≡ true) (sym at) t in cc
    head false s (suc j) lt at rest = rest j (omega arith) at (none false s)

-- what is among these exports, and isn't the first, is among the others
later : (P : Export → Type 0) (e : Export) (es : List Export) → Any P (e ∷ es) → (P e → ⊥) → Any P es
later P e es any other = at any.0 any.2 any.3
  where
    at : (k : ℕ) → k < length (e ∷ es) → slice_index_or (e ∷ es) k any.1 ≡ any.1 → Any P es
    at zero lt is = absurd (other (subst P (sym is) any.4))
    at (suc k) lt is = (k, any.1, omega (arith, lt), is, any.4)

-- it can't be that none of these exports is `apply`
abbrev HasOne : List FuncType → List ℕ → List Export → Type 0
HasOne types functions es = (Any (IsApply types functions) es → ⊥) → ⊥

first_named : (types : List FuncType) (functions : List ℕ) (es : List Export) → (Twice es → ⊥) → HasOne types functions es → find named es ≡ find tests es
first_named types functions [] twice one = refl
first_named types functions (e ∷ es) twice one = head (named e) (is_function e.kind) refl refl (λ h. first_named types functions es (λ t. twice (inr t)) h)
  where
    head : (b c : Bool) → named e ≡ b → is_function e.kind ≡ c → (HasOne types functions es → find named es ≡ find tests es) → cond b (Some e) (find named es) ≡ cond (b && c) (Some e) (find tests es)
    head true true q r rest = refl
    head true false q r rest = absurd (one (λ any.
        let other = later (IsApply types functions) e es any (λ a. let f = is_function_kind e.kind a.1 in cc) in
        twice (inl (other.0, other.1, other.2, other.3, other.4.0 ∙ sym ((bytes_eq-Decides e.name (codes "apply")).0 q)))))
    head false c q r rest = rest (λ no. one (λ any. no (later (IsApply types functions) e es any (λ a. let n = (bytes_eq-Decides e.name (codes "apply")).1 a.0 in cc))))

-- the first export with the name is the function
pub apply_by_name : (m : Tree) → IsValid m → named_apply m.exports ≡ apply_in m
apply_by_name m valid = ap (option_map (λ e. e.index)) (first_named m.types (function_types m) m.exports (λ t. valid (invalid.Rule rule.ExportTwice) t) (λ no. valid invalid.NoApply no))

pub apply_there : (m : Tree) → IsValid m → apply_in m ≡ None → ⊥
apply_there m valid e = valid invalid.NoApply (λ (any : Any (IsApply m.types (function_types m)) m.exports).
    none_found m.exports any.0 any.1 any.2 any.3 (passes m.types (function_types m) any.1 any.4) e)
