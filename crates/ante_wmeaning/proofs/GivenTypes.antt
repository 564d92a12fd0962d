-- A function of the host's that a valid module has is of the type that hosts give the function of its number.
use Rattle.std.proofs.Common.{◌≡◌, ℕ, zero, suc, ◌<◌, Bool, true, false, nat_lt, cond, List, [], ◌∷◌, ◌++◌, length, get_or, Option, None, Some, slice_get, refl, sym, ap, subst, ◌∙◌, ltb-true}
use Rattle.std.specs.List.{position_or_len}
use Rattle.std.specs.Str.{bytes_eq}
use Rattle.std.proofs.lemmas.Slice.Eq.{bytes_eq-Decides}
use Rattle.std.proofs.lemmas.List.Sums.{passes_at_first}
use Rattle.std.proofs.lemmas.Option.{slice_get-get_or}
use Rattle.ante_wmem.specs.HostCalls.{HostMeaning}
use Rattle.ante_wtree.specs.declared.instructions.ValueKind.{ValueKind}
use Rattle.ante_wtree.specs.declared.instructions.ValueKind.TheVariants.{I32, I64}
use Rattle.ante_wtree.specs.declared.modules.FuncType.{FuncType}
use Rattle.ante_wtree.specs.declared.modules.Import.{Import}
use Rattle.ante_wtree.specs.declared.modules.ImportKind.TheVariants as import
use Rattle.ante_wtree.specs.Intrinsics.{names, name_at, type_at}
use Rattle.ante_wtree.specs.Trees.{Tree, Body}
use Rattle.ante_wtree.specs.Replies.{AnswersTyped}
use Rattle.ante_wvalid.specs.declared.kinds.InvalidKind.TheVariants as invalid
use Rattle.ante_wtree.specs.Types.{kinds_of, result_of}
use Rattle.ante_wvalid.specs.Modules.{HasHostType, IsValid}
use Rattle.ante_wmeaning.specs.Configurations.{Given, Program}
use Rattle.ante_wmeaning.specs.Instantiation.{given, given_as, given_functions, host_place, own_functions, program_in}
use Rattle.ante_wmeaning.specs.HostConditions.{HaveHostTypes, ImportsTyped}
use Rattle.ante_wmeaning.proofs.Reached.{none_given}

-- ---- types that can't differ are equal

abbrev Surely : Type 0 → Type 0
Surely A = (A → ⊥) → ⊥

some_is : {A : Type 0} (x y : A) → Some x ≡ Some y → x ≡ y
some_is x y h = cc

kind_stable : (j k : ValueKind) → Surely (j ≡ k) → j ≡ k
kind_stable I32 I32 h = refl
kind_stable I64 I64 h = refl
kind_stable I32 I64 h = absurd (h (λ e. cc))
kind_stable I64 I32 h = absurd (h (λ e. cc))

kinds_stable : (js ks : List ValueKind) → Surely (js ≡ ks) → js ≡ ks
kinds_stable [] [] h = refl
kinds_stable [] (k ∷ ks) h = absurd (h (λ e. cc))
kinds_stable (j ∷ js) [] h = absurd (h (λ e. cc))
kinds_stable (j ∷ js) (k ∷ ks) h =
    let head : j ≡ k = kind_stable j k (λ n. h (λ e. n (cc))) in
    let tail : js ≡ ks = kinds_stable js ks (λ n. h (λ e. n (cc))) in
    cc

result_stable : (q r : Option ValueKind) → Surely (q ≡ r) → q ≡ r
result_stable None None h = refl
result_stable None (Some k) h = absurd (h (λ e. cc))
result_stable (Some j) None h = absurd (h (λ e. cc))
result_stable (Some j) (Some k) h = ap Some (kind_stable j k (λ n. h (λ e. n (cc))))

type_stable : (o : Option (List ValueKind × Option ValueKind)) (ks : List ValueKind) (r : Option ValueKind) → Surely (o ≡ Some (ks, r)) → o ≡ Some (ks, r)
type_stable None ks r h = absurd (h (λ e. cc))
type_stable (Some (js, q)) ks r h =
    let params : js ≡ ks = kinds_stable js ks (λ n. h (λ e. n (ap (λ t. t.0) (some_is (js, q) (ks, r) e)))) in
    let result : q ≡ r = result_stable q r (λ n. h (λ e. n (ap (λ t. t.1) (some_is (js, q) (ks, r) e)))) in
    ap (λ xs. Some (xs, q)) params ∙ ap (λ o. Some (ks, o)) result

-- ---- a function of the host's is an import

abbrev OneNumber : Type 0
OneNumber = (m n : ℕ) (name : List ℕ) → name_at m ≡ Some name → name_at n ≡ Some name → m ≡ n

first_place : (xs : List (List ℕ)) (name : List ℕ) (number : ℕ) (b : Bool) → nat_lt (position_or_len (bytes_eq name) xs) (length xs) ≡ b →
    cond b (Some (position_or_len (bytes_eq name) xs)) None ≡ Some number → slice_get xs number ≡ Some name
first_place xs name number false e h = cc
first_place xs name number true e h =
    let n = position_or_len (bytes_eq name) xs in
    let lt : n < length xs = ltb-true n (length xs) e in
    let is : name ≡ get_or xs n [] = (bytes_eq-Decides name (get_or xs n [])).0 (passes_at_first (bytes_eq name) xs [] lt) in
    let at : n ≡ number = cc in
    subst (λ m. slice_get xs m ≡ Some name) at (slice_get-get_or xs n [] lt ∙ ap Some (sym is))

named : (name : List ℕ) (number : ℕ) → host_place name ≡ Some number → name_at number ≡ Some name
unfolding host_place
named name number h = first_place names name number (nat_lt (position_or_len (bytes_eq name) names) (length names)) refl h

given_is : (o : Option FuncType) (p : Option ℕ) (kind : FuncType) (number : ℕ) → given o p ≡ Given kind number → (o ≡ Some kind) × (p ≡ Some number)
given_is None p kind number h = cc
given_is (Some t) None kind number h = cc
given_is (Some t) (Some n) kind number h = (cc, cc)

one_result : (r : Option ValueKind) (ks : List ValueKind) → ks ≡ kinds_of r → result_of ks ≡ r
one_result None ks h = ap result_of h
one_result (Some k) ks h = ap result_of h

-- an import of a host's type, as the program has it
import_type : OneNumber → (types : List FuncType) (i : Import) (k : ℕ) (kind : FuncType) (number : ℕ) → i.kind ≡ import.Function k →
    given (slice_get types k) (host_place i.name) ≡ Given kind number → HasHostType types i → type_at number ≡ Some (kind.params, result_of kind.results)
import_type one types i k kind number is g x =
    let found = given_is (slice_get types k) (host_place i.name) kind number g in
    let same : x.0 ≡ k = cc in
    let type : x.1 ≡ kind = some_is x.1 kind (sym x.4 ∙ ap (λ n. slice_get types n) same ∙ found.0) in
    let host : x.5.0 ≡ number = one x.5.0 number i.name x.5.1 (named i.name number found.1) in
    let result : result_of kind.results ≡ x.2 = ap (λ (t : FuncType). result_of t.results) (sym type) ∙ one_result x.2 x.1.results x.6 in
    ap type_at (sym host) ∙ x.5.2 ∙ ap Some (ap (λ (t : FuncType). (t.params, x.2)) type ∙ ap (λ r. (kind.params, r)) (sym result))

given_types : OneNumber → (types : List FuncType) (imports : List Import) (kinds : List ℕ) (bodies : List Body) (f : ℕ) (kind : FuncType) (number : ℕ) →
    slice_get (given_functions types imports ++ own_functions types kinds bodies) f ≡ Some (Given kind number) →
    ((k : ℕ) (i : Import) → slice_get imports k ≡ Some i → Surely (HasHostType types i)) →
    Surely (type_at number ≡ Some (kind.params, result_of kind.results))
given_types one types [] kinds bodies f kind number h v = λ no. none_given types kinds bodies f kind number h
given_types one types (i ∷ is) kinds bodies zero kind number h v = λ no. v zero i refl (λ x.
    no (import_type one types i x.0 kind number x.3
    (some_is (given (slice_get types x.0) (host_place i.name)) (Given kind number)
    (subst (λ k. slice_get ((given_as types i.name k ++ given_functions types is) ++ own_functions types kinds bodies) zero ≡ Some (Given kind number)) x.3 h)) x))
given_types one types (i ∷ is) kinds bodies (suc f) kind number h v = λ no. v zero i refl (λ x.
    given_types one types is kinds bodies f kind number
    (subst (λ k. slice_get ((given_as types i.name k ++ given_functions types is) ++ own_functions types kinds bodies) (suc f) ≡ Some (Given kind number)) x.3 h)
    (λ k j e. v (suc k) j e) no)

pub have_host_types : OneNumber → (m : Tree) → IsValid m → HaveHostTypes (program_in m)
have_host_types one m valid = λ kind number g. type_stable (type_at number) kind.params (result_of kind.results)
    (given_types one m.types m.imports m.functions m.codes g.0 kind number g.1 (λ k i at no. valid (invalid.ImportType k) (i, at, no)))

-- A host whose functions reply as their types say does so for the imports.
pub imports_typed : {W R : Type 0} (allowed : W → ℕ → List ℕ → ℕ → Type 0) (host : HostMeaning W R) (program : Program) →
    HaveHostTypes program → AnswersTyped allowed host → ImportsTyped allowed host program
imports_typed allowed host program types answers = λ kind number args w memory left given fit may.
    answers number kind.params (result_of kind.results) args w memory left (types kind number given) fit may
