-- The program of a valid module is typed. Validity says what doesn't hold, so this is shown of what can't be otherwise.
use Rattle.std.proofs.Common.{◌≡◌, ℕ, zero, suc, ◌+◌, ◌<◌, ◌≤◌, Bool, true, false, nat_lt, cond, List, [], ◌∷◌, ◌++◌, length, take, drop, replicate, get_or, Option, None, Some, slice_get, refl, sym, ap, subst, ◌∙◌, arith, ⊎_elim, inl, inr, lt-ltb, append_assoc}
use Rattle.std.specs.Prelude.{map, fold}
use Rattle.std.specs.List.{Any, position_or_len}
use Rattle.std.specs.Str.{bytes_eq}
use Rattle.std.proofs.lemmas.Bool.{cases_lt}
use Rattle.std.proofs.lemmas.Slice.Eq.{bytes_eq-Decides}
use Rattle.std.proofs.lemmas.List.Sums.{fails_before_first}
use Rattle.std.proofs.lemmas.Option.{slice_get_within, get_or_from_slice_get}
use Rattle.ante_wtree.specs.declared.modules.FuncType.{FuncType}
use Rattle.ante_wtree.specs.declared.modules.ImportKind.{ImportKind}
use Rattle.ante_wtree.specs.declared.modules.ImportKind.TheVariants as import
use Rattle.ante_wtree.specs.declared.modules.Import.{Import}
use Rattle.ante_wtree.specs.declared.modules.Limits.{Limits}
use Rattle.ante_wtree.specs.declared.modules.Element.{Element}
use Rattle.ante_wtree.specs.Intrinsics.{names, name_at}
use Rattle.ante_wtree.specs.Trees.{Tree, Body}
use Rattle.ante_wvalid.specs.declared.kinds.ModuleRule.TheVariants as rule
use Rattle.ante_wvalid.specs.declared.kinds.InvalidKind.TheVariants as invalid
use Rattle.ante_wtree.specs.Types.{kinds_of, result_of}
use Rattle.ante_wvalid.specs.Typing.{Typed, type_numbered}
use Rattle.ante_wvalid.specs.Modules.{IsValid, IsFunctionTyped, imported, function_of, function_types, context_of}
use Rattle.ante_wmeaning.specs.Configurations.{FunctionInstance, Own, Given}
use Rattle.ante_wmeaning.specs.Instantiation.{host_place, given, given_as, given_functions, own, own_functions, offset_of, empty_table, with_element, program_in}
use Rattle.ante_wmeaning.specs.TypedPrograms.{IsOf, IsTyped}

-- ---- lists

some_is : {A : Type 0} (x y : A) → Some x ≡ Some y → x ≡ y
some_is x y h = cc

pub any_at : {A : Type 0} (P : A → Type 0) (xs : List A) (n : ℕ) (x : A) → slice_get xs n ≡ Some x → P x → Any P xs
any_at P xs n x e p = (n, x, slice_get_within xs n x e, get_or_from_slice_get xs n x x e, p)

past : {A : Type 0} (xs : List A) (n : ℕ) → slice_get xs n ≡ None → length xs ≤ n
past [] n e = omega arith
past (x ∷ xs) zero e = cc
past (x ∷ xs) (suc n) e = let le = past xs n e in omega (arith, le)

number_is : (a b : ℕ) → import.Function a ≡ import.Function b → a ≡ b
number_is a b e = cc

-- what can't fail at any of finitely many places can't fail at all of them together
together : (n : ℕ) (P : ℕ → Type 0) → ((k : ℕ) → k < n → (P k → ⊥) → ⊥) → (((k : ℕ) → k < n → P k) → ⊥) → ⊥
together zero P h never = never (λ k lt. absurd (omega (arith, lt)))
together (suc n) P h never = together n P (λ k lt. h k (omega (arith, lt)))
    (λ all. h n (omega arith) (λ p. never (λ k lt. ⊎_elim (λ l. all k l) (λ le. let e : n ≡ k = omega (arith, lt, le) in subst P e p) (cases_lt k n))))

-- ---- the host's functions

place_there : (name : List ℕ) (host : ℕ) (b : Bool) → slice_get names host ≡ Some name → nat_lt (position_or_len (bytes_eq name) names) (length names) ≡ b →
    (number : ℕ) × (cond b (Some (position_or_len (bytes_eq name) names)) None ≡ Some number)
place_there name host true e q = (position_or_len (bytes_eq name) names, refl)
place_there name host false e q =
    let n = position_or_len (bytes_eq name) names in
    let lt : host < length names = slice_get_within names host name e in
    let before : host < n = grind (arith, q, lt, lt-ltb) in
    let fails : bytes_eq name (get_or names host []) ≡ false = fails_before_first (bytes_eq name) names host [] before in
    let passes : bytes_eq name (get_or names host []) ≡ true = (bytes_eq-Decides name (get_or names host [])).1 (sym (get_or_from_slice_get names host name [] e)) in
    cc

host_there : (name : List ℕ) (host : ℕ) → name_at host ≡ Some name → (number : ℕ) × (host_place name ≡ Some number)
unfolding host_place
host_there name host e = place_there name host (nat_lt (position_or_len (bytes_eq name) names) (length names)) e refl

module _ (m : Tree) (valid : IsValid m) where
  -- an import of a function names a type, and a function of the host's
  abbrev Sure : Import → Type 0
  Sure i = (n : ℕ) → i.kind ≡ import.Function n → ((t : FuncType) × (slice_get m.types n ≡ Some t)) × ((number : ℕ) × (host_place i.name ≡ Some number))

  pub sure : (k : ℕ) (i : Import) → slice_get m.imports k ≡ Some i → Sure i
  sure k i at n e = (by_type (slice_get m.types n) refl, by_name (host_place i.name) refl)
    where
      by_type : (o : Option FuncType) → slice_get m.types n ≡ o → (t : FuncType) × (slice_get m.types n ≡ Some t)
      by_type (Some t) q = (t, q)
      by_type None q = absurd (valid (invalid.ImportType k) (
        i,
        at,
        λ h.
            let same : h.0 ≡ n = number_is h.0 n (sym h.3 ∙ e) in
            let there : slice_get m.types n ≡ Some h.1 = ap (slice_get m.types) (sym same) ∙ h.4 in
            cc,
      ))

      by_name : (o : Option ℕ) → host_place i.name ≡ o → (number : ℕ) × (host_place i.name ≡ Some number)
      by_name (Some number) q = (number, q)
      by_name None q = absurd (valid (invalid.UnknownImport k) (i, at, λ h. let there = host_there i.name h.1.0 h.1.1 in cc))

  -- ---- each function of the module has a type

  own_kind : (n : ℕ) (number : ℕ) → slice_get m.functions n ≡ Some number → (t : FuncType) × (slice_get m.types number ≡ Some t)
  own_kind n number at = by_type (slice_get m.types number) refl
    where
      by_type : (o : Option FuncType) → slice_get m.types number ≡ o → (t : FuncType) × (slice_get m.types number ≡ Some t)
      by_type (Some t) q = (t, q)
      by_type None q = absurd (valid (invalid.Rule rule.TypeIndex) (any_at (λ k. length m.types ≤ k) m.functions n number at
          (past m.types number q)))

  abbrev HasType : List ℕ → Type 0
  HasType numbers = (f : ℕ) → f < length numbers → (t : FuncType) × (type_numbered m.types (slice_get numbers f) ≡ Some t)

  own_there : HasType m.functions
  own_there f lt = by_number (slice_get m.functions f) refl
    where
      by_number : (o : Option ℕ) → slice_get m.functions f ≡ o → (t : FuncType) × (type_numbered m.types o ≡ Some t)
      by_number (Some number) q = own_kind f number q
      by_number None q = let le = past m.functions f q in absurd (omega (arith, lt, le))

  after_import : (i : Import) → Sure i → (numbers : List ℕ) → HasType numbers → (k : ImportKind) → i.kind ≡ k → HasType (function_of k ++ numbers)
  after_import i h numbers rest (import.Function n) e zero lt = (h n e).0
  after_import i h numbers rest (import.Function n) e (suc f) lt = rest f (omega (arith, lt))
  after_import i h numbers rest (import.Table limits) e f lt = rest f lt
  after_import i h numbers rest (import.Memory limits) e f lt = rest f lt
  after_import i h numbers rest (import.Global kind changes) e f lt = rest f lt

  kinds_there : (is : List Import) → ((k : ℕ) (i : Import) → slice_get is k ≡ Some i → Sure i) → HasType (imported is ++ m.functions)
  kinds_there [] h = own_there
  kinds_there (i ∷ is) h =
      subst HasType (sym (append_assoc (function_of i.kind) (imported is) m.functions))
      (after_import i (h zero i refl) (imported is ++ m.functions) (kinds_there is (λ k j e. h (suc k) j e)) i.kind refl)

  -- ---- the program's functions

  own_at : (kinds : List ℕ) (bodies : List Body) (f number : ℕ) (t : FuncType) (code : Body) → slice_get kinds f ≡ Some number → slice_get m.types number ≡ Some t → slice_get bodies f ≡ Some code →
      slice_get (own_functions m.types kinds bodies) f ≡ Some (Own t (length code.locals) code.body)
  own_at [] bodies f number t code a b c = cc
  own_at (k ∷ ks) [] f number t code a b c = cc
  own_at (k ∷ ks) (x ∷ xs) zero number t code a b c =
      ap (λ y. Some (own (slice_get m.types k) y)) (some_is x code c) ∙ ap (λ n. Some (own (slice_get m.types n) code)) (some_is k number a) ∙ ap (λ o. Some (own o code)) b
  own_at (k ∷ ks) (x ∷ xs) (suc f) number t code a b c = own_at ks xs f number t code a b c

  -- each number has a function of its type
  abbrev HasFunctions : List ℕ → List FunctionInstance → Type 0
  HasFunctions numbers functions = (f : ℕ) (t : FuncType) → type_numbered m.types (slice_get numbers f) ≡ Some t → (x : FunctionInstance) × (slice_get functions f ≡ Some x) × IsOf m x t

  own_functions_there : ((k : ℕ) → k < length m.functions → IsFunctionTyped m k) → HasFunctions m.functions (own_functions m.types m.functions m.codes)
  own_functions_there all f t e = by_number (slice_get m.functions f) refl e
    where
      by_number : (o : Option ℕ) → slice_get m.functions f ≡ o → type_numbered m.types o ≡ Some t → (x : FunctionInstance) × (slice_get (own_functions m.types m.functions m.codes) f ≡ Some x) × IsOf m x t
      by_number None q g = cc
      by_number (Some number) q g =
          let y = all f (slice_get_within m.functions f number q) in
          let same : y.0 ≡ number = some_is y.0 number (sym y.3 ∙ q) in
          let type' : y.1 ≡ t = some_is y.1 t (sym y.4 ∙ ap (slice_get m.types) same ∙ g) in
          let typed = subst (λ u. Typed (context_of m u.params y.2.locals (result_of u.results)) y.2.body [] (kinds_of (result_of u.results))) type' y.6 in
          (Own t (length y.2.locals) y.2.body, own_at m.functions m.codes f number t y.2 q g y.5, (refl, y.2.locals, refl, typed))

  import_there : (i : Import) → Sure i → (numbers : List ℕ) (functions : List FunctionInstance) → HasFunctions numbers functions → (k : ImportKind) → i.kind ≡ k →
      HasFunctions (function_of k ++ numbers) (given_as m.types i.name k ++ functions)
  import_there i h numbers functions rest (import.Function n) q zero t g =
      let name = (h n q).1 in (Given t name.0, ap (λ o. Some (given o (host_place i.name))) g ∙ ap (λ o. Some (given (Some t) o)) name.1, refl)
  import_there i h numbers functions rest (import.Function n) q (suc f) t g = rest f t g
  import_there i h numbers functions rest (import.Table limits) q f t g = rest f t g
  import_there i h numbers functions rest (import.Memory limits) q f t g = rest f t g
  import_there i h numbers functions rest (import.Global kind changes) q f t g = rest f t g

  functions_there : ((k : ℕ) → k < length m.functions → IsFunctionTyped m k) → (is : List Import) → ((k : ℕ) (i : Import) → slice_get is k ≡ Some i → Sure i) →
      HasFunctions (imported is ++ m.functions) (given_functions m.types is ++ own_functions m.types m.functions m.codes)
  functions_there all [] h = own_functions_there all
  functions_there all (i ∷ is) h =
      let numbers = imported is ++ m.functions in
      let functions = given_functions m.types is ++ own_functions m.types m.functions m.codes in
      subst (λ xs. HasFunctions xs (given_functions m.types (i ∷ is) ++ own_functions m.types m.functions m.codes)) (sym (append_assoc (function_of i.kind) (imported is) m.functions))
      (subst (HasFunctions (function_of i.kind ++ numbers)) (sym (append_assoc (given_as m.types i.name i.kind) (given_functions m.types is) (own_functions m.types m.functions m.codes)))
      (import_there i (h zero i refl) numbers functions (functions_there all is (λ k j e. h (suc k) j e)) i.kind refl))

  -- ---- the table

  abbrev Inside : ℕ → Type 0
  Inside f = f < length (function_types m)

  abbrev AllInside : List (Option ℕ) → Type 0
  AllInside [] = Unit {0}
  AllInside (None ∷ xs) = AllInside xs
  AllInside (Some f ∷ xs) = Inside f × AllInside xs

  inside_at : (xs : List (Option ℕ)) (at f : ℕ) → AllInside xs → slice_get xs at ≡ Some (Some f) → Inside f
  inside_at [] at f h e = cc
  inside_at (None ∷ xs) zero f h e = cc
  inside_at (None ∷ xs) (suc at) f h e = inside_at xs at f h e
  inside_at (Some g ∷ xs) zero f h e = subst Inside (some_is g f (some_is (Some g) (Some f) e)) h.0
  inside_at (Some g ∷ xs) (suc at) f h e = inside_at xs at f h.1 e

  inside_append : (xs ys : List (Option ℕ)) → AllInside xs → AllInside ys → AllInside (xs ++ ys)
  inside_append [] ys h k = k
  inside_append (None ∷ xs) ys h k = inside_append xs ys h k
  inside_append (Some f ∷ xs) ys h k = (h.0, inside_append xs ys h.1 k)

  inside_take : (n : ℕ) (xs : List (Option ℕ)) → AllInside xs → AllInside (take n xs)
  inside_take zero xs h = tt
  inside_take (suc n) [] h = tt
  inside_take (suc n) (None ∷ xs) h = inside_take n xs h
  inside_take (suc n) (Some f ∷ xs) h = (h.0, inside_take n xs h.1)

  inside_drop : (n : ℕ) (xs : List (Option ℕ)) → AllInside xs → AllInside (drop n xs)
  inside_drop zero xs h = h
  inside_drop (suc n) [] h = tt
  inside_drop (suc n) (None ∷ xs) h = inside_drop n xs h
  inside_drop (suc n) (Some f ∷ xs) h = inside_drop n xs h.1

  inside_none : (n : ℕ) → AllInside (replicate n None)
  inside_none zero = tt
  inside_none (suc n) = inside_none n

  inside_empty : (limits : List Limits) → AllInside (empty_table limits)
  inside_empty [] = tt
  inside_empty (l ∷ ls) = inside_none l.least

  inside_numbers : (fs : List ℕ) → ((k f : ℕ) → slice_get fs k ≡ Some f → Inside f) → AllInside (map Some fs)
  inside_numbers [] h = tt
  inside_numbers (f ∷ fs) h = (h zero f refl, inside_numbers fs (λ k g e. h (suc k) g e))

  inside_elements : (es : List Element) → ((n : ℕ) (e : Element) → slice_get es n ≡ Some e → (k f : ℕ) → slice_get e.functions k ≡ Some f → Inside f) → (table : List (Option ℕ)) → AllInside table → AllInside (fold with_element table es)
  inside_elements [] h table t = t
  inside_elements (e ∷ es) h table t =
      let at = offset_of e.offset in
      let new : List (Option ℕ) = map Some e.functions in
      let tail = drop (length new) (drop at table) in
      inside_elements es (λ n x q. h (suc n) x q) (with_element table e)
      (inside_append (take at table) (new ++ tail) (inside_take at table t) (inside_append new tail (inside_numbers e.functions (h zero e refl)) (inside_drop (length new) (drop at table) (inside_drop at table t))))

  elements_inside : (n : ℕ) (e : Element) → slice_get m.elements n ≡ Some e → (k f : ℕ) → slice_get e.functions k ≡ Some f → Inside f
  elements_inside n e at k f q = ⊎_elim (λ lt. lt)
      (λ le. absurd (valid (invalid.Rule rule.ElementIndex) (any_at _ m.elements n e at (inr (any_at (λ g. length (function_types m) ≤ g) e.functions k f q le)))))
      (cases_lt f (length (function_types m)))

  -- ---- all together

  few : (n : ℕ) (t : FuncType) → slice_get m.types n ≡ Some t → length t.results ≤ 1
  few n t e = ⊎_elim (λ lt. absurd (valid (invalid.Rule rule.Results) (any_at (λ u. 1 < length u.results) m.types n t e lt))) (λ le. le) (cases_lt 1 (length t.results))

  typed_by : ((k : ℕ) → k < length m.functions → IsFunctionTyped m k) → IsTyped m (program_in m)
  typed_by all = record {
    types = refl;
    results = few;
    functions = functions_there all m.imports sure;
    table = λ at f e. kinds_there m.imports sure f (inside_at (fold with_element (empty_table m.table) m.elements) at f (inside_elements m.elements elements_inside (empty_table m.table) (inside_empty m.table)) e);
  }

  -- it can't be that the program isn't typed
  pub typed_unless : (IsTyped m (program_in m) → ⊥) → ⊥
  typed_unless never = together (length m.functions) (IsFunctionTyped m)
      (λ k lt untyped. valid (invalid.Body (length (imported m.imports) + k)) (k, refl, (inl lt, untyped)))
      (λ all. never (typed_by all))
