-- Rules are exact: what is read is spelled, what is spelled is read, and a fault is where it says.
use Rattle.std.proofs.Common.{◌≡◌, ◌⊎◌, ℕ, zero, suc, ◌≤◌, Bool, false, cond, nat_lt, List, [], ◌∷◌, ◌++◌, length, take, drop, Option, None, Some, Result, Ok, Err, refl, sym, ap, subst, ◌∙◌, append_assoc, append-nil, arith, inl, inr, ⊎_elim}
use Rattle.std.specs.Bool.{Decides}
use Rattle.std.proofs.lemmas.Bool.{ltb-false, le-ltb}
use Rattle.std.proofs.lemmas.List.{length-append, length-take, take-append-drop, take_at, drop_at}
use Rattle.ante_wdecode.specs.declared.fault.DecodeKind.{DecodeKind}
use Rattle.ante_wdecode.specs.declared.fault.DecodeKind.TheVariants as kind
use Rattle.ante_pack.specs.Forms.{◌>>=◌}
use Rattle.ante_wdecode.specs.Rules.{Fault, Ended, At, Read, Rule, yields, in_turn, nothing, only, among, or_fault, one_at, one_of, form, raw, AreItems, items_at, items}
use Rattle.ante_wdecode.specs.Faults.{Shows}
use Rattle.ante_wdecode.proofs.Lebs.{bind_ok, chosen, bad, ok_is}

abbrev pub ok : {A : Type 0} → A → List ℕ → Read A
ok a rest = Ok (a, rest)

-- these bytes end with so many bytes of which something holds
abbrev pub EndsWith : ℕ → List ℕ → (List ℕ → Type 0) → Type 0
EndsWith left bytes Holds = (front : List ℕ) × (back : List ℕ) × (bytes ≡ front ++ back) × (left ≡ length back) × Holds back

abbrev pub Placed : Fault → List ℕ → Type 0
Placed (Ended left) bytes = EndsWith left bytes (λ back. Unit {0})
Placed (At left fault) bytes = EndsWith left bytes (Shows fault)

-- what was read is in this relation to the front of the bytes
abbrev pub Found : {A : Type 0} → (A → List ℕ → Type 0) → List ℕ → A × List ℕ → Type 0
Found Is bytes x = (front : List ℕ) × Is x.0 front × (bytes ≡ front ++ x.1)

pub record IsRead {A : Type 0} (rule : Rule A) : Type 0 where
  pub again : (a : A) (front rest : List ℕ) → rule.Spells a front → rule.read (front ++ rest) ≡ ok a rest
  pub found : (bytes : List ℕ) (x : A × List ℕ) → rule.read bytes ≡ Ok x → Found rule.Spells bytes x

pub record IsExact {A : Type 0} (rule : Rule A) : Type 0 where
  pub reads : IsRead rule
  pub placed : (bytes : List ℕ) (f : Fault) → rule.read bytes ≡ Err f → Placed f bytes

-- the same of all the bytes
pub record IsWhole {A : Type 0} (rule : Rule A) : Type 0 where
  pub again : (a : A) (bytes : List ℕ) → rule.Spells a bytes → rule.read bytes ≡ ok a []
  pub found : (a : A) (bytes : List ℕ) → rule.read bytes ≡ ok a [] → rule.Spells a bytes
  pub shorter : (bytes : List ℕ) (x : A × List ℕ) → rule.read bytes ≡ Ok x → length x.1 ≤ length bytes
  pub placed : (bytes : List ℕ) (f : Fault) → rule.read bytes ≡ Err f → Placed f bytes

whole_found : {A : Type 0} (rule : Rule A) → IsExact rule → (a : A) (bytes : List ℕ) → rule.read bytes ≡ ok a [] → rule.Spells a bytes
whole_found rule p a bytes e = let f = p.reads.found bytes (a, []) e in subst (rule.Spells a) (sym (append-nil f.0) ∙ sym f.2) f.1

pub shorter : {A : Type 0} (rule : Rule A) → IsExact rule → (bytes : List ℕ) (x : A × List ℕ) → rule.read bytes ≡ Ok x → length x.1 ≤ length bytes
shorter rule p bytes x h = let f = p.reads.found bytes x h in omega (arith, ap length f.2, length-append f.0 x.1)

pub whole : {A : Type 0} (rule : Rule A) → IsExact rule → IsWhole rule
whole rule p = record {
  again = λ a bytes h. ap rule.read (sym (append-nil bytes)) ∙ p.reads.again a bytes [] h;
  found = whole_found rule p;
  shorter = λ bytes x h. shorter rule p bytes x h;
  placed = p.placed;
}

pub err_is : {A E : Type 0} (d e : E) → bad {A = A} d ≡ bad e → d ≡ e
err_is d e h = cc

pub bind_err : {A B E : Type 0} (r : Result A E) (f : A → Result B E) (e : E) → (r >>= f) ≡ Err e → (r ≡ Err e) ⊎ ((x : A) × (r ≡ Ok x) × (f x ≡ Err e))
bind_err (Ok x) f e h = inr (x, refl, h)
bind_err {B = B} (Err d) f e h = inl (ap bad (err_is {A = B} d e h))

regrouped : (bytes a b tail : List ℕ) → bytes ≡ a ++ b → bytes ++ tail ≡ a ++ (b ++ tail)
regrouped bytes a b tail e = ap (λ x. x ++ tail) e ∙ append_assoc a b tail

pub joined : (bytes a b rest more : List ℕ) → bytes ≡ a ++ rest → rest ≡ b ++ more → bytes ≡ (a ++ b) ++ more
joined bytes a b rest more e f = e ∙ ap (λ x. a ++ x) f ∙ sym (append_assoc a b more)

ends_further : (left : ℕ) (bytes front rest : List ℕ) (Holds : List ℕ → Type 0) → bytes ≡ front ++ rest → EndsWith left rest Holds → EndsWith left bytes Holds
ends_further left bytes front rest Holds e h = (front ++ h.0, h.1, joined bytes front h.0 rest h.1 e h.2, h.3, h.4)

pub further : (f : Fault) (bytes front rest : List ℕ) → bytes ≡ front ++ rest → Placed f rest → Placed f bytes
further (Ended left) bytes front rest e h = ends_further left bytes front rest (λ back. Unit {0}) e h
further (At left fault) bytes front rest e h = ends_further left bytes front rest (Shows fault) e h

pub ended_here : (bytes : List ℕ) → Placed (Ended (length bytes)) bytes
ended_here bytes = ([], bytes, refl, refl, tt)

pub at_front : (bytes : List ℕ) (fault : DecodeKind) → Shows fault bytes → Placed (At (length bytes) fault) bytes
at_front bytes fault s = ([], bytes, refl, refl, s)

-- ---- the rules that others are made of

pub exact_yields : {A : Type 0} (value : A) → IsExact (yields value)
exact_yields {A} value = record {
  reads = record { again = λ a front rest h. ap (λ (z : List ℕ). ok value (z ++ rest)) h.1 ∙ ap (λ (b : A). ok b rest) (sym h.0); found = λ bytes x h. let e = ok_is (value, bytes) x h in ([], (sym (ap (λ (z : A × List ℕ). z.0) e), refl), ap (λ (z : A × List ℕ). z.1) e) };
  placed = λ bytes f h. absurd cc;
}

pub exact_nothing : {A : Type 0} → IsExact (nothing {A = A})
exact_nothing {A} = record {
  reads = record { again = λ a front rest h. absurd h; found = λ bytes x h. absurd cc };
  placed = λ bytes f h. subst (λ z. Placed z bytes) (err_is {A = A × List ℕ} (At (length bytes) kind.Form) f h) (at_front bytes kind.Form tt);
}

turn_found : {A B : Type 0} (first : Rule A) (next : A → Rule B) → IsRead first → ((a : A) → IsRead (next a)) → (bytes : List ℕ) (x : B × List ℕ) → (in_turn first next).read bytes ≡ Ok x → Found (in_turn first next).Spells bytes x
turn_found first next p q bytes x h =
    let a = bind_ok (first.read bytes) (λ a. (next a.0).read a.1) x h in
    let f = p.found bytes a.0 a.1 in
    let g = (q a.0.0).found a.0.1 x a.2 in
    (f.0 ++ g.0, (a.0.0, f.0, g.0, f.1, g.1, refl), joined bytes f.0 g.0 a.0.1 x.1 f.2 g.2)

turn_placed : {A B : Type 0} (first : Rule A) (next : A → Rule B) → IsExact first → ((a : A) → IsExact (next a)) → (bytes : List ℕ) (f : Fault) → (in_turn first next).read bytes ≡ Err f → Placed f bytes
turn_placed first next p q bytes f h = ⊎_elim
    (λ e. p.placed bytes f e)
    (λ e. let g = p.reads.found bytes e.0 e.1 in further f bytes g.0 e.0.1 g.2 ((q e.0.0).placed e.0.1 f e.2))
    (bind_err (first.read bytes) (λ a. (next a.0).read a.1) f h)

pub reads_turn : {A B : Type 0} (first : Rule A) (next : A → Rule B) → IsRead first → ((a : A) → IsRead (next a)) → IsRead (in_turn first next)
reads_turn first next p q = record {
  again = λ b front rest h.
      ap (λ z. first.read z >>= λ a. (next a.0).read a.1) (regrouped front h.1 h.2 rest h.5)
      ∙ ap (λ r. r >>= λ a. (next a.0).read a.1) (p.again h.0 h.1 (h.2 ++ rest) h.3)
      ∙ (q h.0).again b h.2 rest h.4;
  found = turn_found first next p q;
}

pub exact_turn : {A B : Type 0} (first : Rule A) (next : A → Rule B) → IsExact first → ((a : A) → IsExact (next a)) → IsExact (in_turn first next)
exact_turn first next p q = record { reads = reads_turn first next p.reads (λ a. (q a).reads); placed = turn_placed first next p q }

only_found : {A : Type 0} (Has : A → Type 0) (test : A → Bool) (fault : DecodeKind) (rule : Rule A) → IsExact rule → ((a : A) → Decides (test a) (Has a)) → (bytes : List ℕ) (x : A × List ℕ) → (only Has test fault rule).read bytes ≡ Ok x → Found (only Has test fault rule).Spells bytes x
only_found {A} Has test fault rule p tells bytes x h =
    let a = bind_ok (rule.read bytes) (λ x. cond (test x.0) (Ok x) (Err (At (length bytes) fault))) x h in
    ⊎_elim
    (λ t. subst (Found (only Has test fault rule).Spells bytes) (ok_is a.0 x t.1) (held a.0 a.1 ((tells a.0.0).0 t.0)))
    (λ t. absurd (never t.1))
    (chosen (test a.0.0) (Ok a.0) (Err (At (length bytes) fault)) (Ok x) a.2)
  where
    never : Err (At (length bytes) fault) ≡ Ok x → ⊥
    never k = cc

    held : (y : A × List ℕ) → rule.read bytes ≡ Ok y → Has y.0 → Found (only Has test fault rule).Spells bytes y
    held y e k = let f = p.reads.found bytes y e in (f.0, (k, f.1), f.2)

only_placed : {A : Type 0} (Has : A → Type 0) (test : A → Bool) (fault : DecodeKind) (rule : Rule A) → IsExact rule → ((bytes : List ℕ) → Shows fault bytes) → (bytes : List ℕ) (f : Fault) → (only Has test fault rule).read bytes ≡ Err f → Placed f bytes
only_placed {A} Has test fault rule p shows bytes f h = ⊎_elim
    (λ e. p.placed bytes f e)
    (λ e. ⊎_elim
    (λ t. absurd (never e.0 t.1))
    (λ t. subst (λ z. Placed z bytes) (err_is {A = A × List ℕ} (At (length bytes) fault) f t.1) (at_front bytes fault (shows bytes)))
    (chosen (test e.0.0) (Ok e.0) (Err (At (length bytes) fault)) (Err f) e.2))
    (bind_err (rule.read bytes) (λ x. cond (test x.0) (Ok x) (Err (At (length bytes) fault))) f h)
  where
    never : (y : A × List ℕ) → Ok y ≡ Err f → ⊥
    never y k = cc

pub exact_only : {A : Type 0} (Has : A → Type 0) (test : A → Bool) (fault : DecodeKind) (rule : Rule A) → IsExact rule → ((a : A) → Decides (test a) (Has a)) → ((bytes : List ℕ) → Shows fault bytes) → IsExact (only Has test fault rule)
exact_only {A} Has test fault rule p tells shows = record {
  reads = record {
    again = λ a front rest h.
        ap (λ r. r >>= λ x. cond (test x.0) (Ok x) (Err (At (length (front ++ rest)) fault))) (p.reads.again a front rest h.1)
        ∙ ap (λ b. cond b (ok a rest) (Err (At (length (front ++ rest)) fault))) ((tells a).1 h.0);
    found = only_found Has test fault rule p tells;
  };
  placed = only_placed Has test fault rule p shows;
}

-- ---- a byte of a table

some_of : {A : Type 0} (o : Option A) (f : Fault) (a : A) → or_fault o f ≡ Ok a → o ≡ Some a
some_of None f a h = absurd cc
some_of (Some b) f a h = ap (λ z. Some z) (ok_is b a h)

pub none_of : {A : Type 0} (o : Option A) (f g : Fault) → or_fault o f ≡ Err g → (o ≡ None) × (f ≡ g)
none_of None f g h = (refl, err_is f g h)
none_of (Some b) f g h = absurd cc

one_found : {A : Type 0} (fault : ℕ → DecodeKind) (table : List (ℕ × A)) (bytes : List ℕ) (x : A × List ℕ) → one_at fault table bytes ≡ Ok x → Found (one_of fault table).Spells bytes x
one_found fault table [] x h = absurd cc
one_found {A} fault table (b ∷ bytes) x h =
    let a = bind_ok (or_fault (among table b) (At (length (b ∷ bytes)) (fault b))) (λ a. ok a bytes) x h in
    let y : Found (one_of fault table).Spells (b ∷ bytes) (a.0, bytes) = (b ∷ [], (b, some_of (among table b) _ a.0 a.1, refl), refl) in
    subst (Found (one_of fault table).Spells (b ∷ bytes)) (ok_is (a.0, bytes) x a.2) y

one_placed : {A : Type 0} (fault : ℕ → DecodeKind) (table : List (ℕ × A)) → ((b : ℕ) (bytes : List ℕ) → among table b ≡ None → Shows (fault b) (b ∷ bytes)) → (bytes : List ℕ) (f : Fault) → one_at fault table bytes ≡ Err f → Placed f bytes
one_placed {A} fault table shows [] f h = subst (λ z. Placed z []) (err_is {A = A × List ℕ} (Ended 0) f h) (ended_here [])
one_placed {A} fault table shows (b ∷ bytes) f h = ⊎_elim
    (λ e. let n = none_of (among table b) (At (length (b ∷ bytes)) (fault b)) f e in subst (λ z. Placed z (b ∷ bytes)) n.1 (at_front (b ∷ bytes) (fault b) (shows b bytes n.0)))
    (λ e. absurd (never e.0 e.2))
    (bind_err (or_fault (among table b) (At (length (b ∷ bytes)) (fault b))) (λ a. ok a bytes) f h)
  where
    never : (a : A) → ok a bytes ≡ Err f → ⊥
    never a k = cc

pub exact_one : {A : Type 0} (fault : ℕ → DecodeKind) (table : List (ℕ × A)) → ((b : ℕ) (bytes : List ℕ) → among table b ≡ None → Shows (fault b) (b ∷ bytes)) → IsExact (one_of fault table)
exact_one fault table shows = record {
  reads = record {
    again = λ a front rest h.
        ap (λ (z : List ℕ). one_at fault table (z ++ rest)) h.2
        ∙ ap (λ o. or_fault o (At (length (h.0 ∷ rest)) (fault h.0)) >>= λ a. ok a rest) h.1;
    found = one_found fault table;
  };
  placed = one_placed fault table shows;
}

pub exact_form : {A : Type 0} (table : List (ℕ × A)) → IsExact (one_of form table)
exact_form table = exact_one form table (λ b bytes h. tt)

-- ---- so many bytes

raw_found : (n : ℕ) (bytes : List ℕ) (x : List ℕ × List ℕ) → (raw n).read bytes ≡ Ok x → Found (raw n).Spells bytes x
raw_found n bytes x h = ⊎_elim
    (λ t. absurd (never t.1))
    (λ t.
    let len : length (take n bytes) ≡ n = omega (arith, length-take n bytes, ltb-false (length bytes) n t.0) in
    let y : Found (raw n).Spells bytes (take n bytes, drop n bytes) = (take n bytes, (len, refl), sym (take-append-drop n bytes)) in
    subst (Found (raw n).Spells bytes) (ok_is (take n bytes, drop n bytes) x t.1) y)
    (chosen (nat_lt (length bytes) n) (Err (Ended (length bytes))) (Ok (take n bytes, drop n bytes)) (Ok x) h)
  where
    never : Err (Ended (length bytes)) ≡ Ok x → ⊥
    never k = cc

raw_placed : (n : ℕ) (bytes : List ℕ) (f : Fault) → (raw n).read bytes ≡ Err f → Placed f bytes
raw_placed n bytes f h = ⊎_elim
    (λ t. subst (λ z. Placed z bytes) (err_is {A = List ℕ × List ℕ} (Ended (length bytes)) f t.1) (ended_here bytes))
    (λ t. absurd (never t.1))
    (chosen (nat_lt (length bytes) n) (Err (Ended (length bytes))) (ok (take n bytes) (drop n bytes)) (Err f) h)
  where
    never : ok (take n bytes) (drop n bytes) ≡ Err f → ⊥
    never k = cc

pub long_enough : (n : ℕ) (front rest : List ℕ) → length front ≡ n → nat_lt (length (front ++ rest)) n ≡ false
long_enough n front rest len = le-ltb _ _ (omega (arith, length-append front rest, len))

raw_again : (n : ℕ) (text front rest : List ℕ) → (raw n).Spells text front → (raw n).read (front ++ rest) ≡ ok text rest
raw_again n text front rest h =
    let len : length front ≡ n = ap length h.1 ∙ h.0 in
    ap (λ b. cond b (Err (Ended (length (front ++ rest)))) (ok (take n (front ++ rest)) (drop n (front ++ rest)))) (long_enough n front rest len)
    ∙ rw (take_at front rest n len, drop_at front rest n len) (ap (λ (z : List ℕ). ok z rest) h.1)

pub exact_raw : (n : ℕ) → IsExact (raw n)
exact_raw n = record { reads = record { again = raw_again n; found = raw_found n }; placed = raw_placed n }

-- ---- items

items_again : {A : Type 0} (item : Rule A) → IsExact item → (xs : List A) (front rest : List ℕ) → AreItems item xs front → items_at item.read (length xs) (front ++ rest) ≡ ok xs rest
items_again item p [] front rest h = ap (λ (z : List ℕ). ok [] (z ++ rest)) h
items_again item p (x ∷ xs) front rest h =
    ap (items_at item.read (suc (length xs))) (regrouped front h.0 h.1 rest h.4)
    ∙ ap (λ r. r >>= λ x. items_at item.read (length xs) x.1 >>= λ xs. ok (x.0 ∷ xs.0) xs.1) (p.reads.again x h.0 (h.1 ++ rest) h.2)
    ∙ ap (λ r. r >>= λ xs. ok (x ∷ xs.0) xs.1) (items_again item p xs h.1 rest h.3)

items_found : {A : Type 0} (item : Rule A) → IsExact item → (n : ℕ) (bytes : List ℕ) (x : List A × List ℕ) → items_at item.read n bytes ≡ Ok x → Found (items n item).Spells bytes x
items_found item p zero bytes x h = subst (Found (items 0 item).Spells bytes) (ok_is ([], bytes) x h) ([], (refl, refl), refl)
items_found item p (suc n) bytes x h =
    let a = bind_ok (item.read bytes) (λ y. items_at item.read n y.1 >>= λ xs. ok (y.0 ∷ xs.0) xs.1) x h in
    let b = bind_ok (items_at item.read n a.0.1) (λ xs. ok (a.0.0 ∷ xs.0) xs.1) x a.2 in
    let f = p.reads.found bytes a.0 a.1 in
    let g = items_found item p n a.0.1 b.0 b.1 in
    subst (Found (items (suc n) item).Spells bytes) (ok_is (a.0.0 ∷ b.0.0, b.0.1) x b.2)
    (f.0 ++ g.0, (ap suc g.1.0, (f.0, g.0, f.1, g.1.1, refl)), joined bytes f.0 g.0 a.0.1 b.0.1 f.2 g.2)

items_placed : {A : Type 0} (item : Rule A) → IsExact item → (n : ℕ) (bytes : List ℕ) (f : Fault) → items_at item.read n bytes ≡ Err f → Placed f bytes
items_placed item p zero bytes f h = absurd cc
items_placed {A} item p (suc n) bytes f h = ⊎_elim
    (λ e. p.placed bytes f e)
    (λ e. let g = p.reads.found bytes e.0 e.1 in further f bytes g.0 e.0.1 g.2 (⊎_elim
    (λ d. items_placed item p n e.0.1 f d)
    (λ d. absurd (never e.0.0 d.0 d.2))
    (bind_err (items_at item.read n e.0.1) (λ xs. ok (e.0.0 ∷ xs.0) xs.1) f e.2)))
    (bind_err (item.read bytes) (λ y. items_at item.read n y.1 >>= λ xs. ok (y.0 ∷ xs.0) xs.1) f h)
  where
    never : (a : A) (y : List A × List ℕ) → ok (a ∷ y.0) y.1 ≡ Err f → ⊥
    never a y k = cc

pub exact_items : {A : Type 0} (n : ℕ) (item : Rule A) → IsExact item → IsExact (items n item)
exact_items n item p = record {
  reads = record { again = λ xs front rest h. ap (λ m. items_at item.read m (front ++ rest)) (sym h.0) ∙ items_again item p xs front rest h.1; found = items_found item p n };
  placed = items_placed item p n;
}
