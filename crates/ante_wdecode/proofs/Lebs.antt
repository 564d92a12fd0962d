-- What is read is spelled so, what is spelled so is read, and why nothing is.
use Rattle.std.proofs.Common.{◌≡◌, ◌⊎◌, ℕ, ◌+◌, ◌-◌, ◌*◌, ◌%◌, ◌^◌, ◌<◌, ◌≤◌, Bool, true, false, cond, nat_lt, List, [], ◌∷◌, ◌++◌, Option, None, Some, Result, Ok, Err, refl, sym, ap, ◌∙◌, arith, inl, inr, ⊎_elim}
use Rattle.std.proofs.lemmas.Bool.{ltb-false, ltb-true, lt-ltb, le-ltb}
use Rattle.std.proofs.lemmas.Nat.{pow-add}
use Rattle.ante_pack.specs.Forms.{◌>>=◌}
use Rattle.ante_wdecode.specs.declared.integers.Misread.{Misread}
use Rattle.ante_wdecode.specs.declared.integers.Misread.TheVariants.{Short, Leb}
use Rattle.ante_wdecode.specs.Leb128.{last_value, more_value, IsLeb, IsCut, ends_with, leb_at}
use Rattle.ante_wdecode.specs.Faults.{IsMisspelled}

abbrev pub done : {A : Type 0} → A → Result A Misread
done x = Ok x

pub bind_ok : {A B E : Type 0} (r : Result A E) (f : A → Result B E) (y : B) → (r >>= f) ≡ Ok y → (x : A) × (r ≡ Ok x) × (f x ≡ Ok y)
bind_ok (Ok x) f y e = (x, refl, e)
bind_ok (Err d) f y e = absurd cc

pub chosen : {A : Type 0} (b : Bool) (x y z : A) → cond b x y ≡ z → ((b ≡ true) × (x ≡ z)) ⊎ ((b ≡ false) × (y ≡ z))
chosen true x y z h = inl (refl, h)
chosen false x y z h = inr (refl, h)

abbrev pub good : {A E : Type 0} → A → Result A E
good x = Ok x

abbrev pub bad : {A E : Type 0} → E → Result A E
bad e = Err e

pub ok_is : {A E : Type 0} (x y : A) → good {E = E} x ≡ good y → x ≡ y
ok_is x y e = cc

ended : (o : Option ℕ) (rest : List ℕ) (x : ℕ × List ℕ) → ends_with o rest ≡ Ok x → (o ≡ Some x.0) × (rest ≡ x.1)
ended None rest x h = absurd cc
ended (Some n) rest x h = let e = ok_is (n, rest) x h in (ap (λ (y : ℕ × List ℕ). Some y.0) e, ap (λ (y : ℕ × List ℕ). y.1) e)

pub leb_again : (signed : Bool) (bits n : ℕ) (bytes tail : List ℕ) → IsLeb signed bits bytes n → leb_at signed bits (bytes ++ tail) ≡ Ok (n, tail)
leb_again signed bits n [] tail h = absurd h
leb_again signed bits n (b ∷ []) tail h = rw (lt-ltb b 128 h.0, h.1) refl
leb_again signed bits n (b ∷ c ∷ bytes) tail h =
    let no : nat_lt b 128 ≡ false = le-ltb b 128 h.0 in
    rw (no, lt-ltb 7 bits h.1, leb_again signed (bits - 7) h.2 (c ∷ bytes) tail h.4) (ap (λ m. done (m, tail)) (sym h.3))

pub leb_found : (signed : Bool) (bits : ℕ) (bytes : List ℕ) (x : ℕ × List ℕ) → leb_at signed bits bytes ≡ Ok x → (front : List ℕ) × IsLeb signed bits front x.0 × (bytes ≡ front ++ x.1)
leb_found signed bits [] x h = absurd cc
leb_found signed bits (b ∷ bytes) x h = ⊎_elim
    (λ p. let e = ended (last_value signed bits b) bytes x p.1 in (b ∷ [], (ltb-true b 128 p.0, e.0), ap (λ (z : List ℕ). b ∷ z) e.1))
    (λ p. ⊎_elim
    (λ q. let r = bind_ok (leb_at signed (bits - 7) bytes) _ x q.1 in more (ltb-false b 128 p.0) (ltb-true 7 bits q.0) r.0 (ok_is _ x r.2) (leb_found signed (bits - 7) bytes r.0 r.1))
    (λ q. absurd (never q.1))
    (chosen (nat_lt 7 bits) _ (Err Leb) (Ok x) p.1))
    (chosen (nat_lt b 128) (ends_with (last_value signed bits b) bytes) _ (Ok x) h)
  where
    never : {A : Type 0} {e : Misread} {y : A} → Err e ≡ Ok y → ⊥
    never k = cc

    more : 128 ≤ b → 7 < bits → (y : ℕ × List ℕ) → (more_value b y.0, y.1) ≡ x → (front : List ℕ) × IsLeb signed (bits - 7) front y.0 × (bytes ≡ front ++ y.1) → (front : List ℕ) × IsLeb signed bits front x.0 × (b ∷ bytes ≡ front ++ x.1)
    more g l y e ([], i, s) = absurd i
    more g l y e (c ∷ cs, i, s) = (b ∷ c ∷ cs, (g, l, y.0, sym (ap (λ (z : ℕ × List ℕ). z.0) e), i), ap (λ (z : List ℕ). b ∷ z) s ∙ ap (λ (z : ℕ × List ℕ). b ∷ (c ∷ cs ++ z.1)) e)

-- ---- an unsigned integer is below its width

wider : (bits : ℕ) → 7 < bits → 2 ^ bits ≡ 128 * 2 ^ (bits - 7)
wider bits lt = let e : bits ≡ 7 + (bits - 7) = omega arith in ap (λ k. 2 ^ k) e ∙ pow-add 2 7 (bits - 7)

last_below : (bits b n : ℕ) → last_value false bits b ≡ Some n → n < 2 ^ bits
last_below bits b n h = ⊎_elim
    (λ p. let e : b ≡ n = same p.1 in omega (arith, ltb-true b (2 ^ bits) p.0))
    (λ p. absurd (never p.1))
    (chosen (nat_lt b (2 ^ bits)) (Some b) None (Some n) h)
  where
    same : {x y : ℕ} → Some x ≡ Some y → x ≡ y
    same k = cc

    never : {y : ℕ} → None ≡ Some y → ⊥
    never k = cc

pub unsigned_below : (bits n : ℕ) (bytes : List ℕ) → IsLeb false bits bytes n → n < 2 ^ bits
unsigned_below bits n [] h = absurd h
unsigned_below bits n (b ∷ []) h = last_below bits b n h.1
unsigned_below bits n (b ∷ c ∷ bytes) h =
    let e = h.3 in
    let l = unsigned_below (bits - 7) h.2 (c ∷ bytes) h.4 in
    omega (arith, e, l, wider bits h.1)

-- ---- where the bytes end within an integer

never_short : (o : Option ℕ) (rest : List ℕ) → ends_with o rest ≡ Err Short → ⊥
never_short None rest h = cc
never_short (Some n) rest h = cc

bind_err : {A B : Type 0} (r : Result A Misread) (g : A → B) (e : Misread) → (r >>= λ x. done (g x)) ≡ Err e → r ≡ Err e
bind_err (Ok x) g e h = absurd cc
bind_err (Err d) g e h = let k : d ≡ e = cc in ap (λ (f : Misread). Err f) k

pub cut_of : (signed : Bool) (bits : ℕ) (bytes : List ℕ) → 0 < bits → leb_at signed bits bytes ≡ Err Short → IsCut bits bytes
cut_of signed bits [] some h = (some, tt)
cut_of signed bits (b ∷ bytes) some h = ⊎_elim
    (λ p. absurd (never_short (last_value signed bits b) bytes p.1))
    (λ p. ⊎_elim
    (λ q.
    let lt = ltb-true 7 bits q.0 in
    let r = cut_of signed (bits - 7) bytes (omega arith) (bind_err (leb_at signed (bits - 7) bytes) (λ high. (more_value b high.0, high.1)) Short q.1) in
    (omega (arith, r.0, lt), (ltb-false b 128 p.0, r.1)))
    (λ q. absurd (other q.1))
    (chosen (nat_lt 7 bits) _ (Err Leb) (Err Short) p.1))
    (chosen (nat_lt b 128) (ends_with (last_value signed bits b) bytes) _ (Err Short) h)
  where
    other : {A : Type 0} → let l : Result A Misread = Err Leb in l ≡ Err Short → ⊥
    other k = cc

pub is_cut : (signed : Bool) (bits : ℕ) (bytes : List ℕ) → IsCut bits bytes → leb_at signed bits bytes ≡ Err Short
is_cut signed bits [] h = refl
is_cut signed bits (b ∷ bytes) h =
    let lt : 7 < bits = omega (arith, h.0) in
    let c : IsCut (bits - 7) bytes = (omega (arith, h.0), h.1.1) in
    rw (le-ltb b 128 h.1.0, lt-ltb 7 bits lt, is_cut signed (bits - 7) bytes c) refl

-- ---- an integer of 32 bits

abbrev pub low : Result (ℕ × List ℕ) Misread → Result (ℕ × List ℕ) Misread
low r = r >>= λ x. Ok (x.0 % 2 ^ 32, x.1)

pub low_is : (r : Result (ℕ × List ℕ) Misread) (x : ℕ × List ℕ) → low r ≡ Ok x → (y : ℕ × List ℕ) × (r ≡ Ok y) × (x ≡ (y.0 % 2 ^ 32, y.1))
low_is (Ok y) x h = (y, refl, sym (ok_is (y.0 % 2 ^ 32, y.1) x h))
low_is (Err e) x h = absurd cc

pub low_leb : (r : Result (ℕ × List ℕ) Misread) → low r ≡ Err Leb → r ≡ Err Leb
low_leb (Ok x) h = absurd cc
low_leb (Err e) h = let k : e ≡ Leb = cc in ap (λ (f : Misread). Err f) k

-- ---- where no integer begins

abbrev wrong : Result (ℕ × List ℕ) Misread
wrong = Err Leb

pub misspelled : (signed : Bool) (bits : ℕ) (bytes : List ℕ) → leb_at signed bits bytes ≡ Err Leb → IsMisspelled signed bits bytes
misspelled signed bits bytes h = (
  λ n front rest i s. never n rest (sym h ∙ ap (leb_at signed bits) s ∙ leb_again signed bits n front rest i),
  λ cut. other (sym h ∙ is_cut signed bits bytes cut),
)
  where
    never : (n : ℕ) (rest : List ℕ) → wrong ≡ Ok (n, rest) → ⊥
    never n rest k = cc

    other : wrong ≡ Err Short → ⊥
    other k = cc

is_wrong : (signed : Bool) (bits : ℕ) (bytes : List ℕ) → 0 < bits → IsMisspelled signed bits bytes → leb_at signed bits bytes ≡ Err Leb
is_wrong signed bits bytes some h = by_result (leb_at signed bits bytes) refl
  where
    by_result : (r : Result (ℕ × List ℕ) Misread) → leb_at signed bits bytes ≡ r → leb_at signed bits bytes ≡ Err Leb
    by_result (Ok x) e = let f = leb_found signed bits bytes x e in absurd (h.0 x.0 f.0 x.1 f.1 f.2)
    by_result (Err Short) e = absurd (h.1 (cut_of signed bits bytes some e))
    by_result (Err Leb) e = e

ends_wrong : (o : Option ℕ) (rest more : List ℕ) → ends_with o rest ≡ Err Leb → ends_with o more ≡ Err Leb
ends_wrong None rest more h = refl
ends_wrong (Some n) rest more h = absurd cc

wrong_more : (signed : Bool) (bits : ℕ) (bytes more : List ℕ) → leb_at signed bits bytes ≡ Err Leb → leb_at signed bits (bytes ++ more) ≡ Err Leb
wrong_more signed bits [] more h = absurd (other h)
  where
    other : bad {A = ℕ × List ℕ} Short ≡ Err Leb → ⊥
    other k = cc
wrong_more signed bits (b ∷ bytes) more h = ⊎_elim
    (λ p. ap (λ t. cond t (ends_with (last_value signed bits b) (bytes ++ more)) (rest_of (bytes ++ more))) p.0 ∙ ends_wrong (last_value signed bits b) bytes (bytes ++ more) p.1)
    (λ p. ap (λ t. cond t (ends_with (last_value signed bits b) (bytes ++ more)) (rest_of (bytes ++ more))) p.0 ∙ ⊎_elim
    (λ q.
    let e = bind_err (leb_at signed (bits - 7) bytes) (λ high. (more_value b high.0, high.1)) Leb q.1 in
    ap (λ t. cond t (leb_at signed (bits - 7) (bytes ++ more) >>= λ high. done (more_value b high.0, high.1)) wrong) q.0
    ∙ ap (λ r. r >>= λ high. done (more_value b high.0, high.1)) (wrong_more signed (bits - 7) bytes more e))
    (λ q. ap (λ t. cond t (leb_at signed (bits - 7) (bytes ++ more) >>= λ high. done (more_value b high.0, high.1)) wrong) q.0)
    (chosen (nat_lt 7 bits) _ wrong (Err Leb) p.1))
    (chosen (nat_lt b 128) (ends_with (last_value signed bits b) bytes) _ (Err Leb) h)
  where
    rest_of : List ℕ → Result (ℕ × List ℕ) Misread
    rest_of z = cond (nat_lt 7 bits) (leb_at signed (bits - 7) z >>= λ high. done (more_value b high.0, high.1)) wrong

pub misspelled_more : (signed : Bool) (bits : ℕ) (bytes more : List ℕ) → 0 < bits → IsMisspelled signed bits bytes → IsMisspelled signed bits (bytes ++ more)
misspelled_more signed bits bytes more some h = misspelled signed bits (bytes ++ more) (wrong_more signed bits bytes more (is_wrong signed bits bytes some h))
