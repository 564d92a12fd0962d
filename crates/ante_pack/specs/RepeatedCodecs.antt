-- Varuints, strings, lists and keys are codecs.
use Rattle.std.proofs.Common.{◌≡◌, ◌≢◌, ℕ, zero, suc, ◌+◌, ◌-◌, ◌*◌, ◌/◌, ◌%◌, ◌^◌, ◌<◌, ◌≤◌, Bool, true, false, cond, ltb, eqb, List, [], ◌∷◌, ◌++◌, length, get_or, Ok, Err, refl, sym, ap, subst, ◌∙◌, append_assoc, arith, inl, inr}
use Rattle.std.specs.List.{flat_map, AllByRecursion}
use Rattle.std.proofs.lemmas.Bool.{cases_lt, ltb-false, ltb-true, lt-ltb, le-ltb, eqb-false, ne_eqb}
use Rattle.std.proofs.lemmas.List.{length-append}
use Rattle.std.proofs.lemmas.List.Concat.{flat_map-cons}
use Rattle.ante_pack.specs.declared.fault.PackFault.TheVariants.{LongVaruint, KeyKind}
use Rattle.ante_pack.specs.Forms.{Cursor, IsBytes, Form, ◌>>=◌, bytes_at, varuint_bytes, varuint_within, varuint, string, items_at, list_of}
use Rattle.ante_pack.specs.Packed.{key}
use Rattle.ante_pack.specs.ReadSteps.{bind_ok, guard_ok, guard_done, done, ok_is}
use Rattle.ante_pack.specs.Codec.{Takes, IsCodec}
use Rattle.ante_pack.specs.FieldCodecs.{Takes-then, bytes_take, bytes_again}

-- ---- varuints

-- what a number of at most `left` bytes after the first is below
abbrev pub limit : ℕ → ℕ
limit zero = 16
limit (suc left) = 128 * limit left

limit_pos : (left : ℕ) → 0 < limit left
limit_pos zero = omega arith
limit_pos (suc left) = omega (arith, limit_pos left)

IsBytes-rest : (b : ℕ) (bytes : List ℕ) → IsBytes (b ∷ bytes) → IsBytes bytes
IsBytes-rest b bytes h i = h (suc i)

record Spells (bytes : List ℕ) (left n : ℕ) (rest : List ℕ) : Type 0 where
  parts : bytes ≡ varuint_bytes left n ++ rest
  below : n < limit left
  fits : IsBytes rest

one_byte : (b : ℕ) (bytes : List ℕ) (left : ℕ) → IsBytes bytes → b < 128 → Spells (b ∷ bytes) (suc left) b bytes
unfolding varuint_bytes
one_byte b bytes left fits lt = record { parts = rw (lt-ltb b 128 lt) refl; below = omega (arith, limit_pos left, lt); fits = fits }

more_bytes : (b : ℕ) (bytes : List ℕ) (left high : ℕ) (rest : List ℕ) → b < 256 → 128 ≤ b → high ≢ 0 → Spells bytes left high rest → Spells (b ∷ bytes) (suc left) (b - 128 + 128 * high) rest
unfolding varuint_bytes
more_bytes b bytes left high rest lt le nz s =
    let n = b - 128 + 128 * high in
    let large : ltb n 128 ≡ false = le-ltb _ _ (omega (arith, nz, le)) in
    let low : 128 + n % 128 ≡ b = omega (arith, le, lt) in
    let up : n / 128 ≡ high = omega (arith, le, lt) in
    record { parts = rw (large, low, up) (ap (λ (t : List ℕ). b ∷ t) s.parts); below = omega (arith, s.below, le, lt); fits = s.fits }

within_takes : (at : ℕ) (bytes : List ℕ) (left n : ℕ) (rest : List ℕ) → IsBytes bytes → varuint_within at bytes left ≡ Ok (n, rest) → Spells bytes left n rest
unfolding varuint_within varuint_bytes
within_takes at [] left n rest fits e = absurd cc
within_takes at (b ∷ bytes) zero n rest fits e =
    let g = guard_done (ltb b 16) (LongVaruint at) (b, bytes) (n, rest) e in
    let one : Spells (b ∷ bytes) 0 b bytes = record { parts = refl; below = ltb-true _ _ g.0; fits = IsBytes-rest b bytes fits } in
    subst (λ (p : ℕ × List ℕ). Spells (b ∷ bytes) 0 p.0 p.1) g.1 one
within_takes at (b ∷ bytes) (suc left) n rest fits e =
    let rest_of = λ (high : ℕ × List ℕ). cond (eqb high.0 0) (Err (LongVaruint at)) (done {A = ℕ × List ℕ} (b - 128 + 128 * high.0, high.1)) in
    let step = λ (t : Bool). cond t (done {A = ℕ × List ℕ} (b, bytes)) (varuint_within at bytes left >>= rest_of) in
    elim (cases_lt b 128) [
      | inl lt ↦
          let f : step true ≡ Ok (n, rest) = subst (λ (t : Bool). step t ≡ Ok (n, rest)) (lt-ltb b 128 lt) e in
          subst (λ (p : ℕ × List ℕ). Spells (b ∷ bytes) (suc left) p.0 p.1) (ok_is (b, bytes) (n, rest) f) (one_byte b bytes left (IsBytes-rest b bytes fits) lt)
      | inr le ↦
          let f : step false ≡ Ok (n, rest) = subst (λ (t : Bool). step t ≡ Ok (n, rest)) (le-ltb b 128 le) e in
          let h = bind_ok (varuint_within at bytes left) rest_of (n, rest) f in
          let g = guard_ok (eqb h.0.0 0) (LongVaruint at) (b - 128 + 128 * h.0.0, h.0.1) (n, rest) h.2 in
          let later = within_takes at bytes left h.0.0 h.0.1 (IsBytes-rest b bytes fits) h.1 in
          subst (λ (p : ℕ × List ℕ). Spells (b ∷ bytes) (suc left) p.0 p.1) g.1 (more_bytes b bytes left h.0.0 h.0.1 (fits 0) le (eqb-false _ _ g.0) later)
    ]

within_again : (at left n : ℕ) (rest : List ℕ) → n < limit left → varuint_within at (varuint_bytes left n ++ rest) left ≡ Ok (n, rest)
unfolding varuint_within varuint_bytes
within_again at zero n rest lt = rw (lt-ltb n 16 lt) refl
within_again at (suc left) n rest lt =
    elim (cases_lt n 128) [
      | inl one ↦ let e = lt-ltb n 128 one in rw e (rw e refl)
      | inr le ↦
          let e : ltb n 128 ≡ false = le-ltb n 128 le in
          let first : ltb (128 + n % 128) 128 ≡ false = le-ltb _ _ (omega arith) in
          let nz : eqb (n / 128) 0 ≡ false = ne_eqb _ _ (omega (arith, le)) in
          let later = within_again at left (n / 128) rest (omega (arith, lt)) in
          let back : 128 + n % 128 - 128 + 128 * (n / 128) ≡ n = omega arith in
          rw e (rw first (rw later (rw (nz, back) refl)))
    ]

varuint_takes : (c : Cursor) (n : ℕ) (d : Cursor) → IsBytes c.rest → varuint.read c ≡ Ok (n, d) → Takes c (varuint.spell n) d × varuint.Fits n
unfolding varuint
varuint_takes c n d fits e =
    let place = λ (m : ℕ × List ℕ). c.at + (length c.rest - length m.1) in
    let b = bind_ok (varuint_within c.at c.rest 4) (λ m. done (m.0, record { at = place m; rest = m.1 })) (n, d) e in
    let s = within_takes c.at c.rest 4 b.0.0 b.0.1 fits b.1 in
    let len = ap length s.parts ∙ length-append (varuint_bytes 4 b.0.0) b.0.1 in
    let after : Cursor = record { at = place b.0; rest = b.0.1 } in
    let t : Takes c (varuint_bytes 4 b.0.0) after = record { parts = s.parts; place = omega (arith, len); rest_fits = s.fits } in
    subst (λ (p : ℕ × Cursor). Takes c (varuint_bytes 4 p.0) p.1 × (p.0 < 2 ^ 32)) (ok_is (b.0.0, after) (n, d) b.2) (t, omega (arith, s.below))

varuint_again : (n at : ℕ) (rest : List ℕ) → varuint.Fits n → varuint.read (record { at = at; rest = varuint.spell n ++ rest }) ≡ Ok (n, record { at = at + length (varuint.spell n); rest = rest })
unfolding varuint
varuint_again n at rest lt =
    let x = varuint_bytes 4 n in
    let len : at + (length (x ++ rest) - length rest) ≡ at + length x = omega (arith, length-append x rest) in
    rw (within_again at 4 n rest (omega (arith, lt)), len) refl

pub IsCodec-varuint : IsCodec varuint
IsCodec-varuint = record { takes = varuint_takes; again = varuint_again }

pub varuint_fits : (n : ℕ) → n < 2 ^ 32 → varuint.Fits n
unfolding varuint
varuint_fits n lt = lt

pub varuint_below : (n : ℕ) → varuint.Fits n → n < 2 ^ 32
unfolding varuint
varuint_below n lt = lt

-- ---- strings

string_takes : (c : Cursor) (x : List ℕ) (d : Cursor) → IsBytes c.rest → string.read c ≡ Ok (x, d) → Takes c (string.spell x) d × string.Fits x
unfolding string
string_takes c x d fits e =
    let n = bind_ok (varuint.read c) (λ n. bytes_at n.0 n.1) (x, d) e in
    let t = varuint_takes c n.0.0 n.0.1 fits n.1 in
    let u = bytes_take n.0.0 n.0.1 x d t.0.rest_fits n.2 in
    let both = Takes-then c (varuint.spell n.0.0) n.0.1 x d t.0 u.0 in
    (subst (λ (k : ℕ). Takes c (varuint.spell k ++ x) d) (sym u.1) both, omega (arith, u.1, varuint_below n.0.0 t.1))

string_again : (x : List ℕ) (at : ℕ) (rest : List ℕ) → string.Fits x → string.read (record { at = at; rest = string.spell x ++ rest }) ≡ Ok (x, record { at = at + length (string.spell x); rest = rest })
unfolding string
string_again x at rest lt =
    let y = varuint.spell (length x) in
    let len : at + length y + length x ≡ at + length (y ++ x) = omega (arith, length-append y x) in
    rw (append_assoc y x rest, varuint_again (length x) at (x ++ rest) (varuint_fits (length x) lt), bytes_again (length x) x (at + length y) rest refl, len) refl

pub IsCodec-string : IsCodec string
IsCodec-string = record { takes = string_takes; again = string_again }

-- ---- lists

items_take : {A : Type 0} (form : Form A) → IsCodec form → (n : ℕ) (c : Cursor) (x : List A × Cursor) → IsBytes c.rest → items_at form.read n c ≡ Ok x → Takes c (flat_map form.spell x.0) x.1 × (length x.0 ≡ n) × AllByRecursion form.Fits x.0
unfolding items_at
items_take {A} form codec zero c x fits e =
    let none : Takes c [] c = record { parts = refl; place = omega arith; rest_fits = fits } in
    subst (λ (y : List A × Cursor). Takes c (flat_map form.spell y.0) y.1 × (length y.0 ≡ 0) × AllByRecursion form.Fits y.0) (ok_is ([], c) x e) (none, refl, tt)
items_take {A} form codec (suc n) c x fits e =
    let a = bind_ok (form.read c) (λ first. items_at form.read n first.1 >>= λ others. done (first.0 ∷ others.0, others.1)) x e in
    let b = bind_ok (items_at form.read n a.0.1) (λ others. done (a.0.0 ∷ others.0, others.1)) x a.2 in
    let first = codec.takes c a.0.0 a.0.1 fits a.1 in
    let second = items_take form codec n a.0.1 b.0 first.0.rest_fits b.1 in
    let both = Takes-then c (form.spell a.0.0) a.0.1 (flat_map form.spell b.0.0) b.0.1 first.0 second.0 in
    let made : List A × Cursor = (a.0.0 ∷ b.0.0, b.0.1) in
    subst (λ (y : List A × Cursor). Takes c (flat_map form.spell y.0) y.1 × (length y.0 ≡ suc n) × AllByRecursion form.Fits y.0) (ok_is made x b.2) (rw flat_map-cons both, ap suc second.1, (first.1, second.2))

items_again : {A : Type 0} (form : Form A) → IsCodec form → (xs : List A) (at : ℕ) (rest : List ℕ) → AllByRecursion form.Fits xs
    → items_at form.read (length xs) (record { at = at; rest = flat_map form.spell xs ++ rest }) ≡ Ok (xs, record { at = at + length (flat_map form.spell xs); rest = rest })
unfolding items_at
items_again form codec [] at rest fits = let len : at + 0 ≡ at = omega arith in rw len refl
items_again {A} form codec (x ∷ xs) at rest fits =
    let y = form.spell x in
    let ys = flat_map form.spell xs in
    let grouped : flat_map form.spell (x ∷ xs) ++ rest ≡ y ++ (ys ++ rest) = ap (λ (t : List ℕ). t ++ rest) (flat_map-cons form.spell x xs) ∙ append_assoc y ys rest in
    let len : at + length y + length ys ≡ at + length (flat_map form.spell (x ∷ xs)) = omega (arith, length-append y ys, ap length (flat_map-cons form.spell x xs)) in
    ap (λ (t : List ℕ). items_at form.read (suc (length xs)) (record { at = at; rest = t })) grouped ∙ rw (codec.again x at (ys ++ rest) fits.0, items_again form codec xs (at + length y) rest fits.1, len) refl

list_takes : {A : Type 0} (form : Form A) → IsCodec form → (c : Cursor) (xs : List A) (d : Cursor) → IsBytes c.rest → (list_of form).read c ≡ Ok (xs, d) → Takes c ((list_of form).spell xs) d × (list_of form).Fits xs
list_takes form codec c xs d fits e =
    let n = bind_ok (varuint.read c) (λ n. items_at form.read n.0 n.1) (xs, d) e in
    let t = varuint_takes c n.0.0 n.0.1 fits n.1 in
    let u = items_take form codec n.0.0 n.0.1 (xs, d) t.0.rest_fits n.2 in
    let both = Takes-then c (varuint.spell n.0.0) n.0.1 (flat_map form.spell xs) d t.0 u.0 in
    (subst (λ (k : ℕ). Takes c (varuint.spell k ++ flat_map form.spell xs) d) (sym u.1) both, (omega (arith, u.1, varuint_below n.0.0 t.1), u.2))

list_again : {A : Type 0} (form : Form A) → IsCodec form → (xs : List A) (at : ℕ) (rest : List ℕ) → (list_of form).Fits xs
    → (list_of form).read (record { at = at; rest = (list_of form).spell xs ++ rest }) ≡ Ok (xs, record { at = at + length ((list_of form).spell xs); rest = rest })
list_again form codec xs at rest fits =
    let y = varuint.spell (length xs) in
    let ys = flat_map form.spell xs in
    let len : at + length y + length ys ≡ at + length (y ++ ys) = omega (arith, length-append y ys) in
    rw (append_assoc y ys rest, varuint_again (length xs) at (ys ++ rest) (varuint_fits (length xs) fits.0), items_again form codec xs (at + length y) rest fits.1, len) refl

pub IsCodec-list : {A : Type 0} {form : Form A} → IsCodec form → IsCodec (list_of form)
IsCodec-list {A} {form} codec = record { takes = list_takes form codec; again = list_again form codec }

-- ---- keys

key_takes : (c : Cursor) (x : List ℕ) (d : Cursor) → IsBytes c.rest → key.read c ≡ Ok (x, d) → Takes c x d × key.Fits x
unfolding key
key_takes c x d fits e =
    let b = bind_ok (bytes_at 34 c) (λ front. cond (ltb 1 (get_or front.0 0 0)) (Err (KeyKind c.at)) (done front)) (x, d) e in
    let g = guard_ok (ltb 1 (get_or b.0.0 0 0)) (KeyKind c.at) b.0 (x, d) b.2 in
    let t = bytes_take 34 c b.0.0 b.0.1 fits b.1 in
    subst (λ (p : List ℕ × Cursor). Takes c p.0 p.1 × ((length p.0 ≡ 34) × (get_or p.0 0 0 ≤ 1))) g.1 (t.0, (t.1, ltb-false _ _ g.0))

key_again : (x : List ℕ) (at : ℕ) (rest : List ℕ) → key.Fits x → key.read (record { at = at; rest = x ++ rest }) ≡ Ok (x, record { at = at + length x; rest = rest })
unfolding key
key_again x at rest fits =
    let small : ltb 1 (get_or x 0 0) ≡ false = le-ltb _ _ fits.1 in
    rw (bytes_again 34 x at rest fits.0, small, fits.0) refl

pub IsCodec-key : IsCodec key
unfolding key
IsCodec-key = record { takes = key_takes; again = key_again }
