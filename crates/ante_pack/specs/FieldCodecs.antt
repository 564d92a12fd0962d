-- Numbers, fields of a fixed length, pairs and the forms made of them are codecs.
use Rattle.std.proofs.Common.{◌≡◌, ℕ, ◌+◌, ◌%◌, ◌^◌, ◌<◌, ◌≤◌, false, ltb, List, [], ◌∷◌, ◌++◌, length, take, drop, Ok, refl, sym, ap, subst, ◌∙◌, append_assoc, arith, inl, inr}
use Rattle.std.specs.Int.{Width, w8, w16, w32, w64, byte_len, from_le_bytes, to_le_bytes}
use Rattle.std.proofs.lemmas.Bool.{cases_lt, ltb-false, le-ltb}
use Rattle.std.proofs.lemmas.List.{take_at, drop_at, take-append-drop, length-append, length-take, get_or-drop, get_or-take, get_or_past}
use Rattle.std.proofs.lemmas.Nat.{le_bytes_2, le_bytes_4, le_bytes_8, from_le_bytes-to_le_bytes_2, from_le_bytes-to_le_bytes_4, from_le_bytes-to_le_bytes_8}
use Rattle.ante_pack.specs.declared.fault.PackFault.TheVariants.{Short}
use Rattle.ante_pack.specs.Forms.{Cursor, advanced, Form, ◌>>=◌, bytes_at, number, fixed, pair, made_of, IsBytes}
use Rattle.ante_pack.specs.Codec.{Takes, IsCodec}
use Rattle.ante_pack.specs.ReadSteps.{bind_ok, guard_ok, done, ok_is}

pub IsBytes-drop : (n : ℕ) (bytes : List ℕ) → IsBytes bytes → IsBytes (drop n bytes)
IsBytes-drop n bytes h i = rw get_or-drop (h (n + i))

pub IsBytes-take : (n : ℕ) (bytes : List ℕ) → IsBytes bytes → IsBytes (take n bytes)
IsBytes-take n bytes h i =
    elim (cases_lt i n) [
      | inl lt ↦ rw (get_or-take n bytes i 0 lt) (h i)
      | inr le ↦ rw (get_or_past (take n bytes) i 0 (omega (arith, length-take n bytes))) (omega arith)
    ]

pub Takes-then : (a : Cursor) (x : List ℕ) (b : Cursor) (y : List ℕ) (c : Cursor) → Takes a x b → Takes b y c → Takes a (x ++ y) c
Takes-then a x b y c p q = record {
  parts = p.parts ∙ ap (λ (t : List ℕ). x ++ t) q.parts ∙ sym (append_assoc x y c.rest);
  place = omega (arith, p.place, q.place, length-append x y);
  rest_fits = q.rest_fits;
}

-- ---- so many bytes

pub bytes_take : (n : ℕ) (c : Cursor) (x : List ℕ) (d : Cursor) → IsBytes c.rest → bytes_at n c ≡ Ok (x, d) → Takes c x d × (length x ≡ n) × IsBytes x
bytes_take n c x d fits e =
    let g = guard_ok (ltb (length c.rest) n) (Short c.at) (take n c.rest, advanced n c) (x, d) e in
    let long : n ≤ length c.rest = ltb-false _ _ g.0 in
    let len : length (take n c.rest) ≡ n = omega (arith, length-take n c.rest) in
    let taken : Takes c (take n c.rest) (advanced n c) = record { parts = sym (take-append-drop n c.rest); place = omega (arith, len); rest_fits = IsBytes-drop n c.rest fits } in
    subst (λ (p : List ℕ × Cursor). Takes c p.0 p.1 × (length p.0 ≡ n) × IsBytes p.0) g.1 (taken, len, IsBytes-take n c.rest fits)

pub bytes_again : (n : ℕ) (x : List ℕ) (at : ℕ) (rest : List ℕ) → length x ≡ n → bytes_at n (record { at = at; rest = x ++ rest }) ≡ Ok (x, record { at = at + n; rest = rest })
bytes_again n x at rest len =
    let long : ltb (length (x ++ rest)) n ≡ false = le-ltb _ _ (omega (arith, length-append x rest)) in
    rw (long, take_at x rest n len, drop_at x rest n len) refl

pub IsCodec-fixed : (n : ℕ) → IsCodec (fixed n)
IsCodec-fixed n = record {
  takes = λ c x d fits e. let t = bytes_take n c x d fits e in (t.0, t.1);
  again = λ x at rest len. rw len (bytes_again n x at rest len);
}

-- ---- numbers

pub record IsWide (w : Width) : Type 0 where
  pub len : (n : ℕ) → length (to_le_bytes w n) ≡ byte_len w
  pub back : (bytes : List ℕ) → length bytes ≡ byte_len w → IsBytes bytes → to_le_bytes w (from_le_bytes w bytes) ≡ bytes
  pub again : (n : ℕ) → n < 256 ^ byte_len w → from_le_bytes w (to_le_bytes w n) ≡ n
  pub below : (bytes : List ℕ) → IsBytes bytes → from_le_bytes w bytes < 256 ^ byte_len w

wide8_back : (bytes : List ℕ) → length bytes ≡ 1 → IsBytes bytes → to_le_bytes w8 (from_le_bytes w8 bytes) ≡ bytes
wide8_back [] len fits = absurd cc
wide8_back (b ∷ []) len fits = let e : b % 256 ≡ b = omega (arith, fits 0) in rw e refl
wide8_back (b ∷ d ∷ bytes) len fits = absurd (omega (arith, len))

pub wide8 : IsWide w8
wide8 = record {
  len = λ n. refl;
  back = wide8_back;
  again = λ n lt. omega (arith, lt);
  below = λ bytes fits. omega (arith, fits 0);
}

pub wide16 : IsWide w16
wide16 = record {
  len = λ n. refl;
  back = λ bytes len fits. le_bytes_2 bytes _ len fits refl;
  again = λ n lt. from_le_bytes-to_le_bytes_2 n lt;
  below = λ bytes fits. omega (arith, fits 0, fits 1);
}

pub wide32 : IsWide w32
wide32 = record {
  len = λ n. refl;
  back = λ bytes len fits. le_bytes_4 bytes _ len fits refl;
  again = λ n lt. from_le_bytes-to_le_bytes_4 n lt;
  below = λ bytes fits. omega (arith, fits 0, fits 1, fits 2, fits 3);
}

pub wide64 : IsWide w64
wide64 = record {
  len = λ n. refl;
  back = λ bytes len fits. le_bytes_8 bytes _ len fits refl;
  again = λ n lt. from_le_bytes-to_le_bytes_8 n lt;
  below = λ bytes fits. omega (arith, fits 0, fits 1, fits 2, fits 3, fits 4, fits 5, fits 6, fits 7);
}

number_takes : (w : Width) → IsWide w → (c : Cursor) (n : ℕ) (d : Cursor) → IsBytes c.rest → (number w).read c ≡ Ok (n, d) → Takes c (to_le_bytes w n) d × (n < 256 ^ byte_len w)
number_takes w wide c n d fits e =
    let b = bind_ok (bytes_at (byte_len w) c) (λ front. done (from_le_bytes w front.0, front.1)) (n, d) e in
    let front = b.0 in
    let t = bytes_take (byte_len w) c front.0 front.1 fits b.1 in
    let taken : Takes c (to_le_bytes w (from_le_bytes w front.0)) front.1 = rw (wide.back front.0 t.1 t.2) t.0 in
    subst (λ (p : ℕ × Cursor). Takes c (to_le_bytes w p.0) p.1 × (p.0 < 256 ^ byte_len w)) (ok_is (from_le_bytes w front.0, front.1) (n, d) b.2) (taken, wide.below front.0 t.2)

number_again : (w : Width) → IsWide w → (n at : ℕ) (rest : List ℕ) → n < 256 ^ byte_len w → (number w).read (record { at = at; rest = to_le_bytes w n ++ rest }) ≡ Ok (n, record { at = at + length (to_le_bytes w n); rest = rest })
number_again w wide n at rest lt = rw (bytes_again (byte_len w) (to_le_bytes w n) at rest (wide.len n), wide.again n lt, wide.len n) refl

pub IsCodec-number : (w : Width) → IsWide w → IsCodec (number w)
IsCodec-number w wide = record { takes = number_takes w wide; again = number_again w wide }

-- ---- one value and then another, and the same bytes for another type

pair_takes : {A B : Type 0} (first : Form A) (second : Form B) → IsCodec first → IsCodec second → (c : Cursor) (p : A × B) (d : Cursor) → IsBytes c.rest → (pair first second).read c ≡ Ok (p, d) → Takes c (first.spell p.0 ++ second.spell p.1) d × (first.Fits p.0 × second.Fits p.1)
pair_takes {A} {B} first second one two c p d fits e =
    let a = bind_ok (first.read c) (λ a. second.read a.1 >>= λ b. done ((a.0, b.0), b.1)) (p, d) e in
    let b = bind_ok (second.read a.0.1) (λ b. done ((a.0.0, b.0), b.1)) (p, d) a.2 in
    let t = one.takes c a.0.0 a.0.1 fits a.1 in
    let u = two.takes a.0.1 b.0.0 b.0.1 t.0.rest_fits b.1 in
    let both = Takes-then c (first.spell a.0.0) a.0.1 (second.spell b.0.0) b.0.1 t.0 u.0 in
    let made : (A × B) × Cursor = ((a.0.0, b.0.0), b.0.1) in
    subst (λ (q : (A × B) × Cursor). Takes c (first.spell q.0.0 ++ second.spell q.0.1) q.1 × (first.Fits q.0.0 × second.Fits q.0.1)) (ok_is made (p, d) b.2) (both, (t.1, u.1))

pair_again : {A B : Type 0} (first : Form A) (second : Form B) → IsCodec first → IsCodec second → (p : A × B) (at : ℕ) (rest : List ℕ) → first.Fits p.0 × second.Fits p.1
    → (pair first second).read (record { at = at; rest = (first.spell p.0 ++ second.spell p.1) ++ rest }) ≡ Ok (p, record { at = at + length (first.spell p.0 ++ second.spell p.1); rest = rest })
pair_again first second one two p at rest fits =
    let x = first.spell p.0 in
    let y = second.spell p.1 in
    let len : at + length x + length y ≡ at + length (x ++ y) = omega (arith, length-append x y) in
    rw (append_assoc x y rest, one.again p.0 at (y ++ rest) fits.0, two.again p.1 (at + length x) rest fits.1, len) refl

pub IsCodec-pair : {A B : Type 0} {first : Form A} {second : Form B} → IsCodec first → IsCodec second → IsCodec (pair first second)
IsCodec-pair {A} {B} {first} {second} one two = record { takes = pair_takes first second one two; again = pair_again first second one two }

made_takes : {A B : Type 0} (make : A → B) (parts : B → A) (form : Form A) → IsCodec form → ((a : A) → parts (make a) ≡ a) → (c : Cursor) (b : B) (d : Cursor) → IsBytes c.rest → (made_of make parts form).read c ≡ Ok (b, d) → Takes c (form.spell (parts b)) d × form.Fits (parts b)
made_takes {A} {B} make parts form codec back c b d fits e =
    let a = bind_ok (form.read c) (λ a. done (make a.0, a.1)) (b, d) e in
    let t = codec.takes c a.0.0 a.0.1 fits a.1 in
    let made : B × Cursor = (make a.0.0, a.0.1) in
    subst (λ (q : B × Cursor). Takes c (form.spell (parts q.0)) q.1 × form.Fits (parts q.0)) (ok_is made (b, d) a.2) (rw (back a.0.0) t)

made_again : {A B : Type 0} (make : A → B) (parts : B → A) (form : Form A) → IsCodec form → ((b : B) → make (parts b) ≡ b) → (b : B) (at : ℕ) (rest : List ℕ) → form.Fits (parts b)
    → (made_of make parts form).read (record { at = at; rest = form.spell (parts b) ++ rest }) ≡ Ok (b, record { at = at + length (form.spell (parts b)); rest = rest })
made_again make parts form codec there b at rest fits = rw (codec.again (parts b) at rest fits, there b) refl

pub IsCodec-made : {A B : Type 0} (make : A → B) (parts : B → A) {form : Form A} → IsCodec form → ((a : A) → parts (make a) ≡ a) → ((b : B) → make (parts b) ≡ b) → IsCodec (made_of make parts form)
IsCodec-made {A} {B} make parts {form} codec back there = record { takes = made_takes make parts form codec back; again = made_again make parts form codec there }
