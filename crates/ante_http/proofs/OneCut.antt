-- Bytes have one answer.
use Rattle.std.proofs.Common.{◌≡◌, ℕ, ◌<◌, List, [], take, sym, ap, ap₂, ◌∙◌, subst, refl, true≢false, Result, Ok, Err, inl, inr, arith}
use Rattle.httparse.specs.Grammar.{RequestHead}
use Rattle.httparse.proofs.GrammarLemmas.{request_unique}
use Rattle.ante_http.specs.declared.answer.RequestSpan.{RequestSpan}
use Rattle.ante_http.specs.declared.answer.HeadKind.{HeadKind}
use Rattle.ante_http.specs.declared.answer.CutAnswer.{CutAnswer}
use Rattle.ante_http.specs.declared.answer.CutAnswer.TheVariants.{Need, Request, Bad}
use Rattle.ante_http.specs.Limits.{most_head_bytes}
use Rattle.ante_http.specs.HeadEnds.{IsHeadEnd, HasNoHeadEnd}
use Rattle.ante_http.specs.Fields.{body_length}
use Rattle.ante_http.specs.Requests.{IsHead, HasHead, fields_of, IsRequest, IsBad, IsCut}

-- heads end at one place
pub one_end : (bytes : List ℕ) (m n : ℕ) → IsHeadEnd bytes m → IsHeadEnd bytes n → m ≡ n
one_end bytes m n x y =
    let a : ¬ (x.place < y.place) = λ h. true≢false (sym x.ends ∙ y.first x.place h) in
    let b : ¬ (y.place < x.place) = λ h. true≢false (sym y.ends ∙ x.first y.place h) in
    omega (arith, a, b, x.is_end, y.is_end)

pub no_end : (bytes : List ℕ) (n : ℕ) → HasNoHeadEnd bytes → ¬ (IsHeadEnd bytes n)
no_end bytes n none x = true≢false (sym x.ends ∙ none x.place x.within)

pub one_head : (bytes : List ℕ) (m n : ℕ) (h k : RequestHead) → HasHead bytes m h → HasHead bytes n k → (m ≡ n) × (h ≡ k)
one_head bytes m n h k x y =
    let e = one_end (take most_head_bytes bytes) m n x.ends y.ends in
    let z = subst (λ (i : ℕ). IsHead (take i bytes) k) (sym e) y.is_head in
    (e, (request_unique (take m bytes) h k [] [] x.is_head.reads z.reads).0)

pub ok_is : {A E : Type 0} (x y : Result A E) (a b : A) → x ≡ y → x ≡ Ok a → y ≡ Ok b → a ≡ b
ok_is x y a b e p q = cc (e, p, q)

err_is : {A E : Type 0} (x y : Result A E) (a b : E) → x ≡ y → x ≡ Err a → y ≡ Err b → a ≡ b
err_is x y a b e p q = cc (e, p, q)

ok_no_err : {A E : Type 0} (x y : Result A E) (a : A) (b : E) → x ≡ y → x ≡ Ok a → ¬ (y ≡ Err b)
ok_no_err x y a b e p q = cc (e, p, q)

-- what two heads say is said of one
pub same_body : (h k : RequestHead) → h ≡ k → body_length h.method (fields_of h) ≡ body_length k.method (fields_of k)
same_body h k e = ap (λ (r : RequestHead). body_length r.method (fields_of r)) e

-- A head without a fault isn't Bad.
pub sound_not_bad : (bytes : List ℕ) (end count : ℕ) (h : RequestHead) → HasHead bytes end h → body_length h.method (fields_of h) ≡ Ok count
    → (kind : HeadKind) (n : ℕ) → ¬ (IsBad bytes kind n)
sound_not_bad bytes end count h x c kind n (inl b) = no_end (take most_head_bytes bytes) end b.3 x.ends
sound_not_bad bytes end count h x c kind n (inr (inl b)) =
    b.2 h (subst (λ (i : ℕ). IsHead (take i bytes) h) (one_end (take most_head_bytes bytes) end n x.ends b.1) x.is_head)
sound_not_bad bytes end count h x c kind n (inr (inr b)) =
    ok_no_err _ _ count kind (same_body h b.0 (one_head bytes end n h b.0 x b.1).1) c b.2

-- Requests have one span and length.
pub one_request : (bytes : List ℕ) (r s : RequestSpan) (m n : ℕ) → IsRequest bytes r m → IsRequest bytes s n → (r ≡ s) × (m ≡ n)
one_request bytes r s m n x y =
    let e = one_head bytes x.end y.end x.head y.head x.has_head y.has_head in
    let c = ok_is _ _ x.count y.count (same_body x.head y.head e.1) x.has_body y.has_body in
    (cc (x.is_span, y.is_span, e.0, e.1, c), omega (arith, x.is_length, y.is_length, e.0, c))

one_bad : (bytes : List ℕ) (k l : HeadKind) (m n : ℕ) → IsBad bytes k m → IsBad bytes l n → (k ≡ l) × (m ≡ n)
one_bad bytes k l m n (inl x) (inl y) = (x.0 ∙ sym y.0, x.1 ∙ sym y.1)
one_bad bytes k l m n (inl x) (inr (inl y)) = absurd (no_end (take most_head_bytes bytes) n x.3 y.1)
one_bad bytes k l m n (inl x) (inr (inr y)) = absurd (no_end (take most_head_bytes bytes) n x.3 y.1.ends)
one_bad bytes k l m n (inr (inl x)) (inl y) = absurd (no_end (take most_head_bytes bytes) m y.3 x.1)
one_bad bytes k l m n (inr (inl x)) (inr (inl y)) = (x.0 ∙ sym y.0, one_end (take most_head_bytes bytes) m n x.1 y.1)
one_bad bytes k l m n (inr (inl x)) (inr (inr y)) =
    absurd (x.2 y.0 (subst (λ (i : ℕ). IsHead (take i bytes) y.0) (one_end (take most_head_bytes bytes) n m y.1.ends x.1) y.1.is_head))
one_bad bytes k l m n (inr (inr x)) (inl y) = absurd (no_end (take most_head_bytes bytes) m y.3 x.1.ends)
one_bad bytes k l m n (inr (inr x)) (inr (inl y)) =
    absurd (y.2 x.0 (subst (λ (i : ℕ). IsHead (take i bytes) x.0) (one_end (take most_head_bytes bytes) m n x.1.ends y.1) x.1.is_head))
one_bad bytes k l m n (inr (inr x)) (inr (inr y)) =
    let e = one_head bytes m n x.0 y.0 x.1 y.1 in
    (err_is _ _ k l (same_body x.0 y.0 e.1) x.2 y.2, e.0)

pub request_not_bad : (bytes : List ℕ) (r : RequestSpan) (m : ℕ) (kind : HeadKind) (n : ℕ) → IsRequest bytes r m → ¬ (IsBad bytes kind n)
request_not_bad bytes r m kind n x = sound_not_bad bytes x.end x.count x.head x.has_head x.has_body kind n

pub only_one : (bytes : List ℕ) (one other : CutAnswer) → IsCut bytes one → IsCut bytes other → one ≡ other
only_one bytes Need Need x y = refl
only_one bytes Need (Request r n) x y = absurd (x.0 r n y)
only_one bytes Need (Bad k n) x y = absurd (x.1 k n y)
only_one bytes (Request r m) Need x y = absurd (y.0 r m x)
only_one bytes (Request r m) (Request s n) x y = let e = one_request bytes r s m n x y in ap₂ Request e.0 e.1
only_one bytes (Request r m) (Bad k n) x y = absurd (request_not_bad bytes r m k n x y)
only_one bytes (Bad k m) Need x y = absurd (y.1 k m x)
only_one bytes (Bad k m) (Request s n) x y = absurd (request_not_bad bytes s n k m y x)
only_one bytes (Bad k m) (Bad l n) x y = let e = one_bad bytes k l m n x y in ap₂ Bad e.0 e.1
