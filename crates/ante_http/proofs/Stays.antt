-- Requests and Bad bytes stay what they are whatever bytes come after them.
use Rattle.std.proofs.Common.{◌≡◌, ℕ, zero, suc, ◌+◌, ◌-◌, ◌<◌, ◌≤◌, Bool, true, false, cond, List, [], ◌∷◌, ◌++◌, length, take, sym, ap, ◌∙◌, subst, refl, inl, inr, arith}
use Rattle.std.proofs.lemmas.Bool.Decides.{nat_tests}
use Rattle.std.proofs.lemmas.List.{get_or_append_left, length-append, length-take, take-append-le}
use Rattle.httparse.specs.Grammar.{RequestHead}
use Rattle.ante_http.specs.declared.answer.RequestSpan.{RequestSpan}
use Rattle.ante_http.specs.declared.answer.HeadKind.{HeadKind}
use Rattle.ante_http.specs.Limits.{most_head_bytes}
use Rattle.ante_http.specs.HeadEnds.{is_line_end_byte, leading, ends_at, IsHeadEnd, HasNoHeadEnd}
use Rattle.ante_http.specs.Requests.{IsHead, HasHead, IsRequest, IsBad}

leading-append : (a b : List ℕ) → leading a < length a → leading (a ++ b) ≡ leading a
leading-append [] b h = absurd (omega arith)
leading-append (x ∷ a) b h =
    let k : (v : Bool) → cond v (leading a + 1) 0 < suc (length a) → cond v (leading (a ++ b) + 1) 0 ≡ cond v (leading a + 1) 0 =
    λ v. elim v as (λ v. cond v (leading a + 1) 0 < suc (length a) → cond v (leading (a ++ b) + 1) 0 ≡ cond v (leading a + 1) 0) [
      | true ↦ λ g. ap (λ (n : ℕ). n + 1) (leading-append a b (omega (arith, g)))
      | false ↦ λ g. refl
    ] in
    k (is_line_end_byte x) h

pub ends-append : (a b : List ℕ) (from i : ℕ) → i < length a → ends_at (a ++ b) from i ≡ ends_at a from i
ends-append a b from i h =
    let p = get_or_append_left a b 0 i h in
    let q = get_or_append_left a b 0 (i - 1) (omega arith) in
    let r = get_or_append_left a b 0 (i - 2) (omega arith) in
    rw (p, q, r) refl

pub from_below : (a : List ℕ) (from i : ℕ) → ends_at a from i ≡ true → from < i
from_below a from i e = grind (arith, nat_tests)

end-append : (a b : List ℕ) (end : ℕ) → IsHeadEnd a end → IsHeadEnd (a ++ b) end
end-append a b end h =
    let e : leading (a ++ b) ≡ leading a = leading-append a b (omega (arith, h.within, from_below a (leading a) h.place h.ends)) in
    let at : (k : ℕ) → k < length a → ends_at (a ++ b) (leading (a ++ b)) k ≡ ends_at a (leading a) k =
    λ k g. ap (λ (n : ℕ). ends_at (a ++ b) n k) e ∙ ends-append a b (leading a) k g in
    record {
      place = h.place;
      is_end = h.is_end;
      within = omega (arith, h.within, length-append a b);
      ends = at h.place h.within ∙ h.ends;
      first = λ k g. at k (omega (arith, g, h.within)) ∙ h.first k g;
    }

-- the front of a longer list begins with the front of the list
pub take-more : (n : ℕ) (xs ys : List ℕ) → (more : List ℕ) × (take n (xs ++ ys) ≡ take n xs ++ more)
take-more zero xs ys = ([], refl)
take-more (suc n) [] ys = (take (suc n) ys, refl)
take-more (suc n) (x ∷ xs) ys = let t = take-more n xs ys in (t.0, ap (λ (l : List ℕ). x ∷ l) t.1)

room_end : (bytes more : List ℕ) (end : ℕ) → IsHeadEnd (take most_head_bytes bytes) end → IsHeadEnd (take most_head_bytes (bytes ++ more)) end
room_end bytes more end h =
    let t = take-more most_head_bytes bytes more in
    subst (λ b. IsHeadEnd b end) (sym t.1) (end-append (take most_head_bytes bytes) t.0 end h)

pub end_within : (bytes : List ℕ) (end : ℕ) → IsHeadEnd (take most_head_bytes bytes) end → end ≤ length bytes
end_within bytes end h = omega (arith, h.is_end, h.within, length-take most_head_bytes bytes)

-- the bytes up to the head's end stay
head_bytes : (bytes more : List ℕ) (end : ℕ) → IsHeadEnd (take most_head_bytes bytes) end → take end (bytes ++ more) ≡ take end bytes
head_bytes bytes more end h = take-append-le end bytes more (end_within bytes end h)

head-append : (bytes more : List ℕ) (end : ℕ) (h : RequestHead) → HasHead bytes end h → HasHead (bytes ++ more) end h
head-append bytes more end h x = record {
  ends = room_end bytes more end x.ends;
  is_head = subst (λ b. IsHead b h) (sym (head_bytes bytes more end x.ends)) x.is_head;
}

pub request-append : (bytes more : List ℕ) (request : RequestSpan) (n : ℕ) → IsRequest bytes request n → IsRequest (bytes ++ more) request n
request-append bytes more request n x = record {
  head = x.head;
  end = x.end;
  count = x.count;
  has_head = head-append bytes more x.end x.head x.has_head;
  has_body = x.has_body;
  is_span = x.is_span;
  is_length = x.is_length;
  whole = omega (arith, x.whole, length-append bytes more);
}

pub bad-append : (bytes more : List ℕ) (kind : HeadKind) (n : ℕ) → IsBad bytes kind n → IsBad (bytes ++ more) kind n
bad-append bytes more kind n (inl x) =
    inl (x.0, x.1, omega (arith, x.2, length-append bytes more), subst HasNoHeadEnd (sym (take-append-le most_head_bytes bytes more x.2)) x.3)
bad-append bytes more kind n (inr (inl x)) =
    inr (inl (x.0, room_end bytes more n x.1, λ h y. x.2 h (subst (λ b. IsHead b h) (head_bytes bytes more n x.1) y)))
bad-append bytes more kind n (inr (inr x)) = inr (inr (x.0, head-append bytes more n x.0 x.1, x.2))
