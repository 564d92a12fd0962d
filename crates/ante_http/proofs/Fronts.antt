-- A request depends on its own bytes alone, so shorter fronts need more.
use Rattle.std.proofs.Common.{◌≡◌, ℕ, suc, ◌+◌, ◌<◌, ◌≤◌, Bool, true, false, cond, List, [], ◌∷◌, ◌++◌, length, take, sym, ap, ◌∙◌, subst, refl, arith}
use Rattle.std.proofs.lemmas.List.{length-append, length-take, take-append-le}
use Rattle.httparse.specs.Grammar.{RequestHead}
use Rattle.ante_http.specs.declared.answer.RequestSpan.{RequestSpan}
use Rattle.ante_http.specs.declared.answer.HeadKind.{HeadKind}
use Rattle.ante_http.specs.declared.answer.CutAnswer.TheVariants.{Need}
use Rattle.ante_http.specs.Limits.{most_head_bytes}
use Rattle.ante_http.specs.HeadEnds.{is_line_end_byte, leading, ends_at, IsHeadEnd}
use Rattle.ante_http.specs.Requests.{IsHead, HasHead, IsRequest, IsBad, IsCut}
use Rattle.ante_http.proofs.Stays.{ends-append, from_below, take-more, request-append, bad-append}
use Rattle.ante_http.proofs.OneCut.{one_request, request_not_bad}

leading-front : (a b : List ℕ) → leading (a ++ b) < length a → leading (a ++ b) ≡ leading a
leading-front [] b h = absurd (omega arith)
leading-front (x ∷ a) b h =
    let k : (v : Bool) → cond v (leading (a ++ b) + 1) 0 < suc (length a) → cond v (leading (a ++ b) + 1) 0 ≡ cond v (leading a + 1) 0 =
    λ v. elim v as (λ v. cond v (leading (a ++ b) + 1) 0 < suc (length a) → cond v (leading (a ++ b) + 1) 0 ≡ cond v (leading a + 1) 0) [
      | true ↦ λ g. ap (λ (n : ℕ). n + 1) (leading-front a b (omega (arith, g)))
      | false ↦ λ g. refl
    ] in
    k (is_line_end_byte x) h

end-front : (a b : List ℕ) (end : ℕ) → end ≤ length a → IsHeadEnd (a ++ b) end → IsHeadEnd a end
end-front a b end fits h =
    let place : h.place < length a = omega (arith, h.is_end, fits) in
    let e : leading (a ++ b) ≡ leading a = leading-front a b (omega (arith, place, from_below (a ++ b) (leading (a ++ b)) h.place h.ends)) in
    let at : (k : ℕ) → k < length a → ends_at a (leading a) k ≡ ends_at (a ++ b) (leading (a ++ b)) k =
    λ k g. sym (ap (λ (n : ℕ). ends_at (a ++ b) n k) e ∙ ends-append a b (leading a) k g) in
    record {
      place = h.place;
      is_end = h.is_end;
      within = place;
      ends = at h.place place ∙ h.ends;
      first = λ k g. at k (omega (arith, g, place)) ∙ h.first k g;
    }

head-front : (bytes more : List ℕ) (end : ℕ) (h : RequestHead) → end ≤ length bytes → HasHead (bytes ++ more) end h → HasHead bytes end h
head-front bytes more end h fits x =
    let t = take-more most_head_bytes bytes more in
    let room : end ≤ length (take most_head_bytes bytes) =
    omega (arith, fits, x.ends.is_end, x.ends.within, length-take most_head_bytes (bytes ++ more), length-take most_head_bytes bytes, length-append bytes more) in
    record {
      ends = end-front (take most_head_bytes bytes) t.0 end room (subst (λ b. IsHeadEnd b end) t.1 x.ends);
      is_head = subst (λ b. IsHead b h) (take-append-le end bytes more fits) x.is_head;
    }

pub request-front : (bytes more : List ℕ) (request : RequestSpan) (n : ℕ) → n ≤ length bytes → IsRequest (bytes ++ more) request n → IsRequest bytes request n
request-front bytes more request n fits x = record {
  head = x.head;
  end = x.end;
  count = x.count;
  has_head = head-front bytes more x.end x.head (omega (arith, fits, x.is_length)) x.has_head;
  has_body = x.has_body;
  is_span = x.is_span;
  is_length = x.is_length;
  whole = fits;
}

pub front-needs : (bytes more : List ℕ) (request : RequestSpan) (n : ℕ) → length bytes < n → IsRequest (bytes ++ more) request n → IsCut bytes Need
front-needs bytes more request n few x = (no_request, no_bad)
  where
    no_request : (r : RequestSpan) (m : ℕ) → ¬ (IsRequest bytes r m)
    no_request r m y =
        let e = one_request (bytes ++ more) request r n m x (request-append bytes more r m y) in
        omega (arith, few, e.1, y.whole)

    no_bad : (kind : HeadKind) (m : ℕ) → ¬ (IsBad bytes kind m)
    no_bad kind m y = request_not_bad (bytes ++ more) request n kind m x (bad-append bytes more kind m y)
