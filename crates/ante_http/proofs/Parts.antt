-- The parts of a request lie within its bytes.
use Rattle.std.proofs.Common.{◌≡◌, ℕ, ◌+◌, ◌≤◌, List, [], ◌∷◌, ◌++◌, length, take, ap, ◌∙◌, arith}
use Rattle.std.proofs.lemmas.List.{length-append, length-take}
use Rattle.httparse.specs.Grammar.{RequestHead, print_blank}
use Rattle.httparse.proofs.GrammarLemmas.{print_request-append}
use Rattle.ante_http.specs.declared.answer.RequestSpan.{RequestSpan}
use Rattle.ante_http.specs.Requests.{HasHead, target_span, IsRequest, HasPartsWithin}

-- three pieces and a byte between are no longer than the whole
front_fits : (whole a b c rest : List ℕ) → whole ≡ a ++ (b ++ 32 ∷ (c ++ rest)) → length a + length b + 1 + length c ≤ length whole
front_fits whole a b c rest e =
    omega (arith, ap (λ (l : List ℕ). length l) e, length-append a (b ++ 32 ∷ (c ++ rest)), length-append b (32 ∷ (c ++ rest)), length-append c rest)

target_fits : (bytes : List ℕ) (end : ℕ) (h : RequestHead) → HasHead bytes end h → (target_span h).end ≤ end
target_fits bytes end h x =
    omega (
      arith,
      front_fits (take end bytes) (print_blank h.blank) h.method h.target _ (x.is_head.reads.1 ∙ print_request-append h []),
      length-take end bytes,
    )

pub parts : (bytes : List ℕ) (r : RequestSpan) (n : ℕ) → IsRequest bytes r n → HasPartsWithin bytes r n
parts bytes r n x =
    let ts = ap (λ (s : RequestSpan). s.target.start) x.is_span in
    let te = ap (λ (s : RequestSpan). s.target.end) x.is_span in
    let bs = ap (λ (s : RequestSpan). s.body.start) x.is_span in
    let be = ap (λ (s : RequestSpan). s.body.end) x.is_span in
    let t = target_fits bytes x.end x.head x.has_head in
    (omega (arith, ts, te), omega (arith, te, bs, t), omega (arith, bs, be), omega (arith, be, x.is_length), x.whole)
