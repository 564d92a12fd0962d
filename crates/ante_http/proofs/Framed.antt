-- From the steps of a cut to its answer.
use Rattle.std.proofs.Common.{◌≡◌, ℕ, ◌+◌, ◌<◌, ◌≤◌, List, length, take, Ok, ap, ◌∙◌, subst, arith}
use Rattle.httparse.specs.Grammar.{RequestHead}
use Rattle.ante_http.specs.declared.answer.CutAnswer.{CutAnswer}
use Rattle.ante_http.specs.declared.answer.RequestSpan.{RequestSpan}
use Rattle.ante_http.specs.declared.answer.CutAnswer.TheVariants.{Need, Request, Bad}
use Rattle.ante_http.specs.declared.head.Framing.{Framing}
use Rattle.ante_http.specs.declared.head.HeadReading.TheVariants.{Framed}
use Rattle.ante_http.specs.Limits.{most_head_bytes}
use Rattle.ante_http.specs.HeadEnds.{IsHeadEnd}
use Rattle.ante_http.specs.Fields.{body_length}
use Rattle.ante_http.specs.Requests.{IsHead, HasHead, fields_of, IsRequest, IsCut}
use Rattle.ante_http.specs.Reading.{IsHeadReading, IsFramed}
use Rattle.ante_http.proofs.OneCut.{one_head, same_body, ok_is, sound_not_bad}
use Rattle.std.proofs.lemmas.List.{length-take}

-- the head's end lies within the bytes, and within the room of a head
pub end_in : (bytes room : List ℕ) (end : ℕ) → room ≡ take most_head_bytes bytes → IsHeadEnd room end → (end ≤ length bytes) × (end ≤ most_head_bytes)
end_in bytes room end e h =
    let l = ap (λ (r : List ℕ). length r) e in
    (omega (arith, h.is_end, h.within, l, length-take most_head_bytes bytes), omega (arith, h.is_end, h.within, l, length-take most_head_bytes bytes))

-- no front is a request where fewer bytes are there than the head asks for
short : (bytes : List ℕ) (end count : ℕ) (h : RequestHead) → HasHead bytes end h → body_length h.method (fields_of h) ≡ Ok count → length bytes < end + count → IsCut bytes Need
short bytes end count h x c few = (no_request, sound_not_bad bytes end count h x c)
  where
    no_request : (r : RequestSpan) (n : ℕ) → ¬ (IsRequest bytes r n)
    no_request r n y =
        let e = one_head bytes end y.end h y.head x y.has_head in
        let same = ok_is _ _ count y.count (same_body h y.head e.1) c y.has_body in
        omega (arith, few, y.is_length, y.whole, e.0, same)

pub framed : (bytes room front : List ℕ) (end : ℕ) (f : Framing) (answer : CutAnswer) → room ≡ take most_head_bytes bytes → IsHeadEnd room end → front ≡ take end bytes
    → IsHeadReading front (Framed f) → IsFramed (length bytes) end f answer → IsCut bytes answer
framed bytes room front end f answer e h t r a = by_answer answer a
  where
    has : HasHead bytes end r.0
    has = record {
      ends = subst (λ b. IsHeadEnd b end) e h;
      is_head = subst (λ b. IsHead b r.0) t r.1;
    }

    by_answer : (answer : CutAnswer) → IsFramed (length bytes) end f answer → IsCut bytes answer
    by_answer Need a = short bytes end f.body_length r.0 has r.2 a
    by_answer (Request request n) a = record {
      head = r.0;
      end = end;
      count = f.body_length;
      has_head = has;
      has_body = r.2;
      is_span = a.0 ∙ cc (r.3, r.4);
      is_length = a.1;
      whole = a.2;
    }
    by_answer (Bad kind n) a = absurd a
