-- What bytes begin with: a request, less than one, or bytes that are Bad.
use Rattle.std.specs.Prelude.{◌≡◌, ℕ, ◌+◌, ◌≤◌, ◌⊎◌, List, [], length, take, map, Ok, Err}
use Rattle.httparse.specs.Grammar.{RequestHead, ReadsRequest, print_blank}
use Rattle.httparse.specs.Spans.{name_and_value}
use Rattle.httparse.specs.declared.spans.Span.{Span}
use Rattle.ante_http.specs.declared.answer.RequestSpan.{RequestSpan}
use Rattle.ante_http.specs.declared.answer.HeadKind.{HeadKind}
use Rattle.ante_http.specs.declared.answer.HeadKind.TheVariants.{HeadLong, Head}
use Rattle.ante_http.specs.declared.answer.CutAnswer.{CutAnswer}
use Rattle.ante_http.specs.declared.answer.CutAnswer.TheVariants.{Need, Request, Bad}
use Rattle.ante_http.specs.Limits.{most_head_bytes, most_fields}
use Rattle.ante_http.specs.HeadEnds.{IsHeadEnd, HasNoHeadEnd}
use Rattle.ante_http.specs.Fields.{body_length, closes}

-- These bytes, all of them, are this head.
pub record IsHead (bytes : List ℕ) (h : RequestHead) : Type 0 where
  pub reads : ReadsRequest bytes h []
  pub few : length h.fields ≤ most_fields

-- A head ends there, soon enough.
pub record HasHead (bytes : List ℕ) (end : ℕ) (h : RequestHead) : Type 0 where
  pub ends : IsHeadEnd (take most_head_bytes bytes) end
  pub is_head : IsHead (take end bytes) h

-- each field's name, and its value without the white space around it
abbrev pub fields_of : RequestHead → List (List ℕ × List ℕ)
fields_of h = map name_and_value h.fields

-- the target stands after the empty lines, the method and a space
abbrev pub target_span : RequestHead → Span
target_span h =
    let start = length (print_blank h.blank) + length h.method + 1 in
    record { start = start; end = start + length h.target }

abbrev pub request_span : RequestHead → ℕ → ℕ → RequestSpan
request_span h end count = record {
  target = target_span h;
  body = record { start = end; end = end + count };
  close = closes h.minor (fields_of h);
}

-- The first n bytes are a request: a head, and a body as long as the head says.
pub record IsRequest (bytes : List ℕ) (request : RequestSpan) (n : ℕ) : Type 0 where
  pub head : RequestHead
  pub end : ℕ
  pub count : ℕ
  pub has_head : HasHead bytes end head
  pub has_body : body_length head.method (fields_of head) ≡ Ok count
  pub is_span : request ≡ request_span head end count
  pub is_length : n ≡ end + count
  pub whole : n ≤ length bytes

-- The target lies in the head, and the body follows it and ends with the request.
abbrev pub HasPartsWithin : List ℕ → RequestSpan → ℕ → Type 0
HasPartsWithin bytes r n =
    (r.target.start ≤ r.target.end) × (r.target.end ≤ r.body.start) × (r.body.start ≤ r.body.end) × (r.body.end ≡ n) × (n ≤ length bytes)

-- No head ends soon enough; or one ends there, which is no head, or is one with a fault. n counts the bytes that were looked at.
abbrev pub IsBad : List ℕ → HeadKind → ℕ → Type 0
IsBad bytes kind n =
    ((kind ≡ HeadLong) × (n ≡ most_head_bytes) × (most_head_bytes ≤ length bytes) × HasNoHeadEnd (take most_head_bytes bytes))
    ⊎ ((kind ≡ Head) × IsHeadEnd (take most_head_bytes bytes) n × ((h : RequestHead) → ¬ (IsHead (take n bytes) h)))
    ⊎ ((h : RequestHead) × HasHead bytes n h × (body_length h.method (fields_of h) ≡ Err kind))

-- More bytes are needed exactly where no front is a request and the bytes aren't Bad.
abbrev pub IsCut : List ℕ → CutAnswer → Type 0
IsCut bytes Need = ((request : RequestSpan) (n : ℕ) → ¬ (IsRequest bytes request n)) × ((kind : HeadKind) (n : ℕ) → ¬ (IsBad bytes kind n))
IsCut bytes (Request request n) = IsRequest bytes request n
IsCut bytes (Bad kind n) = IsBad bytes kind n
