-- What the steps of reading a head answer.
use Rattle.std.specs.Prelude.{◌≡◌, ℕ, ◌+◌, ◌-◌, ◌<◌, ◌≤◌, Bool, List, map, Result, Ok, Err}
use Rattle.httparse.specs.Grammar.{RequestHead}
use Rattle.httparse.specs.declared.spans.Span.{Span}
use Rattle.httparse.specs.declared.spans.HeaderSpan.{HeaderSpan}
use Rattle.httparse.specs.declared.spans.RequestSpans.{RequestSpans}
use Rattle.httparse.specs.Spans.{span_bytes, header_bytes}
use Rattle.ante_http.specs.declared.answer.HeadKind.{HeadKind}
use Rattle.ante_http.specs.HeadEnds.{leading}
use Rattle.ante_http.specs.declared.answer.CutAnswer.{CutAnswer}
use Rattle.ante_http.specs.declared.answer.CutAnswer.TheVariants.{Need, Request, Bad}
use Rattle.ante_http.specs.declared.head.Framing.{Framing}
use Rattle.ante_http.specs.declared.head.HeadReading.{HeadReading}
use Rattle.ante_http.specs.declared.head.HeadReading.TheVariants.{Malformed, Fault, Framed}
use Rattle.ante_http.specs.Fields.{body_length, closes}
use Rattle.ante_http.specs.Requests.{IsHead, fields_of, target_span}

-- where the target stands, by the lengths of what the parser found
abbrev pub target_at : List ℕ → RequestSpans → Span
target_at bytes spans =
    let start = leading bytes + (spans.method.end - spans.method.start) + 1 in
    record { start = start; end = start + (spans.path.end - spans.path.start) }

abbrev pub reading_with : Result ℕ HeadKind → Span → Bool → HeadReading
reading_with (Err kind) target close = Fault kind
reading_with (Ok count) target close = Framed (record { target = target; body_length = count; close = close })

-- what a head of these parts reads as
abbrev pub reading : List ℕ → Span → ℕ → List (List ℕ × List ℕ) → HeadReading
reading method target minor fields = reading_with (body_length method fields) target (closes minor fields)

-- the same of the parts that the parser found
abbrev pub reading_at : List ℕ → RequestSpans → List HeaderSpan → HeadReading
reading_at bytes spans fields = reading (span_bytes bytes spans.method) (target_at bytes spans) spans.version (map (header_bytes bytes) fields)

-- These bytes are no head, one with a fault, or one with this framing.
abbrev pub IsHeadReading : List ℕ → HeadReading → Type 0
IsHeadReading bytes Malformed = (h : RequestHead) → ¬ (IsHead bytes h)
IsHeadReading bytes (Fault kind) = (h : RequestHead) × IsHead bytes h × (body_length h.method (fields_of h) ≡ Err kind)
IsHeadReading bytes (Framed f) =
    (h : RequestHead) × IsHead bytes h × (body_length h.method (fields_of h) ≡ Ok f.body_length)
    × (f.target ≡ target_span h) × (f.close ≡ closes h.minor (fields_of h))

-- The answer where a head with this framing ends at `end`.
abbrev pub IsFramed : ℕ → ℕ → Framing → CutAnswer → Type 0
IsFramed available end f Need = available < end + f.body_length
IsFramed available end f (Request request n) =
    (request ≡ record { target = f.target; body = record { start = end; end = end + f.body_length }; close = f.close })
    × (n ≡ end + f.body_length) × (n ≤ available)
IsFramed available end f (Bad kind n) = ⊥
