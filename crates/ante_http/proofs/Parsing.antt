-- From the parser's clauses to the definitions.
use Rattle.std.proofs.Common.{◌≡◌, ℕ, suc, ◌+◌, ◌-◌, ◌<◌, ◌≤◌, Bool, true, false, cond, List, [], ◌∷◌, ◌++◌, length, take, drop, map, Result, Ok, Err, sym, ap, ap₂, ◌∙◌, subst, refl, arith}
use Rattle.std.proofs.lemmas.List.{length-take, length-map}
use Rattle.std.proofs.Math.Seq.{drop-length}
use Rattle.httparse.specs.declared.Status.{Status}
use Rattle.httparse.specs.declared.Status.TheVariants.{Complete}
use Rattle.httparse.specs.declared.spans.Span.{Span}
use Rattle.httparse.specs.declared.spans.HeaderSpan.{HeaderSpan}
use Rattle.httparse.specs.declared.spans.RequestSpans.{RequestSpans}
use Rattle.httparse.specs.Grammar.{LineEnd, crlf, lf, print_blank, AllPass, is_token_byte, RequestHead, ReadsRequest}
use Rattle.httparse.specs.Outcome.{IfComplete}
use Rattle.httparse.specs.Spans.{IsWithin, IsRequestAt, IsRequestWithin, span_bytes, header_bytes, name_and_value}
use Rattle.httparse.proofs.GrammarLemmas.{print_request-append}
use Rattle.httparse.proofs.PieceLemmas.{token_is_no_newline}
use Rattle.httparse.proofs.RunLemmas.{length-slice_range}
use Rattle.std.proofs.lemmas.List.Elements.{All-head}
use Rattle.ante_http.specs.declared.answer.HeadKind.{HeadKind}
use Rattle.ante_http.specs.declared.head.HeadReading.{HeadReading}
use Rattle.ante_http.specs.HeadEnds.{is_line_end_byte, leading}
use Rattle.ante_http.specs.Fields.{body_length, closes}
use Rattle.ante_http.specs.Requests.{IsHead, fields_of, target_span}
use Rattle.ante_http.specs.Reading.{target_at, reading_with, reading, IsHeadReading}

-- a parsed head that ends where the bytes end is the whole of them
pub whole_is : (bytes : List ℕ) (headers : List HeaderSpan) (spans : RequestSpans) (h : RequestHead) → IsRequestAt bytes headers spans h → spans.len ≡ length bytes → length headers ≡ 64 → IsHead bytes h
whole_is bytes headers spans h at long room = record {
  reads = subst (ReadsRequest bytes h) (ap (λ (n : ℕ). drop n bytes) long ∙ drop-length bytes) at.reads;
  few = omega (arith, length-map h.fields name_and_value, length-map (take spans.headers headers) (header_bytes bytes), length-take spans.headers headers, ap (λ (l : List (List ℕ × List ℕ)). length l) at.fields);
}

pub complete_is : {A E : Type 0} (r : Result (Status A) E) (x : A) (P : A → Type 0) → r ≡ Ok (Complete x) → IfComplete r P → P x
complete_is r x P e h = subst (λ q. IfComplete q P) e h

leading_token : (m rest : List ℕ) → 0 < length m → AllPass is_token_byte m → leading (m ++ rest) ≡ 0
leading_token [] rest h all = absurd (omega arith)
leading_token (b ∷ m) rest h all =
    let e : is_line_end_byte b ≡ false = no_line_end b (All-head (λ v. is_token_byte v ≡ true) b m all) in
    ap (λ (v : Bool). cond v (leading (m ++ rest) + 1) 0) e
  where
    no_line_end : (b : ℕ) → is_token_byte b ≡ true → is_line_end_byte b ≡ false
    no_line_end b t = token_is_no_newline b t

-- Empty lines, and then what is none, lead by their own length.
one_more : (n : ℕ) → n + 1 ≡ suc n
one_more n = omega arith

two_more : (n : ℕ) → n + 1 + 1 ≡ suc (suc n)
two_more n = omega arith

leading_blank : (ends : List LineEnd) (rest : List ℕ) → leading rest ≡ 0 → leading (print_blank ends ++ rest) ≡ length (print_blank ends)
leading_blank [] rest e = e
leading_blank (crlf ∷ ends) rest e = ap (λ (n : ℕ). n + 1 + 1) (leading_blank ends rest e) ∙ two_more (length (print_blank ends))
leading_blank (lf ∷ ends) rest e = ap (λ (n : ℕ). n + 1) (leading_blank ends rest e) ∙ one_more (length (print_blank ends))

leading_head : (bytes : List ℕ) (h : RequestHead) → IsHead bytes h → leading bytes ≡ length (print_blank h.blank)
leading_head bytes h x =
    ap leading (x.reads.1 ∙ print_request-append h [])
    ∙ leading_blank h.blank _ (leading_token h.method _ x.reads.0.method.0 x.reads.0.method.1)

span_length : (bytes part : List ℕ) (s : Span) (n : ℕ) → IsWithin n s → n ≤ length bytes → span_bytes bytes s ≡ part → s.end - s.start ≡ length part
span_length bytes part s n w fits e =
    sym (length-slice_range bytes s.start s.end w.0 (omega (arith, w.1, fits))) ∙ ap (λ (l : List ℕ). length l) e

target_is : (bytes : List ℕ) (headers : List HeaderSpan) (spans : RequestSpans) (h : RequestHead) → IsRequestWithin bytes headers spans → IsRequestAt bytes headers spans h → IsHead bytes h
    → target_at bytes spans ≡ target_span h
target_is bytes headers spans h w at x =
    let fits = w.section.len_fits in
    let m = span_length bytes h.method spans.method spans.len w.method fits at.method in
    let p = span_length bytes h.target spans.path spans.len w.path fits at.path in
    let l = leading_head bytes h x in
    ap₂ (λ (s n : ℕ). record { start = s; end = s + n }) (ap₂ (λ (a b : ℕ). a + b + 1) l m) p

head_reading : (bytes : List ℕ) (h : RequestHead) → IsHead bytes h → (x : Result ℕ HeadKind) → body_length h.method (fields_of h) ≡ x
    → IsHeadReading bytes (reading_with x (target_span h) (closes h.minor (fields_of h)))
head_reading bytes h is (Ok n) e = (h, is, e, refl, refl)
head_reading bytes h is (Err kind) e = (h, is, e)

pub reads_as : (bytes : List ℕ) (headers : List HeaderSpan) (spans : RequestSpans) (h : RequestHead) (fields : List HeaderSpan) (r : HeadReading)
    → IsRequestWithin bytes headers spans → IsRequestAt bytes headers spans h → IsHead bytes h → fields ≡ take spans.headers headers
    → r ≡ reading (span_bytes bytes spans.method) (target_at bytes spans) spans.version (map (header_bytes bytes) fields) → IsHeadReading bytes r
reads_as bytes headers spans h fields r w at is front e =
    let f : map (header_bytes bytes) fields ≡ fields_of h = ap (λ (l : List HeaderSpan). map (header_bytes bytes) l) front ∙ at.fields in
    let t = target_is bytes headers spans h w at is in
    let same : reading (span_bytes bytes spans.method) (target_at bytes spans) spans.version (map (header_bytes bytes) fields) ≡ reading h.method (target_span h) h.minor (fields_of h) =
    cc (at.method, t, at.version, f) in
    subst (IsHeadReading bytes) (sym (e ∙ same)) (head_reading bytes h is (body_length h.method (fields_of h)) refl)
