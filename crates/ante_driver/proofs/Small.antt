-- A request, or as much of bytes as is Bad, has fewer than 2^32 bytes.
use Rattle.std.proofs.Common.{◌≡◌, ℕ, ◌<◌, ◌≤◌, inl, inr, nat_lt, not, Bool, true, false, List, ◌++◌, take, drop, subst, Result, Ok, Err, if◌then◌else◌, codes, refl, sym, ◌∙◌, arith}
use Rattle.std.proofs.lemmas.Bool.Decides.{nat_tests}
use Rattle.std.specs.List.{list_any}
use Rattle.ante_http.specs.declared.answer.RequestSpan.{RequestSpan}
use Rattle.ante_http.specs.declared.answer.HeadKind.{HeadKind}
use Rattle.ante_http.specs.declared.answer.HeadKind.TheVariants.{Method, Encoding, TooLarge}
use Rattle.ante_http.specs.declared.fields.ContentLength.{ContentLength}
use Rattle.ante_http.specs.declared.fields.ContentLength.TheVariants.{Absent, Given, Invalid}
use Rattle.ante_http.specs.Fields.{accepted, content_length, is_method, is_named}
use Rattle.ante_http.specs.Limits.{most_body_bytes, most_head_bytes}
use Rattle.ante_http.specs.Requests.{IsRequest, IsBad, fields_of}
use Rattle.ante_http.proofs.Framed.{end_in}
use Rattle.ante_http.proofs.Fronts.{request-front}
use Rattle.std.proofs.lemmas.List.{take-append-drop, length-take}

given_small : (b : Bool) (n count : ℕ) → nat_lt most_body_bytes n ≡ b → ◌≡◌ {A = Result ℕ HeadKind} (if b then Err (TooLarge n) else Ok n) (Ok count) → count ≤ most_body_bytes
given_small true n count e p = absurd (grind arith)
given_small false n count e p = grind (arith, nat_tests)

accepted_small : (l : ContentLength) (count : ℕ) → accepted l ≡ Ok count → count ≤ most_body_bytes
accepted_small Absent count p = grind arith
accepted_small Invalid count p = absurd (grind arith)
accepted_small (Given n) count p = given_small (nat_lt most_body_bytes n) n count refl p

body_small : (a b : Bool) (l : ContentLength) (count : ℕ) → ◌≡◌ {A = Result ℕ HeadKind} (if a then Err Method else (if b then Err Encoding else accepted l)) (Ok count) → count ≤ most_body_bytes
body_small true b l count p = absurd (grind arith)
body_small false true l count p = absurd (grind arith)
body_small false false l count p = accepted_small l count p

pub request_small : (bytes : List ℕ) (span : RequestSpan) (n : ℕ) → IsRequest bytes span n → n < 4294967296
request_small bytes span n r =
    let end = end_in bytes (take most_head_bytes bytes) r.end refl r.has_head.ends in
    let body : r.count ≤ most_body_bytes = body_small (not (is_method r.head.method)) (list_any (is_named (codes "transfer-encoding")) (fields_of r.head)) (content_length (fields_of r.head)) r.count r.has_body in
    omega (arith, end.1, body, r.is_length)

pub bad_small : (bytes : List ℕ) (kind : HeadKind) (n : ℕ) → IsBad bytes kind n → n < 4294967296
bad_small bytes kind n (inl x) = omega (arith, x.1)
bad_small bytes kind n (inr (inl x)) = omega (arith, (end_in bytes (take most_head_bytes bytes) n refl x.1).1)
bad_small bytes kind n (inr (inr x)) = omega (arith, (end_in bytes (take most_head_bytes bytes) n refl x.1.ends).1)

-- the bytes of a request are one by themselves
pub request_alone : (held front bytes : List ℕ) (span : RequestSpan) (n : ℕ) → IsRequest held span n → front ≡ take n held → bytes ≡ front → IsRequest bytes span n
request_alone held front bytes span n r e f =
    let whole : IsRequest (take n held ++ drop n held) span n = subst (λ (x : List ℕ). IsRequest x span n) (sym (take-append-drop n held)) r in
    subst (λ (x : List ℕ). IsRequest x span n) (sym (f ∙ e)) (request-front (take n held) (drop n held) span n (omega (arith, length-take n held, r.whole)) whole)
