-- What method and field lines say of the body's length and of the connection (RFC 9112, sections 6.2, 6.3 and 9.6).
-- A field is its name and its value, without the white space around it.
use Rattle.std.specs.Prelude.{ℕ, ◌+◌, ◌-◌, ◌*◌, Bool, ◌&&◌, ◌||◌, not, ◌==◌, nat_lt, if◌then◌else◌, List, [], ◌∷◌, length, map, fold, codes, Option, Some, None, Result, Ok, Err}
use Rattle.std.specs.Str.{bytes_eq}
use Rattle.std.specs.Char.{to_ascii_lowercase}
use Rattle.std.specs.List.{list_any}
use Rattle.ante_http.specs.declared.fields.ContentLength.{ContentLength}
use Rattle.ante_http.specs.declared.fields.ContentLength.TheVariants.{Absent, Given, Invalid}
use Rattle.ante_http.specs.declared.answer.HeadKind.{HeadKind}
use Rattle.ante_http.specs.declared.answer.HeadKind.TheVariants.{Method, Encoding, Length, TooLarge}
use Rattle.ante_http.specs.Limits.{most_length_digits, most_body_bytes}

-- the same text in any case of letters
abbrev pub is_same_text : List ℕ → List ℕ → Bool
is_same_text one other = bytes_eq (map to_ascii_lowercase one) (map to_ascii_lowercase other)

abbrev pub is_named : List ℕ → List ℕ × List ℕ → Bool
is_named name field = is_same_text field.0 name

abbrev pub is_method : List ℕ → Bool
is_method method = bytes_eq method (codes "GET") || bytes_eq method (codes "POST")

abbrev pub is_digit : ℕ → Bool
is_digit b = not (nat_lt b 48) && not (nat_lt 57 b)

-- the number that digits write after those of n
abbrev pub number_from : ℕ → List ℕ → Option ℕ
number_from n [] = Some n
number_from n (b ∷ bytes) = if is_digit b then number_from (n * 10 + (b - 48)) bytes else None

-- the number that 1 to 18 digits write
abbrev pub number : List ℕ → Option ℕ
number text = if (length text == 0) || nat_lt most_length_digits (length text) then None else number_from 0 text

abbrev pub absent : ContentLength
absent = Absent

-- a further length: all that are given agree as numbers
abbrev pub with_length : ContentLength → Option ℕ → ContentLength
with_length found None = Invalid
with_length Absent (Some n) = Given n
with_length (Given m) (Some n) = if m == n then Given m else Invalid
with_length Invalid (Some n) = Invalid

abbrev pub with_field : ContentLength → List ℕ × List ℕ → ContentLength
with_field found field = if is_named (codes "content-length") field then with_length found (number field.1) else found

-- what all fields say
abbrev pub content_length : List (List ℕ × List ℕ) → ContentLength
content_length fields = fold with_field absent fields

abbrev pub accepted : ContentLength → Result ℕ HeadKind
accepted Absent = Ok 0
accepted Invalid = Err Length
accepted (Given n) = if nat_lt most_body_bytes n then Err (TooLarge n) else Ok n

-- the body's length, or the first fault
abbrev pub body_length : List ℕ → List (List ℕ × List ℕ) → Result ℕ HeadKind
body_length method fields =
    if not (is_method method) then Err Method
    else (if list_any (is_named (codes "transfer-encoding")) fields then Err Encoding
    else accepted (content_length fields))

abbrev pub is_close : List ℕ × List ℕ → Bool
is_close field = is_named (codes "connection") field && is_same_text field.1 (codes "close")

-- The link closes after the reply: to HTTP/1.0, or where a field says so.
abbrev pub closes : ℕ → List (List ℕ × List ℕ) → Bool
closes minor fields = (minor == 0) || list_any is_close fields
