-- What a JSON value of each kind stands for, and None where it is of another kind or out of its range.
use Rattle.std.specs.Prelude.{ℕ, ◌+◌, ◌-◌, ◌*◌, ◌^◌, ◌==◌, ◌||◌, Bool, false, not, nat_lt, if◌then◌else◌, List, []}
use Rattle.std.specs.Prelude.{◌∷◌, length, fold, codes, Option, Some, None, option_map, option_and_then, Result, Ok, Err}
use Rattle.std.specs.Str.{bytes_eq}
use Rattle.hex.specs.Hex.{decode_sized}
use Rattle.hex.specs.declared.error.FromHexError.{FromHexError}
use Rattle.serde_json.specs.Data.{Data, Items, no_items, item}
use Rattle.serde_json.specs.Find.{as_bool, as_number, as_str, as_array, as_u64}
use Rattle.ante_pack.specs.declared.names.Name.{Name}
use Rattle.ante_pack.specs.declared.names.NameFault.{NameFault}
use Rattle.ante_pack.specs.Names.{name_of_text}
use Rattle.ante_http.specs.Fields.{is_digit}
use Rattle.ante_views.specs.declared.queries.BlockRef.{BlockRef}
use Rattle.ante_views.specs.declared.queries.BlockRef.TheVariants.{Num, Id}

-- a number that JSON writes as a whole number of 64 bits: no fraction, no exponent, no minus
abbrev pub number_of : Data → Option ℕ
number_of d = option_and_then as_u64 (as_number d)

abbrev pub of_64_bits : ℕ → Option ℕ
of_64_bits n = if nat_lt n (2 ^ 64) then Some n else None

-- a number with one more decimal digit
abbrev pub with_digit : Option ℕ → ℕ → Option ℕ
with_digit None byte = None
with_digit (Some n) byte = if is_digit byte then of_64_bits (n * 10 + (byte - 48)) else None

-- the number of 64 bits that one or more decimal digits write, with leading zeros or without
abbrev pub decimal_number : List ℕ → Option ℕ
decimal_number text = if length text == 0 then None else fold with_digit (Some 0) text

abbrev pub named : Result Name NameFault → Option Name
named (Ok name) = Some name
named (Err fault) = None

-- a text that is a name
abbrev pub name_of : Data → Option Name
name_of d = option_and_then (λ text. named (name_of_text text)) (as_str d)

abbrev pub or_name : Option ℕ → List ℕ → Option ℕ
or_name (Some n) text = Some n
or_name None text = option_map (λ name. name.0) (named (name_of_text text))

abbrev pub bound_from : Option (List ℕ) → Data → Option ℕ
bound_from None d = number_of d
bound_from (Some text) d = or_name (decimal_number text) text

-- a number, a text of decimal digits, or else a name
abbrev pub bound_of : Data → Option ℕ
bound_of d = bound_from (as_str d) d

abbrev pub most_rows : ℕ
most_rows = 1000

abbrev pub at_most : ℕ → ℕ → ℕ
at_most most n = if nat_lt most n then most else n

-- a number, cut at the most rows of one answer
abbrev pub limit_of : Data → Option ℕ
limit_of d = option_map (at_most most_rows) (number_of d)

abbrev pub flag_of : Data → Option Bool
flag_of d = as_bool d

abbrev pub id_or_number : Result (List ℕ) FromHexError → List ℕ → Option BlockRef
id_or_number (Ok id) text = Some (Id id)
id_or_number (Err e) text = option_map Num (decimal_number text)

abbrev pub block_from : Option (List ℕ) → Data → Option BlockRef
block_from None d = option_map Num (number_of d)
block_from (Some text) d = id_or_number (decode_sized text 32) text

-- a number, a text of 64 hex digits, or else a text of decimal digits
abbrev pub block_of : Data → Option BlockRef
block_of d = block_from (as_str d) d

abbrev pub texts_from : Items → Option (List (List ℕ))
texts_from no_items = Some []
texts_from (item d ds) = option_and_then (λ text. option_map (λ texts. text ∷ texts) (texts_from ds)) (as_str d)

-- a list of texts
abbrev pub texts_of : Data → Option (List (List ℕ))
texts_of d = option_and_then texts_from (as_array d)

abbrev pub is_text : List ℕ → Option (List ℕ) → Bool
is_text wanted None = false
is_text wanted (Some text) = bytes_eq text wanted

abbrev pub is_false : Option Bool → Bool
is_false None = false
is_false (Some flag) = not flag

abbrev pub is_zero : Option ℕ → Bool
is_zero None = false
is_zero (Some n) = n == 0

-- `false`, 0, or the text `none`
abbrev pub is_no_compression : Data → Bool
is_no_compression d = is_false (as_bool d) || (is_zero (number_of d) || is_text (codes "none") (as_str d))

-- the empty text
abbrev pub is_empty_text : Data → Bool
is_empty_text d = is_text [] (as_str d)
