-- Names of accounts, actions, tables and permissions, as texts and as numbers.
use Rattle.std.specs.Prelude.{◌≡◌, ◌≢◌, ℕ, ◌+◌, ◌-◌, ◌*◌, ◌/◌, ◌%◌, ◌^◌, ◌<◌, ◌≤◌, List, [], ◌∷◌, map, length, take, slice_index, Result, Ok, Err, codes, nat_lt, nat_le, ◌==◌, ◌&&◌, if◌then◌else◌}
use Rattle.std.specs.List.{position_or_len, suffix_len, range_with_len}
use Rattle.ante_pack.specs.declared.names.Name.{Name}
use Rattle.ante_pack.specs.declared.names.NameFault.{NameFault}
use Rattle.ante_pack.specs.declared.names.NameFault.TheVariants.{TooLong, BadChar, BadLast}

-- The characters of names, in the order of their numbers.
abbrev pub alphabet : List ℕ
alphabet = codes ".12345abcdefghijklmnopqrstuvwxyz"

-- The number of a character: its place in the alphabet, and 32 where it has none.
unfoldable pub number_of : ℕ → ℕ
number_of c = position_or_len (λ x. x == c) alphabet

-- The worth of a place: 2^59, 2^54 and so on down to 2^4 for the first twelve, and 1 for the thirteenth.
abbrev pub worth : ℕ → ℕ
worth place = if nat_lt place 12 then 2 ^ (59 - 5 * place) else 1

-- How many characters may stand at a place: all of them, but at the thirteenth only the first sixteen.
abbrev pub choices : ℕ → ℕ
choices place = if nat_lt place 12 then 32 else 16

-- The number of a text: each character's number times the worth of its place, added up.
abbrev pub number_from : ℕ → List ℕ → ℕ
number_from place [] = 0
number_from place (c ∷ text) = number_of c * worth place + number_from (place + 1) text

unfoldable pub name_number : List ℕ → ℕ
name_number text = number_from 0 text

-- The text is the name of the number: at most thirteen characters, each one that may stand at its place, no dot at the
-- end, and the number of the text is that one.
pub record IsNameText (text : List ℕ) (n : ℕ) : Type 0 where
  pub short : length text ≤ 13
  pub letters : (place : ℕ) → place < length text → number_of (slice_index text place) < choices place
  pub no_dot : 0 < length text → slice_index text (length text - 1) ≢ 46
  pub number : name_number text ≡ n

-- The character at a place of the name of a number.
abbrev pub character_at : ℕ → ℕ → ℕ
character_at n place = slice_index alphabet (n / worth place % choices place)

-- A text without the dots at its end.
abbrev pub without_dots : List ℕ → List ℕ
without_dots text = take (length text - suffix_len (λ c. c == 46) text) text

-- The name of a number: its thirteen characters, without the dots at the end.
unfoldable pub name_text : ℕ → List ℕ
name_text n = without_dots (map (character_at n) (range_with_len 0 13))

-- The place of the first character that isn't of the alphabet, and the length where all are.
unfoldable pub first_bad : List ℕ → ℕ
first_bad text = position_or_len (λ c. nat_le 32 (number_of c)) text

-- What a text is read as, with dots at its end or without. Of several faults the first in this order is answered.
unfoldable pub name_of_text : List ℕ → Result Name NameFault
name_of_text text =
    if nat_lt 13 (length text) then Err TooLong
    else if nat_lt (first_bad text) (length text) then Err (BadChar (first_bad text))
    else if nat_lt 12 (length text) && nat_le 16 (number_of (slice_index text 12)) then Err BadLast
    else Ok (record { 0 = name_number text })

-- Every number of 64 bits has a name and only one, which is read as that number.
pub record NamesAreNumbers : Type 0 where
  pub some : (n : ℕ) → n < 2 ^ 64 → IsNameText (name_text n) n
  pub one : (text other : List ℕ) (n : ℕ) → IsNameText text n → IsNameText other n → text ≡ other
  pub fits : (text : List ℕ) (n : ℕ) → IsNameText text n → n < 2 ^ 64
  pub back : (text : List ℕ) (n : ℕ) → IsNameText text n → name_of_text text ≡ Ok (record { 0 = n })
