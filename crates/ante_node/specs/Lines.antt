-- Lines of an input, and the packed item that one spells in hex. Of several faults of a line the first is named, in this
-- order: the line is too long; a character is no hex digit, or one is missing; the bytes aren't packed as the item is.
use Rattle.std.specs.Prelude.{◌≡◌, ◌⊎◌, ℕ, ◌+◌, ◌%◌, Bool, List, length, drop, not, nat_lt, ◌==◌, Result, Ok, Err, if◌then◌else◌}
use Rattle.std.specs.List.{position_or_len, before_first}
use Rattle.hex.specs.Hex.{decode_of, is_hex_digit}
use Rattle.hex.specs.declared.error.FromHexError.{FromHexError}
use Rattle.hex.specs.declared.error.FromHexError.TheVariants as hex_errors
use Rattle.ante_pack.specs.Forms.{◌>>=◌}
use Rattle.ante_pack.specs.declared.fault.PackFault.{PackFault}
use Rattle.ante_types.specs.Jobs.{Job, job_of}
use Rattle.ante_node.specs.Limits.{item_limit, line_limit}
use Rattle.ante_node.specs.Requests.{input_fault, pack_fault}
use Rattle.ante_node.specs.declared.fault.InputFault.{InputFault}
use Rattle.ante_node.specs.declared.fault.InputKind.TheVariants as kinds

-- the place of its first character, and its characters, without the newline
pub record TextLine : Type 0 where
  pub at : ℕ
  pub text : List ℕ

abbrev pub is_newline : ℕ → Bool
is_newline c = c == 10

-- the line that begins at a place
abbrev pub line_at : ℕ → List ℕ → TextLine
line_at at input = record { at = at; text = before_first is_newline (drop at input) }

-- the place past its last character, where its newline stands if it has one
abbrev pub line_end : TextLine → ℕ
line_end line = line.at + length line.text

-- the first character that is no hex digit, or the place past the last one where the number of characters is odd
abbrev pub hex_place : List ℕ → ℕ
hex_place text = if length text % 2 == 1 then length text else position_or_len (λ c. not (is_hex_digit c)) text

abbrev pub decoded : {E : Type 0} → TextLine → Result (List ℕ) E → Result (List ℕ) InputFault
decoded line (Ok packed) = Ok packed
decoded line (Err fault) = Err (input_fault (line.at + hex_place line.text) kinds.Hex)

-- The bytes that a line spells. That it is too long is said by a place in the packed bytes, the first that may not be.
abbrev pub bytes_in : TextLine → Result (List ℕ) InputFault
bytes_in line = if nat_lt line_limit (length line.text) then Err (input_fault item_limit kinds.Long) else decoded line (decode_of line.text)

abbrev pub unpacked : {A : Type 0} → Result A PackFault → Result A InputFault
unpacked (Ok item) = Ok item
unpacked (Err fault) = Err (pack_fault fault)

-- the transaction that a line spells
abbrev pub job_in : TextLine → Result Job InputFault
job_in line = bytes_in line >>= λ packed. unpacked (job_of packed)

-- nothing stands after the line's newline; places count characters of the input
abbrev pub ends_input : {A : Type 0} → List ℕ → TextLine → A → Result A InputFault
ends_input input line item = if nat_lt (line_end line + 1) (length input) then Err (input_fault (line_end line + 1) kinds.More) else Ok item

-- what the hex crate answers for a text that is no hex
abbrev pub IsHexFault : List ℕ → FromHexError → Type 0
IsHexFault text fault = (fault ≡ hex_errors.OutOfMemory) ⊎ (decode_of text ≡ Err fault)
