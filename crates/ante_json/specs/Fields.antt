-- How the fields of a body are read, and which fault each can have.
use Rattle.std.specs.Prelude.{◌≡◌, ℕ, ◌==◌, if◌then◌else◌, List, length, Option, Some, None, Result, Ok, Err}
use Rattle.std.specs.Str.{chars}
use Rattle.hex.specs.Hex.{decode_of, decode_sized}
use Rattle.hex.specs.declared.error.FromHexError.{FromHexError}
use Rattle.serde_json.specs.Data.{Data}
use Rattle.serde_json.specs.Find.{get, as_str}
use Rattle.ante_pack.specs.Forms.{◌>>=◌}
use Rattle.ante_pack.specs.declared.fault.PackFault.{PackFault}
use Rattle.ante_pack.specs.declared.fault.PackFault.TheVariants.{Short, LongVaruint, KeyKind, Trailing}
use Rattle.ante_json.specs.declared.fault.BodyKind.{BodyKind}
use Rattle.ante_json.specs.declared.fault.BodyKind.TheVariants.{Missing, Wrong, NotHex, Compressed, ContextFree, Packed}
use Rattle.ante_json.specs.declared.fault.BodyError.{BodyError}
use Rattle.ante_json.specs.declared.fault.BodyError.TheVariants.{OutOfMemory, BadBody}
use Rattle.ante_json.specs.Kinds.{is_no_compression, is_empty_text}

abbrev pub or_wrong : {A : Type 0} → List ℕ → Option A → Result A BodyKind
or_wrong field None = Err (Wrong field)
or_wrong field (Some x) = Ok x

abbrev pub required_at : {A : Type 0} → (Data → Option A) → List ℕ → Option Data → Result A BodyKind
required_at kind field None = Err (Missing field)
required_at kind field (Some d) = or_wrong field (kind d)

-- a field that must be there, with a value of this kind
abbrev pub required : {A : Type 0} → (Data → Option A) → List ℕ → Data → Result A BodyKind
required kind field body = required_at kind field (get field body)

abbrev pub or_wrong_some : {A : Type 0} → List ℕ → Option A → Result (Option A) BodyKind
or_wrong_some field None = Err (Wrong field)
or_wrong_some field (Some x) = Ok (Some x)

abbrev pub optional_at : {A : Type 0} → (Data → Option A) → List ℕ → Option Data → Result (Option A) BodyKind
optional_at kind field None = Ok None
optional_at kind field (Some d) = or_wrong_some field (kind d)

-- a field that may be absent
abbrev pub optional : {A : Type 0} → (Data → Option A) → List ℕ → Data → Result (Option A) BodyKind
optional kind field body = optional_at kind field (get field body)

abbrev pub defaulted_at : {A : Type 0} → A → (Data → Option A) → List ℕ → Option Data → Result A BodyKind
defaulted_at absent kind field None = Ok absent
defaulted_at absent kind field (Some d) = or_wrong field (kind d)

-- a field that stands for this value where it is absent
abbrev pub defaulted : {A : Type 0} → A → (Data → Option A) → List ℕ → Data → Result A BodyKind
defaulted absent kind field body = defaulted_at absent kind field (get field body)

abbrev pub or_not_hex : List ℕ → Result (List ℕ) FromHexError → Result (List ℕ) BodyKind
or_not_hex field (Ok bytes) = Ok bytes
or_not_hex field (Err e) = Err (NotHex field)

abbrev pub hex_from : List ℕ → Option (List ℕ) → Result (List ℕ) BodyKind
hex_from field None = Err (Wrong field)
hex_from field (Some text) = or_not_hex field (decode_of text)

abbrev pub hex_at : List ℕ → Option Data → Result (List ℕ) BodyKind
hex_at field None = Err (Missing field)
hex_at field (Some d) = hex_from field (as_str d)

-- a text of hex digits in either case, two a byte
abbrev pub hex_field : List ℕ → Data → Result (List ℕ) BodyKind
hex_field field body = hex_at field (get field body)

abbrev pub id_text : List ℕ → List ℕ → Result (List ℕ) BodyKind
id_text field text = if length (chars text) == 64 then or_not_hex field (decode_sized text 32) else Err (Wrong field)

abbrev pub id_from : List ℕ → Option (List ℕ) → Result (List ℕ) BodyKind
id_from field None = Err (Wrong field)
id_from field (Some text) = id_text field text

abbrev pub id_at : List ℕ → Option Data → Result (List ℕ) BodyKind
id_at field None = Err (Missing field)
id_at field (Some d) = id_from field (as_str d)

-- a text of 64 characters, which are hex digits in either case
abbrev pub id_field : List ℕ → Data → Result (List ℕ) BodyKind
id_field field body = id_at field (get field body)

abbrev pub fault_place : PackFault → ℕ
fault_place (Short at) = at
fault_place (LongVaruint at) = at
fault_place (KeyKind at) = at
fault_place (Trailing at) = at

-- what packed bytes are read as
abbrev pub unpacked : {A : Type 0} → Result A PackFault → Result A BodyKind
unpacked (Ok x) = Ok x
unpacked (Err fault) = Err (Packed (fault_place fault))

-- `compression`, which is absent or says that there is none
abbrev pub uncompressed : Option Data → Result (Unit {0}) BodyKind
uncompressed None = Ok tt
uncompressed (Some d) = if is_no_compression d then Ok tt else Err Compressed

-- `packed_context_free_data`, which is absent or empty
abbrev pub without_context_free : Option Data → Result (Unit {0}) BodyKind
without_context_free None = Ok tt
without_context_free (Some d) = if is_empty_text d then Ok tt else Err ContextFree

-- A call answers what is read, unless memory runs out.
abbrev pub Answers : {A : Type 0} → Result A BodyError → Result A BodyKind → Type 0
Answers (Ok x) read = read ≡ Ok x
Answers (Err OutOfMemory) read = Unit {0}
Answers (Err (BadBody kind)) read = read ≡ Err kind

-- the same of a call whose answer shows what is read
abbrev pub AnswersBy : {X A : Type 0} → (X → A) → Result X BodyError → Result A BodyKind → Type 0
AnswersBy show (Ok x) read = read ≡ Ok (show x)
AnswersBy show (Err OutOfMemory) read = Unit {0}
AnswersBy show (Err (BadBody kind)) read = read ≡ Err kind
