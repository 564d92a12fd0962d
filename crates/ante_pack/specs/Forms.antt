-- Packed forms. A form of a type says how its values are packed: the one spelling of each value, which values have a
-- spelling, and what is read from the front of some bytes, with the first fault and its place.
use Rattle.std.specs.Prelude.{◌≡◌, ℕ, zero, suc, ◌+◌, ◌-◌, ◌*◌, ◌/◌, ◌%◌, ◌^◌, ◌<◌, ◌≤◌, List, [], ◌∷◌, ◌++◌, length, take, drop, Result, Ok, Err, slice_index, IfOk, IfErr, OnErr, nat_lt, ◌==◌, if◌then◌else◌}
use Rattle.std.specs.Int.{Width, byte_len, from_le_bytes, to_le_bytes}
use Rattle.std.specs.List.{flat_map, AllByRecursion}
use Rattle.ante_pack.specs.declared.fault.PackFault.{PackFault}
use Rattle.ante_pack.specs.declared.fault.PackFault.TheVariants.{Short, LongVaruint, Trailing}
use Rattle.ante_pack.specs.declared.fault.ReadFault.{ReadFault}
use Rattle.ante_pack.specs.declared.fault.ReadFault.TheVariants as faults

-- A place in packed bytes: how many were read, and those that are left.
pub record Cursor : Type 0 where
  pub at : ℕ
  pub rest : List ℕ

abbrev pub advanced : ℕ → Cursor → Cursor
advanced n c = record { at = c.at + n; rest = drop n c.rest }

pub record Form (A : Type 0) : Type 1 where
  pub spell : A → List ℕ
  pub Fits : A → Type 0
  pub read : Cursor → Result (A × Cursor) PackFault

-- one step after another, up to the first fault
infixl 10 ◌>>=◌
abbrev pub ◌>>=◌ : {A B E : Type 0} → Result A E → (A → Result B E) → Result B E
(Ok x) >>= f = f x
(Err fault) >>= f = Err fault

-- the next n bytes
abbrev pub bytes_at : ℕ → Cursor → Result (List ℕ × Cursor) PackFault
bytes_at n c = if nat_lt (length c.rest) n then Err (Short c.at) else Ok (take n c.rest, advanced n c)

-- ---- the forms that others are made of

-- an unsigned number of a width, the lowest byte first
abbrev pub number : Width → Form ℕ
number w = record {
  spell = to_le_bytes w;
  Fits = λ n. n < 256 ^ byte_len w;
  read = λ c. bytes_at (byte_len w) c >>= λ front. Ok (from_le_bytes w front.0, front.1);
}

-- so many bytes
abbrev pub fixed : ℕ → Form (List ℕ)
fixed n = record { spell = λ bytes. bytes; Fits = λ bytes. length bytes ≡ n; read = bytes_at n }

-- one value and then another
abbrev pub pair : {A B : Type 0} → Form A → Form B → Form (A × B)
pair first second = record {
  spell = λ p. first.spell p.0 ++ second.spell p.1;
  Fits = λ p. first.Fits p.0 × second.Fits p.1;
  read = λ c. first.read c >>= λ a. second.read a.1 >>= λ b. Ok ((a.0, b.0), b.1);
}

-- the same bytes for values of another type
abbrev pub made_of : {A B : Type 0} → (A → B) → (B → A) → Form A → Form B
made_of make parts form = record {
  spell = λ b. form.spell (parts b);
  Fits = λ b. form.Fits (parts b);
  read = λ c. form.read c >>= λ a. Ok (make a.0, a.1);
}

-- LEB128: seven bits a byte, the lowest first, and each byte but the last has its top bit set. At most `left` bytes
-- follow the first.
unfoldable pub varuint_bytes : ℕ → ℕ → List ℕ
varuint_bytes zero n = n ∷ []
varuint_bytes (suc left) n = if nat_lt n 128 then n ∷ [] else (128 + n % 128) ∷ varuint_bytes left (n / 128)

-- The last of five bytes has only four bits to give, and the last of several isn't 0: there is one spelling, the
-- shortest. Faults name the first byte, which stands at `at`.
unfoldable pub varuint_within : ℕ → List ℕ → ℕ → Result (ℕ × List ℕ) PackFault
varuint_within at [] left = Err (Short at)
varuint_within at (b ∷ bytes) zero = if nat_lt b 16 then Ok (b, bytes) else Err (LongVaruint at)
varuint_within at (b ∷ bytes) (suc left) =
    if nat_lt b 128 then Ok (b, bytes)
    else (varuint_within at bytes left >>= λ high. if high.0 == 0 then Err (LongVaruint at) else Ok (b - 128 + 128 * high.0, high.1))

-- how large a number can be of which at most `left` bytes follow the first
abbrev pub Bounded : ℕ → ℕ → Type 0
Bounded left n = (left ≡ 0 → n < 2 ^ 4) × (left ≤ 1 → n < 2 ^ 11) × (left ≤ 2 → n < 2 ^ 18) × (left ≤ 3 → n < 2 ^ 25) × (n < 2 ^ 32)

unfoldable pub varuint : Form ℕ
varuint = record {
  spell = varuint_bytes 4;
  Fits = λ n. n < 2 ^ 32;
  read = λ c. varuint_within c.at c.rest 4 >>= λ n. Ok (n.0, record { at = c.at + (length c.rest - length n.1); rest = n.1 });
}

-- a length, and then that many bytes
unfoldable pub string : Form (List ℕ)
string = record {
  spell = λ bytes. varuint.spell (length bytes) ++ bytes;
  Fits = λ bytes. length bytes < 2 ^ 32;
  read = λ c. varuint.read c >>= λ n. bytes_at n.0 n.1;
}

unfoldable pub items_at : {A : Type 0} → (Cursor → Result (A × Cursor) PackFault) → ℕ → Cursor → Result (List A × Cursor) PackFault
items_at item zero c = Ok ([], c)
items_at item (suc n) c = item c >>= λ first. items_at item n first.1 >>= λ others. Ok (first.0 ∷ others.0, others.1)

-- a count, and then that many items
abbrev pub list_of : {A : Type 0} → Form A → Form (List A)
list_of item = record {
  spell = λ items. varuint.spell (length items) ++ flat_map item.spell items;
  Fits = λ items. (length items < 2 ^ 32) × AllByRecursion item.Fits items;
  read = λ c. varuint.read c >>= λ n. items_at item.read n.0 n.1;
}

-- each item is a byte
abbrev pub IsBytes : List ℕ → Type 0
IsBytes bytes = (i : ℕ) → slice_index bytes i < 256

-- ---- what packs to what

-- The value has a spelling, and the bytes are that spelling.
pub record Packs {A : Type 0} (form : Form A) (value : A) (bytes : List ℕ) : Type 0 where
  pub fits : form.Fits value
  pub spelled : bytes ≡ form.spell value

-- all the bytes, as one value
abbrev pub whole : {A : Type 0} → Form A → List ℕ → Result A PackFault
whole form bytes = form.read (record { at = 0; rest = bytes }) >>= λ a. if length a.1.rest == 0 then Ok a.0 else Err (Trailing a.1.at)

-- what is left at the end
abbrev pub end_of : Cursor → Result (Unit {0}) PackFault
end_of c = if length c.rest == 0 then Ok tt else Err (Trailing c.at)

-- ---- what calls answer

-- A call that takes no memory answers what the form reads; after a fault the place is as before.
abbrev pub ReadsField : {X Y : Type 0} → (X → Y) → Result X PackFault → Cursor → Cursor → Result (Y × Cursor) PackFault → Type 0
ReadsField view (Ok x) old new read = read ≡ Ok (view x, new)
ReadsField view (Err fault) old new read = (read ≡ Err fault) × (new ≡ old)

-- the same of a varuint at the front of a slice
abbrev pub ReadsVaruint : {A : Type 0} → (A → ℕ × List ℕ) → Result A PackFault → Result (ℕ × List ℕ) PackFault → Type 0
ReadsVaruint view (Ok x) read = read ≡ Ok (view x)
ReadsVaruint view (Err fault) read = read ≡ Err fault

-- the same of a call that takes memory, and says nothing of the place after a fault
abbrev pub ReadsTo : {X : Type 0} → Result X ReadFault → Cursor → Result (X × Cursor) PackFault → Type 0
ReadsTo (Ok x) new read = read ≡ Ok (x, new)
ReadsTo (Err faults.OutOfMemory) new read = Unit {0}
ReadsTo (Err (faults.Pack fault)) new read = read ≡ Err fault

-- an answer over all the bytes
abbrev pub IsWhole : {X : Type 0} → Result X ReadFault → Result X PackFault → Type 0
IsWhole (Ok x) read = read ≡ Ok x
IsWhole (Err faults.OutOfMemory) read = Unit {0}
IsWhole (Err (faults.Pack fault)) read = read ≡ Err fault

-- A call that reads all the bytes as one value: the value that it answers packs to the bytes; a value that packs to the
-- bytes is answered, unless memory runs out; and a fault is the first one.
pub record ReadsWhole {A : Type 0} (form : Form A) (bytes : List ℕ) (result : Result A ReadFault) : Type 0 where
  pub found : IfOk result (λ value. Packs form value bytes)
  pub only : (value : A) → Packs form value bytes → IsWhole result (Ok value)
  pub fault : IsWhole result (whole form bytes)

-- The same at a reader's place, which is where the value ends, or after a refusal as before.
pub record ReadsAt {A : Type 0} (form : Form A) (old new : Cursor) (result : Result A ReadFault) : Type 0 where
  pub found : IfOk result (λ value. form.Fits value × (old.rest ≡ form.spell value ++ new.rest) × (new.at ≡ old.at + length (form.spell value)))
  pub only : (value : A) (rest : List ℕ) → form.Fits value → old.rest ≡ form.spell value ++ rest → IsWhole result (Ok value)
  pub fault : IfErr result (λ e. IsWhole {X = A × Cursor} (Err e) (form.read old))
  pub stays : OnErr result (new ≡ old)

-- No spelling of a value begins another spelling of the same type, and each value has one spelling.
abbrev pub HasOneSpelling : {A : Type 0} → Form A → Type 0
HasOneSpelling {A} form = (a b : A) (x y : List ℕ) → form.Fits a → form.Fits b → form.spell a ++ x ≡ form.spell b ++ y → (a ≡ b) × (x ≡ y)
