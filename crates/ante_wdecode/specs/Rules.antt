-- Rules of the binary format. A rule says which bytes stand for which value, and what is read at the front of some bytes, or
-- else the first fault and its place.
use Rattle.std.specs.Prelude.{◌≡◌, ℕ, zero, suc, ◌+◌, ◌≤◌, Bool, true, false, List, [], ◌∷◌, ◌++◌, length, take, drop, Option, None, Some, Result, Ok, Err, nat_eq, nat_lt, if◌then◌else◌}
use Rattle.ante_pack.specs.Forms.{◌>>=◌}
use Rattle.ante_wdecode.specs.declared.fault.DecodeKind.{DecodeKind}
use Rattle.ante_wdecode.specs.declared.fault.DecodeKind.TheVariants as kind
use Rattle.ante_wdecode.specs.declared.fault.Unread.{Unread}
use Rattle.ante_wdecode.specs.declared.fault.Unread.TheVariants as unread
use Rattle.ante_wdecode.specs.declared.integers.Misread.{Misread}
use Rattle.ante_wdecode.specs.declared.integers.Misread.TheVariants as misread
use Rattle.ante_wdecode.specs.Leb128.{IsU32, IsS32, IsS64, u32_at, s32_at, s64_at}

-- What is wrong with some bytes: the item that begins with the last `left` of them isn't whole, or is at fault.
pub data Fault : Type 0 where
  Ended : (left : ℕ) → Fault
  At : (left : ℕ) → (kind : DecodeKind) → Fault

abbrev pub Read : Type 0 → Type 0
Read A = Result (A × List ℕ) Fault

pub record Rule (A : Type 0) : Type 1 where
  pub Spells : A → List ℕ → Type 0
  pub read : List ℕ → Read A

-- ---- the rules that others are made of

-- no bytes
abbrev pub yields : {A : Type 0} → A → Rule A
yields value = record { Spells = λ a bytes. (a ≡ value) × (bytes ≡ []); read = λ bytes. Ok (value, bytes) }

-- one thing, and then what follows such a thing
abbrev pub in_turn : {A B : Type 0} → Rule A → (A → Rule B) → Rule B
in_turn {A} first next = record {
  Spells = λ b bytes. (a : A) × (x : List ℕ) × (y : List ℕ) × first.Spells a x × (next a).Spells b y × (bytes ≡ x ++ y);
  read = λ bytes. first.read bytes >>= λ a. (next a.0).read a.1;
}

-- nothing stands here
abbrev pub nothing : {A : Type 0} → Rule A
nothing = record { Spells = λ a bytes. ⊥; read = λ bytes. Err (At (length bytes) kind.Form) }

-- only what has a property, which a test tells
abbrev pub only : {A : Type 0} → (A → Type 0) → (A → Bool) → DecodeKind → Rule A → Rule A
only Has test fault rule = record {
  Spells = λ a bytes. Has a × rule.Spells a bytes;
  read = λ bytes. rule.read bytes >>= λ x. if test x.0 then Ok x else Err (At (length bytes) fault);
}

-- what a table has under a byte
abbrev pub among : {A : Type 0} → List (ℕ × A) → ℕ → Option A
among [] byte = None
among (entry ∷ entries) byte = if nat_eq byte entry.0 then Some entry.1 else among entries byte

abbrev pub or_fault : {A : Type 0} → Option A → Fault → Result A Fault
or_fault None fault = Err fault
or_fault (Some a) fault = Ok a

abbrev pub one_at : {A : Type 0} → (ℕ → DecodeKind) → List (ℕ × A) → List ℕ → Read A
one_at fault table [] = Err (Ended 0)
one_at fault table (b ∷ bytes) = or_fault (among table b) (At (length (b ∷ bytes)) (fault b)) >>= λ a. Ok (a, bytes)

-- a byte of a table
abbrev pub one_of : {A : Type 0} → (ℕ → DecodeKind) → List (ℕ × A) → Rule A
one_of fault table = record {
  Spells = λ a bytes. (b : ℕ) × (among table b ≡ Some a) × (bytes ≡ b ∷ []);
  read = one_at fault table;
}

abbrev pub form : ℕ → DecodeKind
form byte = kind.Form

-- this byte
abbrev pub byte : ℕ → Rule (Unit {0})
byte b = one_of form ((b, tt) ∷ [])

-- so many bytes, whatever they are
abbrev pub raw : ℕ → Rule (List ℕ)
raw n = record {
  Spells = λ text bytes. (length text ≡ n) × (bytes ≡ text);
  read = λ bytes. if nat_lt (length bytes) n then Err (Ended (length bytes)) else Ok (take n bytes, drop n bytes);
}

abbrev pub AreItems : {A : Type 0} → Rule A → List A → List ℕ → Type 0
AreItems item [] bytes = bytes ≡ []
AreItems item (x ∷ xs) bytes = (a : List ℕ) × (b : List ℕ) × item.Spells x a × AreItems item xs b × (bytes ≡ a ++ b)

abbrev pub items_at : {A : Type 0} → (List ℕ → Read A) → ℕ → List ℕ → Read (List A)
items_at item zero bytes = Ok ([], bytes)
items_at item (suc n) bytes = item bytes >>= λ x. items_at item n x.1 >>= λ xs. Ok (x.0 ∷ xs.0, xs.1)

-- so many items, one after another
abbrev pub items : {A : Type 0} → ℕ → Rule A → Rule (List A)
items n item = record { Spells = λ xs bytes. (length xs ≡ n) × AreItems item xs bytes; read = items_at item.read n }

-- ---- so many bytes, filled by one thing

-- What was read in a part, before the bytes after it. An item that doesn't fit the part, or what is left of it, is a misfit.
abbrev pub moved : (misfit : ℕ → Fault) → List ℕ → Fault → Fault
moved misfit after (Ended left) = misfit (left + length after)
moved misfit after (At left kind) = At (left + length after) kind

abbrev pub filled : {A : Type 0} → (misfit : ℕ → Fault) → List ℕ → Read A → Read A
filled misfit after (Ok (a, [])) = Ok (a, after)
filled misfit after (Ok (a, b ∷ more)) = Err (misfit (length (b ∷ more) + length after))
filled misfit after (Err fault) = Err (moved misfit after fault)

abbrev pub filling : {A : Type 0} → (misfit : ℕ → Fault) → ℕ → Rule A → Rule A
filling misfit n rule = record {
  Spells = λ a bytes. (length bytes ≡ n) × rule.Spells a bytes;
  read = λ bytes. if nat_lt (length bytes) n then Err (Ended (length bytes)) else filled misfit (drop n bytes) (rule.read (take n bytes));
}

-- ---- values (section 5.2)

abbrev pub integer_at : List ℕ → Result (ℕ × List ℕ) Misread → Read ℕ
integer_at bytes (Ok x) = Ok x
integer_at bytes (Err misread.Short) = Err (Ended (length bytes))
integer_at bytes (Err misread.Leb) = Err (At (length bytes) kind.Leb)

abbrev pub u32 : Rule ℕ
u32 = record { Spells = λ n bytes. IsU32 bytes n; read = λ bytes. integer_at bytes (u32_at bytes) }

abbrev pub s32 : Rule ℕ
s32 = record { Spells = λ n bytes. IsS32 bytes n; read = λ bytes. integer_at bytes (s32_at bytes) }

abbrev pub s64 : Rule ℕ
s64 = record { Spells = λ n bytes. IsS64 bytes n; read = λ bytes. integer_at bytes (s64_at bytes) }

abbrev pub is_few : ℕ → ℕ → Bool
is_few most n = if nat_lt most n then false else true

-- a number of at most so many
abbrev pub limited : ℕ → Rule ℕ
limited most = only (λ n. n ≤ most) (is_few most) kind.Limit u32

-- this number, in any spelling
abbrev pub exactly : ℕ → Rule ℕ
exactly n = only (λ m. m ≡ n) (λ m. nat_eq m n) kind.Form u32

-- ---- what calls answer

abbrev pub Fails : {Y : Type 0} → Unread → Result Y Fault → Type 0
Fails unread.OutOfMemory read = Unit {0}
Fails (unread.Ended left) read = read ≡ Err (Ended left)
Fails (unread.Fault left kind) read = read ≡ Err (At left kind)

-- What a call answers, seen by view, is what is read, unless memory runs out.
abbrev pub ReadsAs : {X Y : Type 0} → (X → Y) → Result X Unread → Result Y Fault → Type 0
ReadsAs view (Ok x) read = read ≡ Ok (view x)
ReadsAs view (Err e) read = Fails e read

-- ---- what a call answers of a part, before so many bytes

-- The misfit of a function's part stands where it is, that of a section at the section's number.
abbrev pub misfit_of : (section : Option ℕ) → ℕ → Fault
misfit_of None left = At left kind.Form
misfit_of (Some whole) left = At whole kind.Section

abbrev pub answered : Fault → Unread
answered (Ended left) = unread.Ended left
answered (At left kind) = unread.Fault left kind

abbrev pub left_of : Unread → ℕ
left_of unread.OutOfMemory = 0
left_of (unread.Ended left) = left
left_of (unread.Fault left kind) = left

abbrev pub moved_as : (section : Option ℕ) → ℕ → Unread → Unread
moved_as section more unread.OutOfMemory = unread.OutOfMemory
moved_as section more (unread.Ended left) = answered (misfit_of section (left + more))
moved_as section more (unread.Fault left kind) = unread.Fault (left + more) kind
