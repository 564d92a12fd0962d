-- What is read of a whole module, and what its faults say.
use Rattle.std.specs.Prelude.{◌≡◌, ◌⊎◌, ℕ, zero, suc, ◌+◌, ◌<◌, ◌≤◌, List, [], ◌∷◌, ◌++◌, length, take, Result, Ok, Err, nat_eq, nat_lt, bytes_eq, if◌then◌else◌}
use Rattle.ante_pack.specs.Forms.{◌>>=◌}
use Rattle.ante_wtree.specs.declared.modules.Module.{Module}
use Rattle.ante_wtree.specs.Limits.{most_module_bytes}
use Rattle.ante_wtree.specs.Trees.{Tree, tree_of}
use Rattle.ante_wdecode.specs.declared.fault.DecodeKind.{DecodeKind}
use Rattle.ante_wdecode.specs.declared.fault.DecodeKind.TheVariants as kind
use Rattle.ante_wdecode.specs.declared.fault.DecodeError.{DecodeError}
use Rattle.ante_wdecode.specs.declared.fault.DecodeError.TheVariants as error
use Rattle.ante_wdecode.specs.declared.fault.Unread.{Unread}
use Rattle.ante_wdecode.specs.declared.fault.Unread.TheVariants as unread
use Rattle.ante_wdecode.specs.Leb128.{IsU32, IsCut}
use Rattle.ante_wdecode.specs.Rules.{Fault, Ended, At, raw}
use Rattle.ante_wdecode.specs.Faults.{Shows}
use Rattle.ante_wdecode.specs.Sections.{bare, with_section, last_after, section, magic, version}

-- the bytes after this text
abbrev pub header_at : List ℕ → List ℕ → Result (List ℕ) Fault
header_at text bytes = (raw 4).read bytes >>= λ x. if bytes_eq x.0 text then Ok x.1 else Err (At (length bytes) kind.Magic)

-- The first number bounds the sections that are read.
abbrev pub sections_at : ℕ → (last : ℕ) → Tree → List ℕ → Result Tree Fault
sections_at n last m [] = Ok m
sections_at zero last m (b ∷ bytes) = Err (Ended 0)
sections_at (suc n) last m (b ∷ bytes) = (section last m).read (b ∷ bytes) >>= λ x. sections_at n (last_after last x.0.0) (with_section m x.0.1) x.1

-- What isn't whole here is too short.
abbrev pub cut_short : Unread → Unread
cut_short unread.OutOfMemory = unread.OutOfMemory
cut_short (unread.Ended left) = unread.Fault left kind.Short
cut_short (unread.Fault left fault) = unread.Fault left fault

abbrev pub at_top : Result Tree Fault → Result Tree Fault
at_top (Ok m) = Ok m
at_top (Err (Ended left)) = Err (At left kind.Short)
at_top (Err (At left fault)) = Err (At left fault)

abbrev pub paired : Tree → Result Tree Fault
paired m = if nat_eq (length m.functions) (length m.codes) then Ok m else Err (At 0 kind.Form)

abbrev pub parts_at : List ℕ → Result Tree Fault
parts_at code = header_at magic code >>= λ a. header_at version a >>= λ b. sections_at (length b) 0 bare b

abbrev pub module_at : List ℕ → Result Tree Fault
module_at code = if nat_lt most_module_bytes (length code) then Err (At (length code) kind.Limit) else at_top (parts_at code) >>= paired

-- ---- what an answer says

-- That module, or want of memory.
abbrev pub Is : Result Module DecodeError → Tree → Type 0
Is (Ok m) tree = tree_of m ≡ tree
Is (Err error.OutOfMemory) tree = Unit {0}
Is (Err (error.Fault at kind)) tree = ⊥

-- four bytes that aren't these
abbrev pub Differs : List ℕ → List ℕ → Type 0
Differs text bytes = (4 ≤ length bytes) × (take 4 bytes ≡ text → ⊥)

-- a size, for which too few bytes follow
abbrev pub IsUnfilled : (front back : List ℕ) → Type 0
IsUnfilled front back = (before : List ℕ) × (size : List ℕ) × (n : ℕ) × IsU32 size n × (length back < n) × (front ≡ before ++ size)

-- What a fault says of the bytes before its place and from there on. Magic is at the magic or the version; Short at one of
-- them, at a section's size, or at its contents.
abbrev pub Holds : DecodeKind → (front back : List ℕ) → Type 0
Holds kind.Magic front back = ((front ≡ []) × Differs magic back) ⊎ ((front ≡ magic) × Differs version back)
Holds kind.Short front back = ((length back < 4) × ((front ≡ []) ⊎ (front ≡ magic))) ⊎ (IsCut 32 back ⊎ IsUnfilled front back)
Holds k front back = Shows k back

abbrev pub Blames : DecodeError → List ℕ → Type 0
Blames error.OutOfMemory code = Unit {0}
Blames (error.Fault at kind) code = (front : List ℕ) × (back : List ℕ) × (code ≡ front ++ back) × (at ≡ length front) × Holds kind front back

-- The fault is the first in reading order.
abbrev pub IsFirst : DecodeError → List ℕ → Type 0
IsFirst error.OutOfMemory code = Unit {0}
IsFirst (error.Fault at kind) code = (left : ℕ) × (module_at code ≡ Err (At left kind)) × (at + left ≡ length code)
