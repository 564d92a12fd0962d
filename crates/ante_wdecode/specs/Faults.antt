-- What holds of the bytes at the place of a fault.
use Rattle.std.specs.Prelude.{◌≡◌, ◌⊎◌, ℕ, Bool, true, false, ◌||◌, List, [], ◌∷◌, ◌++◌, None}
use Rattle.ante_wdecode.specs.declared.fault.DecodeKind.{DecodeKind}
use Rattle.ante_wdecode.specs.declared.fault.DecodeKind.TheVariants as kind
use Rattle.ante_wdecode.specs.Leb128.{IsLeb, IsCut}
use Rattle.ante_wdecode.specs.Rules.{among}
use Rattle.ante_wdecode.specs.Opcodes.{opcodes, is_between, is_float}

-- No integer of so many bits is spelled at the front, and none is cut off by the end.
abbrev pub IsMisspelled : (signed : Bool) → (bits : ℕ) → List ℕ → Type 0
IsMisspelled signed bits bytes = ((n : ℕ) (front rest : List ℕ) → IsLeb signed bits front n → bytes ≡ front ++ rest → ⊥) × (IsCut bits bytes → ⊥)

-- An item of a section shows a fault of this kind. Of the kinds that aren't named here nothing is said.
abbrev pub Shows : DecodeKind → List ℕ → Type 0
Shows kind.Magic bytes = ⊥
Shows kind.Short bytes = ⊥
Shows kind.Leb bytes = IsMisspelled false 32 bytes ⊎ (IsMisspelled true 32 bytes ⊎ IsMisspelled true 64 bytes)
Shows kind.Opcode [] = ⊥
Shows kind.Opcode (b ∷ bytes) = (among opcodes b ≡ None) × (is_float b ≡ false)
Shows kind.Float [] = ⊥
Shows kind.Float (b ∷ bytes) = (is_float b || is_between 0x7C 0x7D b) ≡ true
Shows kind.Section bytes = Unit {0}
Shows kind.Utf8 bytes = Unit {0}
Shows kind.Form bytes = Unit {0}
Shows kind.Limit bytes = Unit {0}
