-- Each type's form is a codec, by its fields: what each implementation of `Packed` owes.
use Rattle.std.proofs.Common.{refl}
use Rattle.ante_pack.specs.Packed.{u8, u16, u32, u64, name, digest, level, key_weight, level_weight, wait_weight, authority}
use Rattle.std.specs.Int.{w8, w16, w32, w64}
use Rattle.ante_pack.specs.Forms.{string}
use Rattle.ante_pack.specs.Codec.{IsCodec}
use Rattle.ante_pack.specs.FieldCodecs.{IsCodec-number, IsCodec-fixed, IsCodec-pair, IsCodec-made, wide8, wide16, wide32, wide64}
use Rattle.ante_pack.specs.RepeatedCodecs.{IsCodec-string, IsCodec-key, IsCodec-list}

pub IsCodec-u8 : IsCodec u8
unfolding u8
IsCodec-u8 = IsCodec-number w8 wide8

pub IsCodec-u16 : IsCodec u16
unfolding u16
IsCodec-u16 = IsCodec-number w16 wide16

pub IsCodec-u32 : IsCodec u32
unfolding u32
IsCodec-u32 = IsCodec-number w32 wide32

pub IsCodec-u64 : IsCodec u64
unfolding u64
IsCodec-u64 = IsCodec-number w64 wide64

pub IsCodec-bytes : IsCodec string
IsCodec-bytes = IsCodec-string

pub IsCodec-name : IsCodec name
unfolding name
IsCodec-name = IsCodec-made _ _ IsCodec-u64 (λ n. refl) (λ a. refl)

pub IsCodec-digest : IsCodec digest
unfolding digest
IsCodec-digest = IsCodec-fixed 32

pub IsCodec-level : IsCodec level
unfolding level
IsCodec-level = IsCodec-made _ _ (IsCodec-pair IsCodec-name IsCodec-name) (λ p. refl) (λ v. refl)

pub IsCodec-key_weight : IsCodec key_weight
unfolding key_weight
IsCodec-key_weight = IsCodec-made _ _ (IsCodec-pair IsCodec-key IsCodec-u16) (λ p. refl) (λ v. refl)

pub IsCodec-level_weight : IsCodec level_weight
unfolding level_weight
IsCodec-level_weight = IsCodec-made _ _ (IsCodec-pair IsCodec-level IsCodec-u16) (λ p. refl) (λ v. refl)

pub IsCodec-wait_weight : IsCodec wait_weight
unfolding wait_weight
IsCodec-wait_weight = IsCodec-made _ _ (IsCodec-pair IsCodec-u32 IsCodec-u16) (λ p. refl) (λ v. refl)

pub IsCodec-authority : IsCodec authority
unfolding authority
IsCodec-authority = IsCodec-made _ _ (IsCodec-pair IsCodec-u32 (IsCodec-pair (IsCodec-list IsCodec-key_weight) (IsCodec-pair (IsCodec-list IsCodec-level_weight) (IsCodec-list IsCodec-wait_weight)))) (λ p. refl) (λ v. refl)
