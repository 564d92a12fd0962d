-- Each type's form is a codec, by its fields: what each implementation of `Packed` owes.
use Rattle.std.proofs.Common.{refl}
use Rattle.ante_pack.specs.Codec.{IsCodec}
use Rattle.ante_pack.specs.FieldCodecs.{IsCodec-pair, IsCodec-made}
use Rattle.ante_pack.specs.RepeatedCodecs.{IsCodec-varuint, IsCodec-string, IsCodec-list}
use Rattle.ante_pack.specs.Codecs.{IsCodec-u8, IsCodec-u16, IsCodec-u32, IsCodec-name, IsCodec-digest, IsCodec-level, IsCodec-authority}
use Rattle.ante_types.specs.Chain.{action, extension, transaction, receipt, header, block, genesis_account, genesis}

pub IsCodec-action : IsCodec action
unfolding action
IsCodec-action = IsCodec-made _ _ (IsCodec-pair IsCodec-name (IsCodec-pair IsCodec-name (IsCodec-pair (IsCodec-list IsCodec-level) IsCodec-string))) (λ p. refl) (λ v. refl)

pub IsCodec-extension : IsCodec extension
unfolding extension
IsCodec-extension = IsCodec-made _ _ (IsCodec-pair IsCodec-u16 IsCodec-string) (λ p. refl) (λ v. refl)

pub IsCodec-transaction : IsCodec transaction
unfolding transaction
IsCodec-transaction = IsCodec-made _ _ (IsCodec-pair IsCodec-u32 (IsCodec-pair IsCodec-u16 (IsCodec-pair IsCodec-u32 (IsCodec-pair IsCodec-varuint (IsCodec-pair IsCodec-u8 (IsCodec-pair IsCodec-varuint (IsCodec-pair (IsCodec-list IsCodec-action) (IsCodec-pair (IsCodec-list IsCodec-action) (IsCodec-list IsCodec-extension))))))))) (λ p. refl) (λ v. refl)

pub IsCodec-receipt : IsCodec receipt
unfolding receipt
IsCodec-receipt = IsCodec-made _ _ (IsCodec-pair IsCodec-u32 (IsCodec-pair IsCodec-string (IsCodec-list IsCodec-string))) (λ p. refl) (λ v. refl)

pub IsCodec-header : IsCodec header
unfolding header
IsCodec-header = IsCodec-made _ _ (IsCodec-pair IsCodec-u32 (IsCodec-pair IsCodec-name (IsCodec-pair IsCodec-digest IsCodec-digest))) (λ p. refl) (λ v. refl)

pub IsCodec-block : IsCodec block
unfolding block
IsCodec-block = IsCodec-made _ _ (IsCodec-pair IsCodec-header (IsCodec-pair IsCodec-string (IsCodec-list IsCodec-receipt))) (λ p. refl) (λ v. refl)

pub IsCodec-genesis_account : IsCodec genesis_account
unfolding genesis_account
IsCodec-genesis_account = IsCodec-made _ _ (IsCodec-pair IsCodec-name (IsCodec-pair IsCodec-authority (IsCodec-pair IsCodec-authority IsCodec-string))) (λ p. refl) (λ v. refl)

pub IsCodec-genesis : IsCodec genesis
unfolding genesis
IsCodec-genesis = IsCodec-made _ _ (IsCodec-pair IsCodec-u32 (IsCodec-pair IsCodec-u32 (IsCodec-pair (IsCodec-list IsCodec-name) (IsCodec-list IsCodec-genesis_account)))) (λ p. refl) (λ v. refl)
