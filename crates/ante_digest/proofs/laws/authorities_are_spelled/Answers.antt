use Rattle.std.proofs.Common.{◌≡◌, ℕ, ◌%◌, ◌^◌, ◌<◌, List, ◌++◌, length, ap, ◌∙◌, append_assoc, arith}
use Rattle.std.specs.List.{flat_map}
use Rattle.ante_pack.specs.Forms.{varuint}
use Rattle.ante_pack.specs.Packed.{u32, key_weight, level_weight, wait_weight, authority}
use Rattle.ante_digest.specs.Entries.{counted}
use Rattle.ante_digest.proofs.laws.authorities_are_spelled.Goals as goal

counted_as_is : {A : Type 0} (packed : A → List ℕ) (items : List A) → length items < 2 ^ 32 → counted packed items ≡ varuint.spell (length items) ++ flat_map packed items
counted_as_is packed items lt = let small : length items % 2 ^ 32 ≡ length items = omega arith in ap (λ n. varuint.spell n ++ flat_map packed items) small

pub returns : goal.returns
unfolding authority
returns c a fits =
    let keys = counted_as_is key_weight.spell a.keys fits.1.0.0 in
    let accounts = counted_as_is level_weight.spell a.accounts fits.1.1.0.0 in
    let waits = counted_as_is wait_weight.spell a.waits fits.1.1.1.0 in
    append_assoc (u32.spell a.threshold ++ counted key_weight.spell a.keys) (counted level_weight.spell a.accounts) (counted wait_weight.spell a.waits)
    ∙ append_assoc (u32.spell a.threshold) (counted key_weight.spell a.keys) (counted level_weight.spell a.accounts ++ counted wait_weight.spell a.waits)
    ∙ (λ i. u32.spell a.threshold ++ (keys i ++ (accounts i ++ waits i)))
