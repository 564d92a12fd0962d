-- An empty body is an empty object.
use Rattle.std.proofs.Common.{◌≡◌, ℕ, List, [], ◌∷◌, length, arith}
use Rattle.serde_json.specs.Data.{Data, object, no_members}
use Rattle.ante_json.specs.Reading.{IsBody, IsObject}

pub empty_is : (bytes : List ℕ) (d : Data) → length bytes ≡ 0 → d ≡ object no_members → IsBody bytes d × IsObject d
empty_is [] d h e = (e, (no_members, e))
empty_is (b ∷ bytes) d h e = absurd (omega arith)
