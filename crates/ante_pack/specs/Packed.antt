-- The packed form of each type, its fields in order.
use Rattle.std.specs.Prelude.{◌≡◌, ℕ, ◌≤◌, List, length, Ok, Err, nat_lt, slice_index, if◌then◌else◌}
use Rattle.std.specs.Int.{w8, w16, w32, w64}
use Rattle.ante_pack.specs.declared.fault.PackFault.TheVariants.{KeyKind}
use Rattle.ante_pack.specs.declared.names.Name.{Name}
use Rattle.ante_pack.specs.declared.authority.Level.{Level}
use Rattle.ante_pack.specs.declared.authority.KeyWeight.{KeyWeight}
use Rattle.ante_pack.specs.declared.authority.LevelWeight.{LevelWeight}
use Rattle.ante_pack.specs.declared.authority.WaitWeight.{WaitWeight}
use Rattle.ante_pack.specs.declared.authority.Authority.{Authority}
use Rattle.ante_pack.specs.Forms.{Form, ◌>>=◌, bytes_at, number, fixed, pair, made_of, list_of}

unfoldable pub u8 : Form ℕ
u8 = number w8

unfoldable pub u16 : Form ℕ
u16 = number w16

unfoldable pub u32 : Form ℕ
u32 = number w32

unfoldable pub u64 : Form ℕ
u64 = number w64

unfoldable pub name : Form Name
name = made_of (λ n. record { 0 = n }) (λ a. a.0) u64

unfoldable pub digest : Form (List ℕ)
digest = fixed 32

-- A kind byte, 0 or 1, and 33 bytes, taken as one field.
unfoldable pub key : Form (List ℕ)
key = record {
  spell = λ bytes. bytes;
  Fits = λ bytes. (length bytes ≡ 34) × (slice_index bytes 0 ≤ 1);
  read = λ c. bytes_at 34 c >>= λ front. if nat_lt 1 (slice_index front.0 0) then Err (KeyKind c.at) else Ok front;
}

unfoldable pub level : Form Level
level = made_of (λ p. record { actor = p.0; permission = p.1 }) (λ v. (v.actor, v.permission)) (pair name name)

unfoldable pub key_weight : Form KeyWeight
key_weight = made_of (λ p. record { key = p.0; weight = p.1 }) (λ v. (v.key, v.weight)) (pair key u16)

unfoldable pub level_weight : Form LevelWeight
level_weight = made_of (λ p. record { level = p.0; weight = p.1 }) (λ v. (v.level, v.weight)) (pair level u16)

unfoldable pub wait_weight : Form WaitWeight
wait_weight = made_of (λ p. record { seconds = p.0; weight = p.1 }) (λ v. (v.seconds, v.weight)) (pair u32 u16)

unfoldable pub authority : Form Authority
authority = made_of
    (λ p. record { threshold = p.0; keys = p.1.0; accounts = p.1.1.0; waits = p.1.1.1 })
    (λ v. (v.threshold, (v.keys, (v.accounts, v.waits))))
    (pair u32 (pair (list_of key_weight) (pair (list_of level_weight) (list_of wait_weight))))
