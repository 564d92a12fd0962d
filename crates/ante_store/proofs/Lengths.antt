-- How long packed authorities are.
use Rattle.std.proofs.Common.{◌≡◌, ℕ, zero, suc, ◌+◌, ◌*◌, ◌/◌, ◌%◌, ◌≤◌, ◌<◌, true, false, cond, List, [], ◌∷◌, ◌++◌, length, take, get_or, refl, ap, ◌∙◌, arith, length-append}
use Rattle.std.specs.Prelude.{nat_lt}
use Rattle.std.specs.List.{flat_map}
use Rattle.std.proofs.lemmas.Bool.Decides.{nat_tests}
use Rattle.std.proofs.lemmas.Grind.{flat_map-append}
use Rattle.std.proofs.Math.Seq.{take-suc}
use Rattle.ante_pack.specs.Forms.{varuint, varuint_bytes}
use Rattle.ante_pack.specs.Packed.{u16, u32, u64, name, key, level, level_weight, wait_weight, key_weight, authority}
use Rattle.ante_pack.specs.declared.authority.Authority.{Authority}
use Rattle.ante_pack.specs.declared.authority.KeyWeight.{KeyWeight}
use Rattle.ante_pack.specs.declared.authority.LevelWeight.{LevelWeight}
use Rattle.ante_pack.specs.declared.authority.WaitWeight.{WaitWeight}

-- ---- counts

last_byte : (left n : ℕ) → n < 128 → length (varuint_bytes left n) ≡ 1
unfolding varuint_bytes
last_byte zero n lt = refl
last_byte (suc left) n lt = let test : nat_lt n 128 ≡ true = grind (arith, nat_tests) in ap (λ b. length (cond b (n ∷ []) ((128 + n % 128) ∷ varuint_bytes left (n / 128)))) test

next_byte : (left n : ℕ) → 128 ≤ n → length (varuint_bytes (suc left) n) ≡ suc (length (varuint_bytes left (n / 128)))
unfolding varuint_bytes
next_byte left n le = let test : nat_lt n 128 ≡ false = grind (arith, nat_tests) in ap (λ b. length (cond b (n ∷ []) ((128 + n % 128) ∷ varuint_bytes left (n / 128)))) test

only_byte : (n : ℕ) → length (varuint_bytes 0 n) ≡ 1
unfolding varuint_bytes
only_byte n = refl

pub one_byte : (n : ℕ) → n < 128 → length (varuint.spell n) ≡ 1
unfolding varuint
one_byte n lt = last_byte 4 n lt

pub two_bytes : (n : ℕ) → 128 ≤ n → n < 16384 → length (varuint.spell n) ≡ 2
unfolding varuint
two_bytes n le lt = next_byte 3 n le ∙ ap suc (last_byte 3 (n / 128) (omega arith))

pub three_bytes : (n : ℕ) → 16384 ≤ n → n < 2097152 → length (varuint.spell n) ≡ 3
unfolding varuint
three_bytes n le lt = next_byte 3 n (omega arith) ∙ ap suc (next_byte 2 (n / 128) (omega arith) ∙ ap suc (last_byte 2 (n / 128 / 128) (omega arith)))

pub four_bytes : (n : ℕ) → 2097152 ≤ n → n < 268435456 → length (varuint.spell n) ≡ 4
unfolding varuint
four_bytes n le lt =
    next_byte 3 n (omega arith)
    ∙ ap suc (next_byte 2 (n / 128) (omega arith) ∙ ap suc (next_byte 1 (n / 128 / 128) (omega arith) ∙ ap suc (last_byte 1 (n / 128 / 128 / 128) (omega arith))))

pub five_bytes : (n : ℕ) → 268435456 ≤ n → length (varuint.spell n) ≡ 5
unfolding varuint
five_bytes n le =
    next_byte 3 n (omega arith)
    ∙ ap suc (next_byte 2 (n / 128) (omega arith)
    ∙ ap suc (next_byte 1 (n / 128 / 128) (omega arith) ∙ ap suc (next_byte 0 (n / 128 / 128 / 128) (omega arith) ∙ ap suc (only_byte (n / 128 / 128 / 128 / 128)))))

-- ---- items

pub key_length : (k : KeyWeight) → length (key_weight.spell k) ≡ length k.key + 2
unfolding key_weight key u16
key_length k = length-append k.key _

level_length : (v : LevelWeight) → length (level_weight.spell v) ≡ 18
unfolding level_weight level name u64 u16
level_length v = refl

wait_length : (v : WaitWeight) → length (wait_weight.spell v) ≡ 6
unfolding wait_weight u32 u16
wait_length v = refl

levels_length : (vs : List LevelWeight) → length (flat_map level_weight.spell vs) ≡ 18 * length vs
levels_length [] = refl
levels_length (v ∷ vs) = omega (arith, length-append (level_weight.spell v) (flat_map level_weight.spell vs), level_length v, levels_length vs)

waits_length : (vs : List WaitWeight) → length (flat_map wait_weight.spell vs) ≡ 6 * length vs
waits_length [] = refl
waits_length (v ∷ vs) = omega (arith, length-append (wait_weight.spell v) (flat_map wait_weight.spell vs), wait_length v, waits_length vs)

pub key_next : (ks : List KeyWeight) (i : ℕ) (d : KeyWeight) → i < length ks →
    length (flat_map key_weight.spell (take (i + 1) ks)) ≡ length (flat_map key_weight.spell (take i ks)) + length (key_weight.spell (get_or ks i d))
key_next ks i d lt =
    let next : i + 1 ≡ suc i = omega arith in
    ap (λ n. length (flat_map key_weight.spell (take n ks))) next
    ∙ ap (λ l. length (flat_map key_weight.spell l)) (take-suc ks i d lt)
    ∙ ap length (flat_map-append key_weight.spell (take i ks) (get_or ks i d ∷ []))
    ∙ length-append (flat_map key_weight.spell (take i ks)) (key_weight.spell (get_or ks i d) ++ [])
    ∙ ap (λ n. length (flat_map key_weight.spell (take i ks)) + n) (length-append (key_weight.spell (get_or ks i d)) [] ∙ omega arith)

pub authority_length : (a : Authority) → length (authority.spell a) ≡
    4 + (length (varuint.spell (length a.keys)) + length (flat_map key_weight.spell a.keys)
    + (length (varuint.spell (length a.accounts)) + 18 * length a.accounts + (length (varuint.spell (length a.waits)) + 6 * length a.waits)))
unfolding authority u32
authority_length a =
    let keys = varuint.spell (length a.keys) ++ flat_map key_weight.spell a.keys in
    let accounts = varuint.spell (length a.accounts) ++ flat_map level_weight.spell a.accounts in
    let waits = varuint.spell (length a.waits) ++ flat_map wait_weight.spell a.waits in
    omega (
      arith,
      length-append (u32.spell a.threshold) (keys ++ accounts ++ waits),
      length-append keys (accounts ++ waits),
      length-append accounts waits,
      length-append (varuint.spell (length a.keys)) (flat_map key_weight.spell a.keys),
      length-append (varuint.spell (length a.accounts)) (flat_map level_weight.spell a.accounts),
      length-append (varuint.spell (length a.waits)) (flat_map wait_weight.spell a.waits),
      levels_length a.accounts,
      waits_length a.waits,
    )
