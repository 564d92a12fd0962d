-- What a shift or a rotation of a string of bits is as arithmetic, by a count k of at most N. All at any width N.
use Rattle.std.proofs.Common.{◌≡◌, ℕ, zero, suc, ◌+◌, ◌-◌, ◌*◌, ◌/◌, ◌%◌, ◌^◌, ◌<◌, ◌≤◌, ◌++◌, length, take, drop, refl, sym, ap, ap₂, ◌∙◌, subst, arith, mod-lt, mod-eq_of_lt}
use Rattle.std.proofs.lemmas.Nat.{pow-add, pow_pos, mod-pow-add, shl-shr, shr_below, shr_split, or_shifted, or_comm, div-mul-add}
use Rattle.std.proofs.lemmas.Nat.Bits.{bit_at_or, same_from_bits}
use Rattle.std.proofs.lemmas.List.{append-nil}
use Rattle.std.proofs.Math.Nat.{mod_self, mul-mod_left}
use Rattle.std.specs.Prelude.{replicate, bit_or}
use Rattle.ante_wnum.specs.Numerics.{ibits, integer}
use Rattle.ante_wnum.proofs.BitStrings.{length-ibits, drop-ibits, take-ibits, integer-ibits, integer-append, length-copies, integer-zeros, integer-ones}

-- the low n bits of i, moved up by k
shl_low : (n k i : ℕ) → (i * 2 ^ k) % 2 ^ (n + k) ≡ (i % 2 ^ n) * 2 ^ k
shl_low n k i =
    mod-pow-add (i * 2 ^ k) n k ∙ ap₂ (λ q r. (q % 2 ^ n) * 2 ^ k + r) (shl-shr i k) (mul-mod_left i (2 ^ k)) ∙ omega arith

-- the bits of i above the k lowest
high_bits : (N k i : ℕ) → k ≤ N → i < 2 ^ N → integer (take (N - k) (ibits N i)) ≡ i / 2 ^ k
high_bits N k i le h =
    let split : N ≡ (N - k) + k = omega arith in
    ap integer (take-ibits (N - k) k N i split) ∙ integer-ibits (N - k) (i / 2 ^ k)
    ∙ mod-eq_of_lt (shr_below i (N - k) k (subst (λ x. i < 2 ^ x) split h))

-- the other bits, the lowest n
low_bits : (N k i : ℕ) → k ≤ N → integer (drop k (ibits N i)) ≡ i % 2 ^ (N - k)
low_bits N k i le = ap integer (drop-ibits k (N - k) N i (omega arith)) ∙ integer-ibits (N - k) i

length_high : (N k i : ℕ) → k ≤ N → length (take k (ibits N i)) ≡ k
length_high N k i le = ap length (take-ibits k (N - k) N i (omega arith)) ∙ length-ibits k (i / 2 ^ (N - k))

pub shl-is : (N k i : ℕ) → k ≤ N → integer (drop k (ibits N i) ++ replicate k 0) ≡ (i * 2 ^ k) % 2 ^ N
shl-is N k i le =
    let split : (N - k) + k ≡ N = omega arith in
    integer-append (drop k (ibits N i)) (replicate k 0)
    ∙ ap₂ (λ x n. x * 2 ^ n + integer (replicate k 0)) (low_bits N k i le) (length-copies k 0)
    ∙ omega (arith, integer-zeros k) ∙ sym (shl_low (N - k) k i) ∙ ap (λ n. (i * 2 ^ k) % 2 ^ n) split

pub shr-is : (N k i : ℕ) → k ≤ N → i < 2 ^ N → integer (replicate k 0 ++ take (N - k) (ibits N i)) ≡ i / 2 ^ k
shr-is N k i le h =
    integer-append (replicate k 0) (take (N - k) (ibits N i))
    ∙ ap₂ (λ x y. x * 2 ^ length (take (N - k) (ibits N i)) + y) (integer-zeros k) (high_bits N k i le h) ∙ omega arith

-- with ones coming in: 2 ^ N less what is missing
pub shr-ones : (N k i : ℕ) → k ≤ N → i < 2 ^ N → integer (replicate k 1 ++ take (N - k) (ibits N i)) + 2 ^ (N - k) ≡ 2 ^ N + i / 2 ^ k
shr-ones N k i le h =
    let split : k + (N - k) ≡ N = omega arith in
    let whole : 2 ^ N ≡ 2 ^ k * 2 ^ (N - k) = ap (λ n. 2 ^ n) (sym split) ∙ pow-add 2 k (N - k) in
    let joined : integer (replicate k 1 ++ take (N - k) (ibits N i)) ≡ integer (replicate k 1) * 2 ^ (N - k) + i / 2 ^ k =
    integer-append (replicate k 1) (take (N - k) (ibits N i))
    ∙ ap₂ (λ n y. integer (replicate k 1) * 2 ^ n + y) (length_high N (N - k) i (omega arith)) (high_bits N k i le h) in
    let ones : (integer (replicate k 1) + 1) * 2 ^ (N - k) ≡ 2 ^ k * 2 ^ (N - k) = ap (λ x. x * 2 ^ (N - k)) (integer-ones k) in
    omega (arith, whole, joined, ones)

-- what stands under a shifted complement
pub complement : (N k i : ℕ) → k ≤ N → i < 2 ^ N → (2 ^ N - suc i) / 2 ^ k + suc (i / 2 ^ k) ≡ 2 ^ (N - k)
complement N k i le h =
    let split : N ≡ (N - k) + k = omega arith in
    let whole : 2 ^ N ≡ 2 ^ (N - k) * 2 ^ k = ap (λ n. 2 ^ n) split ∙ pow-add 2 (N - k) k in
    let above : i / 2 ^ k < 2 ^ (N - k) = shr_below i (N - k) k (subst (λ x. i < 2 ^ x) split h) in
    let below : i % 2 ^ k < 2 ^ k = mod-lt i (pow_pos k) in
    let p : ℕ = 2 ^ (N - k) - suc (i / 2 ^ k) in
    let filled : p + suc (i / 2 ^ k) ≡ 2 ^ (N - k) = omega arith in
    let product : (p + suc (i / 2 ^ k)) * 2 ^ k ≡ 2 ^ (N - k) * 2 ^ k = ap (λ x. x * 2 ^ k) filled in
    let parts : i / 2 ^ k * 2 ^ k + i % 2 ^ k ≡ i = shr_split i k in
    let same : 2 ^ N - suc i ≡ p * 2 ^ k + (2 ^ k - suc (i % 2 ^ k)) = omega (arith, whole, product, parts, below) in
    let quotient : (2 ^ N - suc i) / 2 ^ k ≡ p = ap (λ x. x / 2 ^ k) same ∙ div-mul-add p (2 ^ k) (2 ^ k - suc (i % 2 ^ k)) (omega (arith, below)) in
    omega (arith, quotient, filled)

or_same : (i : ℕ) → bit_or i i ≡ i
or_same i = same_from_bits (bit_or i i) i (λ b. bit_at_or i i b ∙ omega arith)

-- rotated to the left by k, from 1 to N
pub rotated-is : (N k i : ℕ) → k ≤ N → i < 2 ^ N → integer (drop k (ibits N i) ++ take k (ibits N i)) ≡ bit_or ((i * 2 ^ k) % 2 ^ N) (i / 2 ^ (N - k))
rotated-is N k i le h =
    let split : (N - k) + k ≡ N = omega arith in
    let back : N - (N - k) ≡ k = omega arith in
    let order : N ≡ k + (N - k) = omega arith in
    let high : integer (take k (ibits N i)) ≡ i / 2 ^ (N - k) = ap (λ x. integer (take x (ibits N i))) (sym back) ∙ high_bits N (N - k) i (omega arith) h in
    let small : i / 2 ^ (N - k) < 2 ^ k = shr_below i k (N - k) (subst (λ x. i < 2 ^ x) order h) in
    integer-append (drop k (ibits N i)) (take k (ibits N i))
    ∙ ap₂ (λ x n. x * 2 ^ n + integer (take k (ibits N i))) (low_bits N k i le) (length_high N k i le)
    ∙ ap (λ y. (i % 2 ^ (N - k)) * 2 ^ k + y) high
    ∙ sym (or_shifted (i % 2 ^ (N - k)) k (i / 2 ^ (N - k)) small)
    ∙ ap (λ x. bit_or x (i / 2 ^ (N - k))) (sym (shl_low (N - k) k i) ∙ ap (λ n. (i * 2 ^ k) % 2 ^ n) split)

-- a rotation by 0
still : (N i : ℕ) → i < 2 ^ N → i ≡ bit_or ((i * 2 ^ 0) % 2 ^ N) (i / 2 ^ 0)
still N i h =
    let one : i * 2 ^ 0 ≡ i = omega arith in
    let all : i / 2 ^ 0 ≡ i = omega arith in
    sym (ap₂ bit_or (ap (λ x. x % 2 ^ N) one ∙ mod-eq_of_lt h) all ∙ or_same i)

pub rotl-is : (N k i : ℕ) → k < N → i < 2 ^ N
    → integer (drop k (ibits N i) ++ take k (ibits N i)) ≡ bit_or ((i * 2 ^ k) % 2 ^ N) (i / 2 ^ ((N - k) % N))
rotl-is N zero i lt h =
    let all : N - 0 ≡ N = omega arith in
    let none : (N - 0) % N ≡ 0 = ap (λ n. n % N) all ∙ mod_self N in
    ap integer (append-nil (ibits N i)) ∙ integer-ibits N i ∙ mod-eq_of_lt h ∙ still N i h ∙ ap (λ n. bit_or ((i * 2 ^ 0) % 2 ^ N) (i / 2 ^ n)) (sym none)
rotl-is N (suc k) i lt h =
    let same : (N - suc k) % N ≡ N - suc k = mod-eq_of_lt (omega arith) in
    rotated-is N (suc k) i (omega arith) h ∙ ap (λ n. bit_or ((i * 2 ^ suc k) % 2 ^ N) (i / 2 ^ n)) (sym same)

whole_right : (N m i : ℕ) → m ≡ N → i < 2 ^ N → integer (drop m (ibits N i) ++ take m (ibits N i)) ≡ i
unfolding ibits
whole_right N m i e h =
    let all : i / 2 ^ 0 ≡ i = omega arith in
    ap₂ (λ x y. integer (x ++ y)) (drop-ibits m 0 N i (omega arith)) (take-ibits m 0 N i (omega arith))
    ∙ integer-ibits m (i / 2 ^ 0) ∙ ap₂ (λ x n. x % 2 ^ n) all e ∙ mod-eq_of_lt h

-- to rotate to the right by k is to rotate to the left by N - k
pub rotr-is : (N k i : ℕ) → k < N → i < 2 ^ N
    → integer (drop (N - k) (ibits N i) ++ take (N - k) (ibits N i)) ≡ bit_or (i / 2 ^ k) ((i * 2 ^ ((N - k) % N)) % 2 ^ N)
rotr-is N k i lt h = go k lt refl
  where
    go : (n : ℕ) → n < N → k ≡ n → integer (drop (N - k) (ibits N i) ++ take (N - k) (ibits N i)) ≡ bit_or (i / 2 ^ k) ((i * 2 ^ ((N - k) % N)) % 2 ^ N)
    go zero l e =
        let all : N - k ≡ N = omega arith in
        let none : (N - k) % N ≡ 0 = ap (λ n. n % N) all ∙ mod_self N in
        whole_right N (N - k) i all h ∙ still N i h ∙ or_comm ((i * 2 ^ 0) % 2 ^ N) (i / 2 ^ 0)
        ∙ ap₂ (λ m n. bit_or (i / 2 ^ m) ((i * 2 ^ n) % 2 ^ N)) (sym e) (sym none)
    go (suc n) l e =
        let same : (N - k) % N ≡ N - k = mod-eq_of_lt (omega arith) in
        let back : N - (N - k) ≡ k = omega arith in
        rotated-is N (N - k) i (omega arith) h
        ∙ or_comm ((i * 2 ^ (N - k)) % 2 ^ N) (i / 2 ^ (N - (N - k)))
        ∙ ap₂ (λ m n. bit_or (i / 2 ^ m) ((i * 2 ^ n) % 2 ^ N)) back (sym same)
