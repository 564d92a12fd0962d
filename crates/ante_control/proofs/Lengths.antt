-- How long blocks are, and which receipts can be packed.
use Rattle.std.proofs.Common.{◌≡◌, ◌==◌, ℕ, zero, suc, ◌+◌, ◌/◌, ◌%◌, ◌^◌, ◌≤◌, ◌<◌, Bool, true, false, cond, List, [], ◌∷◌, ◌++◌, length, replicate, Option, Some, is_some, refl, sym, ap, ◌∙◌, arith, length-append, nat_lt, nat_le, if◌then◌else◌}
use Rattle.std.proofs.lemmas.Bool.Decides.{nat_tests}
use Rattle.std.proofs.lemmas.Grind.{flat_map-append}
use Rattle.std.proofs.lemmas.List.{length-drop}
use Rattle.std.specs.List.{flat_map, AllByRecursion}
use Rattle.std.specs.Str.{bytes_eq}
use Rattle.sha2.proofs.Facts256.{length-sha256}
use Rattle.sha2.specs.Sha256.{sha256}
use Rattle.ante_pack.specs.Forms.{list_of, string, varuint, varuint_bytes}
use Rattle.ante_pack.specs.Packed.{u32, u64, name, digest}
use Rattle.ante_types.specs.declared.chain.Block.{Block}
use Rattle.ante_types.specs.declared.chain.Header.{Header}
use Rattle.ante_types.specs.declared.chain.Receipt.{Receipt}
use Rattle.ante_types.specs.Chain.{block, header, receipt}
use Rattle.ante_types.specs.Ids.{block_id, trx_root}
use Rattle.ante_fork.specs.Tree.{Tree, id_of, find_block, block_at}
use Rattle.ante_fork.proofs.Branches.{same}
use Rattle.ante_control.specs.Making.{receipt_of, roomy_block, has_room, most_block_bytes}

-- ---- counts

last_byte : (left n : ℕ) → n < 128 → length (varuint_bytes left n) ≡ 1
unfolding varuint_bytes
last_byte zero n lt = refl
last_byte (suc left) n lt = let test : nat_lt n 128 ≡ true = grind (arith, nat_tests) in ap (λ b. length (cond b (n ∷ []) ((128 + n % 128) ∷ varuint_bytes left (n / 128)))) test

next_byte : (left n : ℕ) → 128 ≤ n → length (varuint_bytes (suc left) n) ≡ suc (length (varuint_bytes left (n / 128)))
unfolding varuint_bytes
next_byte left n le = let test : nat_lt n 128 ≡ false = grind (arith, nat_tests) in ap (λ b. length (cond b (n ∷ []) ((128 + n % 128) ∷ varuint_bytes left (n / 128)))) test

only_byte : (n : ℕ) → length (varuint_bytes 0 n) ≡ 1
unfolding varuint_bytes
only_byte n = refl

pub one_byte : (n : ℕ) → n < 128 → length (varuint.spell n) ≡ 1
unfolding varuint
one_byte n lt = last_byte 4 n lt

pub two_bytes : (n : ℕ) → 128 ≤ n → n < 16384 → length (varuint.spell n) ≡ 2
unfolding varuint
two_bytes n le lt = next_byte 3 n le ∙ ap suc (last_byte 3 (n / 128) (omega arith))

pub three_bytes : (n : ℕ) → 16384 ≤ n → n < 2097152 → length (varuint.spell n) ≡ 3
unfolding varuint
three_bytes n le lt = next_byte 3 n (omega arith) ∙ ap suc (next_byte 2 (n / 128) (omega arith) ∙ ap suc (last_byte 2 (n / 128 / 128) (omega arith)))

pub four_bytes : (n : ℕ) → 2097152 ≤ n → n < 268435456 → length (varuint.spell n) ≡ 4
unfolding varuint
four_bytes n le lt =
    next_byte 3 n (omega arith)
    ∙ ap suc (next_byte 2 (n / 128) (omega arith) ∙ ap suc (next_byte 1 (n / 128 / 128) (omega arith) ∙ ap suc (last_byte 1 (n / 128 / 128 / 128) (omega arith))))

pub five_bytes : (n : ℕ) → 268435456 ≤ n → length (varuint.spell n) ≡ 5
unfolding varuint
five_bytes n le =
    next_byte 3 n (omega arith)
    ∙ ap suc (next_byte 2 (n / 128) (omega arith)
    ∙ ap suc (next_byte 1 (n / 128 / 128) (omega arith) ∙ ap suc (next_byte 0 (n / 128 / 128 / 128) (omega arith) ∙ ap suc (only_byte (n / 128 / 128 / 128 / 128)))))

some_by : (left n : ℕ) (b : Bool) → 1 ≤ length (cond b (n ∷ []) ((128 + n % 128) ∷ varuint_bytes left (n / 128)))
some_by left n true = omega arith
some_by left n false = omega arith

some_bytes : (n : ℕ) → 1 ≤ length (varuint.spell n)
unfolding varuint varuint_bytes
some_bytes n = some_by 3 n (nat_lt n 128)

most_by : (left k n : ℕ) (b : Bool) → length (varuint_bytes left (n / 128)) ≤ k → length (cond b (n ∷ []) ((128 + n % 128) ∷ varuint_bytes left (n / 128))) ≤ suc k
most_by left k n true h = omega arith
most_by left k n false h = omega (arith, h)

most_left : (left n : ℕ) → length (varuint_bytes left n) ≤ suc left
unfolding varuint_bytes
most_left zero n = omega arith
most_left (suc left) n = most_by left (suc left) n (nat_lt n 128) (most_left left (n / 128))

most_bytes : (n : ℕ) → length (varuint.spell n) ≤ 5
unfolding varuint
most_bytes n = most_left 4 n

lt_by : (n m : ℕ) (b : Bool) → nat_lt n m ≡ b → n < 16384 → m ≡ 128 → length (varuint.spell n) ≤ 2
lt_by n m true e lt f = omega (arith, one_byte n (let h : n < m = grind (arith, nat_tests) in omega (arith, h, f)))
lt_by n m false e lt f = omega (arith, two_bytes n (let h : m ≤ n = grind (arith, nat_tests) in omega (arith, h, f)) lt)

small_count : (n : ℕ) → n < 16384 → length (varuint.spell n) ≤ 2
small_count n lt = lt_by n 128 (nat_lt n 128) refl lt refl

-- ---- texts, receipts, blocks

pub string_length : (t : List ℕ) → length (string.spell t) ≡ length (varuint.spell (length t)) + length t
unfolding string
string_length t = length-append (varuint.spell (length t)) t

pub receipt_length : (steps : ℕ) (packed : List ℕ) (signatures : List (List ℕ)) →
    length (receipt.spell (receipt_of steps packed signatures)) ≡ 4 + length (string.spell packed) + length ((list_of string).spell signatures)
unfolding receipt u32
receipt_length steps packed signatures = omega (arith, length-append (string.spell packed) ((list_of string).spell signatures))

pub list_length : {A : Type 0} (f : A → List ℕ) (xs : List A) → length (varuint.spell (length xs) ++ flat_map f xs) ≡ length (varuint.spell (length xs)) + length (flat_map f xs)
list_length f xs = length-append (varuint.spell (length xs)) (flat_map f xs)

pub block_length : (b : Block) →
    length (block.spell b) ≡ length (header.spell b.header) + length (string.spell b.seal) + length (varuint.spell (length b.receipts)) + length (flat_map receipt.spell b.receipts)
unfolding block
block_length b =
    let rest : List ℕ = (list_of receipt).spell b.receipts in
    omega (arith, length-append (header.spell b.header) (string.spell b.seal ++ rest), length-append (string.spell b.seal) rest, list_length receipt.spell b.receipts)

header_length : (h : Header) → length h.previous ≡ 32 → length h.trx_root ≡ 32 → length (header.spell h) ≡ 76
unfolding header u32 u64 name digest
header_length h p r = omega (arith, length-append h.previous h.trx_root, p, r)

pub roomy_length : (rs : List Receipt) → length (block.spell (roomy_block rs)) ≡ 334 + length (varuint.spell (length rs)) + length (flat_map receipt.spell rs)
roomy_length rs =
    let h = header_length (roomy_block rs).header refl refl in
    let seal = string_length (replicate 256 0) in
    omega (arith, block_length (roomy_block rs), h, seal, two_bytes 256 (omega arith) (omega arith))

-- a block whose seal isn't too long is as short as the roomy one
pub as_short : (b : Block) → length b.header.previous ≡ 32 → length b.header.trx_root ≡ 32 → length b.seal ≤ 256 → length (block.spell b) ≤ length (block.spell (roomy_block b.receipts))
as_short b p r seal =
    omega (arith, block_length b, roomy_length b.receipts, header_length b.header p r, string_length b.seal, small_count (length b.seal) (omega (arith, seal)), seal)

-- ---- ids

pub id_length : (h : Header) → length (block_id h) ≡ 32
unfolding block_id
id_length h = omega (arith, length-drop 4 (sha256 (header.spell h)), length-sha256 (header.spell h))

pub root_length : (rs : List Receipt) → length (trx_root rs) ≡ 32
unfolding trx_root
root_length rs = length-sha256 _

named_by : (id : List ℕ) (b : Block) (t : Bool) (o : Option Block) → bytes_eq id (id_of b) ≡ t → (is_some o ≡ true → length id ≡ 32) → is_some (if t then Some b else o) ≡ true → length id ≡ 32
named_by id b true o e rest h = ap length (same id (id_of b) e) ∙ id_length b.header
named_by id b false o e rest h = rest h

found_length : (id : List ℕ) (kept : List Block) → is_some (find_block id kept) ≡ true → length id ≡ 32
found_length id [] h = cc
found_length id (b ∷ older) h = named_by id b (bytes_eq id (id_of b)) (find_block id older) refl (found_length id older) h

pub kept_length : (t : Tree) (id : List ℕ) → is_some (block_at id t) ≡ true → length id ≡ 32
kept_length t id h = named_by id t.genesis (bytes_eq id (id_of t.genesis)) (find_block id t.kept) refl (found_length id t.kept) h

-- ---- what can be packed

strings_fit : (ts : List (List ℕ)) → length (flat_map string.spell ts) < 2 ^ 32 → AllByRecursion string.Fits ts
unfolding string
strings_fit [] lt = tt
strings_fit (t ∷ ts) lt =
    let whole : length (flat_map string.spell (t ∷ ts)) ≡ length (string.spell t) + length (flat_map string.spell ts) = length-append (string.spell t) (flat_map string.spell ts) in
    (omega (arith, lt, whole, string_length t), strings_fit ts (omega (arith, lt, whole)))

strings_many : (ts : List (List ℕ)) → length ts ≤ length (flat_map string.spell ts)
strings_many [] = omega arith
strings_many (t ∷ ts) =
    omega (arith, length-append (string.spell t) (flat_map string.spell ts), string_length t, some_bytes (length t), strings_many ts)

receipts_many : (rs : List Receipt) → length rs ≤ length (flat_map receipt.spell rs)
receipts_many [] = omega arith
receipts_many (r ∷ rs) =
    omega (arith, length-append (receipt.spell r) (flat_map receipt.spell rs), receipt_length r.steps r.packed r.signatures, receipts_many rs)

pub receipt_fits : (steps : ℕ) (packed : List ℕ) (signatures : List (List ℕ)) → steps < 4294967296 → length packed + length ((list_of string).spell signatures) ≤ 1500000 →
    receipt.Fits (receipt_of steps packed signatures)
unfolding receipt u32 string
receipt_fits steps packed signatures lt small =
    let all = list_length string.spell signatures in
    (omega (arith, lt), (omega (arith, small), (omega (arith, small, all, strings_many signatures), strings_fit signatures (omega (arith, small, all)))))

pub snoc_fits : (rs : List Receipt) (r : Receipt) → AllByRecursion receipt.Fits rs → receipt.Fits r → AllByRecursion receipt.Fits (rs ++ r ∷ [])
snoc_fits [] r all h = (h, tt)
snoc_fits (x ∷ rs) r all h = (all.0, snoc_fits rs r all.1 h)

pub receipts_fit : (rs : List Receipt) → AllByRecursion receipt.Fits rs → length (block.spell (roomy_block rs)) ≤ most_block_bytes → (list_of receipt).Fits rs
receipts_fit rs all small = (omega (arith, small, roomy_length rs, receipts_many rs), all)

pub snoc_length : (rs : List Receipt) (r : Receipt) → length (flat_map receipt.spell (rs ++ r ∷ [])) ≡ length (flat_map receipt.spell rs) + length (receipt.spell r)
snoc_length rs r =
    ap length (flat_map-append receipt.spell rs (r ∷ [])) ∙ length-append (flat_map receipt.spell rs) (flat_map receipt.spell (r ∷ []))
    ∙ ap (λ n. length (flat_map receipt.spell rs) + n) (length-append (receipt.spell r) [] ∙ omega arith)

le_of : (m n : ℕ) → nat_le m n ≡ true → m ≤ n
le_of m n e = grind (arith, nat_tests)

-- a receipt that has room, with any steps
pub snoc_small : (rs : List Receipt) (steps : ℕ) (packed : List ℕ) (signatures : List (List ℕ)) → has_room rs packed signatures ≡ true →
    length packed + length ((list_of string).spell signatures) ≤ 1500000 → length (block.spell (roomy_block (rs ++ receipt_of steps packed signatures ∷ []))) ≤ most_block_bytes
snoc_small [] steps packed signatures room small =
    let r : Receipt = receipt_of steps packed signatures in
    omega (arith, roomy_length (r ∷ []), snoc_length [] r, receipt_length steps packed signatures, string_length packed, most_bytes (length packed), one_byte 1 (omega arith), small)
snoc_small (x ∷ rs) steps packed signatures room small =
    let r : Receipt = receipt_of steps packed signatures in
    let r0 : Receipt = receipt_of 0 packed signatures in
    let le = le_of (length (block.spell (roomy_block (x ∷ rs ++ r0 ∷ [])))) most_block_bytes room in
    let many : length (x ∷ rs ++ r ∷ []) ≡ length (x ∷ rs ++ r0 ∷ []) = length-append (x ∷ rs) (r ∷ []) ∙ sym (length-append (x ∷ rs) (r0 ∷ [])) in
    omega (
      arith,
      roomy_length (x ∷ rs ++ r ∷ []),
      roomy_length (x ∷ rs ++ r0 ∷ []),
      ap (λ n. length (varuint.spell n)) many,
      snoc_length (x ∷ rs) r,
      snoc_length (x ∷ rs) r0,
      receipt_length steps packed signatures,
      receipt_length 0 packed signatures,
      le,
    )

pub room_more : (rs : List Receipt) (packed : List ℕ) (signatures : List (List ℕ)) (size count more : ℕ) → (length rs == 0) ≡ false → size ≡ length (flat_map receipt.spell rs) →
    count ≡ length (varuint.spell (length rs + 1)) → more ≡ length (receipt.spell (receipt_of 0 packed signatures)) →
    nat_le (334 + count + size + more) most_block_bytes ≡ has_room rs packed signatures
room_more [] packed signatures size count more some bytes counted one = cc
room_more (x ∷ rs) packed signatures size count more some bytes counted one =
    let r : Receipt = receipt_of 0 packed signatures in
    let next : length (x ∷ rs ++ r ∷ []) ≡ length (x ∷ rs) + 1 = length-append (x ∷ rs) (r ∷ []) in
    ap (λ n. nat_le n most_block_bytes)
    (omega (arith, bytes, counted, one, roomy_length (x ∷ rs ++ r ∷ []), snoc_length (x ∷ rs) r, ap (λ n. length (varuint.spell n)) next))
