-- The rules of integers and bytes, of parts, and of instructions without bodies are exact.
use Rattle.std.proofs.Common.{◌≡◌, ◌⊎◌, ℕ, ◌+◌, ◌-◌, ◌<◌, ◌≤◌, Bool, true, false, ◌||◌, cond, nat_eq, nat_lt, List, [], ◌∷◌, ◌++◌, length, take, drop, None, Result, Ok, Err, refl, sym, ap, subst, ◌∙◌, append_assoc, arith, inl, inr, ⊎_elim}
use Rattle.std.specs.Bool.{Decides}
use Rattle.std.proofs.lemmas.Bool.{ltb-true, ltb-false, le-ltb, eqb-true, eq-eqb}
use Rattle.std.proofs.lemmas.List.{length-append, length-take, length-drop, take-append-drop, take_at, drop_at}
use Rattle.ante_wtree.specs.declared.instructions.PlainInstr.TheVariants as plain
use Rattle.ante_wtree.specs.Limits.{most_branch_targets}
use Rattle.ante_wtree.specs.Expressions.{Plain, Br, BrIf, BrTable, Return, Call, CallIndirect, MemoryGrow}
use Rattle.ante_wdecode.specs.declared.fault.DecodeKind.{DecodeKind}
use Rattle.ante_wdecode.specs.declared.fault.DecodeKind.TheVariants as kind
use Rattle.ante_wdecode.specs.declared.fault.Unread.{Unread}
use Rattle.ante_wdecode.specs.declared.fault.Unread.TheVariants as unread
use Rattle.ante_wdecode.specs.declared.integers.Misread.{Misread}
use Rattle.ante_wdecode.specs.declared.integers.Misread.TheVariants as misread
use Rattle.ante_wdecode.specs.declared.opcodes.Opcode.{Opcode}
use Rattle.ante_wdecode.specs.declared.opcodes.Opcode.TheVariants as opcode
use Rattle.ante_wdecode.specs.Leb128.{leb_at, u32_at, s32_at, s64_at}
use Rattle.ante_wdecode.specs.Rules.{Fault, Ended, At, Read, Rule, yields, in_turn, among, one_of, byte, items, moved, filled, filling, misfit_of, integer_at, u32, s32, s64, is_few, limited, exactly, Fails, left_of}
use Rattle.ante_wdecode.specs.Opcodes.{opcodes, is_between, is_float, no_opcode, an_opcode, no_kind, value_types, value_type}
use Rattle.ante_wdecode.specs.Instructions.{memarg, vector, indexed_of, completes, block_types, block_type}
use Rattle.ante_wdecode.specs.Faults.{Shows}
use Rattle.ante_wdecode.proofs.Lebs.{chosen, ok_is, leb_again, leb_found, low, low_is, low_leb, misspelled, misspelled_more}
use Rattle.ante_wdecode.proofs.Laws.{ok, EndsWith, Placed, Found, IsRead, IsExact, IsWhole, err_is, ended_here, at_front, exact_yields, exact_nothing, exact_turn, exact_only, exact_one, exact_form, exact_items, long_enough}

-- ---- integers

integer_is : (bytes : List ℕ) (r : Result (ℕ × List ℕ) Misread) (x : ℕ × List ℕ) → integer_at bytes r ≡ Ok x → r ≡ Ok x
integer_is bytes (Ok y) x h = ap (λ z. Ok z) (ok_is y x h)
integer_is bytes (Err misread.Short) x h = absurd cc
integer_is bytes (Err misread.Leb) x h = absurd cc

pub integer_fails : (bytes : List ℕ) (r : Result (ℕ × List ℕ) Misread) (f : Fault) → integer_at bytes r ≡ Err f → ((r ≡ Err misread.Short) × (Ended (length bytes) ≡ f)) ⊎ ((r ≡ Err misread.Leb) × (At (length bytes) kind.Leb ≡ f))
integer_fails bytes (Ok y) f h = absurd cc
integer_fails bytes (Err misread.Short) f h = inl (refl, err_is {A = ℕ × List ℕ} (Ended (length bytes)) f h)
integer_fails bytes (Err misread.Leb) f h = inr (refl, err_is {A = ℕ × List ℕ} (At (length bytes) kind.Leb) f h)

exact_integer : (Is : ℕ → List ℕ → Type 0) (read : List ℕ → Result (ℕ × List ℕ) Misread) → ((n : ℕ) (front rest : List ℕ) → Is n front → read (front ++ rest) ≡ Ok (n, rest)) →
    ((bytes : List ℕ) (x : ℕ × List ℕ) → read bytes ≡ Ok x → Found Is bytes x) → ((bytes : List ℕ) → read bytes ≡ Err misread.Leb → Shows kind.Leb bytes) → IsExact (record { Spells = Is; read = λ bytes. integer_at bytes (read bytes) })
exact_integer Is read again found shows = record {
  reads = record { again = λ n front rest h. ap (integer_at (front ++ rest)) (again n front rest h); found = λ bytes x h. found bytes x (integer_is bytes (read bytes) x h) };
  placed = λ bytes f h. ⊎_elim
      (λ e. subst (λ z. Placed z bytes) e.1 (ended_here bytes))
      (λ e. subst (λ z. Placed z bytes) e.1 (at_front bytes kind.Leb (shows bytes e.0)))
      (integer_fails bytes (read bytes) f h);
}

pub exact_u32 : IsExact u32
exact_u32 = exact_integer u32.Spells u32_at (λ n front rest h. leb_again false 32 n front rest h) (λ bytes x h. leb_found false 32 bytes x h) (λ bytes h. inl (misspelled false 32 bytes h))

low_found : (bytes : List ℕ) (x : ℕ × List ℕ) → s32_at bytes ≡ Ok x → Found s32.Spells bytes x
low_found bytes x h =
    let l = low_is (leb_at true 32 bytes) x h in
    let f = leb_found true 32 bytes l.0 l.1 in
    (f.0, (l.0.0, f.1, ap (λ (y : ℕ × List ℕ). y.0) l.2), f.2 ∙ ap (λ (y : ℕ × List ℕ). f.0 ++ y.1) (sym l.2))

low_again : (n : ℕ) (front rest : List ℕ) → s32.Spells n front → s32_at (front ++ rest) ≡ Ok (n, rest)
low_again n front rest h = ap low (leb_again true 32 h.0 front rest h.1) ∙ ap (λ m. Ok (m, rest)) (sym h.2)

pub exact_s32 : IsExact s32
exact_s32 = exact_integer s32.Spells s32_at low_again low_found (λ bytes h. inr (inl (misspelled true 32 bytes (low_leb (leb_at true 32 bytes) h))))

pub exact_s64 : IsExact s64
exact_s64 = exact_integer s64.Spells s64_at (λ n front rest h. leb_again true 64 n front rest h) (λ bytes x h. leb_found true 64 bytes x h) (λ bytes h. inr (inr (misspelled true 64 bytes h)))

pub few_tells : (most n : ℕ) → Decides (is_few most n) (n ≤ most)
few_tells most n = (
  λ e. ⊎_elim (λ p. absurd (never p.1)) (λ p. ltb-false most n p.0) (chosen (nat_lt most n) false true true e),
  λ le. ap (λ t. cond t false true) (le-ltb most n le),
)
  where
    never : false ≡ true → ⊥
    never k = cc

pub exact_limited : (most : ℕ) → IsExact (limited most)
exact_limited most = exact_only (λ n. n ≤ most) (is_few most) kind.Limit u32 exact_u32 (few_tells most) (λ bytes. tt)

pub exact_exactly : (n : ℕ) → IsExact (exactly n)
exact_exactly n = exact_only (λ m. m ≡ n) (λ m. nat_eq m n) kind.Form u32 exact_u32 (λ m. (λ e. eqb-true m n e, λ e. eq-eqb m n e)) (λ bytes. tt)

pub exact_vector : {A : Type 0} (most : ℕ) (item : Rule A) → IsExact item → IsExact (vector most item)
exact_vector most item p = exact_turn (limited most) (λ n. items n item) (exact_limited most) (λ n. exact_items n item p)

pub exact_byte : (b : ℕ) → IsExact (byte b)
exact_byte b = exact_form ((b, tt) ∷ [])

-- ---- kinds and opcodes

opcode_shows : (b : ℕ) (bytes : List ℕ) → among opcodes b ≡ None → Shows (no_opcode b) (b ∷ bytes)
opcode_shows b bytes h = by_test (is_float b) refl
  where
    by_test : (t : Bool) → is_float b ≡ t → Shows (cond t kind.Float kind.Opcode) (b ∷ bytes)
    by_test true e = ap (λ t. t || is_between 0x7C 0x7D b) e
    by_test false e = (h, e)

pub exact_opcode : IsExact an_opcode
exact_opcode = exact_one no_opcode opcodes opcode_shows

or_true : (t : Bool) → (t || true) ≡ true
or_true true = refl
or_true false = refl

kind_shows : (b : ℕ) (bytes : List ℕ) → Shows (no_kind b) (b ∷ bytes)
kind_shows b bytes = by_test (is_between 0x7C 0x7D b) refl
  where
    by_test : (t : Bool) → is_between 0x7C 0x7D b ≡ t → Shows (cond t kind.Float kind.Form) (b ∷ bytes)
    by_test true e = ap (λ t. is_float b || t) e ∙ or_true (is_float b)
    by_test false e = tt

pub exact_kinds : {A : Type 0} (table : List (ℕ × A)) → IsExact (one_of no_kind table)
exact_kinds table = exact_one no_kind table (λ b bytes h. kind_shows b bytes)

pub exact_value_type : IsExact value_type
exact_value_type = exact_kinds value_types

pub exact_block_type : IsExact block_type
exact_block_type = exact_kinds block_types

-- ---- instructions without bodies

pub one_then : {A B : Type 0} (rule : Rule A) (make : A → B) → IsExact rule → IsExact (in_turn rule (λ a. yields (make a)))
one_then rule make p = exact_turn rule (λ a. yields (make a)) p (λ a. exact_yields (make a))

pub exact_memarg : IsExact memarg
exact_memarg = exact_turn u32 _ exact_u32 (λ align. one_then u32 (λ offset. record { align = align; offset = offset }) exact_u32)

pub exact_completes : (l : Opcode) → IsExact (completes l)
exact_completes (opcode.Fixed i) = exact_yields (Plain i)
exact_completes (opcode.Indexed x) = one_then u32 (λ n. Plain (indexed_of x n)) exact_u32
exact_completes (opcode.Load k) = one_then memarg (λ m. Plain (plain.Load k m)) exact_memarg
exact_completes (opcode.Store k) = one_then memarg (λ m. Plain (plain.Store k m)) exact_memarg
exact_completes opcode.MemorySize = one_then (byte 0) (λ z. Plain plain.MemorySize) (exact_byte 0)
exact_completes opcode.MemoryGrow = one_then (byte 0) (λ z. MemoryGrow) (exact_byte 0)
exact_completes opcode.I32Const = one_then s32 (λ n. Plain (plain.I32Const n)) exact_s32
exact_completes opcode.I64Const = one_then s64 (λ n. Plain (plain.I64Const n)) exact_s64
exact_completes opcode.Br = one_then u32 (λ n. Br n) exact_u32
exact_completes opcode.BrIf = one_then u32 (λ n. BrIf n) exact_u32
exact_completes opcode.BrTable = exact_turn (vector most_branch_targets u32) _ (exact_vector most_branch_targets u32 exact_u32) (λ labels. one_then u32 (λ n. BrTable labels n) exact_u32)
exact_completes opcode.Return = exact_yields Return
exact_completes opcode.Call = one_then u32 (λ n. Call n) exact_u32
exact_completes opcode.CallIndirect = exact_turn u32 _ exact_u32 (λ n. one_then (byte 0) (λ z. CallIndirect n) (exact_byte 0))
exact_completes opcode.Block = exact_nothing
exact_completes opcode.Loop = exact_nothing
exact_completes opcode.If = exact_nothing
exact_completes opcode.Else = exact_nothing
exact_completes opcode.End = exact_nothing

-- ---- a part of so many bytes

shows_more : (k : DecodeKind) (bytes more : List ℕ) → Shows k bytes → Shows k (bytes ++ more)
shows_more kind.Magic bytes more h = absurd h
shows_more kind.Short bytes more h = absurd h
shows_more kind.Leb bytes more h = ⊎_elim
    (λ m. inl (misspelled_more false 32 bytes more (omega arith) m))
    (λ m. ⊎_elim (λ s. inr (inl (misspelled_more true 32 bytes more (omega arith) s))) (λ s. inr (inr (misspelled_more true 64 bytes more (omega arith) s))) m)
    h
shows_more kind.Opcode [] more h = absurd h
shows_more kind.Opcode (b ∷ bytes) more h = h
shows_more kind.Float [] more h = absurd h
shows_more kind.Float (b ∷ bytes) more h = h
shows_more kind.Section bytes more h = tt
shows_more kind.Utf8 bytes more h = tt
shows_more kind.Form bytes more h = tt
shows_more kind.Limit bytes more h = tt

-- a fault of a part has its place, or it is a misfit
abbrev pub Misfits : (misfit : ℕ → Fault) → List ℕ → Fault → Type 0
Misfits misfit bytes f = (left : ℕ) × (left ≤ length bytes) × (f ≡ misfit left)

-- a fault that isn't the end of the bytes, at its place
abbrev pub Sited : Fault → List ℕ → Type 0
Sited (Ended left) bytes = ⊥
Sited (At left fault) bytes = EndsWith left bytes (Shows fault)

sited_placed : (f : Fault) (bytes : List ℕ) → Sited f bytes → Placed f bytes
sited_placed (Ended left) bytes h = absurd h
sited_placed (At left fault) bytes h = h

moved_placed : (misfit : ℕ → Fault) (f : Fault) (bytes part after : List ℕ) → bytes ≡ part ++ after → Placed f part → Sited (moved misfit after f) bytes ⊎ Misfits misfit bytes (moved misfit after f)
moved_placed misfit (Ended left) bytes part after e h = inr (left + length after, omega (arith, ap length e, length-append part after, ap length h.2, length-append h.0 h.1, h.3), refl)
moved_placed misfit (At left fault) bytes part after e h = inl (
  h.0,
  h.1 ++ after,
  e ∙ ap (λ z. z ++ after) h.2 ∙ append_assoc h.0 h.1 after,
  omega (arith, h.3, length-append h.1 after),
  shows_more fault h.1 after h.4,
)

filled_placed : {A : Type 0} (misfit : ℕ → Fault) (rule : Rule A) → IsWhole rule → (bytes part after : List ℕ) → bytes ≡ part ++ after → (r : Read A) → rule.read part ≡ r → (f : Fault) → filled misfit after r ≡ Err f → Sited f bytes ⊎ Misfits misfit bytes f
filled_placed misfit rule p bytes part after e (Ok (a, [])) k f h = absurd (never h)
  where
    never : ok a after ≡ Err f → ⊥
    never k = cc
filled_placed {A} misfit rule p bytes part after e (Ok (a, b ∷ more)) k f h =
    let s = p.shorter part (a, b ∷ more) k in
    inr (length (b ∷ more) + length after, omega (arith, ap length e, length-append part after, s), sym (err_is {A = A × List ℕ} (misfit (length (b ∷ more) + length after)) f h))
filled_placed {A} misfit rule p bytes part after e (Err g) k f h = subst (λ z. Sited z bytes ⊎ Misfits misfit bytes z) (err_is {A = A × List ℕ} (moved misfit after g) f h) (moved_placed misfit g bytes part after e (p.placed part g k))

filled_found : {A : Type 0} (misfit : ℕ → Fault) (after : List ℕ) (r : Read A) (x : A × List ℕ) → filled misfit after r ≡ Ok x → (r ≡ ok x.0 []) × (after ≡ x.1)
filled_found {A} misfit after (Ok (a, [])) x h = let e = ok_is (a, after) x h in (ap (λ (z : A × List ℕ). ok z.0 []) e, ap (λ (z : A × List ℕ). z.1) e)
filled_found misfit after (Ok (a, b ∷ more)) x h = absurd cc
filled_found misfit after (Err g) x h = absurd cc

part_found : {A : Type 0} (misfit : ℕ → Fault) (n : ℕ) (rule : Rule A) → IsWhole rule → (bytes : List ℕ) (x : A × List ℕ) → (filling misfit n rule).read bytes ≡ Ok x → Found (filling misfit n rule).Spells bytes x
part_found misfit n rule p bytes x h = ⊎_elim
    (λ t. absurd (never t.1))
    (λ t.
    let e = filled_found misfit (drop n bytes) (rule.read (take n bytes)) x t.1 in
    let len : length (take n bytes) ≡ n = omega (arith, length-take n bytes, ltb-false (length bytes) n t.0) in
    (take n bytes, (len, p.found x.0 (take n bytes) e.0), sym (take-append-drop n bytes) ∙ ap (λ z. take n bytes ++ z) e.1))
    (chosen (nat_lt (length bytes) n) (Err (Ended (length bytes))) (filled misfit (drop n bytes) (rule.read (take n bytes))) (Ok x) h)
  where
    never : Err (Ended (length bytes)) ≡ Ok x → ⊥
    never k = cc

part_again : {A : Type 0} (misfit : ℕ → Fault) (n : ℕ) (rule : Rule A) → IsWhole rule → (a : A) (front rest : List ℕ) → (filling misfit n rule).Spells a front → (filling misfit n rule).read (front ++ rest) ≡ ok a rest
part_again misfit n rule p a front rest h =
    ap (λ b. cond b (Err (Ended (length (front ++ rest)))) (filled misfit (drop n (front ++ rest)) (rule.read (take n (front ++ rest))))) (long_enough n front rest h.0)
    ∙ rw (take_at front rest n h.0, drop_at front rest n h.0) (ap (filled misfit rest) (p.again a front h.1))

pub reads_part : {A : Type 0} (misfit : ℕ → Fault) (n : ℕ) (rule : Rule A) → IsWhole rule → IsRead (filling misfit n rule)
reads_part misfit n rule p = record { again = part_again misfit n rule p; found = part_found misfit n rule p }

-- the part isn't there, or a fault of it has its place, or is a misfit
pub part_fails : {A : Type 0} (misfit : ℕ → Fault) (n : ℕ) (rule : Rule A) → IsWhole rule → (bytes : List ℕ) (f : Fault) → (filling misfit n rule).read bytes ≡ Err f →
    ((f ≡ Ended (length bytes)) × (length bytes < n)) ⊎ (Sited f bytes ⊎ Misfits misfit bytes f)
part_fails {A} misfit n rule p bytes f h = ⊎_elim
    (λ t. inl (sym (err_is {A = A × List ℕ} (Ended (length bytes)) f t.1), ltb-true (length bytes) n t.0))
    (λ t. inr (filled_placed misfit rule p bytes (take n bytes) (drop n bytes) (sym (take-append-drop n bytes)) (rule.read (take n bytes)) refl f t.1))
    (chosen (nat_lt (length bytes) n) (Err (Ended (length bytes))) (filled misfit (drop n bytes) (rule.read (take n bytes))) (Err f) h)

abbrev formless : ℕ → Fault
formless left = misfit_of None left

ends_with : (left : ℕ) (bytes : List ℕ) → left ≤ length bytes → Placed (formless left) bytes
ends_with left bytes le =
    let n = length bytes - left in
    (take n bytes, drop n bytes, sym (take-append-drop n bytes), omega (arith, length-drop n bytes, le), tt)

pub exact_part : {A : Type 0} (n : ℕ) (rule : Rule A) → IsWhole rule → IsExact (filling (misfit_of None) n rule)
exact_part n rule p = record {
  reads = reads_part formless n rule p;
  placed = λ bytes f h. ⊎_elim
      (λ e. subst (λ z. Placed z bytes) (sym e.0) (ended_here bytes))
      (λ e. ⊎_elim (λ k. sited_placed f bytes k) (λ m. subst (λ z. Placed z bytes) (sym m.2) (ends_with m.0 bytes m.1)) e)
      (part_fails formless n rule p bytes f h);
}

-- ---- what the code keeps of it

pub limited_within : (most : ℕ) (bytes : List ℕ) (n : ℕ) (rest : List ℕ) → (limited most).read bytes ≡ ok n rest → n ≤ most
limited_within most bytes n rest h = let f = (exact_limited most).reads.found bytes (n, rest) h in f.1.0

left_in : (left : ℕ) (bytes : List ℕ) (Holds : List ℕ → Type 0) → EndsWith left bytes Holds → left ≤ length bytes
left_in left bytes Holds h = omega (arith, h.3, ap length h.2, length-append h.0 h.1)

pub left_small : {A : Type 0} (rule : Rule A) → IsWhole rule → (why : Unread) (bytes : List ℕ) → Fails why (rule.read bytes) → left_of why ≤ length bytes
left_small rule p unread.OutOfMemory bytes h = omega arith
left_small rule p (unread.Ended left) bytes h = left_in left bytes (λ back. Unit {0}) (p.placed bytes (Ended left) h)
left_small rule p (unread.Fault left fault) bytes h = left_in left bytes (Shows fault) (p.placed bytes (At left fault) h)
