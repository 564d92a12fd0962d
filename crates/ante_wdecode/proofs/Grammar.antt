-- Sequences of instructions: what is read is spelled, what is spelled is read, and a fault is where it says.
use Rattle.std.proofs.Common.{◌≡◌, ℕ, zero, suc, ◌+◌, ◌<◌, Bool, true, false, nat_eq, List, [], ◌∷◌, ◌++◌, length, Option, None, Some, Result, Ok, Err, refl, sym, ap, subst, ◌∙◌, append_assoc, append-nil, arith, inl, inr, ⊎_elim}
use Rattle.std.proofs.lemmas.Bool.{eqb-true}
use Rattle.std.proofs.lemmas.List.{length-append}
use Rattle.ante_wtree.specs.declared.instructions.ValueKind.{ValueKind}
use Rattle.ante_wtree.specs.declared.instructions.ValueKind.TheVariants.{I32, I64}
use Rattle.ante_wtree.specs.declared.instructions.PlainInstr.TheVariants as plain
use Rattle.ante_wtree.specs.Expressions.{Expression, Over, Plain, Block, Loop, If, Br, BrIf, BrTable, Return, Call, CallIndirect, MemoryGrow}
use Rattle.ante_wdecode.specs.declared.fault.DecodeKind.TheVariants as kind
use Rattle.ante_wdecode.specs.declared.opcodes.Opcode.{Opcode}
use Rattle.ante_wdecode.specs.declared.opcodes.Opcode.TheVariants as opcode
use Rattle.ante_pack.specs.Forms.{◌>>=◌}
use Rattle.ante_wdecode.specs.Rules.{Fault, Ended, At, Read, among}
use Rattle.ante_wdecode.specs.Opcodes.{IsOpcodeOf, an_opcode}
use Rattle.ante_wdecode.specs.Instructions.{Before, completes, IsSingle, indexed_of, kind_byte, block_types, block_type, Spells, IsExpression}
use Rattle.ante_wdecode.specs.NestedInstructions.{Sequence, Item, Ends, One, closed, body_at, block_of, block_at, second_at, if_at, deeper, one, led_at, item_at, go_on, inside, seq_at, expression}
use Rattle.ante_wdecode.proofs.Lebs.{bind_ok, chosen, ok_is}
use Rattle.ante_wdecode.proofs.Laws.{Placed, IsExact, bind_err, err_is, further}
use Rattle.ante_wdecode.proofs.Values.{exact_opcode, exact_block_type, exact_completes}

abbrev pub Make : Type 0
Make = Expression → Expression

abbrev pub term : Bool → Opcode
term true = opcode.Else
term false = opcode.End

-- an item and the bytes after it, of these bytes
abbrev pub Of : ℕ → List ℕ → Item → List ℕ → Type 0
Of d bytes (Ends e) rest = (b : ℕ) × IsOpcodeOf b (term e) × (bytes ≡ b ∷ rest)
Of d bytes (One make) rest = (b : ℕ) × (a : List ℕ) × (bytes ≡ b ∷ (a ++ rest)) × ((c : Expression) (y : List ℕ) → Spells d c y → Spells d (make c) (b ∷ (a ++ y)))

abbrev pub SeqOf : ℕ → List ℕ → Sequence → Type 0
SeqOf d bytes s = (a : List ℕ) × (b : ℕ) × Spells d s.0 a × IsOpcodeOf b (term s.1) × (bytes ≡ a ++ b ∷ s.2)

abbrev InnerOf : ℕ → List ℕ → Sequence → Type 0
InnerOf zero bytes s = ⊥
InnerOf (suc d) bytes s = SeqOf d bytes s

kind_is : (b : ℕ) (k : Option ValueKind) → among block_types b ≡ Some k → b ≡ kind_byte k
kind_is b k h = ⊎_elim
    (λ p. is None 0x40 p.0 p.1 refl)
    (λ p. ⊎_elim
    (λ q. is (Some I32) 0x7F q.0 q.1 refl)
    (λ q. ⊎_elim
    (λ r. is (Some I64) 0x7E r.0 r.1 refl)
    (λ r. absurd (never r.1))
    (chosen (nat_eq b 0x7E) (Some (Some I64)) None (Some k) q.1))
    (chosen (nat_eq b 0x7F) (Some (Some I32)) _ (Some k) p.1))
    (chosen (nat_eq b 0x40) (Some None) _ (Some k) h)
  where
    never : None ≡ Some k → ⊥
    never e = cc

    is : (o : Option ValueKind) (n : ℕ) → nat_eq b n ≡ true → Some o ≡ Some k → kind_byte o ≡ n → b ≡ kind_byte k
    is o n t e v = let f : o ≡ k = cc in eqb-true b n t ∙ sym v ∙ ap kind_byte f

kind_found : (bytes : List ℕ) (k : Option ValueKind × List ℕ) → block_type.read bytes ≡ Ok k → bytes ≡ kind_byte k.0 ∷ k.1
kind_found bytes k h =
    let f = exact_block_type.reads.found bytes k h in
    let b = f.1 in
    f.2 ∙ ap (λ (z : List ℕ). z ++ k.1) b.2 ∙ ap (λ n. n ∷ k.1) (kind_is b.0 k.0 b.1)

kind_again : (k : Option ValueKind) (rest : List ℕ) → block_type.read (kind_byte k ∷ rest) ≡ Ok (k, rest)
kind_again None rest = refl
kind_again (Some I32) rest = refl
kind_again (Some I64) rest = refl

pub kind_shorter : (bytes : List ℕ) (k : Option ValueKind) (rest : List ℕ) → block_type.read bytes ≡ Ok (k, rest) → length rest < length bytes
kind_shorter bytes k rest h = omega (arith, ap length (kind_found bytes (k, rest) h))

-- ---- instructions without bodies

as_made : (d : ℕ) (made make : Make) → make ≡ made → ((c : Expression) (bytes : List ℕ) → Before (IsSingle made) (Spells d c) bytes → Spells d (made c) bytes) → (c : Expression) (bytes : List ℕ) → Before (IsSingle make) (Spells d c) bytes → Spells d (make c) bytes
as_made d made make e f c bytes z = subst (λ (m : Make). Spells d (m c) bytes) (sym e) (f c bytes (subst (λ (m : Make). Before (IsSingle m) (Spells d c) bytes) e z))

made_by : (d : ℕ) (l : Opcode) (front : List ℕ) (make : Make) → (completes l).Spells make front → (c : Expression) (bytes : List ℕ) → Before (IsSingle make) (Spells d c) bytes → Spells d (make c) bytes
made_by d (opcode.Fixed i) front make h = as_made d (Plain i) make h.0 (λ c bytes z. z)
made_by d (opcode.Indexed x) front make h = as_made d (Plain (indexed_of x h.0)) make h.4.0 (λ c bytes z. z)
made_by d (opcode.Load k) front make h = as_made d (Plain (plain.Load k h.0)) make h.4.0 (λ c bytes z. z)
made_by d (opcode.Store k) front make h = as_made d (Plain (plain.Store k h.0)) make h.4.0 (λ c bytes z. z)
made_by d opcode.MemorySize front make h = as_made d (Plain plain.MemorySize) make h.4.0 (λ c bytes z. z)
made_by d opcode.MemoryGrow front make h = as_made d MemoryGrow make h.4.0 (λ c bytes z. z)
made_by d opcode.I32Const front make h = as_made d (Plain (plain.I32Const h.0)) make h.4.0 (λ c bytes z. z)
made_by d opcode.I64Const front make h = as_made d (Plain (plain.I64Const h.0)) make h.4.0 (λ c bytes z. z)
made_by d opcode.Br front make h = as_made d (Br h.0) make h.4.0 (λ c bytes z. z)
made_by d opcode.BrIf front make h = as_made d (BrIf h.0) make h.4.0 (λ c bytes z. z)
made_by d opcode.BrTable front make h = let g = h.4 in as_made d (BrTable h.0 g.0) make g.4.0 (λ c bytes z. z)
made_by d opcode.Return front make h = as_made d Return make h.0 (λ c bytes z. z)
made_by d opcode.Call front make h = as_made d (Call h.0) make h.4.0 (λ c bytes z. z)
made_by d opcode.CallIndirect front make h = let g = h.4 in as_made d (CallIndirect h.0) make g.4.0 (λ c bytes z. z)
made_by d opcode.Block front make h = absurd h
made_by d opcode.Loop front make h = absurd h
made_by d opcode.If front make h = absurd h
made_by d opcode.Else front make h = absurd h
made_by d opcode.End front make h = absurd h

single_spells : (d : ℕ) (l : Opcode) (b : ℕ) (front : List ℕ) (make : Make) → IsOpcodeOf b l → (completes l).Spells make front → (c : Expression) (y : List ℕ) → Spells d c y → Spells d (make c) (b ∷ (front ++ y))
single_spells d l b front make k h c y s =
    let i : IsSingle make (b ∷ front) = (l, b ∷ [], front, (b, k, refl), h, refl) in
    made_by d l front make h c (b ∷ (front ++ y)) (b ∷ front, y, i, s, refl)

abbrev made : Make → List ℕ → Read Make
made make rest = Ok (make, rest)

single_of : (d : ℕ) (l : Opcode) (b : ℕ) (bytes : List ℕ) (x : Item × List ℕ) → IsOpcodeOf b l → ((completes l).read bytes >>= one) ≡ Ok x → Of d (b ∷ bytes) x.0 x.1
single_of d l b bytes x k h =
    let r = bind_ok ((completes l).read bytes) one x h in
    let f = (exact_completes l).reads.found bytes r.0 r.1 in
    let y : Item × List ℕ = (One r.0.0, r.0.1) in
    let o : Of d (b ∷ bytes) (One r.0.0) r.0.1 = (b, f.0, ap (λ z. b ∷ z) f.2, single_spells d l b f.0 r.0.0 k f.1) in
    subst (λ (z : Item × List ℕ). Of d (b ∷ bytes) z.0 z.1) (ok_is y x r.2) o

-- ---- instructions with bodies

abbrev Inner : ℕ → (List ℕ → Result Sequence Fault) → Type 0
Inner d inner = (y : List ℕ) (s : Sequence) → inner y ≡ Ok s → InnerOf d y s

body_found : (d : ℕ) (read : List ℕ → Result Sequence Fault) → ((y : List ℕ) (s : Sequence) → read y ≡ Ok s → SeqOf d y s) → (bytes : List ℕ) (x : Expression × List ℕ) → body_at read bytes ≡ Ok x →
    (a : List ℕ) × (b : ℕ) × Spells d x.0 a × IsOpcodeOf b opcode.End × (bytes ≡ a ++ b ∷ x.1)
body_found d read f bytes x h =
    let s = bind_ok (read bytes) closed x h in
    ended s.0 (f bytes s.0 s.1) s.2
  where
    never : {e : Fault} → Err e ≡ Ok x → ⊥
    never e = cc

    ended : (s : Sequence) → SeqOf d bytes s → closed s ≡ Ok x → (a : List ℕ) × (b : ℕ) × Spells d x.0 a × IsOpcodeOf b opcode.End × (bytes ≡ a ++ b ∷ x.1)
    ended (e, true, rest) o k = absurd (never k)
    ended (e, false, rest) o k = subst (λ (z : Expression × List ℕ). (a : List ℕ) × (b : ℕ) × Spells d z.0 a × IsOpcodeOf b opcode.End × (bytes ≡ a ++ b ∷ z.1)) (ok_is (e, rest) x k) o

abbrev pub block_opcode : Bool → Opcode
block_opcode true = opcode.Loop
block_opcode false = opcode.Block

block_spells : (d : ℕ) (looped : Bool) (b e : ℕ) (kind : Option ValueKind) (body : Expression) (a : List ℕ) → IsOpcodeOf b (block_opcode looped) → IsOpcodeOf e opcode.End → Spells d body a →
    (c : Expression) (y : List ℕ) → Spells (suc d) c y → Spells (suc d) (block_of looped kind body c) (b ∷ (kind_byte kind ∷ (a ++ e ∷ []) ++ y))
block_spells d true b e kind body a k l s c y h = (b ∷ kind_byte kind ∷ (a ++ e ∷ []), y, (b, e, a, k, l, s, refl), h, refl)
block_spells d false b e kind body a k l s c y h = (b ∷ kind_byte kind ∷ (a ++ e ∷ []), y, (b, e, a, k, l, s, refl), h, refl)

block_found : (d : ℕ) (inner : List ℕ → Result Sequence Fault) → Inner d inner → (looped : Bool) (b : ℕ) (bytes : List ℕ) (x : Make × List ℕ) → IsOpcodeOf b (block_opcode looped) → deeper d bytes (block_at (block_of looped) inner bytes) ≡ Ok x → Of d (b ∷ bytes) (One x.0) x.1
block_found zero inner f looped b bytes x k h = absurd cc
block_found (suc d) inner f looped b bytes x k h =
    let q = bind_ok (block_type.read bytes) (λ k. body_at inner k.1 >>= λ b. made (block_of looped k.0 b.0) b.1) x h in
    let r = bind_ok (body_at inner q.0.1) (λ b. made (block_of looped q.0.0 b.0) b.1) x q.2 in
    let g = body_found d inner f q.0.1 r.0 r.1 in
    let split : bytes ≡ kind_byte q.0.0 ∷ (g.0 ++ g.1 ∷ []) ++ r.0.1 = kind_found bytes q.0 q.1 ∙ ap (λ (z : List ℕ). kind_byte q.0.0 ∷ z) (g.4 ∙ sym (append_assoc g.0 (g.1 ∷ []) r.0.1)) in
    let o : Of (suc d) (b ∷ bytes) (One (block_of looped q.0.0 r.0.0)) r.0.1 = (b, kind_byte q.0.0 ∷ (g.0 ++ g.1 ∷ []), ap (λ (z : List ℕ). b ∷ z) split, block_spells d looped b g.1 q.0.0 r.0.0 g.0 k g.3 g.2) in
    subst (λ (z : Make × List ℕ). Of (suc d) (b ∷ bytes) (One z.0) z.1) (ok_is (block_of looped q.0.0 r.0.0, r.0.1) x r.2) o

second_found : (d : ℕ) (inner : List ℕ → Result Sequence Fault) → Inner (suc d) inner → (b : ℕ) (bytes : List ℕ) (kind : Option ValueKind) (y : List ℕ) (x : Make × List ℕ) → IsOpcodeOf b opcode.If → bytes ≡ kind_byte kind ∷ y →
    (s : Sequence) → SeqOf d y s → second_at inner kind s ≡ Ok x → Of (suc d) (b ∷ bytes) (One x.0) x.1
second_found d inner f b bytes kind y x k p (first, false, rest) o h =
    let split : bytes ≡ kind_byte kind ∷ (o.0 ++ o.1 ∷ []) ++ rest = p ∙ ap (λ (z : List ℕ). kind_byte kind ∷ z) (o.4 ∙ sym (append_assoc o.0 (o.1 ∷ []) rest)) in
    let front : List ℕ = kind_byte kind ∷ (o.0 ++ o.1 ∷ []) in
    let found : Of (suc d) (b ∷ bytes) (One (If kind first Over)) rest = (b, front, ap (λ (z : List ℕ). b ∷ z) split, λ c z s. (b ∷ front, z, inl (refl, (b, o.1, o.0, k, o.3, o.2, refl)), s, refl)) in
    subst (λ (z : Make × List ℕ). Of (suc d) (b ∷ bytes) (One z.0) z.1) (ok_is (If kind first Over, rest) x h) found
second_found d inner f b bytes kind y x k p (first, true, rest) o h =
    let t = bind_ok (body_at inner rest) (λ b. made (If kind first b.0) b.1) x h in
    let g = body_found d inner f rest t.0 t.1 in
    let tail : List ℕ = g.0 ++ g.1 ∷ [] in
    let split : bytes ≡ kind_byte kind ∷ (o.0 ++ o.1 ∷ tail) ++ t.0.1 =
    p ∙ ap (λ (z : List ℕ). kind_byte kind ∷ z) (o.4 ∙ ap (λ (z : List ℕ). o.0 ++ o.1 ∷ z) (g.4 ∙ sym (append_assoc g.0 (g.1 ∷ []) t.0.1)) ∙ sym (append_assoc o.0 (o.1 ∷ tail) t.0.1)) in
    let front : List ℕ = kind_byte kind ∷ (o.0 ++ o.1 ∷ tail) in
    let found : Of (suc d) (b ∷ bytes) (One (If kind first t.0.0)) t.0.1 = (b, front, ap (λ (z : List ℕ). b ∷ z) split, λ c z s. (b ∷ front, z, inr (b, o.1, g.1, o.0, g.0, k, o.3, g.3, o.2, g.2, refl), s, refl)) in
    subst (λ (z : Make × List ℕ). Of (suc d) (b ∷ bytes) (One z.0) z.1) (ok_is (If kind first t.0.0, t.0.1) x t.2) found

if_found : (d : ℕ) (inner : List ℕ → Result Sequence Fault) → Inner d inner → (b : ℕ) (bytes : List ℕ) (x : Make × List ℕ) → IsOpcodeOf b opcode.If → deeper d bytes (if_at inner bytes) ≡ Ok x → Of d (b ∷ bytes) (One x.0) x.1
if_found zero inner f b bytes x k h = absurd cc
if_found (suc d) inner f b bytes x k h =
    let q = bind_ok (block_type.read bytes) (λ k. inner k.1 >>= second_at inner k.0) x h in
    let s = bind_ok (inner q.0.1) (second_at inner q.0.0) x q.2 in
    second_found d inner f b bytes q.0.0 q.0.1 x k (kind_found bytes q.0 q.1) s.0 (f q.0.1 s.0 s.1) s.2

as_one : (d : ℕ) (bytes : List ℕ) (r : Read Make) (x : Item × List ℕ) → ((y : Make × List ℕ) → r ≡ Ok y → Of d bytes (One y.0) y.1) → (r >>= one) ≡ Ok x → Of d bytes x.0 x.1
as_one d bytes r x f h =
    let y = bind_ok r one x h in
    subst (λ (z : Item × List ℕ). Of d bytes z.0 z.1) (ok_is (One y.0.0, y.0.1) x y.2) (f y.0 y.1)

led_found : (d : ℕ) (inner : List ℕ → Result Sequence Fault) → Inner d inner → (b : ℕ) (bytes : List ℕ) (x : Item × List ℕ) (l : Opcode) → IsOpcodeOf b l → led_at d inner l bytes ≡ Ok x → Of d (b ∷ bytes) x.0 x.1
led_found d inner f b bytes x opcode.Else k h = subst (λ (z : Item × List ℕ). Of d (b ∷ bytes) z.0 z.1) (ok_is (Ends true, bytes) x h) (b, k, refl)
led_found d inner f b bytes x opcode.End k h = subst (λ (z : Item × List ℕ). Of d (b ∷ bytes) z.0 z.1) (ok_is (Ends false, bytes) x h) (b, k, refl)
led_found d inner f b bytes x opcode.Block k h = as_one d (b ∷ bytes) (deeper d bytes (block_at (block_of false) inner bytes)) x (λ y e. block_found d inner f false b bytes y k e) h
led_found d inner f b bytes x opcode.Loop k h = as_one d (b ∷ bytes) (deeper d bytes (block_at (block_of true) inner bytes)) x (λ y e. block_found d inner f true b bytes y k e) h
led_found d inner f b bytes x opcode.If k h = as_one d (b ∷ bytes) (deeper d bytes (if_at inner bytes)) x (λ y e. if_found d inner f b bytes y k e) h
led_found d inner f b bytes x (opcode.Fixed i) k h = single_of d (opcode.Fixed i) b bytes x k h
led_found d inner f b bytes x (opcode.Indexed i) k h = single_of d (opcode.Indexed i) b bytes x k h
led_found d inner f b bytes x (opcode.Load i) k h = single_of d (opcode.Load i) b bytes x k h
led_found d inner f b bytes x (opcode.Store i) k h = single_of d (opcode.Store i) b bytes x k h
led_found d inner f b bytes x opcode.MemorySize k h = single_of d opcode.MemorySize b bytes x k h
led_found d inner f b bytes x opcode.MemoryGrow k h = single_of d opcode.MemoryGrow b bytes x k h
led_found d inner f b bytes x opcode.I32Const k h = single_of d opcode.I32Const b bytes x k h
led_found d inner f b bytes x opcode.I64Const k h = single_of d opcode.I64Const b bytes x k h
led_found d inner f b bytes x opcode.Br k h = single_of d opcode.Br b bytes x k h
led_found d inner f b bytes x opcode.BrIf k h = single_of d opcode.BrIf b bytes x k h
led_found d inner f b bytes x opcode.BrTable k h = single_of d opcode.BrTable b bytes x k h
led_found d inner f b bytes x opcode.Return k h = single_of d opcode.Return b bytes x k h
led_found d inner f b bytes x opcode.Call k h = single_of d opcode.Call b bytes x k h
led_found d inner f b bytes x opcode.CallIndirect k h = single_of d opcode.CallIndirect b bytes x k h

led_by : (bytes : List ℕ) (l : Opcode × List ℕ) → an_opcode.read bytes ≡ Ok l → (b : ℕ) × IsOpcodeOf b l.0 × (bytes ≡ b ∷ l.1)
led_by bytes l h =
    let f = exact_opcode.reads.found bytes l h in
    let b = f.1 in
    (b.0, b.1, f.2 ∙ ap (λ (z : List ℕ). z ++ l.1) b.2)

pub opcode_shorter : (bytes : List ℕ) (l : Opcode) (rest : List ℕ) → an_opcode.read bytes ≡ Ok (l, rest) → length rest < length bytes
opcode_shorter bytes l rest h = let b = led_by bytes (l, rest) h in omega (arith, ap length b.2)

item_found : (d : ℕ) (inner : List ℕ → Result Sequence Fault) → Inner d inner → (bytes : List ℕ) (x : Item × List ℕ) → item_at d inner bytes ≡ Ok x → Of d bytes x.0 x.1
item_found d inner f bytes x h =
    let l = bind_ok (an_opcode.read bytes) (λ l. led_at d inner l.0 l.1) x h in
    let b = led_by bytes l.0 l.1 in
    subst (λ z. Of d z x.0 x.1) (sym b.2) (led_found d inner f b.0 l.0.1 x l.0.0 b.1 l.2)

inner_found : (read : ℕ → List ℕ → Result Sequence Fault) → ((d : ℕ) (y : List ℕ) (s : Sequence) → read d y ≡ Ok s → SeqOf d y s) → (d : ℕ) → Inner d (inside read d)
inner_found read f zero y s h = absurd cc
inner_found read f (suc d) y s h = f d y s h

gone : (n d : ℕ) (bytes : List ℕ) (i : Item) (rest : List ℕ) (s : Sequence) → ((y : List ℕ) (t : Sequence) → seq_at n d y ≡ Ok t → SeqOf d y t) → Of d bytes i rest → go_on (seq_at n d) (i, rest) ≡ Ok s → SeqOf d bytes s
gone n d bytes (Ends e) rest s f o h = subst (SeqOf d bytes) (ok_is (Over, e, rest) s h) ([], o.0, refl, o.1, o.2)
gone n d bytes (One make) rest s f o h =
    let t = bind_ok (seq_at n d rest) (λ t. Ok (make t.0, t.1, t.2)) s h in
    let g = f rest t.0 t.1 in
    let found : SeqOf d bytes (make t.0.0, t.0.1, t.0.2) = (o.0 ∷ (o.1 ++ g.0), g.1, o.3 t.0.0 g.0 g.2, g.3, o.2 ∙ ap (λ (z : List ℕ). o.0 ∷ z) (ap (λ (z : List ℕ). o.1 ++ z) g.4 ∙ sym (append_assoc o.1 g.0 (g.1 ∷ t.0.2)))) in
    subst (SeqOf d bytes) (ok_is (make t.0.0, t.0.1, t.0.2) s t.2) found

pub seq_found : (n d : ℕ) (bytes : List ℕ) (s : Sequence) → seq_at n d bytes ≡ Ok s → SeqOf d bytes s
seq_found zero d bytes s h = absurd cc
seq_found (suc n) d bytes s h =
    let x = bind_ok (item_at d (inside (seq_at n) d) bytes) (go_on (seq_at n d)) s h in
    gone n d bytes x.0.0 x.0.1 s (seq_found n d) (item_found d (inside (seq_at n) d) (inner_found (seq_at n) (seq_found n) d) bytes x.0 x.1) x.2

pub seq_shorter : (n d : ℕ) (bytes : List ℕ) (e : Expression) (by_else : Bool) (rest : List ℕ) → seq_at n d bytes ≡ Ok (e, by_else, rest) → length rest < length bytes
seq_shorter n d bytes e by_else rest h = let o = seq_found n d bytes (e, by_else, rest) h in omega (arith, ap length o.4, length-append o.0 (o.1 ∷ rest))

of_shorter : (d : ℕ) (bytes : List ℕ) (i : Item) (rest : List ℕ) → Of d bytes i rest → length rest < length bytes
of_shorter d bytes (Ends e) rest o = omega (arith, ap length o.2)
of_shorter d bytes (One make) rest o = omega (arith, ap length o.2, length-append o.1 rest)

pub item_shorter : (n d : ℕ) (bytes : List ℕ) (i : Item) (rest : List ℕ) → item_at d (inside (seq_at n) d) bytes ≡ Ok (i, rest) → length rest < length bytes
item_shorter n d bytes i rest h = of_shorter d bytes i rest (item_found d (inside (seq_at n) d) (inner_found (seq_at n) (seq_found n) d) bytes (i, rest) h)

-- ---- what is spelled is read

abbrev sequence : Expression → Bool → List ℕ → Result Sequence Fault
sequence e by_else rest = Ok (e, by_else, rest)

abbrev item : Item → List ℕ → Read Item
item i rest = Ok (i, rest)

led_single : (d : ℕ) (inner : List ℕ → Result Sequence Fault) (l : Opcode) (bytes more : List ℕ) (make : Make) → (completes l).Spells make more → led_at d inner l bytes ≡ ((completes l).read bytes >>= one)
led_single d inner (opcode.Fixed i) bytes more make h = refl
led_single d inner (opcode.Indexed i) bytes more make h = refl
led_single d inner (opcode.Load i) bytes more make h = refl
led_single d inner (opcode.Store i) bytes more make h = refl
led_single d inner opcode.MemorySize bytes more make h = refl
led_single d inner opcode.MemoryGrow bytes more make h = refl
led_single d inner opcode.I32Const bytes more make h = refl
led_single d inner opcode.I64Const bytes more make h = refl
led_single d inner opcode.Br bytes more make h = refl
led_single d inner opcode.BrIf bytes more make h = refl
led_single d inner opcode.BrTable bytes more make h = refl
led_single d inner opcode.Return bytes more make h = refl
led_single d inner opcode.Call bytes more make h = refl
led_single d inner opcode.CallIndirect bytes more make h = refl
led_single d inner opcode.Block bytes more make h = absurd h
led_single d inner opcode.Loop bytes more make h = absurd h
led_single d inner opcode.If bytes more make h = absurd h
led_single d inner opcode.Else bytes more make h = absurd h
led_single d inner opcode.End bytes more make h = absurd h

single_item : (d : ℕ) (inner : List ℕ → Result Sequence Fault) (make : Make) (x : List ℕ) → IsSingle make x → (tail : List ℕ) → item_at d inner (x ++ tail) ≡ item (One make) tail
single_item d inner make x h tail =
    ap (λ (z : List ℕ). item_at d inner (z ++ tail)) h.5
    ∙ ap (item_at d inner) (append_assoc h.1 h.2 tail)
    ∙ ap (λ r. r >>= λ l. led_at d inner l.0 l.1) (exact_opcode.reads.again h.0 h.1 (h.2 ++ tail) h.3)
    ∙ led_single d inner h.0 (h.2 ++ tail) h.2 make h.4
    ∙ ap (λ r. r >>= one) ((exact_completes h.0).reads.again make h.2 tail h.4)

item_again : (n d : ℕ) (make : Make) (c : Expression) (a x y : List ℕ) (e : Bool) (b : ℕ) (rest : List ℕ) → a ≡ x ++ y → ((tail : List ℕ) → item_at d (inside (seq_at n) d) (x ++ tail) ≡ item (One make) tail) →
    seq_at n d (y ++ b ∷ rest) ≡ sequence c e rest → seq_at (suc n) d (a ++ b ∷ rest) ≡ sequence (make c) e rest
item_again n d make c a x y e b rest s h g =
    ap (seq_at (suc n) d) (ap (λ (z : List ℕ). z ++ b ∷ rest) s ∙ append_assoc x y (b ∷ rest))
    ∙ ap (λ r. r >>= go_on (seq_at n d)) (h (y ++ b ∷ rest))
    ∙ ap (λ r. r >>= λ t. sequence (make t.0) t.1 t.2) g

less : (n : ℕ) (a x y : List ℕ) → a ≡ x ++ y → 0 < length x → length a < suc n → length y < n
less n a x y s h lt = omega (arith, ap length s, length-append x y)

single_long : (make : Make) (x : List ℕ) → IsSingle make x → 0 < length x
single_long make x h = let b = h.3 in omega (arith, ap length h.5, length-append h.1 h.2, ap length b.2)

led : (b : ℕ) (rest : List ℕ) (l : Opcode) → IsOpcodeOf b l → an_opcode.read (b ∷ rest) ≡ Ok (l, rest)
led b rest l k = exact_opcode.reads.again l (b ∷ []) rest (b, k, refl)

over : (n d : ℕ) (e : Bool) (b : ℕ) (rest : List ℕ) → IsOpcodeOf b (term e) → seq_at (suc n) d (b ∷ rest) ≡ sequence Over e rest
over n d true b rest k = ap (λ r. (r >>= λ l. led_at d (inside (seq_at n) d) l.0 l.1) >>= go_on (seq_at n d)) (led b rest opcode.Else k)
over n d false b rest k = ap (λ r. (r >>= λ l. led_at d (inside (seq_at n) d) l.0 l.1) >>= go_on (seq_at n d)) (led b rest opcode.End k)

block_led : (d : ℕ) (inner : List ℕ → Result Sequence Fault) (looped : Bool) (bytes : List ℕ) → led_at (suc d) inner (block_opcode looped) bytes ≡ (block_at (block_of looped) inner bytes >>= one)
block_led d inner true bytes = refl
block_led d inner false bytes = refl

block_item : (d : ℕ) (inner : List ℕ → Result Sequence Fault) (looped : Bool) (kind : Option ValueKind) (body : Expression) (x a : List ℕ) (op close : ℕ) → IsOpcodeOf op (block_opcode looped) → x ≡ op ∷ kind_byte kind ∷ (a ++ close ∷ []) →
    ((tail : List ℕ) → inner (a ++ close ∷ tail) ≡ sequence body false tail) → (tail : List ℕ) → item_at (suc d) inner (x ++ tail) ≡ item (One (block_of looped kind body)) tail
block_item d inner looped kind body x a op close k e g tail =
    let w : List ℕ = (a ++ close ∷ []) ++ tail in
    ap (λ (z : List ℕ). item_at (suc d) inner (z ++ tail)) e
    ∙ ap (λ r. r >>= λ l. led_at (suc d) inner l.0 l.1) (led op (kind_byte kind ∷ w) (block_opcode looped) k)
    ∙ block_led d inner looped (kind_byte kind ∷ w)
    ∙ ap (λ r. (r >>= λ k. body_at inner k.1 >>= λ b. made (block_of looped k.0 b.0) b.1) >>= one) (kind_again kind w)
    ∙ ap (λ (z : List ℕ). (body_at inner z >>= λ b. made (block_of looped kind b.0) b.1) >>= one) (append_assoc a (close ∷ []) tail)
    ∙ ap (λ r. ((r >>= closed) >>= λ b. made (block_of looped kind b.0) b.1) >>= one) (g tail)

short_item : (d : ℕ) (inner : List ℕ → Result Sequence Fault) (kind : Option ValueKind) (first : Expression) (x a : List ℕ) (op close : ℕ) → IsOpcodeOf op opcode.If → x ≡ op ∷ kind_byte kind ∷ (a ++ close ∷ []) →
    ((tail : List ℕ) → inner (a ++ close ∷ tail) ≡ sequence first false tail) → (tail : List ℕ) → item_at (suc d) inner (x ++ tail) ≡ item (One (If kind first Over)) tail
short_item d inner kind first x a op close k e g tail =
    let w : List ℕ = (a ++ close ∷ []) ++ tail in
    ap (λ (z : List ℕ). item_at (suc d) inner (z ++ tail)) e
    ∙ ap (λ r. r >>= λ l. led_at (suc d) inner l.0 l.1) (led op (kind_byte kind ∷ w) opcode.If k)
    ∙ ap (λ r. (r >>= λ k. inner k.1 >>= second_at inner k.0) >>= one) (kind_again kind w)
    ∙ ap (λ (z : List ℕ). (inner z >>= second_at inner kind) >>= one) (append_assoc a (close ∷ []) tail)
    ∙ ap (λ r. (r >>= second_at inner kind) >>= one) (g tail)

long_item : (d : ℕ) (inner : List ℕ → Result Sequence Fault) (kind : Option ValueKind) (first second : Expression) (x a b : List ℕ) (op middle close : ℕ) → IsOpcodeOf op opcode.If → x ≡ op ∷ kind_byte kind ∷ (a ++ middle ∷ (b ++ close ∷ [])) →
    ((tail : List ℕ) → inner (a ++ middle ∷ tail) ≡ sequence first true tail) → ((tail : List ℕ) → inner (b ++ close ∷ tail) ≡ sequence second false tail) → (tail : List ℕ) → item_at (suc d) inner (x ++ tail) ≡ item (One (If kind first second)) tail
long_item d inner kind first second x a b op middle close k e g h tail =
    let v : List ℕ = b ++ close ∷ [] in
    let w : List ℕ = (a ++ middle ∷ v) ++ tail in
    ap (λ (z : List ℕ). item_at (suc d) inner (z ++ tail)) e
    ∙ ap (λ r. r >>= λ l. led_at (suc d) inner l.0 l.1) (led op (kind_byte kind ∷ w) opcode.If k)
    ∙ ap (λ r. (r >>= λ k. inner k.1 >>= second_at inner k.0) >>= one) (kind_again kind w)
    ∙ ap (λ (z : List ℕ). (inner z >>= second_at inner kind) >>= one) (append_assoc a (middle ∷ v) tail)
    ∙ ap (λ r. (r >>= second_at inner kind) >>= one) (g (v ++ tail))
    ∙ ap (λ (z : List ℕ). (body_at inner z >>= λ b. made (If kind first b.0) b.1) >>= one) (append_assoc b (close ∷ []) tail)
    ∙ ap (λ r. ((r >>= closed) >>= λ b. made (If kind first b.0) b.1) >>= one) (h tail)

opened_long : (op kind close : ℕ) (x a : List ℕ) → x ≡ op ∷ kind ∷ (a ++ close ∷ []) → 0 < length x
opened_long op kind close x a e = omega (arith, ap length e)

within : (n op kind close : ℕ) (whole x y a : List ℕ) → whole ≡ x ++ y → x ≡ op ∷ kind ∷ (a ++ close ∷ []) → length whole < suc n → length a < n
within n op kind close whole x y a s e lt = omega (arith, ap length s, length-append x y, ap length e, length-append a (close ∷ []))

both_long : (op kind middle close : ℕ) (x a b : List ℕ) → x ≡ op ∷ kind ∷ (a ++ middle ∷ (b ++ close ∷ [])) → 0 < length x
both_long op kind middle close x a b e = omega (arith, ap length e)

both_within : (n op kind middle close : ℕ) (whole x y a b : List ℕ) → whole ≡ x ++ y → x ≡ op ∷ kind ∷ (a ++ middle ∷ (b ++ close ∷ [])) → length whole < suc n → (length a < n) × (length b < n)
both_within n op kind middle close whole x y a b s e lt = (
  omega (arith, ap length s, length-append x y, ap length e, length-append a (middle ∷ (b ++ close ∷ [])), length-append b (close ∷ [])),
  omega (arith, ap length s, length-append x y, ap length e, length-append a (middle ∷ (b ++ close ∷ [])), length-append b (close ∷ [])),
)

pub again : (c : Expression) (n d : ℕ) (a : List ℕ) (e : Bool) (b : ℕ) (rest : List ℕ) → Spells d c a → IsOpcodeOf b (term e) → length a < n → seq_at n d (a ++ b ∷ rest) ≡ sequence c e rest
again c zero d a e b rest h k lt = absurd (omega arith)
again Over (suc n) d a e b rest h k lt = ap (λ (z : List ℕ). seq_at (suc n) d (z ++ b ∷ rest)) h ∙ over n d e b rest k
again (Plain i c) (suc n) d a e b rest h k lt =
    item_again n d (Plain i) c a h.0 h.1 e b rest h.4 (single_item d (inside (seq_at n) d) (Plain i) h.0 h.2) (again c n d h.1 e b rest h.3 k (less n a h.0 h.1 h.4 (single_long (Plain i) h.0 h.2) lt))
again (Br m c) (suc n) d a e b rest h k lt =
    item_again n d (Br m) c a h.0 h.1 e b rest h.4 (single_item d (inside (seq_at n) d) (Br m) h.0 h.2) (again c n d h.1 e b rest h.3 k (less n a h.0 h.1 h.4 (single_long (Br m) h.0 h.2) lt))
again (BrIf m c) (suc n) d a e b rest h k lt =
    item_again n d (BrIf m) c a h.0 h.1 e b rest h.4 (single_item d (inside (seq_at n) d) (BrIf m) h.0 h.2) (again c n d h.1 e b rest h.3 k (less n a h.0 h.1 h.4 (single_long (BrIf m) h.0 h.2) lt))
again (BrTable ms m c) (suc n) d a e b rest h k lt =
    item_again n d (BrTable ms m) c a h.0 h.1 e b rest h.4 (single_item d (inside (seq_at n) d) (BrTable ms m) h.0 h.2) (again c n d h.1 e b rest h.3 k (less n a h.0 h.1 h.4 (single_long (BrTable ms m) h.0 h.2) lt))
again (Return c) (suc n) d a e b rest h k lt =
    item_again n d Return c a h.0 h.1 e b rest h.4 (single_item d (inside (seq_at n) d) Return h.0 h.2) (again c n d h.1 e b rest h.3 k (less n a h.0 h.1 h.4 (single_long Return h.0 h.2) lt))
again (Call m c) (suc n) d a e b rest h k lt =
    item_again n d (Call m) c a h.0 h.1 e b rest h.4 (single_item d (inside (seq_at n) d) (Call m) h.0 h.2) (again c n d h.1 e b rest h.3 k (less n a h.0 h.1 h.4 (single_long (Call m) h.0 h.2) lt))
again (CallIndirect m c) (suc n) d a e b rest h k lt =
    item_again n d (CallIndirect m) c a h.0 h.1 e b rest h.4 (single_item d (inside (seq_at n) d) (CallIndirect m) h.0 h.2) (again c n d h.1 e b rest h.3 k (less n a h.0 h.1 h.4 (single_long (CallIndirect m) h.0 h.2) lt))
again (MemoryGrow c) (suc n) d a e b rest h k lt =
    item_again n d MemoryGrow c a h.0 h.1 e b rest h.4 (single_item d (inside (seq_at n) d) MemoryGrow h.0 h.2) (again c n d h.1 e b rest h.3 k (less n a h.0 h.1 h.4 (single_long MemoryGrow h.0 h.2) lt))
again (Block kind body c) (suc n) zero a e b rest h k lt = absurd h
again (Block kind body c) (suc n) (suc d) a e b rest h k lt =
    let i = h.2 in
    item_again n (suc d) (Block kind body) c a h.0 h.1 e b rest h.4
    (block_item d (seq_at n d) false kind body h.0 i.2 i.0 i.1 i.3 i.6 (λ tail. again body n d i.2 false i.1 tail i.5 i.4 (within n i.0 (kind_byte kind) i.1 a h.0 h.1 i.2 h.4 i.6 lt)))
    (again c n (suc d) h.1 e b rest h.3 k (less n a h.0 h.1 h.4 (opened_long i.0 (kind_byte kind) i.1 h.0 i.2 i.6) lt))
again (Loop kind body c) (suc n) zero a e b rest h k lt = absurd h
again (Loop kind body c) (suc n) (suc d) a e b rest h k lt =
    let i = h.2 in
    item_again n (suc d) (Loop kind body) c a h.0 h.1 e b rest h.4
    (block_item d (seq_at n d) true kind body h.0 i.2 i.0 i.1 i.3 i.6 (λ tail. again body n d i.2 false i.1 tail i.5 i.4 (within n i.0 (kind_byte kind) i.1 a h.0 h.1 i.2 h.4 i.6 lt)))
    (again c n (suc d) h.1 e b rest h.3 k (less n a h.0 h.1 h.4 (opened_long i.0 (kind_byte kind) i.1 h.0 i.2 i.6) lt))
again (If kind first second c) (suc n) zero a e b rest h k lt = absurd h
again (If kind first second c) (suc n) (suc d) a e b rest h k lt = ⊎_elim
    (λ p.
    let i = p.1 in
    item_again n (suc d) (If kind first Over) c a h.0 h.1 e b rest h.4
    (short_item d (seq_at n d) kind first h.0 i.2 i.0 i.1 i.3 i.6 (λ tail. again first n d i.2 false i.1 tail i.5 i.4 (within n i.0 (kind_byte kind) i.1 a h.0 h.1 i.2 h.4 i.6 lt)))
    (again c n (suc d) h.1 e b rest h.3 k (less n a h.0 h.1 h.4 (opened_long i.0 (kind_byte kind) i.1 h.0 i.2 i.6) lt))
    ∙ ap (λ t. sequence (If kind first t c) e rest) (sym p.0))
    (λ i.
    let w = both_within n i.0 (kind_byte kind) i.1 i.2 a h.0 h.1 i.3 i.4 h.4 i.10 lt in
    item_again n (suc d) (If kind first second) c a h.0 h.1 e b rest h.4
    (long_item d (seq_at n d) kind first second h.0 i.3 i.4 i.0 i.1 i.2 i.5 i.10 (λ tail. again first n d i.3 true i.1 tail i.8 i.6 w.0) (λ tail. again second n d i.4 false i.2 tail i.9 i.7 w.1))
    (again c n (suc d) h.1 e b rest h.3 k (less n a h.0 h.1 h.4 (both_long i.0 (kind_byte kind) i.1 i.2 h.0 i.3 i.4 i.10) lt)))
    h.2

-- ---- where a fault is

abbrev SeqPlaced : (List ℕ → Result Sequence Fault) → Type 0
SeqPlaced inner = (bytes : List ℕ) (f : Fault) → inner bytes ≡ Err f → Placed f bytes

body_placed : (d : ℕ) (inner : List ℕ → Result Sequence Fault) → ((y : List ℕ) (s : Sequence) → inner y ≡ Ok s → SeqOf d y s) → SeqPlaced inner → (bytes : List ℕ) (f : Fault) → body_at inner bytes ≡ Err f → Placed f bytes
body_placed d inner found p bytes f h = ⊎_elim
    (λ e. p bytes f e)
    (λ e. by_else e.0 (found bytes e.0 e.1) e.2)
    (bind_err (inner bytes) closed f h)
  where
    never : (y : Expression × List ℕ) → Ok y ≡ Err f → ⊥
    never y k = cc

    by_else : (s : Sequence) → SeqOf d bytes s → closed s ≡ Err f → Placed f bytes
    by_else (e, true, rest) o k = subst (λ z. Placed z bytes) (err_is {A = Expression × List ℕ} (At (length rest + 1) kind.Form) f k) (o.0, o.1 ∷ rest, o.4, omega arith, tt)
    by_else (e, false, rest) o k = absurd (never (e, rest) k)

block_placed : (d : ℕ) (make : Option ValueKind → Expression → Make) (inner : List ℕ → Result Sequence Fault) → ((y : List ℕ) (s : Sequence) → inner y ≡ Ok s → SeqOf d y s) → SeqPlaced inner → (bytes : List ℕ) (f : Fault) → block_at make inner bytes ≡ Err f → Placed f bytes
block_placed d make inner found p bytes f h = ⊎_elim
    (λ e. exact_block_type.placed bytes f e)
    (λ e. further f bytes (kind_byte e.0.0 ∷ []) e.0.1 (kind_found bytes e.0 e.1) (⊎_elim
    (λ b. body_placed d inner found p e.0.1 f b)
    (λ b. absurd (never (make e.0.0 b.0.0) b.0.1 b.2))
    (bind_err (body_at inner e.0.1) (λ b. made (make e.0.0 b.0) b.1) f e.2)))
    (bind_err (block_type.read bytes) (λ k. body_at inner k.1 >>= λ b. made (make k.0 b.0) b.1) f h)
  where
    never : (m : Make) (rest : List ℕ) → made m rest ≡ Err f → ⊥
    never m rest k = cc

second_placed : (d : ℕ) (inner : List ℕ → Result Sequence Fault) → ((y : List ℕ) (s : Sequence) → inner y ≡ Ok s → SeqOf d y s) → SeqPlaced inner → (kind : Option ValueKind) (bytes : List ℕ) (s : Sequence) → SeqOf d bytes s → (f : Fault) → second_at inner kind s ≡ Err f → Placed f bytes
second_placed d inner found p kind bytes (first, true, rest) o f h = further f bytes (o.0 ++ o.1 ∷ []) rest (o.4 ∙ sym (append_assoc o.0 (o.1 ∷ []) rest)) (⊎_elim
    (λ b. body_placed d inner found p rest f b)
    (λ b. absurd (never (If kind first b.0.0) b.0.1 b.2))
    (bind_err (body_at inner rest) (λ b. made (If kind first b.0) b.1) f h))
  where
    never : (m : Make) (rest : List ℕ) → made m rest ≡ Err f → ⊥
    never m rest k = cc
second_placed d inner found p kind bytes (first, false, rest) o f h = absurd (never (If kind first Over) rest h)
  where
    never : (m : Make) (rest : List ℕ) → made m rest ≡ Err f → ⊥
    never m rest k = cc

if_placed : (d : ℕ) (inner : List ℕ → Result Sequence Fault) → ((y : List ℕ) (s : Sequence) → inner y ≡ Ok s → SeqOf d y s) → SeqPlaced inner → (bytes : List ℕ) (f : Fault) → if_at inner bytes ≡ Err f → Placed f bytes
if_placed d inner found p bytes f h = ⊎_elim
    (λ e. exact_block_type.placed bytes f e)
    (λ e. further f bytes (kind_byte e.0.0 ∷ []) e.0.1 (kind_found bytes e.0 e.1) (⊎_elim
    (λ b. p e.0.1 f b)
    (λ b. second_placed d inner found p e.0.0 e.0.1 b.0 (found e.0.1 b.0 b.1) f b.2)
    (bind_err (inner e.0.1) (second_at inner e.0.0) f e.2)))
    (bind_err (block_type.read bytes) (λ k. inner k.1 >>= second_at inner k.0) f h)

too_deep : (b : ℕ) (bytes : List ℕ) → Placed (At (length bytes + 1) kind.Limit) (b ∷ bytes)
too_deep b bytes = ([], b ∷ bytes, refl, omega arith, tt)

one_placed : (bytes : List ℕ) (r : Read Make) (f : Fault) → ((g : Fault) → r ≡ Err g → Placed g bytes) → (r >>= one) ≡ Err f → Placed f bytes
one_placed bytes r f p h = ⊎_elim (λ e. p f e) (λ e. absurd (never (One e.0.0) e.0.1 e.2)) (bind_err r one f h)
  where
    never : (i : Item) (rest : List ℕ) → item i rest ≡ Err f → ⊥
    never i rest k = cc

deeper_placed : (b d : ℕ) (bytes : List ℕ) (inner : List ℕ → Result Sequence Fault) (r : Read Make) → ((e : ℕ) → d ≡ suc e → (g : Fault) → r ≡ Err g → Placed g bytes) → (g : Fault) → deeper d bytes r ≡ Err g → Placed g (b ∷ bytes)
deeper_placed b zero bytes inner r p g h = subst (λ z. Placed z (b ∷ bytes)) (err_is {A = Make × List ℕ} (At (length bytes + 1) kind.Limit) g h) (too_deep b bytes)
deeper_placed b (suc d) bytes inner r p g h = further g (b ∷ bytes) (b ∷ []) bytes refl (p d refl g h)

abbrev InnerExact : ℕ → (List ℕ → Result Sequence Fault) → Type 0
InnerExact d inner = (e : ℕ) → d ≡ suc e → ((y : List ℕ) (s : Sequence) → inner y ≡ Ok s → SeqOf e y s) × SeqPlaced inner

alone_placed : (b : ℕ) (l : Opcode) (bytes : List ℕ) (f : Fault) → ((completes l).read bytes >>= one) ≡ Err f → Placed f (b ∷ bytes)
alone_placed b l bytes f h = further f (b ∷ bytes) (b ∷ []) bytes refl (one_placed bytes ((completes l).read bytes) f (λ g e. (exact_completes l).placed bytes g e) h)

led_placed : (d : ℕ) (inner : List ℕ → Result Sequence Fault) → InnerExact d inner → (b : ℕ) (bytes : List ℕ) (f : Fault) (l : Opcode) → led_at d inner l bytes ≡ Err f → Placed f (b ∷ bytes)
led_placed d inner i b bytes f opcode.Else h = absurd cc
led_placed d inner i b bytes f opcode.End h = absurd cc
led_placed d inner i b bytes f opcode.Block h = one_placed (b ∷ bytes) (deeper d bytes (block_at (block_of false) inner bytes)) f (deeper_placed b d bytes inner (block_at (block_of false) inner bytes) (λ e k g. block_placed e (block_of false) inner (i e k).0 (i e k).1 bytes g)) h
led_placed d inner i b bytes f opcode.Loop h = one_placed (b ∷ bytes) (deeper d bytes (block_at (block_of true) inner bytes)) f (deeper_placed b d bytes inner (block_at (block_of true) inner bytes) (λ e k g. block_placed e (block_of true) inner (i e k).0 (i e k).1 bytes g)) h
led_placed d inner i b bytes f opcode.If h = one_placed (b ∷ bytes) (deeper d bytes (if_at inner bytes)) f (deeper_placed b d bytes inner (if_at inner bytes) (λ e k g. if_placed e inner (i e k).0 (i e k).1 bytes g)) h
led_placed d inner i b bytes f (opcode.Fixed j) h = alone_placed b (opcode.Fixed j) bytes f h
led_placed d inner i b bytes f (opcode.Indexed j) h = alone_placed b (opcode.Indexed j) bytes f h
led_placed d inner i b bytes f (opcode.Load j) h = alone_placed b (opcode.Load j) bytes f h
led_placed d inner i b bytes f (opcode.Store j) h = alone_placed b (opcode.Store j) bytes f h
led_placed d inner i b bytes f opcode.MemorySize h = alone_placed b opcode.MemorySize bytes f h
led_placed d inner i b bytes f opcode.MemoryGrow h = alone_placed b opcode.MemoryGrow bytes f h
led_placed d inner i b bytes f opcode.I32Const h = alone_placed b opcode.I32Const bytes f h
led_placed d inner i b bytes f opcode.I64Const h = alone_placed b opcode.I64Const bytes f h
led_placed d inner i b bytes f opcode.Br h = alone_placed b opcode.Br bytes f h
led_placed d inner i b bytes f opcode.BrIf h = alone_placed b opcode.BrIf bytes f h
led_placed d inner i b bytes f opcode.BrTable h = alone_placed b opcode.BrTable bytes f h
led_placed d inner i b bytes f opcode.Return h = alone_placed b opcode.Return bytes f h
led_placed d inner i b bytes f opcode.Call h = alone_placed b opcode.Call bytes f h
led_placed d inner i b bytes f opcode.CallIndirect h = alone_placed b opcode.CallIndirect bytes f h

item_placed : (d : ℕ) (inner : List ℕ → Result Sequence Fault) → InnerExact d inner → (bytes : List ℕ) (f : Fault) → item_at d inner bytes ≡ Err f → Placed f bytes
item_placed d inner i bytes f h = ⊎_elim
    (λ e. exact_opcode.placed bytes f e)
    (λ e. let b = led_by bytes e.0 e.1 in subst (λ z. Placed f z) (sym b.2) (led_placed d inner i b.0 e.0.1 f e.0.0 e.2))
    (bind_err (an_opcode.read bytes) (λ l. led_at d inner l.0 l.1) f h)

none_left : (bytes : List ℕ) → Placed (Ended 0) bytes
none_left bytes = (bytes, [], sym (append-nil bytes), refl, tt)

of_front : (d : ℕ) (bytes : List ℕ) (make : Make) (rest : List ℕ) (f : Fault) → Of d bytes (One make) rest → Placed f rest → Placed f bytes
of_front d bytes make rest f o p = further f bytes (o.0 ∷ o.1) rest o.2 p

pub seq_placed : (n d : ℕ) (bytes : List ℕ) (f : Fault) → seq_at n d bytes ≡ Err f → Placed f bytes
seq_placed zero d bytes f h = subst (λ z. Placed z bytes) (err_is {A = Sequence} (Ended 0) f h) (none_left bytes)
seq_placed (suc n) d bytes f h = ⊎_elim
    (λ e. item_placed d (inside (seq_at n) d) (within_exact n d (seq_placed n)) bytes f e)
    (λ e. goes e.0.0 e.0.1 (item_found d (inside (seq_at n) d) (inner_found (seq_at n) (seq_found n) d) bytes e.0 e.1) (seq_placed n d) e.2)
    (bind_err (item_at d (inside (seq_at n) d) bytes) (go_on (seq_at n d)) f h)
  where
    within_exact : (n d : ℕ) → ((d : ℕ) → SeqPlaced (seq_at n d)) → InnerExact d (inside (seq_at n) d)
    within_exact n zero p e k = absurd (omega (arith, k))
    within_exact n (suc d) p e k = let same : d ≡ e = omega (arith, k) in (λ y s h. subst (λ (z : ℕ). SeqOf z y s) same (seq_found n d y s h), p d)

    never : {s : Sequence} → Ok s ≡ Err f → ⊥
    never k = cc

    goes : (i : Item) (rest : List ℕ) → Of d bytes i rest → SeqPlaced (seq_at n d) → go_on (seq_at n d) (i, rest) ≡ Err f → Placed f bytes
    goes (Ends e) rest o p k = absurd (never k)
    goes (One make) rest o p k = of_front d bytes make rest f o (⊎_elim (λ e. p rest f e) (λ e. absurd (never e.2)) (bind_err (seq_at n d rest) (λ t. sequence (make t.0) t.1 t.2) f k))

-- ---- an expression

pub expression_found : (n d : ℕ) (bytes : List ℕ) (x : Expression × List ℕ) → body_at (seq_at n d) bytes ≡ Ok x → (front : List ℕ) × IsExpression d x.0 front × (bytes ≡ front ++ x.1)
expression_found n d bytes x h =
    let g = body_found d (seq_at n d) (seq_found n d) bytes x h in
    (g.0 ++ g.1 ∷ [], (g.0, g.1, g.2, g.3, refl), g.4 ∙ sym (append_assoc g.0 (g.1 ∷ []) x.1))

pub expression_again : (n d : ℕ) (e : Expression) (front rest bytes : List ℕ) → IsExpression d e front → bytes ≡ front ++ rest → length bytes < n → body_at (seq_at n d) bytes ≡ Ok (e, rest)
expression_again n d e front rest bytes h s lt =
    let whole : bytes ≡ h.0 ++ h.1 ∷ rest = s ∙ ap (λ (z : List ℕ). z ++ rest) h.4 ∙ append_assoc h.0 (h.1 ∷ []) rest in
    ap (body_at (seq_at n d)) whole
    ∙ ap (λ r. r >>= closed) (again e n d h.0 false h.1 rest h.2 h.3 (omega (arith, ap length whole, length-append h.0 (h.1 ∷ rest))))

pub exact_expression : (d : ℕ) → IsExact (expression d)
exact_expression d = record {
  reads = record {
    again = λ e front rest h. expression_again (suc (length (front ++ rest))) d e front rest (front ++ rest) h refl (omega arith);
    found = λ bytes x h. expression_found (suc (length bytes)) d bytes x h;
  };
  placed = λ bytes f h. body_placed d (seq_at (suc (length bytes)) d) (seq_found (suc (length bytes)) d) (seq_placed (suc (length bytes)) d) bytes f h;
}
