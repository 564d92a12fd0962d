-- A typed plain instruction finds a rule, and leaves as many operands as its type says.
use Rattle.std.proofs.Common.{◌≡◌, ℕ, suc, ◌+◌, ◌-◌, ◌≤◌, Bool, true, false, List, [], ◌∷◌, length, Option, None, Some, Result, Ok, Err, refl, sym, ap, subst, ◌∙◌, arith}
use Rattle.std.specs.Prelude.{◌&&◌, nat_lt, nat_le, slice_get, if◌then◌else◌}
use Rattle.std.proofs.lemmas.Bool.{lt-ltb, le-leb}
use Rattle.std.proofs.lemmas.List.{length-set}
use Rattle.std.proofs.lemmas.Option.{slice_get_within}
use Rattle.ante_wnum.specs.declared.NumTrap.{NumTrap}
use Rattle.ante_wtree.specs.declared.instructions.ValueKind.{ValueKind}
use Rattle.ante_wtree.specs.declared.instructions.ValueKind.TheVariants.{I32, I64}
use Rattle.ante_wtree.specs.declared.instructions.PlainInstr.{PlainInstr}
use Rattle.ante_wtree.specs.declared.instructions.PlainInstr.TheVariants as plain
use Rattle.ante_wtree.specs.Accesses.{load_result, load_width, load_exponent, extended, store_operand, store_width, store_exponent}
use Rattle.ante_wvalid.specs.Typing.{Context, Operands, InstrType, Fixed, found, only_if, onto, Turns, Moves, type_of}
use Rattle.ante_wmem.specs.Linear.{is_inside, bytes_at, written, little_endian, low_bytes, byte_count}
use Rattle.ante_wmeaning.specs.declared.ends.TrapKind.{TrapKind}
use Rattle.ante_wmeaning.specs.declared.ends.TrapKind.TheVariants as trap
use Rattle.ante_wmeaning.specs.PlainInstructions.{Values, Effect, Next, Traps, NoRule, top, popped, low, gives, answers, effect, with_stack}

-- the effect keeps the numbers of locals and globals, and leaves so many operands
abbrev pub Counts : (locals globals count : ℕ) → Effect → Type 0
Counts l g n (Next v) = (length v.locals ≡ l) × (length v.globals ≡ g) × (length v.stack ≡ n)
Counts l g n (Traps kind) = Unit {0}
Counts l g n NoRule = ⊥

pub onto_length : (kinds : List ValueKind) (stack : Operands) → length (onto kinds stack) ≡ length kinds + length stack
onto_length [] stack = omega arith
onto_length (k ∷ ks) stack = omega (arith, onto_length ks (k ∷ stack))

pub turned : (takes gives : List ValueKind) (before after : Operands) → Turns takes gives before after → (rest : ℕ) × (length before ≡ length takes + rest) × (length after ≡ length gives + rest)
turned takes gives before after m = (length m.0, ap length m.1 ∙ onto_length takes m.0, ap length m.2 ∙ onto_length gives m.0)

is_found : {A : Type 0} (o : Option A) (f : A → InstrType) (before after : Operands) → Moves (found o f) before after → (x : A) × (o ≡ Some x) × Moves (f x) before after
is_found None f before after m = absurd m
is_found (Some x) f before after m = (x, refl, m)

is_so : (b : Bool) (t : InstrType) (before after : Operands) → Moves (only_if b t) before after → Moves t before after
is_so true t before after m = m
is_so false t before after m = absurd m

popped_length : (xs : List ℕ) → length (popped xs) ≡ length xs - 1
popped_length [] = refl
popped_length (x ∷ xs) = omega arith

module _ (l g n : ℕ) where
  guarded : (k : ℕ) (stack : List ℕ) (b : Bool) (e : Effect) → k ≤ length stack → b ≡ true → Counts l g n e → Counts l g n (if nat_le k (length stack) && b then e else NoRule)
  guarded k stack b e le f h =
      let so : (nat_le k (length stack) && b) ≡ true = ap (λ c. c && b) (le-leb k (length stack) le) ∙ f in
      subst (λ c. Counts l g n (if c then e else NoRule)) (sym so) h

  chosen : (b : Bool) (e : Effect) (kind : TrapKind) → Counts l g n e → Counts l g n (if b then e else Traps kind)
  chosen true e kind h = h
  chosen false e kind h = tt

  answered : (v : Values) (below : List ℕ) (r : Result ℕ NumTrap) → length v.locals ≡ l → length v.globals ≡ g → suc (length below) ≡ n → Counts l g n (answers v below r)
  answered v below (Ok x) a b c = (a, b, c)
  answered v below (Err kind) a b c = tt

module _ (v : Values) (base : ℕ) (before after : Operands) (e : length v.stack ≡ base + length before) where
  abbrev Fine : Effect → Type 0
  Fine = Counts (length v.locals) (length v.globals) (base + length after)

  abbrev two : List ℕ
  two = popped (popped v.stack)

  nothing_in : (k : ValueKind) (b : Bool) (x : ℕ) → Turns [] (k ∷ []) before after → b ≡ true → Fine (if nat_le 0 (length v.stack) && b then gives v v.stack x else NoRule)
  nothing_in k b x m f =
      let t = turned [] (k ∷ []) before after m in
      guarded (length v.locals) (length v.globals) (base + length after) 0 v.stack b (gives v v.stack x) (omega arith) f (refl, refl, omega (arith, e, t.1, t.2))

  one_in : (j k : ValueKind) (x : ℕ) → Turns (j ∷ []) (k ∷ []) before after → Fine (if nat_le 1 (length v.stack) && true then gives v (popped v.stack) x else NoRule)
  one_in j k x m =
      let t = turned (j ∷ []) (k ∷ []) before after m in
      guarded (length v.locals) (length v.globals) (base + length after) 1 v.stack true (gives v (popped v.stack) x) (omega (arith, e, t.1)) refl (refl, refl, omega (arith, e, t.1, t.2, popped_length v.stack))

  two_in : (i j k : ValueKind) (r : Result ℕ NumTrap) → Turns (i ∷ j ∷ []) (k ∷ []) before after → Fine (if nat_le 2 (length v.stack) && true then answers v two r else NoRule)
  two_in i j k r m =
      let t = turned (i ∷ j ∷ []) (k ∷ []) before after m in
      guarded (length v.locals) (length v.globals) (base + length after) 2 v.stack true (answers v two r) (omega (arith, e, t.1)) refl
      (answered (length v.locals) (length v.globals) (base + length after) v two r refl refl (omega (arith, e, t.1, t.2, popped_length v.stack, popped_length (popped v.stack))))

pub counts : (c : Context) (base : ℕ) (before after : Operands) (i : PlainInstr) (v : Values) → Moves (type_of c i) before after →
    length v.stack ≡ base + length before → length v.locals ≡ length c.locals → length v.globals ≡ length c.globals →
    Counts (length v.locals) (length v.globals) (base + length after) (effect i v)
counts c base before after plain.Unreachable v m e fl fg = guarded (length v.locals) (length v.globals) (base + length after) 0 v.stack true _ (omega arith) refl tt
counts c base before after plain.Nop v m e fl fg =
    let t = turned [] [] before after m in
    guarded (length v.locals) (length v.globals) (base + length after) 0 v.stack true (Next v) (omega arith) refl (refl, refl, omega (arith, e, t.1, t.2))
counts c base before after plain.Drop v m e fl fg =
    let d = ap length m.1 in
    guarded (length v.locals) (length v.globals) (base + length after) 1 v.stack true (Next (with_stack v (popped v.stack))) (omega (arith, e, d)) refl (refl, refl, omega (arith, e, d, popped_length v.stack))
counts c base before after plain.Select v m e fl fg =
    let d = ap length m.2 in
    let f = ap length m.3 in
    guarded (length v.locals) (length v.globals) (base + length after) 3 v.stack true _ (omega (arith, e, d)) refl
    (refl, refl, omega (arith, e, d, f, popped_length v.stack, popped_length (popped v.stack), popped_length (popped (popped v.stack))))
counts c base before after (plain.LocalGet n) v m e fl fg =
    let h = is_found (slice_get c.locals n) _ before after m in
    nothing_in v base before after e h.0 (nat_lt n (length v.locals)) _ h.2 (lt-ltb n (length v.locals) (omega (arith, fl, slice_get_within c.locals n h.0 h.1)))
counts c base before after (plain.LocalSet n) v m e fl fg =
    let h = is_found (slice_get c.locals n) _ before after m in
    let t = turned (h.0 ∷ []) [] before after h.2 in
    guarded (length v.locals) (length v.globals) (base + length after) 1 v.stack (nat_lt n (length v.locals)) _ (omega (arith, e, t.1)) (lt-ltb n (length v.locals) (omega (arith, fl, slice_get_within c.locals n h.0 h.1)))
    (length-set v.locals n _, refl, omega (arith, e, t.1, t.2, popped_length v.stack))
counts c base before after (plain.LocalTee n) v m e fl fg =
    let h = is_found (slice_get c.locals n) _ before after m in
    let t = turned (h.0 ∷ []) (h.0 ∷ []) before after h.2 in
    guarded (length v.locals) (length v.globals) (base + length after) 1 v.stack (nat_lt n (length v.locals)) _ (omega (arith, e, t.1)) (lt-ltb n (length v.locals) (omega (arith, fl, slice_get_within c.locals n h.0 h.1)))
    (length-set v.locals n _, refl, omega (arith, e, t.1, t.2))
counts c base before after (plain.GlobalGet n) v m e fl fg =
    let h = is_found (slice_get c.globals n) _ before after m in
    nothing_in v base before after e h.0.kind (nat_lt n (length v.globals)) _ h.2 (lt-ltb n (length v.globals) (omega (arith, fg, slice_get_within c.globals n h.0 h.1)))
counts c base before after (plain.GlobalSet n) v m e fl fg =
    let h = is_found (slice_get c.globals n) _ before after m in
    let t = turned (h.0.kind ∷ []) [] before after (is_so h.0.changes (Fixed (h.0.kind ∷ []) []) before after h.2) in
    guarded (length v.locals) (length v.globals) (base + length after) 1 v.stack (nat_lt n (length v.globals)) _ (omega (arith, e, t.1)) (lt-ltb n (length v.globals) (omega (arith, fg, slice_get_within c.globals n h.0 h.1)))
    (refl, length-set v.globals n _, omega (arith, e, t.1, t.2, popped_length v.stack))
counts c base before after (plain.Load kind at) v m e fl fg =
    let t = turned (I32 ∷ []) (load_result kind ∷ []) before after (is_so (c.memory && nat_le at.align (load_exponent kind)) (Fixed (I32 ∷ []) (load_result kind ∷ [])) before after m) in
    guarded (length v.locals) (length v.globals) (base + length after) 1 v.stack true _ (omega (arith, e, t.1)) refl
    (let below = popped v.stack in
    let count = byte_count (load_width kind) in
    let bits = little_endian (bytes_at v.memory.bytes (low (top v.stack) + at.offset) count) in
    chosen (length v.locals) (length v.globals) (base + length after) (is_inside v.memory.bytes (low (top v.stack) + at.offset) count) (gives v below (extended kind bits)) trap.OutOfBounds
    (refl, refl, omega (arith, e, t.1, t.2, popped_length v.stack)))
counts c base before after (plain.Store kind at) v m e fl fg =
    let t = turned (I32 ∷ store_operand kind ∷ []) [] before after (is_so (c.memory && nat_le at.align (store_exponent kind)) (Fixed (I32 ∷ store_operand kind ∷ []) []) before after m) in
    guarded (length v.locals) (length v.globals) (base + length after) 2 v.stack true _ (omega (arith, e, t.1)) refl
    (let below = popped v.stack in
    let count = byte_count (store_width kind) in
    let place = low (top below) + at.offset in
    chosen (length v.locals) (length v.globals) (base + length after) (is_inside v.memory.bytes place count) (Next (record v { stack = popped below; memory = written v.memory place (low_bytes count (top v.stack)) })) trap.OutOfBounds
    (refl, refl, omega (arith, e, t.1, t.2, popped_length v.stack, popped_length below)))
counts c base before after plain.MemorySize v m e fl fg = nothing_in v base before after e I32 true _ (is_so c.memory (Fixed [] (I32 ∷ [])) before after m) refl
counts c base before after (plain.I32Const n) v m e fl fg = nothing_in v base before after e I32 true n m refl
counts c base before after (plain.I64Const n) v m e fl fg = nothing_in v base before after e I64 true n m refl
counts c base before after plain.I32Eqz v m e fl fg = one_in v base before after e I32 I32 _ m
counts c base before after (plain.I32Compare op) v m e fl fg = two_in v base before after e I32 I32 I32 (Ok _) m
counts c base before after plain.I64Eqz v m e fl fg = one_in v base before after e I64 I32 _ m
counts c base before after (plain.I64Compare op) v m e fl fg = two_in v base before after e I64 I64 I32 (Ok _) m
counts c base before after (plain.I32Unary op) v m e fl fg = one_in v base before after e I32 I32 _ m
counts c base before after (plain.I32Binary op) v m e fl fg = two_in v base before after e I32 I32 I32 _ m
counts c base before after (plain.I64Unary op) v m e fl fg = one_in v base before after e I64 I64 _ m
counts c base before after (plain.I64Binary op) v m e fl fg = two_in v base before after e I64 I64 I64 _ m
counts c base before after plain.I32WrapI64 v m e fl fg = one_in v base before after e I64 I32 _ m
counts c base before after plain.I64ExtendI32S v m e fl fg = one_in v base before after e I32 I64 _ m
counts c base before after plain.I64ExtendI32U v m e fl fg = one_in v base before after e I32 I64 _ m
