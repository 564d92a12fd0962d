-- Plain instructions: what one is, where it is ready, and what it gives.
use Rattle.std.proofs.Common.{◌≡◌, ℕ, Bool, true, false, List, length, Option, None, Some, refl, ap, ◌∙◌}
use Rattle.std.specs.Prelude.{◌&&◌, if◌then◌else◌}
use Rattle.std.proofs.lemmas.Bool.{le-leb}
use Rattle.ante_wmem.specs.Linear.{LinearMemory}
use Rattle.ante_wtree.specs.declared.instructions.Instr.{Instr}
use Rattle.ante_wtree.specs.declared.instructions.Instr.TheVariants as instr
use Rattle.ante_wtree.specs.declared.instructions.PlainInstr.{PlainInstr}
use Rattle.ante_wtree.specs.Expressions.{Expression, Plain, cons}
use Rattle.ante_wmeaning.specs.declared.ends.TrapKind.{TrapKind}
use Rattle.ante_wvalues.specs.declared.instructions.Tried.TheVariants as tried
use Rattle.ante_wmeaning.specs.PlainInstructions.{Values, Next, Traps, NoRule, effect, operands, done}
use Rattle.ante_wvalues.specs.FrameValues.{FrameValues}
use Rattle.ante_wvalues.specs.PlainSteps.{values_in, TriesPlain, Ready, plain_of}

some_is : {A : Type 0} (x y : A) → Some x ≡ Some y → x ≡ y
some_is x y h = cc

pub plain_put : (i : Instr) (op : PlainInstr) (rest : Expression) → plain_of i ≡ Some op → cons i rest ≡ Plain op rest
plain_put instr.Unreachable op rest e = ap (λ o. Plain o rest) (some_is _ _ e)
plain_put instr.Nop op rest e = ap (λ o. Plain o rest) (some_is _ _ e)
plain_put (instr.Block' kind shape body) op rest e = cc
plain_put (instr.Loop' kind shape body) op rest e = cc
plain_put (instr.If' kind shape one shape-2 two) op rest e = cc
plain_put (instr.Br label) op rest e = cc
plain_put (instr.BrIf label) op rest e = cc
plain_put (instr.BrTable labels label) op rest e = cc
plain_put instr.Return op rest e = cc
plain_put (instr.Call function) op rest e = cc
plain_put (instr.CallIndirect kind) op rest e = cc
plain_put instr.Drop op rest e = ap (λ o. Plain o rest) (some_is _ _ e)
plain_put instr.Select op rest e = ap (λ o. Plain o rest) (some_is _ _ e)
plain_put (instr.LocalGet n) op rest e = ap (λ o. Plain o rest) (some_is _ _ e)
plain_put (instr.LocalSet n) op rest e = ap (λ o. Plain o rest) (some_is _ _ e)
plain_put (instr.LocalTee n) op rest e = ap (λ o. Plain o rest) (some_is _ _ e)
plain_put (instr.GlobalGet n) op rest e = ap (λ o. Plain o rest) (some_is _ _ e)
plain_put (instr.GlobalSet n) op rest e = ap (λ o. Plain o rest) (some_is _ _ e)
plain_put (instr.Load kind at) op rest e = ap (λ o. Plain o rest) (some_is _ _ e)
plain_put (instr.Store kind at) op rest e = ap (λ o. Plain o rest) (some_is _ _ e)
plain_put instr.MemorySize op rest e = ap (λ o. Plain o rest) (some_is _ _ e)
plain_put instr.MemoryGrow op rest e = cc
plain_put (instr.I32Const n) op rest e = ap (λ o. Plain o rest) (some_is _ _ e)
plain_put (instr.I64Const n) op rest e = ap (λ o. Plain o rest) (some_is _ _ e)
plain_put instr.I32Eqz op rest e = ap (λ o. Plain o rest) (some_is _ _ e)
plain_put (instr.I32Compare o) op rest e = ap (λ o. Plain o rest) (some_is _ _ e)
plain_put instr.I64Eqz op rest e = ap (λ o. Plain o rest) (some_is _ _ e)
plain_put (instr.I64Compare o) op rest e = ap (λ o. Plain o rest) (some_is _ _ e)
plain_put (instr.I32Unary o) op rest e = ap (λ o. Plain o rest) (some_is _ _ e)
plain_put (instr.I32Binary o) op rest e = ap (λ o. Plain o rest) (some_is _ _ e)
plain_put (instr.I64Unary o) op rest e = ap (λ o. Plain o rest) (some_is _ _ e)
plain_put (instr.I64Binary o) op rest e = ap (λ o. Plain o rest) (some_is _ _ e)
plain_put instr.I32WrapI64 op rest e = ap (λ o. Plain o rest) (some_is _ _ e)
plain_put instr.I64ExtendI32S op rest e = ap (λ o. Plain o rest) (some_is _ _ e)
plain_put instr.I64ExtendI32U op rest e = ap (λ o. Plain o rest) (some_is _ _ e)

-- what was done is plain, and gives this
pub was_done : (o : Option PlainInstr) (old new : Values) → TriesPlain o tried.Done old new → (op : PlainInstr) × (o ≡ Some op) × (done op old ≡ Next new)
was_done (Some op) old new h = (op, refl, h)
was_done None old new h = let e = h.0 in cc

pub was_trapped : (o : Option PlainInstr) (kind : TrapKind) (old new : Values) → TriesPlain o (tried.Trap kind) old new → (op : PlainInstr) × (o ≡ Some op) × (done op old ≡ Traps kind)
was_trapped (Some op) kind old new h = (op, refl, h.0)
was_trapped None kind old new h = let e = h.0 in cc

pub untouched : (o : Option PlainInstr) (old new : Values) → TriesPlain o tried.Untouched old new → new ≡ old
untouched (Some op) old new h = h
untouched None old new h = h.1

both_true : (a b : Bool) → a ≡ true → b ≡ true → (a && b) ≡ true
both_true true true h k = refl
both_true true false h k = cc
both_true false b h k = cc

pub effect_of : (op : PlainInstr) (v : Values) → Ready (Some op) v → effect op v ≡ done op v
effect_of op v r = ap (λ b. if b then done op v else NoRule) (both_true _ _ (le-leb (operands op) (length v.stack) r.0) r.1)

pub same_values : (v v' : FrameValues) (g g' : List ℕ) (m m' : LinearMemory) → values_in v' g' m' ≡ values_in v g m → v'.below ≡ v.below → v' ≡ v
same_values v v' g g' m m' e b =
    ap (λ x. record { below = x; locals = v'.locals; stack = v'.stack }) b
    ∙ ap (λ (x : Values). record { below = v.below; locals = x.locals; stack = x.stack }) e
