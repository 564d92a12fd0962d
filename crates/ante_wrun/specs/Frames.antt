-- What is still to be done in the open frames.
use Rattle.std.specs.Prelude.{ℕ, suc, List, [], ◌∷◌, Option}
use Rattle.ante_wmem.specs.HostCalls.{HostMeaning}
use Rattle.ante_wtree.specs.declared.instructions.ValueKind.{ValueKind}
use Rattle.ante_wtree.specs.Expressions.{Expression}
use Rattle.ante_wmeaning.specs.Configurations.{Program, Outcome}
use Rattle.ante_wmeaning.specs.Execution.{and_then, of_block, of_loop, of_call, settled, turns, does, call}

-- A body that isn't ended, with what is to be done after it. A call's has the caller's locals, operands and free frames.
pub data Open : Type 0 where
  InBlock : (kind : Option ValueKind) → (height : ℕ) → (rest : Expression) → Open
  InLoop : (height : ℕ) → (body rest : Expression) → Open
  InCall : (kind : Option ValueKind) → (locals stack : List ℕ) → (free : ℕ) → (rest : Expression) → Open

module _ {W R : Type 0} (host : HostMeaning W R) (program : Program) where
  -- the code after a body, where so many frames are free
  abbrev pub then_rest : (free : ℕ) → Expression → Outcome W R → Outcome W R
  then_rest free rest o = and_then o (does program (call host program free) rest)

  -- the outcome of the whole, where this is the innermost body's
  abbrev pub unwind : (free : ℕ) → List Open → Outcome W R → Outcome W R
  unwind free [] o = settled o
  unwind free (InBlock kind height rest ∷ frames) o = unwind free frames (then_rest free rest (of_block kind height o))
  unwind free (InLoop height body rest ∷ frames) o =
      unwind free frames (then_rest free rest (of_loop height o (λ s. turns (suc s.left) (does program (call host program free) body) height s)))
  unwind free (InCall kind locals stack above rest ∷ frames) o = unwind above frames (then_rest above rest (of_call kind locals stack o))
