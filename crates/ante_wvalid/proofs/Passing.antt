-- A sequence's instructions are checked one by one, from the first.
use Rattle.std.proofs.Common.{◌≡◌, ◌↔◌, ◌≤◌, Bool, true, false, IsTrue, List, [], ◌∷◌, Option, None, Some, refl, sym, ap, subst, ◌∙◌, arith}
use Rattle.ante_wtree.specs.declared.instructions.ValueKind.{ValueKind}
use Rattle.ante_wtree.specs.declared.instructions.Instr.{Instr}
use Rattle.ante_wtree.specs.declared.shape.Shape.{Shape}
use Rattle.ante_wtree.specs.declared.shape.Shape.TheVariants as shape
use Rattle.ante_wtree.specs.Expressions.{Expression, cons, cons_shape, expression_of}
use Rattle.ante_wtree.specs.Types.{kinds_of}
use Rattle.ante_wvalid.specs.declared.operand_types.OperandTypes.{OperandTypes}
use Rattle.ante_wvalid.specs.Typing.{Context, Operands, Typed, Then, onto}
use Rattle.ante_wvalid.specs.OperandStacks.{Same, Admits, Carries, step_of}
use Rattle.ante_wvalid.proofs.Carrying.{stopped, carried}
use Rattle.ante_wvalid.proofs.Nodes.{nodes, size_of, first_and_rest}

-- an instruction's step and then the rest's
typed_first : (c : Context) (s : Shape) (rest : Expression) (before after : Operands) → Typed c (cons_shape s rest) before after ≡ Then (step_of c s) (Typed c rest) before after
typed_first c (shape.Plain i) rest before after = refl
typed_first c (shape.Block kind body) rest before after = refl
typed_first c (shape.Loop kind body) rest before after = refl
typed_first c (shape.If kind one two) rest before after = refl
typed_first c (shape.Br n) rest before after = refl
typed_first c (shape.BrIf n) rest before after = refl
typed_first c (shape.BrTable targets n) rest before after = refl
typed_first c shape.Return rest before after = refl
typed_first c (shape.Call f) rest before after = refl
typed_first c (shape.CallIndirect n) rest before after = refl
typed_first c shape.MemoryGrow rest before after = refl

-- from some stack that is known to be possible the rest can leave this one
abbrev pub Reach : Context → OperandTypes → Expression → Operands → Type 0
Reach c known rest after = (before : Operands) × Admits known before × Typed c rest before after

pub record SoFar (c : Context) (body rest : List Instr) (known : OperandTypes) : Type 0 where
  pub same : (after : Operands) → Same (Typed c (expression_of body) [] after) (Reach c known (expression_of rest) after)
  pub fewer : nodes (expression_of rest) ≤ nodes (expression_of body)

pub none_yet : (c : Context) (body : List Instr) (known : OperandTypes) → ((s : Operands) → Same (s ≡ []) (Admits known s)) → SoFar c body body known
none_yet c body known h = record {
  same = λ after. record {
    to = λ t. ([], (h []).to refl, t);
    from = λ r. subst (λ s. Typed c (expression_of body) s after) ((h r.0).from r.1) r.2;
  };
  fewer = omega arith;
}

module _ (c : Context) (body rest tail : List Instr) (i : Instr) (s : Shape) (y : Bool) (old new : OperandTypes) where
  first_typed : rest ≡ i ∷ tail → ((e : Expression) → cons i e ≡ cons_shape s e) → (before after : Operands) →
      Typed c (expression_of rest) before after ≡ Then (step_of c s) (Typed c (expression_of tail)) before after
  first_typed e h before after = ap (λ x. Typed c (expression_of x) before after) e ∙ ap (λ x. Typed c x before after) (h (expression_of tail)) ∙ typed_first c s (expression_of tail) before after

  pub one_more : rest ≡ i ∷ tail → ((e : Expression) → cons i e ≡ cons_shape s e) → Carries (step_of c s) y old new → y ≡ true → SoFar c body rest old → SoFar c body tail new
  one_more e h k is so = record {
    same = λ after. record {
      to = λ t.
          let r = (so.same after).to t in
          let q = subst (λ A. A) (first_typed e h r.0 after) r.2 in
          (q.0, (carried (step_of c s) y old new k is q.0).to (r.0, r.1, q.1), q.2);
      from = λ r.
          let q = (carried (step_of c s) y old new k is r.0).from r.1 in
          (so.same after).from (q.0, q.1, subst (λ A. A) (sym (first_typed e h q.0 after)) (r.0, q.2, r.2));
    };
    fewer = omega (arith, so.fewer, ap (λ x. nodes (expression_of x)) e, first_and_rest i s (expression_of tail) h);
  }

  pub stops : rest ≡ i ∷ tail → ((e : Expression) → cons i e ≡ cons_shape s e) → Carries (step_of c s) y old new → y ≡ false → SoFar c body rest old → (after : Operands) → Typed c (expression_of body) [] after → ⊥
  stops e h k is so after t =
      let r = (so.same after).to t in
      let q = subst (λ A. A) (first_typed e h r.0 after) r.2 in
      stopped (step_of c s) y old new k is r.0 q.0 r.1 q.1

  -- the instruction is smaller than the body
  pub smaller : rest ≡ i ∷ tail → ((e : Expression) → cons i e ≡ cons_shape s e) → SoFar c body rest old → size_of s ≤ nodes (expression_of body)
  smaller e h so = omega (arith, so.fewer, ap (λ x. nodes (expression_of x)) e, first_and_rest i s (expression_of tail) h)

onto_none : (kind : Option ValueKind) → onto (kinds_of kind) [] ≡ kinds_of kind
onto_none None = refl
onto_none (Some k) = refl

pub at_end : (c : Context) (body rest : List Instr) (known : OperandTypes) (kind : Option ValueKind) (kinds : List ValueKind) (y : Bool) → rest ≡ [] → kinds ≡ kinds_of kind → SoFar c body rest known →
    IsTrue y ↔ Admits known (onto kinds []) → IsTrue y ↔ Typed c (expression_of body) [] (kinds_of kind)
at_end c body rest known kind kinds y e k so h =
    let is : onto kinds [] ≡ kinds_of kind = ap (λ x. onto x []) k ∙ onto_none kind in (
      λ t. (so.same (kinds_of kind)).from (kinds_of kind, subst (Admits known) is (h.0 t), subst (λ x. Typed c (expression_of x) (kinds_of kind) (kinds_of kind)) (sym e) refl),
      λ t.
          let r = (so.same (kinds_of kind)).to t in
          let s : r.0 ≡ kinds_of kind = subst (λ x. Typed c (expression_of x) r.0 (kinds_of kind)) e r.2 in
          h.1 (subst (Admits known) (s ∙ sym is) r.1),
    )
