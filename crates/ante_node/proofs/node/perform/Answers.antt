use Rattle.std.proofs.Common.{refl, inl, inr}
use Rattle.ante_node.proofs.Endings.{answer_ends, input_ends}
use Rattle.ante_node.proofs.node.perform.Goals as goal

pub returns-in-Ok-clause-ends : goal.returns-in-Ok-clause-ends
returns-in-Ok-clause-ends g c =
    let made = c.in-Ok.ensures.made in
    (made.0, made.1, answer_ends _ c.in-Ok.text c.as_slice.result.now _ _ _ _ _ _ made.2 c.as_slice.ensures c.in-Ok.ensures.ended c.deliver.ensures)

pub returns-in-Err-Input-clause-ends : goal.returns-in-Err-Input-clause-ends
returns-in-Err-Input-clause-ends g c =
    let made = c.in-Err-Input.ensures.made in
    (made.0, made.1, input_ends _ c.in-Err-Input.fault _ _ _ _ _ _ (rw c.in-Err-Input.field-0-is at made.2) c.refuse.ensures)

pub returns-in-Err-SourceFault-clause-ends : goal.returns-in-Err-SourceFault-clause-ends
returns-in-Err-SourceFault-clause-ends g c =
    let made = c.in-Err-SourceFault.ensures.made in (made.0, made.1, inr (inr (inl (refl, refl, rw c.in-Err-SourceFault.field-0-is at made.2))))

pub returns-in-Err-OutOfMemory-clause-ends : goal.returns-in-Err-OutOfMemory-clause-ends
returns-in-Err-OutOfMemory-clause-ends g c =
    let made = c.in-Err-OutOfMemory.ensures.made in (made.0, made.1, inr (inr (inr (refl, refl))))
