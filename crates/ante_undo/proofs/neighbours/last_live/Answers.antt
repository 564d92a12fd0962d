use Rattle.std.proofs.Common.{sym, ◌∙◌}
use Rattle.ante_undo.proofs.Sides.{last_here, last_earlier}
use Rattle.ante_undo.proofs.neighbours.last_live.Goals as goal

pub returns-in-Some-value : goal.returns-in-Some-value
returns-in-Some-value g c =
    sym (last_here c.loop-key.slots c.next_back.new.self c.in-Some.key.now c.in-Some.slot.now c.in-Some-value.value c.in-Some.ensures.steps c.in-Some-value.is) ∙ c.loop-key.invariant

pub loop-key-preserved : goal.loop-key-preserved
loop-key-preserved g c = sym (last_earlier c.loop-key.slots c.next_back.new.self c.in-Some.key.now c.in-Some.slot.now c.in-Some.ensures.steps c.in_default-value.is) ∙ c.loop-key.invariant
