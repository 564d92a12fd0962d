use Rattle.ante_core.proofs.Kept.{answers-sound, answers-after}
use Rattle.ante_core.proofs.Core.step.Goals as goal

pub invariant_of-self : goal.invariant_of-self
invariant_of-self g c = answers-sound _ c.self.inside.machine c.args.event c.step.new.self c.step.result c.self.invariant c.step.ensures

pub returns-clause-sound : goal.returns-clause-sound
returns-clause-sound g c = answers-sound _ c.self.inside.machine c.args.event c.step.new.self c.step.result c.self.invariant c.step.ensures

pub returns-clause-event : goal.returns-clause-event
returns-clause-event g c = rw (← c.self.view_is) (answers-after (record { applied = g.A.Actor.applied; begun = g.A.Actor.begun; advanced = g.A.Actor.advanced }) c.self.inside.machine c.args.event c.step.new.self c.step.result c.step.ensures)
