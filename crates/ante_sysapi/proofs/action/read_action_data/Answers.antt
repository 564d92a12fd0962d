use Rattle.std.proofs.Common.{◌≡◌, subst}
use Rattle.ante_calls.specs.ActionData as action
use Rattle.ante_calls.specs.Views.{said}
use Rattle.ante_wmem.specs.HostCalls.{IsAnswer}
use Rattle.ante_sysapi.specs.Answers.{view}
use Rattle.ante_sysapi.proofs.action.read_action_data.Goals as goal

pub returns-clause-answer : goal.returns-clause-answer
returns-clause-answer c = λ w.
    let v = view w c.args.run.now in
    subst (λ b. IsAnswer (action.copy b v c.args.args.now c.args.memory.now c.args.left.now) (λ a x. said x.run ≡ said v.run) c.copy.result v c.copy.new.memory c.copy.new.left)
    c.as_slice.ensures (c.copy.ensures.answer v)
