use Rattle.std.proofs.Common.{ap, subst, ◌∙◌, ◌≡◌}
use Rattle.ante_calls.specs.System.{sys_call}
use Rattle.ante_calls.specs.Views.{sys_of, with_sys, said}
use Rattle.ante_execution.specs.Hosts.{HostView}
use Rattle.ante_wmem.specs.HostCalls.{IsAnswer}
use Rattle.ante_sysapi.specs.Answers.{view}
use Rattle.ante_host.proofs.Answered.{from_system}
use Rattle.ante_host.proofs.host.RunHost.on_system.Goals as goal

pub returns-clause-answer : goal.returns-clause-answer
returns-clause-answer g c = let made = c.sys_call in
    let v = view (g.T.Tables.stack made.new.tables).top made.new.run in
    let is = c.self.view_is in
    from_system c.args.self.now _ v (ap (λ (h : HostView). with_sys h.seen v) is) (made.ensures.mode ∙ ap (λ (h : HostView). h.seen.run.mode) is)
    (made.ensures.base ∙ ap (λ (h : HostView). h.base) is) (ap (λ (h : HostView). h.holder) is)
    c.args.call c.args.args.now c.args.memory.now c.args.left.now made.new.memory made.new.left made.result
    (subst (λ (h : HostView). IsAnswer (sys_call h.seen.packed c.args.call (sys_of h.seen) c.args.args.now c.args.memory.now c.args.left.now)
    (λ a w. said w.run ≡ said h.seen.run) made.result v made.new.memory made.new.left) is (made.ensures.answer c.args.call c.requires.number))
