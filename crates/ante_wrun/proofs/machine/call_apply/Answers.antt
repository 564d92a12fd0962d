use Rattle.std.proofs.Common.{sym, subst}
use Rattle.ante_wtree.specs.Trees.{tree_of}
use Rattle.ante_wmeaning.specs.RunEnds.{NotStuck}
use Rattle.ante_wmeaning.specs.HostConditions.{IsHosts}
use Rattle.ante_wrun.specs.ThreadStates.{state_of}
use Rattle.ante_wrun.specs.Control.{program_of}
use Rattle.ante_wmeaning.specs.Invocation.{apply_runs}
use Rattle.ante_wmeaning.proofs.Reached.{apply_is_own}
use Rattle.ante_wrun.proofs.machine.call_apply.Goals as goal

pub call_with-requires-clause-here : goal.call_with-requires-clause-here
call_with-requires-clause-here g c = λ hosts. absurd (apply_is_own (tree_of c.args.module.now) c.requires.valid c.in-Some.apply (sym c.in-Some.ensures) (subst (λ p. IsHosts p c.in-Some.apply) c.requires.program hosts))

pub call_with-requires-clause-sound : goal.call_with-requires-clause-sound
call_with-requires-clause-sound g c =
    let S = c.requires.sound in
    (S.0, S.1, subst (λ o. NotStuck (apply_runs g.H.Host.meaning (program_of c.args.functions.now) o c.args.args.now (state_of c.args.state c.args.host.now c.args.left.now c.args.last.now S.0))) (sym c.in-Some.ensures) S.2)
