use Rattle.std.proofs.Common.{[], refl, ap, subst}
use Rattle.ante_wrun.specs.ThreadStates.{state_of}
use Rattle.ante_wrun.specs.Control.{program_of}
use Rattle.ante_wmeaning.specs.RunEnds.{NotStuck}
use Rattle.ante_wmeaning.specs.Invocation.{start_runs}
use Rattle.ante_wrun.proofs.machine.call_start.Goals as goal

pub returns-in-None-clause-leads : goal.returns-in-None-clause-leads
returns-in-None-clause-leads g c =
    ([], refl, λ v b. ap (λ start. start_runs g.H.Host.meaning (program_of c.args.functions.now) start (state_of c.args.state c.args.host.now c.args.left.now c.args.last.now v)) c.in-None.is)

pub call_with-requires-clause-sound : goal.call_with-requires-clause-sound
call_with-requires-clause-sound g c =
    let S = c.requires.sound in
    (S.0, S.1, subst (λ start. NotStuck (start_runs g.H.Host.meaning (program_of c.args.functions.now) start (state_of c.args.state c.args.host.now c.args.left.now c.args.last.now S.0))) c.in-Some.is S.2)
