use Rattle.std.proofs.Common.{◌≡◌, ◌≤◌}
use Rattle.ante_wmeaning.specs.Environment.{Environment}
use Rattle.ante_wrun.specs.ThreadStates.{state_of, going, IsNested}
use Rattle.ante_wrun.specs.Control.{program_of}
use Rattle.ante_wmeaning.specs.Environment.{Begins, past, ByEvents}
use Rattle.ante_wmeaning.specs.RunEnds.{Sound}
use Rattle.ante_wmeaning.specs.HostConditions.{MayBelow}
use Rattle.ante_wrun.proofs.run.run_thread.Given as goal

abbrev pub invariant-turns : goal.invariant-turns
invariant-turns g l =
    ByEvents g.P.Stop.may l.fn.stop l.stop (λ events. (v : Environment) → Begins v events →
    going g.H.Host.meaning (program_of l.functions) l.fn.thread (state_of l.fn.thread.state l.fn.host l.fn.left l.fn.last v)
    ≡ going g.H.Host.meaning (program_of l.functions) l.thread (state_of l.thread.state l.host l.left l.last (past v events)))
    × MayBelow g.H.Host.allowed (program_of l.functions) l.host l.left
    × Sound (λ environment. going g.H.Host.meaning (program_of l.functions) l.thread (state_of l.thread.state l.host l.left l.last environment))
    × (l.left ≤ l.fn.left)
    × IsNested l.thread

abbrev pub decreases-turns : goal.decreases-turns
decreases-turns g l = l.left
