use Rattle.std.proofs.Common.{◌≡◌, ℕ, length}
use Rattle.ante_wmeaning.specs.Environment.{Environment}
use Rattle.ante_wmeaning.specs.Configurations.{Program}
use Rattle.ante_wrun.specs.ThreadStates.{state_of, going, IsNested}
use Rattle.ante_wrun.proofs.thread.next_instr.Given as goal

abbrev pub invariant-bodies : goal.invariant-bodies
invariant-bodies g l =
    ((program : Program) (w : g.row.H.Denot) (left last : ℕ) (environment : Environment) →
    going g.H.Host.meaning program l.fn.thread (state_of l.fn.thread.state w left last environment)
    ≡ going g.H.Host.meaning program l.thread (state_of l.thread.state w left last environment))
    × IsNested l.thread

abbrev pub decreases-bodies : goal.decreases-bodies
decreases-bodies g l = length l.thread.frames
