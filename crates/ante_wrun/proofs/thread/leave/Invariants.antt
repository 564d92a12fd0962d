use Rattle.std.proofs.Common.{◌≡◌, ℕ, length}
use Rattle.ante_wmeaning.specs.Environment.{Environment}
use Rattle.ante_wmeaning.specs.Configurations.{Program, Returned}
use Rattle.ante_wrun.specs.ThreadStates.{state_of, whole, IsNested, Returns}
use Rattle.ante_wrun.proofs.thread.leave.Given as goal

abbrev pub invariant-frames : goal.invariant-frames
invariant-frames g l =
    ((program : Program) (w : g.row.H.Denot) (left last : ℕ) (environment : Environment) →
    whole g.H.Host.meaning program l.fn.thread (Returned (state_of l.fn.thread.state w left last environment))
    ≡ whole g.H.Host.meaning program l.thread (Returned (state_of l.thread.state w left last environment)))
    × Returns l.thread.frames (length l.thread.state.values.stack)
    × IsNested l.thread

abbrev pub decreases-frames : goal.decreases-frames
decreases-frames g l = length l.thread.frames
