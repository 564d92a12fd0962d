use Rattle.std.proofs.Common.{◌≡◌, false, length}
use Rattle.ante_window.specs.Reads.{IsRun, IsBy}
use Rattle.ante_window.proofs.reader.read_alone.Given as goal

abbrev pub invariant-loop : goal.invariant-loop
invariant-loop g l = (l.stop.pool.now ≡ l.window.pool.now) × (l.stop.clock.now ≡ l.window.clock.now) × (l.stop.deadline ≡ l.window.deadline)
    × (l.stop.seat.known.share ≡ l.fn.seat.known.share) × (l.stop.seat.known.ended ≡ false) × (length l.stop.seat.known.numbers ≡ l.counter)
    × IsRun (g.S.ReadState.answer l.window.state.now) l.window.jobs.now (g.C.Clock.told l.window.clock.now) l.window.deadline l.stop.seat.known l.log.items
    × IsBy (λ r. r ≡ l.reader) l.log.items
