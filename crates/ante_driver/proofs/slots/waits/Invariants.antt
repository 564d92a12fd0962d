use Rattle.std.proofs.Common.{◌≡◌, drop}
use Rattle.ante_journal.specs.Desk.{waits}
use Rattle.ante_driver.proofs.slots.waits.Given as goal

abbrev pub invariant-loop-waiting : goal.invariant-loop-waiting
invariant-loop-waiting l = waits l.link l.queue ≡ waits l.link (drop l.waiting-index l.queue)
