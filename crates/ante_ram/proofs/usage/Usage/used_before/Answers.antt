use Rattle.std.proofs.Common.{ap}
use Rattle.ante_ram.specs.Usage.{used_of}
use Rattle.ante_ram.proofs.Sums.{under_seen}
use Rattle.ante_ram.proofs.usage.Usage.used_before.Goals as goal

pub returns-in-Some : goal.returns-in-Some
returns-in-Some c = rw (← c.self.view_is, ← c.self-inside.view_is, ← c.self-inside-inside.view_is, under_seen _ _ c.self-inside-inside.invariant) (ap used_of c.in-Some.ensures)

pub returns-in-None : goal.returns-in-None
returns-in-None c = rw (← c.self.view_is, ← c.self-inside.view_is, ← c.self-inside-inside.view_is, under_seen _ _ c.self-inside-inside.invariant) (ap used_of c.in-None.ensures)
