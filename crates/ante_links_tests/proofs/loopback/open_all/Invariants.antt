use Rattle.std.proofs.Common.{◌<◌, length}
use Rattle.ante_links_tests.proofs.loopback.open_all.Given as goal

abbrev pub invariant-loop : goal.invariant-loop
invariant-loop g l = l.last < length (g.L.Links.links l.links)
