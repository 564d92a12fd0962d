use Rattle.std.proofs.Common.{◌≡◌, ◌≤◌, length}
use Rattle.ante_links_tests.proofs.loopback.awaited.Given as goal

abbrev pub invariant-loop : goal.invariant-loop
invariant-loop g l = (length (g.L.Links.links l.fn.links) ≤ length (g.L.Links.links l.links)) × (length l.room ≡ 65536)
