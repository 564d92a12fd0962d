use Rattle.std.proofs.Common.{◌≡◌, ◌<◌, length}
use Rattle.ante_links_tests.proofs.loopback.all_give.Given as goal

abbrev pub invariant-loop-back : goal.invariant-loop-back
invariant-loop-back g l = (l.last < length (g.L.Links.links l.links)) × (length l.room ≡ 65536)
