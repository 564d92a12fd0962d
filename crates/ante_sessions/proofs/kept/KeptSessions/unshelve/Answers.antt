use Rattle.std.proofs.Common.{IsSome, Option, Some, None, option_map, true≢false, refl, sym}
use Rattle.ante_sessions.specs.Seen.{map_shelf}
use Rattle.ante_sessions.proofs.Seen.{seen_unshelved, kept_unshelved}
use Rattle.ante_sessions.proofs.kept.KeptSessions.unshelve.Goals as goal

there : {X Y : Type 0} (f : X → Y) (o : Option X) → IsSome (option_map f o) → IsSome o
there f None h = absurd (true≢false (sym h))
there f (Some x) h = refl

pub returns : goal.returns
returns g c = rw (← c.self.view_is) (seen_unshelved g.R.Rule.shown (g.S.Sessions.stack c.self.inside.inner) (g.S.Sessions.stack c.unshelve.new.self) c.unshelve.ensures)

pub invariant_of-self : goal.invariant_of-self
invariant_of-self g c =
    kept_unshelved g.R.Rule.holds (g.S.Sessions.stack c.self.inside.inner) (g.S.Sessions.stack c.unshelve.new.self)
    (there (map_shelf g.R.Rule.shown) (g.S.Sessions.stack c.self.inside.inner).shelf (rw (← c.self.view_is) at c.requires.shelf)) c.unshelve.ensures c.self.invariant
