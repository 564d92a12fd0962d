use Rattle.std.proofs.Common.{IsNone, sym, subst, arith}
use Rattle.ante_undo.proofs.Held.{no_shelf}
use Rattle.ante_undo.proofs.Shelves.{commit_kept, commit_shown, commit_nothing}
use Rattle.ante_undo.proofs.layered.Layered.commit.Goals as goal

pub invariant_of-self : goal.invariant_of-self
invariant_of-self g c =
    commit_kept g.K.Ord.cmp c.self.inside.slots.entries c.close.new.slots.entries c.self.inside.logs c.close.new.logs c.self.inside.shelf c.self.inside.changes c.self.inside.revision _ c.self.invariant
    (no_shelf g.K.Ord.cmp c.self.inside.slots.entries c.self.inside.logs c.self.inside.changes c.self.inside.revision c.self.inside.shelf (subst (λ s. IsNone s.shelf) (sym c.self.view_is) c.requires.no_shelf))
    c.close.ensures.logs c.close.ensures.map c.close.ensures.ordered c.close.ensures.released

pub returns-then-kept-open : goal.returns-then-kept-open
returns-then-kept-open g c =
    rw (← c.self.view_is)
    (commit_shown g.K.Ord.cmp c.self.inside.slots.entries c.close.new.slots.entries c.self.inside.logs c.close.new.logs c.self.inside.shelf c.self.inside.changes c.self.inside.revision _ c.self.invariant
    (no_shelf g.K.Ord.cmp c.self.inside.slots.entries c.self.inside.logs c.self.inside.changes c.self.inside.revision c.self.inside.shelf (subst (λ s. IsNone s.shelf) (sym c.self.view_is) c.requires.no_shelf))
    c.close.ensures.logs c.close.ensures.map c.args.revision (let kept = c.saturating_sub-kept.ensures in let long = c.len-open.ensures.value in omega arith))

pub returns-else-kept-open : goal.returns-else-kept-open
returns-else-kept-open g c =
    rw (← c.self.view_is)
    (commit_nothing g.K.Ord.cmp c.self.inside.slots.entries c.self.inside.logs c.self.inside.shelf c.self.inside.revision c.args.revision
    (no_shelf g.K.Ord.cmp c.self.inside.slots.entries c.self.inside.logs c.self.inside.changes c.self.inside.revision c.self.inside.shelf (subst (λ s. IsNone s.shelf) (sym c.self.view_is) c.requires.no_shelf))
    (let kept = c.saturating_sub-kept.ensures in let long = c.len-open.ensures.value in omega arith))
