use Rattle.std.proofs.Common.{rules, sym, subst, arith}
use Rattle.ante_undo.specs.Stack.{IsAbove}
use Rattle.ante_undo.proofs.Moves.{nothing_left}
use Rattle.ante_undo.proofs.Ends.{on_ok}
use Rattle.ante_undo.proofs.Held.{few_named, change_kept, change_shown, put_shown}
use Rattle.ante_undo.proofs.layered.Layered.change.Goals as goal

pub returns-then-is_empty-clause-ok : goal.returns-then-is_empty-clause-ok
returns-then-is_empty-clause-ok g c =
    rw (← c.self.view_is)
    (on_ok c.set.result (λ sets. put_shown g.K.Ord.cmp g.met.K.Ord.total c.self.inside.slots.entries c.set.new.slots.entries c.self.inside.logs c.args.change.0 c.args.change.1 c.self.inside.shelf c.self.inside.changes c.self.inside.revision c.self.invariant
    c.set.ensures.ordered sets (nothing_left c.self.inside.logs (search rules)) (subst (IsAbove 1) (sym c.self.view_is) c.requires.above))
    c.set.ensures.slots)

pub log_change-requires-clause-room : goal.log_change-requires-clause-room
log_change-requires-clause-room g c = few_named g.K.Ord.cmp c.self.inside.slots.entries c.self.inside.logs c.self.inside.changes c.self.inside.revision c.self.inside.shelf c.self.invariant c.args.change.0

pub invariant_of-self-2 : goal.invariant_of-self-2
invariant_of-self-2 g c =
    change_kept g.K.Ord.cmp g.met.K.Ord.total c.self.inside.slots.entries c.log_change.new.slots.entries c.self.inside.logs c.args.change.0 c.args.change.1 c.self.inside.shelf c.self.inside.changes c.self.inside.revision c.self.invariant
    (c.log_change.ensures.ordered c.self.invariant.ordered) c.log_change.new.logs c.in_ok-log_change.ensures.slots c.in_ok-log_change.ensures.logs
    (let bound = c.self.invariant.bound in omega arith)

pub returns-clause-ok : goal.returns-clause-ok
returns-clause-ok g c =
    rw (← c.self.view_is)
    (change_shown g.K.Ord.cmp g.met.K.Ord.total c.self.inside.slots.entries c.log_change.new.slots.entries c.self.inside.logs c.args.change.0 c.args.change.1 c.self.inside.shelf c.self.inside.changes c.self.inside.revision c.self.invariant
    (c.log_change.ensures.ordered c.self.invariant.ordered) c.log_change.new.logs c.in_ok-log_change.ensures.slots c.in_ok-log_change.ensures.logs)
