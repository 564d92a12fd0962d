use Rattle.ante_undo.specs.Slots.{value_at}
use Rattle.ante_undo.proofs.Ends.{adds_entry, on_ok}
use Rattle.ante_undo.proofs.logs.log_change.Goals as goal

pub returns-clause-logs : goal.returns-clause-logs
returns-clause-logs g c =
    on_ok c.add_entry.result (λ added. adds_entry (c.args.change.0, value_at g.K.Ord.cmp c.args.change.0 c.args.slots.now.entries) c.args.logs.now c.in-Some.newest.now c.add_entry.new.log c.requires.some c.in-Some.ensures.value added) c.add_entry.ensures.log
