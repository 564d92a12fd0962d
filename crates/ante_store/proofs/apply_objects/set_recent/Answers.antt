use Rattle.std.proofs.Common.{refl, cond, Some, None}
use Rattle.ante_undo.specs.Entries.{changed}
use Rattle.ante_state.specs.Orders.{recent_order}
use Rattle.ante_objects.specs.Objects.{recent_set}
use Rattle.ante_store.specs.Applied.{in_objects}
use Rattle.ante_store.proofs.Made.{made_alone}
use Rattle.ante_store.proofs.ObjectChanges.{recent_leads}
use Rattle.ante_store.proofs.apply_objects.set_recent.Goals as goal

pub returns-clause-answers : goal.returns-clause-answers
returns-clause-answers c =
    made_alone _ (in_objects (recent_set (record { expiration = c.args.expiration; id = c.args.id }) c.args.there)) _
    c.args.parts.now c.put_recent.new.parts refl c.requires.billed (recent_leads c.args.expiration c.args.id c.args.there c.args.parts.now.top c.requires.billed) c.in_ok-put_recent.ensures.ok
