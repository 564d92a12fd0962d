use Rattle.std.proofs.Common.{refl, Some}
use Rattle.std.specs.Ordering.{nat_cmp}
use Rattle.ante_undo.specs.Entries.{changed}
use Rattle.ante_objects.specs.Objects.{reference_set}
use Rattle.ante_store.specs.Applied.{in_objects}
use Rattle.ante_store.proofs.Made.{made_alone}
use Rattle.ante_store.proofs.ObjectChanges.{reference_leads}
use Rattle.ante_store.proofs.apply_objects.set_reference.Goals as goal

pub returns-clause-answers : goal.returns-clause-answers
returns-clause-answers c =
    made_alone _ (in_objects (reference_set c.args.low (Some c.args.id))) _
    c.args.parts.now c.put_reference.new.parts refl c.requires.billed (reference_leads c.args.low c.args.id c.args.parts.now.top c.requires.billed) c.in_ok-put_reference.ensures.ok
