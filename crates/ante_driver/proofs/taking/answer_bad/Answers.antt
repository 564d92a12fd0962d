use Rattle.std.proofs.Common.{List, ℕ, true, ◌∙◌, ap, subst, refl}
use Rattle.ante_links.specs.Links.{Changes}
use Rattle.ante_json.specs.declared.fault.ApiFault.{ApiFault}
use Rattle.ante_api.specs.declared.reply.ApiReply.TheVariants.{Fault}
use Rattle.ante_api.specs.Rendered.{rendered}
use Rattle.ante_driver.specs.Slots.{SaysLast}
use Rattle.ante_driver.proofs.taking.answer_bad.Goals as goal

pub returns-clause-ok : goal.returns-clause-ok
returns-clause-ok c =
    let is = c.as_slice.ensures ∙ c.in_ok-reply.ensures ∙ ap (λ (f : ApiFault). rendered (Fault f) true) c.head_fault.ensures in
    record {
      slots = subst (λ (l : List ℕ). Changes c.args.link c.args.front.now.slots.items c.say_last.new.slots.items (SaysLast l)) is c.in_ok-say_last.ensures;
      rest = record { queue = refl; turn = refl; took = refl };
      journal = c.in_ok-note.ensures.ok;
    }
