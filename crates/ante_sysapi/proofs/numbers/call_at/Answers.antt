use Rattle.std.proofs.Common.{sym, ◌∙◌}
use Rattle.ante_sysapi.proofs.Numbered.{by_number, same_call}
use Rattle.ante_sysapi.proofs.numbers.call_at.Goals as goal

pub returns : goal.returns
returns c = λ call e. same_call call c.in-Some.call (sym (by_number c.args.number call e) ∙ sym c.find_call.ensures ∙ c.in-Some.is)
