use Rattle.ante_sysapi.proofs.numbers.find_call.Goals as goal

pub returns : goal.returns
returns c = c.nth.ensures
