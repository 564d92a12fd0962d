use Rattle.std.proofs.Common.{◌∙◌}
use Rattle.ante_authz.proofs.Counting.{given_either}
use Rattle.ante_authz.proofs.weights.is_given.Goals as goal

pub returns : goal.returns
returns c = c.contains.ensures.value ∙ given_either c.args.key.now c.args.keys.now
