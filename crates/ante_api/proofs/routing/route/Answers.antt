use Rattle.ante_api.proofs.Ends.{target_end}
use Rattle.ante_api.proofs.routing.route.Goals as goal

pub of-requires-clause-in_range : goal.of-requires-clause-in_range
of-requires-clause-in_range c = target_end c.args.bytes.now c.args.request.now c.requires.span
