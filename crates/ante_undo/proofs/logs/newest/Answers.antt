use Rattle.std.proofs.Common.{rules}
use Rattle.ante_undo.specs.Kept.{below_of}
use Rattle.ante_undo.proofs.Ends.{newest_is}
use Rattle.ante_undo.proofs.logs.newest.Goals as goal

pub returns-in-Some-clause-some : goal.returns-in-Some-clause-some
returns-in-Some-clause-some g c = newest_is (below_of c.args.aside.now) c.args.logs.now c.in-Some.log.now (search rules) c.in-Some.ensures.lookup
