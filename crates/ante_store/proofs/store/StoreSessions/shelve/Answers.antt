use Rattle.std.proofs.Common.{arith}
use Rattle.ante_store.proofs.Later.{later_shelved}
use Rattle.ante_store.proofs.store.StoreSessions.shelve.Goals as goal

pub overflow_sub-revision : goal.overflow_sub-revision
overflow_sub-revision c = omega (arith, c.is_numbered.ensures.1, c.requires.from)

pub returns : goal.returns
returns c = rw (← c.self.view_is) (later_shelved c.args.revision c.self.inside.kept c.shelve.new.self (omega (arith, c.is_numbered.ensures.1, c.requires.from)) c.shelve.ensures)
