use Rattle.std.proofs.Common.{◌+◌}
use Rattle.std.proofs.lemmas.List.{get_or-drop}
use Rattle.ante_pack.proofs.reader.PackReader.fork.Goals as goal

pub returns-clause-bytes : goal.returns-clause-bytes
returns-clause-bytes c = λ i. rw (← c.self.view_is) (rw get_or-drop (c.self.invariant.1 (c.self.inside.at + i)))
