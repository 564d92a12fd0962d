use Rattle.ante_window.proofs.Joining.{brings_joined}
use Rattle.ante_window.proofs.readers.together.Goals as goal

pub returns-clause-brought : goal.returns-clause-brought
returns-clause-brought g c = rw (c.join.ensures.known, c.in_ok-append.ensures.items, c.or-bell.ensures) (brings_joined _ _ _ _ _ _ _ _ _ _ _ c.requires.all.1 c.requires.one.1)
