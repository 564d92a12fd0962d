use Rattle.std.proofs.Common.{[], sym, ap, subst}
use Rattle.ante_store.specs.Genesis.{Shows}
use Rattle.ante_store.proofs.Founding.{empty_shown}
use Rattle.ante_store.proofs.genesis.empty_parts.Goals as goal

pub returns-clause-shows : goal.returns-clause-shows
returns-clause-shows c = subst (Shows []) (sym (ap (λ s. s.top) c.no_parts.ensures)) empty_shown
