use Rattle.std.proofs.Common.{T, sym, subst}
use Rattle.ante_answers.specs.Answers.{tables_from}
use Rattle.ante_answers.specs.Walks.{Follows}
use Rattle.ante_answers.proofs.Asked.{next_asked}
use Rattle.ante_answers.proofs.scopes.table_past.Goals as goal

pub returns : goal.returns
returns c =
    subst (Follows (tables_from c.args.scopes.code c.args.scopes.table c.args.scopes.lower c.args.rows.now.top.tables) c.args.key) (sym c.asked_from.ensures)
    (next_asked c.args.scopes.code c.args.scopes.table c.args.scopes.lower c.args.rows.now.top.tables (subst T (sym c.table_after.ensures.ordered) tt) c.args.key c.table_after.result c.table_after.ensures.next)
