use Rattle.std.proofs.Common.{T, sym, subst, ◌∙◌}
use Rattle.ante_answers.proofs.Asked.{first_asked}
use Rattle.ante_answers.proofs.scopes.first_table.Goals as goal

pub returns : goal.returns
returns c =
    c.asked_from.ensures
    ∙ first_asked c.args.scopes.code c.args.scopes.table c.args.scopes.lower c.args.rows.now.top.tables (subst T (sym c.table_from.ensures.ordered) tt) c.table_from.result c.table_from.ensures.nearest
