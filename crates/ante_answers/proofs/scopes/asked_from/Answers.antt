use Rattle.std.proofs.Common.{sym, ap, ◌∙◌}
use Rattle.ante_undo.specs.Entries.{first_where}
use Rattle.ante_state.specs.Orders.{table_order}
use Rattle.ante_store.proofs.KeyOrders.{tables_total}
use Rattle.ante_answers.specs.Answers.{is_asked}
use Rattle.ante_answers.specs.Walks.{rest_from}
use Rattle.ante_answers.proofs.Asked.{passed_over, fewer, found_here, none_here, not_asked, none_later}
use Rattle.ante_answers.proofs.scopes.asked_from.Goals as goal

pub returns-then-key-scopes : goal.returns-then-key-scopes
returns-then-key-scopes c =
    let past = c.if-key-scopes.true in
    none_here table_order tables_total (is_asked c.args.scopes.code c.args.scopes.table c.args.scopes.lower) c.args.rows.now.top.tables c.requires c.loop-next.next (c.in-Some.key, c.in-Some.table) c.in-Some.is
    (not_asked c.args.scopes.code c.args.scopes.table c.args.scopes.lower c.in-Some.key past)
    (λ k later. none_later c.args.scopes.code c.args.scopes.table c.args.scopes.lower c.in-Some.key k past later)
    ∙ c.loop-next.invariant

pub returns-then-is_asked : goal.returns-then-is_asked
returns-then-is_asked c =
    found_here table_order tables_total (is_asked c.args.scopes.code c.args.scopes.table c.args.scopes.lower) c.args.rows.now.top.tables c.requires c.loop-next.next (c.in-Some.key, c.in-Some.table) c.in-Some.is
    (sym c.is_asked.ensures ∙ c.if-is_asked.true)
    ∙ c.loop-next.invariant

pub loop-next-smaller : goal.loop-next-smaller
loop-next-smaller c =
    fewer table_order tables_total (is_asked c.args.scopes.code c.args.scopes.table c.args.scopes.lower) c.args.rows.now.top.tables c.requires c.loop-next.next c.table_after-next.result (c.in-Some.key, c.in-Some.table) c.in-Some.is c.table_after-next.ensures.next

pub loop-next-preserved : goal.loop-next-preserved
loop-next-preserved c =
    passed_over table_order tables_total (is_asked c.args.scopes.code c.args.scopes.table c.args.scopes.lower) c.args.rows.now.top.tables c.requires c.loop-next.next c.table_after-next.result (c.in-Some.key, c.in-Some.table) c.in-Some.is
    (sym c.is_asked.ensures ∙ c.if-is_asked.false) c.table_after-next.ensures.next
    ∙ c.loop-next.invariant

pub returns : goal.returns
returns c =
    ap (λ next. first_where (is_asked c.args.scopes.code c.args.scopes.table c.args.scopes.lower) (rest_from table_order next c.args.rows.now.top.tables)) (sym c.in_default.is)
    ∙ c.loop-next.invariant
