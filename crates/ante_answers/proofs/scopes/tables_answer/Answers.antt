use Rattle.std.proofs.Common.{◌-◌, ◌<◌, ◌≤◌, length, sym, subst, arith}
use Rattle.ante_answers.specs.Answers.{scope_view, tables_from}
use Rattle.ante_answers.specs.Walks.{IsFront}
use Rattle.ante_answers.proofs.Fronts.{front_begins, front_grows, longer}
use Rattle.ante_answers.proofs.Listing.{list_ends, list_stops}
use Rattle.ante_answers.proofs.scopes.tables_answer.Goals as goal

pub loop-next-init : goal.loop-next-init
loop-next-init c =
    let all = tables_from c.args.scopes.code c.args.scopes.table c.args.scopes.lower c.args.rows.now.top.tables in
    subst (λ given. IsFront scope_view all given c.first_table-next.result × (length given ≤ c.args.limit)) (sym c.new-given.ensures)
    (front_begins scope_view all c.first_table-next.result c.first_table-next.ensures, omega arith)

pub returns-then-len-limit : goal.returns-then-len-limit
returns-then-len-limit c =
    let all = tables_from c.args.scopes.code c.args.scopes.table c.args.scopes.lower c.args.rows.now.top.tables in
    let many = c.if-len-limit.true in
    list_stops all c.args.limit c.loop-next.given (c.in-Some.key, c.in-Some.table) (subst (IsFront scope_view all c.loop-next.given) c.in-Some.is c.loop-next.invariant.0) c.loop-next.invariant.1
    (subst (λ n. c.args.limit ≤ n) c.len.ensures many)

pub loop-next-smaller : goal.loop-next-smaller
loop-next-smaller c =
    let few = c.if-len-limit.false in
    let count = c.len.ensures in
    let more = longer scope_view c.loop-next.given c.scope_view.result in
    subst (λ given. c.args.limit - length given < c.args.limit - length c.loop-next.given) (sym c.in_ok-push.ensures.ok) (omega (arith, few, count, more))

pub loop-next-preserved : goal.loop-next-preserved
loop-next-preserved c =
    let all = tables_from c.args.scopes.code c.args.scopes.table c.args.scopes.lower c.args.rows.now.top.tables in
    let few = c.if-len-limit.false in
    let count = c.len.ensures in
    let more = longer scope_view c.loop-next.given c.scope_view.result in
    subst (λ given. IsFront scope_view all given c.table_past-next.result × (length given ≤ c.args.limit)) (sym c.in_ok-push.ensures.ok) (
      front_grows scope_view all c.loop-next.given c.in-Some.key c.in-Some.table c.scope_view.result c.table_past-next.result (subst (IsFront scope_view all c.loop-next.given) c.in-Some.is c.loop-next.invariant.0) c.scope_view.ensures c.table_past-next.ensures,
      omega (arith, few, count, more),
    )

pub returns : goal.returns
returns c =
    let all = tables_from c.args.scopes.code c.args.scopes.table c.args.scopes.lower c.args.rows.now.top.tables in
    list_ends all c.args.limit c.loop-next.given (subst (IsFront scope_view all c.loop-next.given) c.in_default.is c.loop-next.invariant.0) c.loop-next.invariant.1
