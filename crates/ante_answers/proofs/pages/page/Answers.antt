use Rattle.std.proofs.Common.{◌-◌, ◌<◌, length, option_map, sym, ap, ◌∙◌, subst}
use Rattle.ante_answers.specs.Answers.{rows_between}
use Rattle.ante_answers.proofs.Paging.{IsPage, total_with, page_begins, page_grows, page_stops, page_ends, none_yet, more_taken}
use Rattle.ante_answers.proofs.pages.page.Goals as goal

pub loop-next-init : goal.loop-next-init
loop-next-init c =
    let all = rows_between c.args.range.lower c.args.range.upper c.args.range.backward c.args.range.table c.args.rows.now.top.rows in
    subst (λ given. IsPage all c.args.limit 0 given (option_map (λ e. (e.0, e.1.now)) c.first_row-next.result)) (sym c.new-given.ensures)
    (page_begins all c.args.limit (option_map (λ e. (e.0, e.1.now)) c.first_row-next.result) c.first_row-next.ensures)

pub total_with-requires : goal.total_with-requires
total_with-requires c = λ none.
    let all = rows_between c.args.range.lower c.args.range.upper c.args.range.backward c.args.range.table c.args.rows.now.top.rows in
    none_yet all c.args.limit c.loop-next.total c.loop-next.given (option_map (λ e. (e.0, e.1.now)) c.loop-next.next) c.loop-next.invariant (sym c.len.ensures ∙ none)

pub returns-in_default-total_with : goal.returns-in_default-total_with
returns-in_default-total_with c =
    let all = rows_between c.args.range.lower c.args.range.upper c.args.range.backward c.args.range.table c.args.rows.now.top.rows in
    let standing = subst (IsPage all c.args.limit c.loop-next.total c.loop-next.given) (ap (option_map (λ e. (e.0, e.1.now))) c.in-Some.is) c.loop-next.invariant in
    page_stops all c.args.limit c.loop-next.total c.loop-next.given c.in-Some.primary c.in-Some.row.now standing (
    ap (λ n. total_with n c.args.limit c.loop-next.total (length c.in-Some.row.now.bytes)) (sym c.len.ensures)
    ∙ ap (λ n. total_with c.len.result c.args.limit c.loop-next.total n) (sym c.len-in-Some.ensures)
    ∙ sym c.total_with.ensures ∙ c.in_default-total_with.is)

pub loop-next-smaller : goal.loop-next-smaller
loop-next-smaller c =
    subst (λ given. c.args.limit - length given < c.args.limit - length c.loop-next.given) (sym c.in_ok-push.ensures.ok)
    (more_taken c.args.limit c.loop-next.total (length c.in-Some.row.now.bytes) c.in-Some-total_with.sum c.loop-next.given c.in_ok-bytes.bytes (
    ap (λ n. total_with n c.args.limit c.loop-next.total (length c.in-Some.row.now.bytes)) (sym c.len.ensures)
    ∙ ap (λ n. total_with c.len.result c.args.limit c.loop-next.total n) (sym c.len-in-Some.ensures)
    ∙ sym c.total_with.ensures ∙ c.in-Some-total_with.is))

pub loop-next-preserved : goal.loop-next-preserved
loop-next-preserved c =
    let all = rows_between c.args.range.lower c.args.range.upper c.args.range.backward c.args.range.table c.args.rows.now.top.rows in
    let standing = subst (IsPage all c.args.limit c.loop-next.total c.loop-next.given) (ap (option_map (λ e. (e.0, e.1.now))) c.in-Some.is) c.loop-next.invariant in
    subst (λ given. IsPage all c.args.limit c.in-Some-total_with.sum given (option_map (λ e. (e.0, e.1.now)) c.row_past-next.result)) (sym c.in_ok-push.ensures.ok)
    (page_grows all c.args.limit c.loop-next.total c.loop-next.given c.in-Some.primary c.in-Some.row.now standing c.in-Some-total_with.sum c.in_ok-bytes.bytes (option_map (λ e. (e.0, e.1.now)) c.row_past-next.result) (
    ap (λ n. total_with n c.args.limit c.loop-next.total (length c.in-Some.row.now.bytes)) (sym c.len.ensures)
    ∙ ap (λ n. total_with c.len.result c.args.limit c.loop-next.total n) (sym c.len-in-Some.ensures)
    ∙ sym c.total_with.ensures ∙ c.in-Some-total_with.is) c.in_ok-bytes.ensures c.row_past-next.ensures)

pub returns : goal.returns
returns c =
    let all = rows_between c.args.range.lower c.args.range.upper c.args.range.backward c.args.range.table c.args.rows.now.top.rows in
    page_ends all c.args.limit c.loop-next.total c.loop-next.given
    (subst (IsPage all c.args.limit c.loop-next.total c.loop-next.given) (ap (option_map (λ e. (e.0, e.1.now))) c.in_default.is) c.loop-next.invariant)
