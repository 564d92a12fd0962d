use Rattle.std.proofs.Common.{length, ◌-◌, option_map}
use Rattle.ante_answers.specs.Answers.{rows_between}
use Rattle.ante_answers.proofs.Paging.{IsPage}
use Rattle.ante_answers.proofs.pages.page.Given as goal

abbrev pub invariant-loop-next : goal.invariant-loop-next
invariant-loop-next l =
    IsPage (rows_between l.range.lower l.range.upper l.range.backward l.range.table l.rows.top.rows) l.limit l.total l.given (option_map (λ e. (e.0, e.1.now)) l.next)

abbrev pub decreases-loop-next : goal.decreases-loop-next
decreases-loop-next l = l.limit - length l.given
