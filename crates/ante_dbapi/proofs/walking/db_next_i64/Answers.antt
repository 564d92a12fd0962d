use Rattle.std.proofs.Common.{w32, of_z, to_z, to_z-of_z, sym, ◌∙◌}
use Rattle.ante_calls.specs.RowAnswers.{view_of}
use Rattle.ante_dbapi.proofs.Walks.{next_answers}
use Rattle.ante_dbapi.proofs.walking.db_next_i64.Goals as goal

pub returns-clause-answer : goal.returns-clause-answer
returns-clause-answer g c =
    let s = g.T.Tables.stack c.args.tables.now in
    next_answers c.args.it (to_z w32 (of_z w32 c.args.it)) (to_z-of_z c.ranges.it) (view_of s c.args.iters.now) (view_of s c.meet_next.new.iters) c.in_ok-key.key c.in_ok-key.primary
    c.key_after-next.result c.meet_next.result c.if-it-ltminus1.false (sym c.live_row.ensures ∙ c.in_ok-key.was) c.key_after-next.ensures c.meet_next.ensures
