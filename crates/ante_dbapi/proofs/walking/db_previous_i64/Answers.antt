use Rattle.std.proofs.Common.{w32, of_z, to_z, to_z-of_z, sym, ◌∙◌}
use Rattle.ante_calls.specs.RowAnswers.{view_of}
use Rattle.ante_dbapi.proofs.Walks.{previous_answers, last_answers}
use Rattle.ante_dbapi.proofs.walking.db_previous_i64.Goals as goal

pub returns-then-it-ltminus1-clause-answer : goal.returns-then-it-ltminus1-clause-answer
returns-then-it-ltminus1-clause-answer g c =
    let s = g.T.Tables.stack c.args.tables.now in
    last_answers c.args.it (to_z w32 (of_z w32 c.args.it)) (to_z-of_z c.ranges.it) (view_of s c.args.iters.now) (view_of s c.meet_previous.new.iters) c.in-Some.key
    c.last_key-last.result c.meet_previous.result c.if-it-ltminus1.true (sym c.end_table.ensures ∙ c.in-Some.is) c.last_key-last.ensures c.meet_previous.ensures

pub returns-clause-answer : goal.returns-clause-answer
returns-clause-answer g c =
    let s = g.T.Tables.stack c.args.tables.now in
    previous_answers c.args.it (to_z w32 (of_z w32 c.args.it)) (to_z-of_z c.ranges.it) (view_of s c.args.iters.now) (view_of s c.meet_previous-2.new.iters) c.in_ok-key.key c.in_ok-key.primary
    c.key_before-previous.result c.meet_previous-2.result c.if-it-ltminus1.false (sym c.live_row.ensures ∙ c.in_ok-key.was) c.key_before-previous.ensures c.meet_previous-2.ensures
