use Rattle.std.proofs.Common.{w32, of_z, to_z, sym, ap, ◌∙◌, rules}
use Rattle.std.specs.Prelude.{codes}
use Rattle.std.specs.Option.{option_map}
use Rattle.ante_calls.specs.Calls.{arg32, signed_arg, bytes_from}
use Rattle.ante_calls.specs.IndexCalls.{index_kind, name_of}
use Rattle.ante_calls.specs.RowAnswers.{view_of}
use Rattle.ante_calls.specs.Rows.{next}
use Rattle.ante_rowcalls.proofs.Showing.{met_shown}
use Rattle.ante_idxcalls.proofs.walking.next.Goals as goal

pub returns-in-Ok-clause-answer : goal.returns-in-Ok-clause-answer
returns-in-Ok-clause-answer g c = λ left.
    let v = view_of (g.T.Tables.stack c.args.tables.now) c.args.iters.now in
    let w = view_of (g.T.Tables.stack c.db_idx_next.new.tables) c.db_idx_next.new.iters in
    let kind = index_kind g.K.Indexed.form g.K.Indexed.index in
    met_shown (name_of g.K.Indexed.form g.K.Indexed.index (codes "next")) (λ it. next kind it v) (bytes_from 1 8 c.args.args.now c.args.memory.now) c.in-Some._primary.now
    (to_z w32 (of_z w32 c.signed_arg.result)) (signed_arg c.args.args.now 0) c.arg32.result (arg32 c.args.args.now 1) c.in-Ok.met c.neighbour.result v w c.args.memory.now c.neighbour.new.memory left
    (search rules) c.arg32.ensures (sym {b = bytes_from 1 8 c.args.args.now c.args.memory.now} c.bytes_from.ensures.bytes ∙ ap (option_map (λ b. b.now)) c.in-Some.is) c.in-Ok.ensures.answer
    (c.neighbour.ensures v w left)
