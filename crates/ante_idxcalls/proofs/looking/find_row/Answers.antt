use Rattle.std.proofs.Common.{subst, ℕ}
use Rattle.ante_wmem.specs.HostCalls.{value}
use Rattle.ante_calls.specs.Calls.{arg32, replies, word}
use Rattle.ante_calls.specs.IndexCalls.{shows_key, find_primary}
use Rattle.ante_calls.specs.PrimaryCalls.{table_arg}
use Rattle.ante_calls.specs.RowAnswers.{view_of}
use Rattle.ante_calls.specs.RowReplies.{with_bytes}
use Rattle.ante_idxapi.specs.Looked.{told}
use Rattle.ante_rowcalls.specs.RowCalls.{AnswersRow}
use Rattle.ante_idxcalls.specs.Keyed.{iterator_and_key}
use Rattle.ante_idxcalls.proofs.Showing.{key_bytes_found, sought_shown}
use Rattle.ante_idxcalls.proofs.looking.find_row.Goals as goal

pub returns-in-Ok-clause-answer : goal.returns-in-Ok-clause-answer
returns-in-Ok-clause-answer g c = λ left.
    let v = view_of (g.T.Tables.stack c.args.tables.now) c.args.iters.now in
    let w = view_of (g.T.Tables.stack c.db_idx_find_primary.new.tables) c.db_idx_find_primary.new.iters in
    let form = g.K.Indexed.form in
    let index = g.K.Indexed.index in
    let at = arg32 c.args.args.now 3 in
    let r = find_primary form index (table_arg c.args.args.now) c.primary_arg-primary.result v in
    subst (λ (x : ℕ). AnswersRow (replies (shows_key form index at c.args.memory.now (find_primary form index (table_arg c.args.args.now) x v)) left) c.with_key.result v w c.with_key.new.memory left)
    c.primary_arg-primary.ensures
    (subst (λ x. AnswersRow (replies (value (word r.0.0) r.1 (with_bytes x at c.args.memory.now)) left) c.with_key.result v w c.with_key.new.memory left) (key_bytes_found form.bytes r.0.1)
    (sought_shown (iterator_and_key form at c.args.memory.now) (λ table. told (λ place. place.0) (find_primary form index table c.primary_arg-primary.result v))
    c.args.args.now c.name_arg-code.result c.name_arg-scope.result c.name_arg-table.result c.in-Ok.found c.with_key.result v w c.with_key.new.memory left
    c.name_arg-code.ensures c.name_arg-scope.ensures c.name_arg-table.ensures c.in-Ok.ensures.answer (c.with_key.ensures v w left)))
