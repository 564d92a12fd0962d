use Rattle.std.proofs.Common.{rules, ◌≡◌, true, w32, of_z, to_z, to_z-of_z, sym, ◌∙◌, subst}
use Rattle.std.proofs.lemmas.Result.{err_from_is_err_and}
use Rattle.ante_calls.specs.IndexCalls.{index_kind}
use Rattle.ante_calls.specs.RowAnswers.{IsFaultOf, view_of}
use Rattle.ante_calls.specs.Rows.{make}
use Rattle.ante_calls.specs.declared.faults.DbFault.TheVariants as fault
use Rattle.ante_idxapi.proofs.Removals.{removal_refused}
use Rattle.ante_idxapi.proofs.writing.db_idx_remove.Goals as goal

pub returns-in_err-make-clause-answer : goal.returns-in_err-make-clause-answer
returns-in_err-make-clause-answer g c =
    let v = view_of (g.T.Tables.stack c.args.tables.now) c.args.iters.now in
    let w : g.T.Tables.writing c.args.tables.now ≡ true = search rules in
    let p = err_from_is_err_and c.from_residual-in_err-make.result c.from_residual-in_err-make.ensures.1 in
    let h = c.in_err-make.ensures.answer in
    rw (p.1, p.2) (
      removal_refused (index_kind g.K.Indexed.form g.K.Indexed.index) c.args.run.now c.args.it (to_z w32 (of_z w32 c.args.it)) (to_z-of_z c.ranges.it)
          v c.in_ok-at.at c.in_ok-at.primary c.in_err-make.field-0.0 (sym c.requires.ready.mode ∙ w) (sym c.own_row.ensures ∙ c.in_ok-at.was)
          (subst (λ x. IsFaultOf (make (fault.BadIterator (to_z w32 (of_z w32 c.args.it))) x v.world) c.in_err-make.field-0.0) c.removing-change.ensures h.0),
      λ k. record { world = h.1 k; iters = c.args.iters.now },
    )
