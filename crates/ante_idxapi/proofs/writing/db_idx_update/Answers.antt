use Rattle.std.proofs.Common.{rules, ◌≡◌, true, w32, of_z, to_z, to_z-of_z, refl, sym, ◌∙◌, subst}
use Rattle.ante_calls.specs.IndexCalls.{index_kind}
use Rattle.ante_calls.specs.RowAnswers.{view_of}
use Rattle.ante_calls.specs.declared.faults.DbFault.TheVariants as fault
use Rattle.ante_dbapi.specs.Made.{Makes}
use Rattle.ante_dbapi.proofs.Updates.{update_of_none, update_refused, update_made}
use Rattle.ante_idxapi.proofs.writing.db_idx_update.Goals as goal

pub returns-in_default-clause-answer : goal.returns-in_default-clause-answer
returns-in_default-clause-answer g c =
    let v = view_of (g.T.Tables.stack c.args.tables.now) c.args.iters.now in
    let w : g.T.Tables.writing c.args.tables.now ≡ true = search rules in (
      update_of_none (index_kind g.K.Indexed.form g.K.Indexed.index) c.args.run.now c.args.it (to_z w32 (of_z w32 c.args.it)) (to_z-of_z c.ranges.it) c.args.payer c.args.key
          v c.in_ok-at.at c.in_ok-at.primary (sym c.requires.ready.mode ∙ w) (sym c.own_row.ensures ∙ c.in_ok-at.was) (sym c.payer_at.ensures ∙ c.in_default.is),
      refl {a = v},
    )

pub returns-in-Some-update_refusal-clause-answer : goal.returns-in-Some-update_refusal-clause-answer
returns-in-Some-update_refusal-clause-answer g c =
    let v = view_of (g.T.Tables.stack c.args.tables.now) c.args.iters.now in
    let w : g.T.Tables.writing c.args.tables.now ≡ true = search rules in (
      update_refused (index_kind g.K.Indexed.form g.K.Indexed.index) c.args.run.now c.args.it (to_z w32 (of_z w32 c.args.it)) (to_z-of_z c.ranges.it) c.args.payer c.args.key
          v c.in_ok-at.at c.in_ok-at.primary c.in-Some.row c.in-Some-update_refusal.fault
          (sym c.requires.ready.mode ∙ w) (sym c.own_row.ensures ∙ c.in_ok-at.was) (sym c.payer_at.ensures ∙ c.in-Some.is)
          (sym c.update_refusal.ensures ∙ c.in-Some-update_refusal.is),
      refl {a = v},
    )

pub returns-clause-answer : goal.returns-clause-answer
returns-clause-answer g c =
    let w : g.T.Tables.writing c.args.tables.now ≡ true = search rules in
    update_made (index_kind g.K.Indexed.form g.K.Indexed.index) c.args.run.now c.args.it (to_z w32 (of_z w32 c.args.it)) (to_z-of_z c.ranges.it) c.args.payer c.args.key
    (view_of (g.T.Tables.stack c.args.tables.now) c.args.iters.now) c.in_ok-at.at c.in_ok-at.primary c.in-Some.row c.new_payer-payer.result c.args.key
    c.make.result (g.T.Tables.stack c.make.new.tables).top (sym c.requires.ready.mode ∙ w) (sym c.own_row.ensures ∙ c.in_ok-at.was)
    (sym c.payer_at.ensures ∙ c.in-Some.is) (sym c.update_refusal.ensures ∙ c.in_default-update_refusal.is) c.new_payer-payer.ensures refl
    (subst (λ x. Makes (fault.BadIterator (to_z w32 (of_z w32 c.args.it))) x c.make.result (g.T.Tables.stack c.args.tables.now).top (g.T.Tables.stack c.make.new.tables).top) c.updating-change.ensures c.make.ensures.answer)
