use Rattle.std.proofs.Common.{rules, ◌≡◌, true, w32, of_z, to_z, to_z-of_z, refl, sym, ap, ◌∙◌}
use Rattle.std.specs.Option.{option_copied}
use Rattle.ante_calls.specs.Kinds.{primary_kind}
use Rattle.ante_calls.specs.RowAnswers.{view_of}
use Rattle.ante_dbapi.proofs.Updates.{update_of_none, update_refused, update_made}
use Rattle.ante_dbapi.proofs.writing.db_update_i64.Goals as goal

pub returns-in_default-clause-answer : goal.returns-in_default-clause-answer
returns-in_default-clause-answer g c =
    let v = view_of (g.T.Tables.stack c.args.tables.now) c.args.iters.now in
    let w : g.T.Tables.writing c.args.tables.now ≡ true = search rules in (
      update_of_none primary_kind c.args.run.now c.args.it (to_z w32 (of_z w32 c.args.it)) (to_z-of_z c.ranges.it) c.args.payer c.args.bytes.now
          v c.in_ok-key.key c.in_ok-key.primary (sym c.requires.ready.mode ∙ w)
          (sym c.own_row.ensures ∙ c.in_ok-key.was) (sym c.row_at.ensures ∙ ap (λ o. option_copied o) c.in_default.is),
      refl {a = v},
    )

pub returns-in-Some-update_refusal-clause-answer : goal.returns-in-Some-update_refusal-clause-answer
returns-in-Some-update_refusal-clause-answer g c =
    let v = view_of (g.T.Tables.stack c.args.tables.now) c.args.iters.now in
    let w : g.T.Tables.writing c.args.tables.now ≡ true = search rules in (
      update_refused primary_kind c.args.run.now c.args.it (to_z w32 (of_z w32 c.args.it)) (to_z-of_z c.ranges.it) c.args.payer c.args.bytes.now
          v c.in_ok-key.key c.in_ok-key.primary c.in-Some.row.now c.in-Some-update_refusal.fault
          (sym c.requires.ready.mode ∙ w) (sym c.own_row.ensures ∙ c.in_ok-key.was) (sym c.row_at.ensures ∙ ap (λ o. option_copied o) c.in-Some.is)
          (sym c.update_refusal.ensures ∙ c.in-Some-update_refusal.is),
      refl {a = v},
    )

pub returns-clause-answer : goal.returns-clause-answer
returns-clause-answer g c =
    let w : g.T.Tables.writing c.args.tables.now ≡ true = search rules in
    update_made primary_kind c.args.run.now c.args.it (to_z w32 (of_z w32 c.args.it)) (to_z-of_z c.ranges.it) c.args.payer c.args.bytes.now
    (view_of (g.T.Tables.stack c.args.tables.now) c.args.iters.now) c.in_ok-key.key c.in_ok-key.primary c.in-Some.row.now c.new_payer-payer.result c.in-Ok.bytes
    c.make.result (g.T.Tables.stack c.make.new.tables).top (sym c.requires.ready.mode ∙ w) (sym c.own_row.ensures ∙ c.in_ok-key.was)
    (sym c.row_at.ensures ∙ ap (λ o. option_copied o) c.in-Some.is) (sym c.update_refusal.ensures ∙ c.in_default-update_refusal.is) c.new_payer-payer.ensures
    c.in-Ok.ensures c.make.ensures.answer
