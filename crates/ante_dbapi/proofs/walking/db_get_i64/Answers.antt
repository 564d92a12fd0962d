use Rattle.std.proofs.Common.{w32, of_z, to_z, to_z-of_z, Ok, refl, sym, ap, ◌∙◌}
use Rattle.std.specs.Option.{option_copied}
use Rattle.ante_calls.specs.Calls.{shorter}
use Rattle.ante_calls.specs.RowAnswers.{view_of}
use Rattle.ante_dbapi.proofs.Walks.{got_row, got_none}
use Rattle.ante_dbapi.proofs.walking.db_get_i64.Goals as goal

pub returns-in-Some : goal.returns-in-Some
returns-in-Some g c =
    let v = view_of (g.T.Tables.stack c.args.tables.now) c.args.iters.now in
    got_row c.args.it (to_z w32 (of_z w32 c.args.it)) (to_z-of_z c.ranges.it) c.args.n v c.in_ok-key.key c.in_ok-key.primary c.in-Some.row.now
    (sym c.live_row.ensures ∙ c.in_ok-key.was) (sym c.row_at.ensures ∙ ap (λ o. option_copied o) c.in-Some.is)
    ∙ ap (λ bytes. Ok (shorter c.args.n bytes, v)) (sym c.as_slice.ensures) ∙ ap (λ a. Ok (a, v)) (sym c.shorter.ensures)

pub returns-in-None : goal.returns-in-None
returns-in-None g c =
    let v = view_of (g.T.Tables.stack c.args.tables.now) c.args.iters.now in (
      got_none c.args.it (to_z w32 (of_z w32 c.args.it)) (to_z-of_z c.ranges.it) c.args.n v c.in_ok-key.key c.in_ok-key.primary
          (sym c.live_row.ensures ∙ c.in_ok-key.was) (sym c.row_at.ensures ∙ ap (λ o. option_copied o) c.in-None.is),
      refl,
    )
