use Rattle.std.proofs.Common.{[], ◌∷◌}
use Rattle.std.proofs.lemmas.Result.{err_from_is_err_and}
use Rattle.ante_store.specs.Changes.{after, refusal}
use Rattle.ante_execution.specs.Native.Rules.{make_all}
use Rattle.ante_native.proofs.Steps.{unmade, stops_second}
use Rattle.ante_native.proofs.parts.make_three.Goals as goal

pub returns-in_err-make-clause-does : goal.returns-in_err-make-clause-does
returns-in_err-make-clause-does g c =
    let p = err_from_is_err_and c.from_residual.result c.from_residual.ensures.1 in
    let w = (g.T.Tables.stack c.args.tables.now).top in
    let v = (g.T.Tables.stack c.make.new.tables).top in
    rw (p.1, p.2) (unmade (refusal c.args.first w) (after c.args.first w) v (make_all (c.args.second ∷ c.args.third ∷ []) (after c.args.first w)) c.in_err-make.field-0.0 c.in_err-make.ensures.does v)

pub returns-in_err-make-2-clause-does : goal.returns-in_err-make-2-clause-does
returns-in_err-make-2-clause-does g c =
    let p = err_from_is_err_and c.from_residual-in_err-make-2.result c.from_residual-in_err-make-2.ensures.1 in
    let w = (g.T.Tables.stack c.args.tables.now).top in
    let x = (g.T.Tables.stack c.make.new.tables).top in
    let v = (g.T.Tables.stack c.make-2.new.tables).top in
    rw (p.1, p.2) (stops_second c.args.first c.args.second c.args.third w x v c.in_err-make-2.field-0.0 c.in_ok-make.ensures.granted c.in_ok-make.ensures.made c.in_err-make-2.ensures.does)
