use Rattle.std.proofs.Common.{is_some, sym, ap, subst, eq-eqb, arith}
use Rattle.std.proofs.lemmas.List.{take_all}
use Rattle.ante_core.specs.Place.{IsAt}
use Rattle.ante_core.proofs.Places.{NoneHeldBy, held_by-none, is_at}
use Rattle.ante_core.proofs.window.place_of.Goals as goal

pub returns-then-job-reader-clause-here : goal.returns-then-job-reader-clause-here
returns-then-job-reader-clause-here g c =
    is_at c.args.reader c.args.held.now c.loop-place.place c.index-held-place.result c.loop-place.invariant (omega arith) c.index-held-place.is (eq-eqb c.index-held-place.result.reader c.args.reader c.if-job-reader.true)

pub returns-then-job-reader-clause-same : goal.returns-then-job-reader-clause-same
returns-then-job-reader-clause-same g c =
    let at : IsAt c.args.reader c.args.held.now c.loop-place.place = is_at c.args.reader c.args.held.now c.loop-place.place c.index-held-place.result c.loop-place.invariant (omega arith) c.index-held-place.is (eq-eqb c.index-held-place.result.reader c.args.reader c.if-job-reader.true) in
    sym (ap (λ o. is_some o) (at.here c.index-held-place.result))

pub returns-clause-nowhere : goal.returns-clause-nowhere
returns-clause-nowhere g c =
    let none : NoneHeldBy c.args.reader c.args.held.now = subst (NoneHeldBy c.args.reader) (take_all c.loop-place.place c.args.held.now (omega arith)) c.loop-place.invariant in
    held_by-none c.args.reader c.args.held.now none

pub returns-clause-same : goal.returns-clause-same
returns-clause-same g c = sym (ap (λ o. is_some o) (returns-clause-nowhere g c))
