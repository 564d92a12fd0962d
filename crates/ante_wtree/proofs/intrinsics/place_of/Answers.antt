use Rattle.std.proofs.Common.{◌≡◌, ℕ, Some, List, map, sym, ap, ◌∙◌, arith, below_more}
use Rattle.std.proofs.lemmas.List.{length-map}
use Rattle.std.proofs.lemmas.Option.{slice_get_within}
use Rattle.ante_wtree.proofs.Table.{named}
use Rattle.ante_wtree.proofs.intrinsics.place_of.Goals as goal

some_is : {x y : List ℕ} → Some x ≡ Some y → x ≡ y
some_is h = cc

pub returns-then-same-clause-found : goal.returns-then-same-clause-found
returns-then-same-clause-found c = named c.args.rows.now c.loop-at.at _ c.loop-at-test.true ∙ ap Some (c.same.ensures.0 c.if-same.true)

pub loop-at-preserved : goal.loop-at-preserved
loop-at-preserved c = below_more _ _ c.loop-at.invariant (λ e.
    let s = sym (named c.args.rows.now c.loop-at.at _ c.loop-at-test.true) ∙ e in
    let t = c.same.ensures.1 (some_is s) in cc)

pub returns-clause-none : goal.returns-clause-none
returns-clause-none c = λ at e. c.loop-at.invariant at (omega (arith, slice_get_within (map (λ r. r.0.now) c.args.rows.now) at c.args.name.now e, length-map c.args.rows.now (λ r. r.0.now))) e
