use Rattle.std.proofs.Common.{◌≡◌, ℕ, take, sym, subst, ◌∙◌, List, arith}
use Rattle.ante_pack.specs.Names.{name_text, IsNameText}
use Rattle.ante_pack.proofs.NameTexts.{IsShown, shown-all, some_text, shown-more, shown-dot}
use Rattle.ante_pack.proofs.names.name_text.Goals as goal
use Rattle.ante_pack.proofs.names.name_text.Goals.{then-symbol-ne0, else-symbol-ne0}

pub loop-place-preserved : goal.loop-place-preserved
loop-place-preserved c =
    elim c.if-symbol-ne0.branch [
      | then-symbol-ne0 w ↦ rw (w.len-is, c.symbol_at-symbol.ensures) (shown-more c.args.name.0 c.loop-place.place c.loop-place.len c.loop-place.text c.loop-place-test.true c.loop-place.invariant (λ e. w.if-symbol-ne0.true (c.symbol_at-symbol.ensures ∙ e)))
      | else-symbol-ne0 w ↦ rw (w.len-is, c.symbol_at-symbol.ensures) (shown-dot c.args.name.0 c.loop-place.place c.loop-place.len c.loop-place.text c.loop-place-test.true c.loop-place.invariant (sym c.symbol_at-symbol.ensures ∙ w.if-symbol-ne0.false))
    ]

pub returns-clause-text : goal.returns-clause-text
returns-clause-text c =
    let end : c.loop-place.place ≡ 13 = omega arith in
    shown-all c.args.name.0 c.loop-place.len c.loop-place.text (subst (λ (p : ℕ). IsShown c.args.name.0 p c.loop-place.len c.loop-place.text) end c.loop-place.invariant)

pub returns-clause-name : goal.returns-clause-name
returns-clause-name c =
    let end : c.loop-place.place ≡ 13 = omega arith in
    let text : take c.loop-place.len c.loop-place.text ≡ name_text c.args.name.0 = shown-all c.args.name.0 c.loop-place.len c.loop-place.text (subst (λ (p : ℕ). IsShown c.args.name.0 p c.loop-place.len c.loop-place.text) end c.loop-place.invariant) in
    subst (λ (xs : List ℕ). IsNameText xs c.args.name.0) (sym text) (some_text c.args.name.0 (omega arith))
