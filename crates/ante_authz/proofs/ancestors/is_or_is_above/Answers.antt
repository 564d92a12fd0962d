use Rattle.std.proofs.Common.{◌∙◌, ◌+◌, refl, sym, subst, arith}
use Rattle.ante_authz.proofs.Climbing.{Climbed, foot, climbed, marked, is_there, is_over, is_round, is_long, few_permissions, one_name}
use Rattle.ante_authz.proofs.ancestors.is_or_is_above.Goals as goal
use Rattle.ante_authz.proofs.ancestors.is_or_is_above.Goals.{then-is_power_of_two, else-is_power_of_two}

pub ancestors-init : goal.ancestors-init
ancestors-init c = foot c.args.store.now.top c.args.level.actor c.args.level.permission c.args.least

pub returns-then-eq : goal.returns-then-eq
returns-then-eq c = sym (is_there c.args.store.now.top c.args.level.actor c.args.level.permission c.args.least c.ancestors.mark c.ancestors.name c.ancestors.steps c.ancestors.invariant (sym c.eq.ensures ∙ c.if-eq.true))

pub returns-in_default : goal.returns-in_default
returns-in_default c =
    sym (is_over c.args.store.now.top c.args.level.actor c.args.level.permission c.args.least c.ancestors.mark c.ancestors.name c.ancestors.steps c.ancestors.invariant (sym c.eq.ensures ∙ c.if-eq.false) (sym c.in_default.is ∙ c.parent.ensures))

pub returns-then-eq-2 : goal.returns-then-eq-2
returns-then-eq-2 c = sym (is_round c.args.store.now.top c.args.level.actor c.args.level.permission c.args.least c.ancestors.mark c.ancestors.name c.ancestors.steps c.in-Some.next c.ancestors.invariant
    (sym c.eq.ensures ∙ c.if-eq.false) (sym c.in-Some.is ∙ c.parent.ensures) (one_name c.in-Some.next c.ancestors.mark (sym c.eq-in-ancestors.ensures ∙ c.if-eq-2.true)))

pub ancestors-preserved : goal.ancestors-preserved
ancestors-preserved c =
    let w = c.args.store.now.top in
    let actor = c.args.level.actor in
    let permission = c.args.level.permission in
    let least = c.args.least in
    let next = c.in-Some.next in
    let after = c.ancestors.steps + 1 in
    let on = climbed w actor permission least c.ancestors.mark c.ancestors.name c.ancestors.steps after next refl c.ancestors.invariant (sym c.eq.ensures ∙ c.if-eq.false) (sym c.in-Some.is ∙ c.parent.ensures) in
    elim c.if-is_power_of_two.branch as (λ _. Climbed w actor permission least c.if-is_power_of_two.mark next after) [
      | then-is_power_of_two v ↦ subst (λ m. Climbed w actor permission least m next after) (sym v.mark-is) (marked w actor permission least c.ancestors.mark next after on)
      | else-is_power_of_two v ↦ subst (λ m. Climbed w actor permission least m next after) (sym v.mark-is) on
    ]

pub returns : goal.returns
returns c =
    let w = c.args.store.now.top in
    c.eq-2.ensures ∙ is_long w c.args.level.actor c.args.level.permission c.args.least c.ancestors.mark c.ancestors.name c.ancestors.steps
    (omega (arith, few_permissions w, c.worlds_hold.ensures.top.small, c.ancestors-test.false)) c.ancestors.invariant
