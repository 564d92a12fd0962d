use Rattle.std.proofs.Common.{◌⊎◌, ℕ, ◌+◌, ◌-◌, ◌<◌, ◌≤◌, length, Option, MatchOption, sym, ap, subst, ◌∙◌}
use Rattle.ante_wtree.specs.Trees.{Tree, tree_of}
use Rattle.ante_wvalid.specs.declared.kinds.ModuleRule.{ModuleRule}
use Rattle.ante_wvalid.specs.declared.kinds.InvalidKind.TheVariants as invalid
use Rattle.ante_wvalid.specs.Modules.{Breaks, IsUntyped, IsFirstInvalid, imported, rule_place}
use Rattle.ante_wvalid.proofs.Order.{rules_kept, rule_first, bodies_typed, body_first, no_apply_first, valid}
use Rattle.ante_wvalid.proofs.Own.{own_number, fewer_own, codes_there}
use Rattle.ante_wvalid.proofs.valid.first_fault.Goals as goal

abbrev Rules : Tree → Option ModuleRule → Type 0
Rules m found = MatchOption found ((r : ModuleRule) → Breaks m r → ⊥) (λ r. Breaks m r × ((s : ModuleRule) → rule_place s < rule_place r → Breaks m s → ⊥))

abbrev Bodies : Tree → Option ℕ → Type 0
Bodies m found = MatchOption found ((k : ℕ) → IsUntyped m k → ⊥) (λ at. IsUntyped m at × ((k : ℕ) → k < at → IsUntyped m k → ⊥))

pub returns-in-Some : goal.returns-in-Some
returns-in-Some c =
    let m = tree_of c.args.module.now in
    let found = subst (Rules m) c.in-Some.is c.in_ok-rule.ensures in
    rule_first m c.in-Some.rule found.0 found.1 c.requires

pub function_number-function-requires-clause-own : goal.function_number-function-requires-clause-own
function_number-function-requires-clause-own c = subst (λ xs. length xs ≤ length c.as_slice-functions.result.now) (sym c.as_slice-own.ensures)
    (fewer_own (imported c.args.module.now.imports) c.args.module.now.functions c.as_slice-functions.result.now (c.as_slice-functions.ensures.value ∙ c.in_ok-all.ensures))

pub function_number-function-requires-clause-there : goal.function_number-function-requires-clause-there
function_number-function-requires-clause-there c =
    let m = tree_of c.args.module.now in
    let found = subst (Bodies m) c.in-Some-2.is c.in_ok-at.ensures in
    subst (λ xs. (c.in-Some-2.at < length xs) ⊎ (c.in-Some-2.at < length c.as_slice.result.now)) (sym c.as_slice-own.ensures)
    (subst (λ xs. (c.in-Some-2.at < length c.args.module.now.functions) ⊎ (c.in-Some-2.at < length xs)) (sym c.as_slice.ensures)
    (codes_there c.args.module.now.functions c.args.module.now.codes c.in-Some-2.at found.0.0))

pub returns-in-Some-2 : goal.returns-in-Some-2
returns-in-Some-2 c =
    let m = tree_of c.args.module.now in
    let rules = subst (Rules m) c.in_default.is c.in_ok-rule.ensures in
    let found = subst (Bodies m) c.in-Some-2.is c.in_ok-at.ensures in
    let number = own_number (imported c.args.module.now.imports) c.args.module.now.functions c.as_slice-functions.result.now c.in-Some-2.at c.function_number-function.result
    (c.as_slice-functions.ensures.value ∙ c.in_ok-all.ensures)
    (c.function_number-function.ensures ∙ ap (λ xs. length c.as_slice-functions.result.now - length xs + c.in-Some-2.at) c.as_slice-own.ensures) in
    subst (λ n. IsFirstInvalid m (invalid.Body n)) (sym number) (body_first m c.in-Some-2.at found.0 found.1 (rules_kept m rules c.requires))

pub returns-then-not-has_apply : goal.returns-then-not-has_apply
returns-then-not-has_apply c =
    let m = tree_of c.args.module.now in
    let rules = subst (Rules m) c.in_default.is c.in_ok-rule.ensures in
    let bodies = subst (Bodies m) c.in_default-2.is c.in_ok-at.ensures in
    no_apply_first m (λ h. let e = c.has_apply.ensures.1 h in let f = c.if-not-has_apply.true in cc) (bodies_typed m bodies (rules_kept m rules c.requires))

pub returns : goal.returns
returns c =
    let m = tree_of c.args.module.now in
    let rules = subst (Rules m) c.in_default.is c.in_ok-rule.ensures in
    let bodies = subst (Bodies m) c.in_default-2.is c.in_ok-at.ensures in
    valid m (c.has_apply.ensures.0 c.if-not-has_apply.false) (bodies_typed m bodies (rules_kept m rules c.requires))
