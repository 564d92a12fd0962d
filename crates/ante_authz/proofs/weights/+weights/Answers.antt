use Rattle.std.proofs.Common.{◌∙◌, ◌-◌, bytes_eq, if◌then◌else◌, sym, ap, arith}
use Rattle.std.specs.List.{list_any, sum_by}
use Rattle.std.specs.Option.{option_copied}
use Rattle.ante_execution.specs.Authorities.{add_levels, satisfied_within}
use Rattle.ante_authz.proofs.Counting.{gains, by_code, not_there, by_weights}
use Rattle.ante_authz.proofs.weights.+weights.Goals as goal

pub add_levels-accounts-preserved : goal.add_levels-accounts-preserved
add_levels-accounts-preserved t c =
    let S = satisfied_within c.args.store.now.top c.args.keys.now c.args.code c.args.levels in
    let left = c.satisfied_within-weighed.new.visits in
    let gain = gains S c.accounts.wanted c.in-Some-gained.weight c.accounts.visits left c.satisfied_within-weighed.result c.in-Some.account.now c.in-Some.others.now
    (omega (arith, c.if-wanted-eq0.false)) c.satisfied_within-weighed.ensures (sym c.gained.ensures ∙ c.in-Some-gained.is) in
    ap (λ n. add_levels S n 0 c.in-Some.others.now left) c.saturating_sub-wanted.ensures ∙ sym gain
    ∙ ap (λ ls. add_levels S c.accounts.wanted 0 ls c.accounts.visits) (sym c.in-Some.ensures.cases.0) ∙ c.accounts.invariant

pub satisfied_within-returns-then-is_code_level : goal.satisfied_within-returns-then-is_code_level
satisfied_within-returns-then-is_code_level t c =
    let w = c.args.store.now.top in
    let keys = c.args.keys.now in
    sym (by_code w keys c.args.code c.args.levels c.args.level c.args.visits.now (omega (arith, c.if-levels-eq0.false)) (omega (arith, c.if-visits-eq0.false)) (sym (c.is_code_level.ensures w keys) ∙ c.if-is_code_level.true))

pub satisfied_within-returns-in-None : goal.satisfied_within-returns-in-None
satisfied_within-returns-in-None t c =
    let w = c.args.store.now.top in
    let keys = c.args.keys.now in
    sym (not_there w keys c.args.code c.args.levels c.args.level c.args.visits.now (omega (arith, c.if-levels-eq0.false)) (omega (arith, c.if-visits-eq0.false)) (sym (c.is_code_level.ensures w keys) ∙ c.if-is_code_level.false)
    (sym c.permission.ensures ∙ ap option_copied c.in-None.is))

pub satisfied_within-returns-in-Some : goal.satisfied_within-returns-in-Some
satisfied_within-returns-in-Some t c =
    let w = c.args.store.now.top in
    let keys = c.args.keys.now in
    let code = c.args.code in
    let levels = c.args.levels in
    let wanted = c.after_keys-wanted.result in
    let row = c.in-Some.row.now in
    c.add_levels.ensures
    ∙ ap (λ ls. add_levels (satisfied_within w keys code (levels - 1)) wanted 0 ls (c.args.visits.now - 1)) c.as_slice-accounts.ensures
    ∙ sym (by_weights w keys code levels c.args.level c.args.visits.now wanted row (omega (arith, c.if-levels-eq0.false)) (omega (arith, c.if-visits-eq0.false)) (sym (c.is_code_level.ensures w keys) ∙ c.if-is_code_level.false)
    (sym c.permission.ensures ∙ ap option_copied c.in-Some.is)
    (c.after_keys-wanted.ensures ∙ ap (λ ks. row.authority.threshold - sum_by (λ k. if list_any (bytes_eq k.key) keys then k.weight else 0) ks) c.as_slice.ensures))
