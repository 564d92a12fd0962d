use Rattle.std.proofs.Common.{◌≡◌, None, rules, subst}
use Rattle.ante_accepts.specs.Accepting.{accepts, chain_codes}
use Rattle.ante_accepts.proofs.Accepted.{accepted}
use Rattle.ante_execution.specs.Actions.{apply_all}
use Rattle.ante_execution.specs.Transactions.{writing_scene}
use Rattle.ante_apply.specs.Going.{going, Follows}
use Rattle.ante_types.specs.World.{World}
use Rattle.ante_undo.specs.Stack.{Stack, with_top}
use Rattle.ante_transactions.proofs.Sessions.{same_base}
use Rattle.ante_transactions.proofs.session.apply_in_session.Goals as goal

pub returns-clause-follows : goal.returns-clause-follows
returns-clause-follows c =
    let same : c.apply_all-end.new.tables.0.now ≡ c.store-1.given.0 = search rules in
    subst (λ (s : Stack World). Follows {A = Unit {0}} (λ done n. going s.top c.apply_all-end.new.left c.apply_all-end.new.traces n) 0 None None
    (apply_all chain_codes (writing_scene c.args.slot c.args.packed.now) c.args.actions.now (going c.args.store.now.top c.args.left.now c.args.traces.now 0))
    c.apply_all-end.result c.apply_all-end.new.left c.apply_all-end.new.traces) same (c.apply_all-end.ensures.follows accepts accepted 0)

pub returns-clause-base : goal.returns-clause-base
returns-clause-base c =
    let same : c.apply_all-end.new.tables.0.now ≡ c.store-1.given.0 = search rules in
    subst (λ (s : Stack World). s ≡ with_top s.top c.args.store.now) same
    (same_base c.args.store.now c.apply_all-end.new.tables.0.now _ _ _ _ c.apply_all-end.ensures.base)
