use Rattle.std.proofs.Common.{None, Err, ap, subst, ◌∙◌}
use Rattle.ante_accepts.specs.Accepting.{chain_codes}
use Rattle.ante_execution.specs.Actions.{apply_all}
use Rattle.ante_execution.specs.Transactions.{memory_refusal, writing_scene}
use Rattle.ante_apply.specs.Going.{going, Follows}
use Rattle.ante_transactions.proofs.Outcomes.{acts_failed, acts_fine}
use Rattle.ante_transactions.proofs.Sessions.{same_under}
use Rattle.ante_transactions.proofs.session.act.Goals as goal

pub returns-in-Ok-clause-acts : goal.returns-in-Ok-clause-acts
returns-in-Ok-clause-acts c =
    acts_fine (apply_all chain_codes (writing_scene c.args.slot c.args.packed.now) c.args.actions.now (going c.args.store.now.top c.args.left.now c.args.traces.now 0))
    c.args.store.now.top c.apply_in_session.new.store.top c.apply_in_session.new.left c.apply_in_session.new.traces None None c.check_memory.result
    (c.check_memory.ensures ∙ ap (λ w. memory_refusal w c.apply_in_session.new.store.top)
    (same_under c.args.store.now c.apply_in_session.new.store c.requires.session c.apply_in_session.ensures.base ∙ c.requires.began))
    (c.in-Ok.ensures.follows)

pub returns-in-Err-Failed-clause-acts : goal.returns-in-Err-Failed-clause-acts
returns-in-Err-Failed-clause-acts c =
    acts_failed (apply_all chain_codes (writing_scene c.args.slot c.args.packed.now) c.args.actions.now (going c.args.store.now.top c.args.left.now c.args.traces.now 0))
    c.args.store.now.top c.apply_in_session.new.store.top c.apply_in_session.new.left c.apply_in_session.new.traces None None c.in-Err-Failed.failure
    (subst (λ r. Follows {A = Unit {0}} (λ done n. going c.apply_in_session.new.store.top c.apply_in_session.new.left c.apply_in_session.new.traces n) 0 None None
    (apply_all chain_codes (writing_scene c.args.slot c.args.packed.now) c.args.actions.now (going c.args.store.now.top c.args.left.now c.args.traces.now 0)) r
    c.apply_in_session.new.left c.apply_in_session.new.traces) (c.in-Err-Failed.is ∙ ap Err c.in-Err-Failed.field-0-is) c.apply_in_session.ensures.follows)
