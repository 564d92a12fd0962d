use Rattle.std.proofs.Common.{◌≡◌, sym, subst, codes}
use Rattle.ante_wmem.specs.HostCalls.{IsAnswer}
use Rattle.ante_calls.specs.Calls.{writing, replies}
use Rattle.ante_calls.specs.Views.{said}
use Rattle.ante_sysapi.specs.Answers.{view}
use Rattle.ante_sysapi.specs.Quotas.{set_by}
use Rattle.ante_sysapi.proofs.limits.set_resource_limits.Goals as goal

pub returns-in-Writing-clause-answer : goal.returns-in-Writing-clause-answer
returns-in-Writing-clause-answer g c = λ m left.
    let v = view (g.T.Tables.stack c.args.tables.now).top c.args.run.now in
    subst (λ k. IsAnswer (replies (writing k (codes "set_resource_limits") (set_by c.args.args.now m v)) left) (λ a x. said x.run ≡ said v.run) c.set_quota.result
    (view (g.T.Tables.stack c.set_quota.new.tables).top c.args.run.now) m left) (sym c.in-Writing.is) (c.set_quota.ensures.answer m left)
