use Rattle.std.proofs.Common.{rules, subst, ap}
use Rattle.ante_wtree.specs.Trees.{tree_of}
use Rattle.ante_calls.specs.Views.{Lists}
use Rattle.ante_execution.specs.Hosts.{HostView}
use Rattle.ante_execution.specs.Runs.{arguments}
use Rattle.ante_host.specs.Code.{run_alone, RunsAs}
use Rattle.ante_host.proofs.code.run_with.Goals as goal

pub returns-clause-runs : goal.returns-clause-runs
returns-clause-runs g c =
    let world = ap (λ (h : HostView). h.seen.world) c.host.view_is in
    let run = ap (λ (h : HostView). h.seen.run) c.host.view_is in (
      c.run_on-end.new.host.seen,
      search rules,
      search rules,
      subst (λ (l : Lists). RunsAs (run_alone (tree_of c.args.module.now) (arguments c.args.own.now.run)
          (record { world = (g.T.Tables.stack c.args.tables.now).top; lists = l; run = c.args.own.now.run; packed = c.args.packed.now }) c.args.left.now)
          (g.P.Stop.looks c.args.stop.now) (g.P.Stop.looks c.run_on-end.new.stop) c.run_on-end.result c.run_on-end.new.host.seen c.run_on-end.new.left)
          c.requires.lists c.run_on-end.ensures.runs,
    )
