use Rattle.std.proofs.Common.{◌≡◌, ◌+◌, ◌++◌, drop}
use Rattle.ante_node.specs.ReadOnly.{first_where, runs_from, write_refused}
use Rattle.ante_node.proofs.read_only.run_actions.Given as goal

abbrev pub invariant-loop-i : goal.invariant-loop-i
invariant-loop-i l = record {
  runs : l.runs ++ runs_from (l.i + 1) (drop l.i l.actions) ≡ runs_from 1 l.actions;
  failure : first_where write_refused (drop l.i l.actions) ≡ first_where write_refused l.actions;
}
