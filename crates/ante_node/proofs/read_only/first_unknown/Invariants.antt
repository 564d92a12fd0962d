use Rattle.std.proofs.Common.{◌≡◌, drop}
use Rattle.ante_node.specs.ReadOnly.{builtin_world, first_where, unknown_account}
use Rattle.ante_node.proofs.read_only.first_unknown.Given as goal

abbrev pub invariant-loop-action : goal.invariant-loop-action
invariant-loop-action l = first_where (unknown_account builtin_world) (drop l.action-index l.actions) ≡ first_where (unknown_account builtin_world) l.actions
