use Rattle.std.proofs.Common.{◌≡◌, ◌+◌, ◌≤◌, IsNone}
use Rattle.ante_control.specs.Chosen.{play_of}
use Rattle.ante_control.proofs.Turns.{IsRunning}
use Rattle.ante_control.proofs.branches.run_branch.Given as goal

abbrev pub invariant-loop-k : goal.invariant-loop-k
invariant-loop-k g l =
    IsRunning (play_of g.M.BlockMachine.steps (g.V.Verdicts.judge l.verdicts) (g.M.Worlds.chain_id l.fn.machine))
    l.id l.tree l.k (g.M.Worlds.stack l.fn.machine) (g.M.Worlds.stack l.machine)
    × IsNone (g.M.BlockMachine.pending l.machine)
    × (g.M.Worlds.chain_id l.machine ≡ g.M.Worlds.chain_id l.fn.machine)
    × (g.M.BlockMachine.counted l.machine ≤ g.M.BlockMachine.counted l.fn.machine + l.k)
