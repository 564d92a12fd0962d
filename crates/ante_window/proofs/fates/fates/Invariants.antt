use Rattle.std.proofs.Common.{◌≡◌, ℕ, ◌≤◌}
use Rattle.std.specs.List.{AllByRecursion}
use Rattle.ante_pool.specs.Seats.{times}
use Rattle.ante_window.specs.Fates.{jobs_of, IsIn, AreFates}
use Rattle.ante_window.proofs.fates.fates.Given as goal

abbrev pub invariant-loop-job : goal.invariant-loop-job
invariant-loop-job g l = record {
  made : AreFates l.fn.log.items l.job l.rung l.owners.items l.outcomes.items;
  left : AllByRecursion (IsIn l.fn.log.items) l.left.items;
  same : (x : ℕ) → l.job ≤ x → times x (jobs_of l.left.items) ≡ times x (jobs_of l.fn.log.items);
}
