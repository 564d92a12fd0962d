use Rattle.std.proofs.Common.{◌≡◌, drop}
use Rattle.ante_pool.specs.Seats.{times}
use Rattle.ante_window.specs.Fates.{jobs_of}
use Rattle.ante_window.proofs.fates.place_of.Given as goal

abbrev pub invariant-loop-place : goal.invariant-loop-place
invariant-loop-place g l = times l.job (jobs_of l.log) ≡ times l.job (jobs_of (drop l.place l.log))
