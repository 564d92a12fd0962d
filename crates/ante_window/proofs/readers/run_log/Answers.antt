use Rattle.ante_window.proofs.Joining.{reports_at}
use Rattle.ante_window.proofs.readers.run_log.Goals as goal

pub returns : goal.returns
returns g c = reports_at _ _ _ _ _ _ _ _ _ _ c.in_ok-pool.ensures.0 c.in_ok-seat.ensures.brought c.close-end.ensures
