use Rattle.std.proofs.Common.{refl}
use Rattle.ante_window.proofs.Closing.{all_claimed, windowed}
use Rattle.ante_window.proofs.Serving.{window_runs, window_leaves}
use Rattle.ante_window.proofs.windows.run_window.Goals as goal

pub fates-requires : goal.fates-requires
fates-requires g c = λ none job lt. all_claimed _ _ _ _ _ _ _ _ c.in_ok-log.ensures _ refl none job lt

pub returns-clause-window : goal.returns-clause-window
returns-clause-window g c =
    rw (c.from_vec.ensures, c.from_vec-2.ensures, c.from_vec-3.ensures)
    (windowed _ _ _ _ _ _ _ _ c.in_ok-log.ensures c.requires.workers.1 _ refl _ _ c.in_ok-outcomes.ensures _
    (rw (c.as_slice.ensures.value, c.as_slice-2.ensures.value) at c.in_ok-turns.ensures) _ (rw c.as_slice-3.ensures.value at c.in_ok-events.ensures))

pub returns-clause-runs : goal.returns-clause-runs
returns-clause-runs g c = window_runs g.S.ReadState.answer _ _ _ _ _ _ _ _ (returns-clause-window g c) c.requires.workers.1

pub returns-clause-done : goal.returns-clause-done
returns-clause-done g c = window_leaves g.S.ReadState.answer _ _ _ _ _ _ _ _ (returns-clause-window g c) c.requires.workers.1
