use Rattle.std.proofs.Common.{◌<◌, length, ◌∙◌, ap, arith}
use Rattle.ante_pool.specs.Pools.{PoolView}
use Rattle.ante_window.proofs.Running.{watch_at, early_at, run_over, run_next, by_next}
use Rattle.ante_window.proofs.reader.read_next.Goals as goal

pub returns-in_default-clause-run : goal.returns-in_default-clause-run
returns-in_default-clause-run g c =
    run_over _ _ _ _ _ _ _ c.requires.run (watch_at g.C.Clock.told _ _ c.requires.clock.0 _ _ c.requires.clock.1 _ _ c.in_default.ensures.claimed.0)

pub returns-clause-run : goal.returns-clause-run
returns-clause-run g c =
    let claimed = c.in-Some.ensures.claimed in
    let same = c.claim_one.ensures.same in
    let pool = ap (λ (p : PoolView). p.jobs) c.requires.pool in
    let fits = c.args.window.now.fits in
    let below = c.in-Some.ensures.job in
    let lt : c.in-Some.job < length c.args.window.now.jobs.now = omega arith in
    rw c.in_ok-push.ensures.items (run_next _ _ _ _ _ _ _ _ _ _ c.args.reader c.requires.run claimed.0
    (early_at g.C.Clock.told _ _ c.requires.clock.0 _ _ c.requires.clock.1 claimed.1.0 claimed.1.1 claimed.1.2)
    (watch_at g.C.Clock.told _ _ (same.1 ∙ c.requires.clock.0) _ _ (same.2 ∙ c.requires.clock.1) _ _ c.read_job-outcome.ensures.watched)
    lt c.index-window-job.result c.read_job-outcome.ensures.outcome)

pub returns-clause-by : goal.returns-clause-by
returns-clause-by g c =
    let claimed = c.in-Some.ensures.claimed in
    rw c.in_ok-push.ensures.items (by_next _ _ _ _ _ _ _ _ _ c.requires.run claimed.2 claimed.3 c.requires.by)
