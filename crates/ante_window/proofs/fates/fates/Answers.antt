use Rattle.std.proofs.Common.{◌∙◌, refl, arith}
use Rattle.ante_window.proofs.Taking.{in_all, fates_none, fates_push, fate_in, left_in, left_times}
use Rattle.ante_window.proofs.fates.fates.Goals as goal

pub loop-job-init : goal.loop-job-init
loop-job-init g c = record { made = fates_none _ _ _ _ c.new-owners.ensures.items c.new-outcomes.ensures.items; left = in_all _; same = (λ x le. refl) }

pub loop-job-preserved : goal.loop-job-preserved
loop-job-preserved g c =
    let before = c.loop-job.invariant in
    let taken = c.fate_of-reader.ensures in
    record {
      made = rw (c.in_ok-push.ensures.items, c.in_ok-push-2.ensures.items) (fates_push _ _ _ _ _ c.fate_of-reader.result before.made taken.0 (fate_in _ _ _ _ _ _ taken before.left (before.same c.loop-job.job (omega arith))));
      left = left_in _ _ _ _ _ _ taken before.left;
      same = (λ x le. left_times _ _ _ _ _ taken x le ∙ before.same x (omega arith));
    }
