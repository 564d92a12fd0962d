use Rattle.std.proofs.Common.{length, ◌-◌, option_map}
use Rattle.ante_answers.specs.Answers.{permission_view, permissions_of}
use Rattle.ante_answers.specs.Walks.{IsFront}
use Rattle.ante_answers.proofs.accounts.permission_views.Given as goal

abbrev pub invariant-loop-next : goal.invariant-loop-next
invariant-loop-next l = IsFront permission_view (permissions_of l.account l.objects.top.permissions) l.given (option_map (λ e. (e.0, e.1.now)) l.next)

abbrev pub decreases-loop-next : goal.decreases-loop-next
decreases-loop-next l = length (permissions_of l.account l.objects.top.permissions) - length l.given
