use Rattle.std.proofs.Common.{T, sym, subst, option_map}
use Rattle.ante_answers.specs.Answers.{permissions_of}
use Rattle.ante_answers.specs.Walks.{Follows}
use Rattle.ante_answers.proofs.Permissions.{next_past}
use Rattle.ante_answers.proofs.accounts.permission_past.Goals as goal

pub returns : goal.returns
returns c =
    subst (Follows (permissions_of c.args.account c.args.objects.now.top.permissions) c.args.level) (sym c.up_to_account.ensures)
    (next_past c.args.account c.args.objects.now.top.permissions (subst T (sym c.next_permission.ensures.ordered) tt) c.args.level (option_map (λ e. (e.0, e.1.now)) c.next_permission.result) c.next_permission.ensures.next)
