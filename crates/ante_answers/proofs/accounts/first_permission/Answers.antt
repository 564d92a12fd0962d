use Rattle.std.proofs.Common.{T, sym, ap, subst, ◌∙◌, option_map}
use Rattle.std.specs.Option.{option_copied}
use Rattle.ante_answers.proofs.Permissions.{first_at, first_past}
use Rattle.ante_answers.proofs.accounts.first_permission.Goals as goal

pub returns-in-Some : goal.returns-in-Some
returns-in-Some c =
    first_at c.args.account c.args.objects.now.top.permissions (subst T (sym c.next_permission.ensures.ordered) tt) c.in-Some.row.now
    (sym (ap option_copied (sym c.in-Some.is) ∙ c.permission.ensures))

pub returns-in-None : goal.returns-in-None
returns-in-None c =
    c.up_to_account-after.ensures
    ∙ first_past c.args.account c.args.objects.now.top.permissions (subst T (sym c.next_permission.ensures.ordered) tt) (option_map (λ e. (e.0, e.1.now)) c.next_permission.result)
    (sym (ap option_copied (sym c.in-None.is) ∙ c.permission.ensures)) c.next_permission.ensures.next
