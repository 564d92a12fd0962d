use Rattle.std.proofs.Common.{◌-◌, ◌<◌, length, option_map, sym, ap, subst}
use Rattle.ante_answers.specs.Answers.{permission_view, permissions_of}
use Rattle.ante_answers.specs.Walks.{IsFront}
use Rattle.ante_answers.proofs.Fronts.{front_begins, front_grows, front_is_all, fewer_left}
use Rattle.ante_answers.proofs.accounts.permission_views.Goals as goal

pub loop-next-init : goal.loop-next-init
loop-next-init c =
    let all = permissions_of c.args.account c.args.objects.now.top.permissions in
    subst (λ given. IsFront permission_view all given (option_map (λ e. (e.0, e.1.now)) c.first_permission-next.result)) (sym c.new-given.ensures)
    (front_begins permission_view all (option_map (λ e. (e.0, e.1.now)) c.first_permission-next.result) c.first_permission-next.ensures)

pub loop-next-smaller : goal.loop-next-smaller
loop-next-smaller c =
    let all = permissions_of c.args.account c.args.objects.now.top.permissions in
    let standing = subst (IsFront permission_view all c.loop-next.given) (ap (option_map (λ e. (e.0, e.1.now))) c.in-Some.is) c.loop-next.invariant in
    subst (λ given. length all - length given < length all - length c.loop-next.given) (sym c.in_ok-push.ensures.ok)
    (fewer_left permission_view all c.loop-next.given (c.in-Some.level, c.in-Some.row.now) c.in_ok-view.view standing)

pub loop-next-preserved : goal.loop-next-preserved
loop-next-preserved c =
    let all = permissions_of c.args.account c.args.objects.now.top.permissions in
    let standing = subst (IsFront permission_view all c.loop-next.given) (ap (option_map (λ e. (e.0, e.1.now))) c.in-Some.is) c.loop-next.invariant in
    subst (λ given. IsFront permission_view all given (option_map (λ e. (e.0, e.1.now)) c.permission_past-next.result)) (sym c.in_ok-push.ensures.ok)
    (front_grows permission_view all c.loop-next.given c.in-Some.level c.in-Some.row.now c.in_ok-view.view (option_map (λ e. (e.0, e.1.now)) c.permission_past-next.result) standing c.in_ok-view.ensures c.permission_past-next.ensures)

pub returns : goal.returns
returns c =
    let all = permissions_of c.args.account c.args.objects.now.top.permissions in
    front_is_all permission_view all c.loop-next.given
    (subst (IsFront permission_view all c.loop-next.given) (ap (option_map (λ e. (e.0, e.1.now))) c.in_default.is) c.loop-next.invariant)
