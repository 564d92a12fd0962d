use Rattle.std.proofs.Common.{◌<◌, T, sym, ap, subst, ◌∙◌, option_map}
use Rattle.std.specs.FinMap.Entries.{is_sorted}
use Rattle.std.proofs.lemmas.Bool.{ltb-true}
use Rattle.ante_undo.specs.Entries.{entry_from}
use Rattle.ante_objects.specs.Objects.{is_child}
use Rattle.ante_objects.proofs.Scan.{any_from, start_any, step_any, step_left, none_left}
use Rattle.ante_state.specs.Orders.{level_order}
use Rattle.ante_objects.proofs.Holders.{no_child_before, no_child_past, no_child_there}
use Rattle.ante_objects.proofs.objects.Objects.has_child.Goals as goal

pub loop-next-init : goal.loop-next-init
loop-next-init c =
    ap (any_from level_order (is_child c.args.level) c.args.self.now.top.permissions) (c.keyed-next.ensures ∙ c.at_or_after.ensures.nearest ∙ ap (entry_from level_order (record { actor = c.args.level.actor; permission = record { 0 = 0 } })) c.permissions.ensures)
    ∙ start_any level_order c.total_order.ensures (is_child c.args.level) (record { actor = c.args.level.actor; permission = record { 0 = 0 } }) (no_child_before c.args.level) c.args.self.now.top.permissions
    (subst T (sym (ap (is_sorted level_order) (sym c.permissions.ensures) ∙ c.at_or_after.ensures.ordered)) tt)

pub returns-then-is_past : goal.returns-then-is_past
returns-then-is_past c =
    let above : c.args.level.actor.0 < c.in-Some.at.actor.0 = ltb-true c.args.level.actor.0 c.in-Some.at.actor.0 (sym c.is_past.ensures ∙ c.if-is_past.true) in
    sym
    (none_left level_order c.total_order.ensures (is_child c.args.level) c.args.self.now.top.permissions (option_map (λ e. (e.0, e.1.now)) c.loop-next.next) (c.in-Some.at, c.in-Some.row.now)
    (no_child_past c.args.level c.in-Some.at above)
    (subst T (sym (ap (is_sorted level_order) (sym c.permissions.ensures) ∙ c.at_or_after.ensures.ordered)) tt)
    (ap (option_map (λ e. (e.0, e.1.now))) c.in-Some.is) (no_child_there c.args.level (c.in-Some.at, c.in-Some.row.now) above))
    ∙ c.loop-next.invariant

pub loop-next-smaller : goal.loop-next-smaller
loop-next-smaller c =
    step_left level_order c.total_order.ensures (is_child c.args.level) c.args.self.now.top.permissions (option_map (λ e. (e.0, e.1.now)) c.loop-next.next) (option_map (λ e. (e.0, e.1.now)) c.next_permission-next.result) (c.in-Some.at, c.in-Some.row.now)
    (subst T (sym c.next_permission-next.ensures.ordered) tt) (ap (option_map (λ e. (e.0, e.1.now))) c.in-Some.is) c.next_permission-next.ensures.next

pub loop-next-preserved : goal.loop-next-preserved
loop-next-preserved c =
    step_any level_order c.total_order.ensures (is_child c.args.level) c.args.self.now.top.permissions (option_map (λ e. (e.0, e.1.now)) c.loop-next.next) (option_map (λ e. (e.0, e.1.now)) c.next_permission-next.result) (c.in-Some.at, c.in-Some.row.now)
    (subst T (sym c.next_permission-next.ensures.ordered) tt) (ap (option_map (λ e. (e.0, e.1.now))) c.in-Some.is) (sym c.is_child.ensures ∙ c.if-is_child.false) c.next_permission-next.ensures.next
    ∙ c.loop-next.invariant
