use Rattle.std.proofs.Common.{◌≡◌, option_map}
use Rattle.ante_objects.specs.Objects.{is_child, has_child}
use Rattle.ante_objects.proofs.Scan.{any_from, left_from}
use Rattle.ante_state.specs.Orders.{level_order}
use Rattle.ante_objects.proofs.objects.Objects.has_child.Given as goal

abbrev pub invariant-loop-next : goal.invariant-loop-next
invariant-loop-next l = any_from level_order (is_child l.level) l.self.top.permissions (option_map (λ e. (e.0, e.1.now)) l.next) ≡ has_child l.level l.self.top.permissions

abbrev pub decreases-loop-next : goal.decreases-loop-next
decreases-loop-next l = left_from level_order l.self.top.permissions (option_map (λ e. (e.0, e.1.now)) l.next)
