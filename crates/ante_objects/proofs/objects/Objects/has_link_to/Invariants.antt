use Rattle.std.proofs.Common.{◌≡◌, option_map}
use Rattle.ante_objects.specs.Objects.{asks_for, has_link_to}
use Rattle.ante_objects.proofs.Scan.{any_from, left_from}
use Rattle.ante_state.specs.Orders.{link_order}
use Rattle.ante_objects.proofs.objects.Objects.has_link_to.Given as goal

abbrev pub invariant-loop-next : goal.invariant-loop-next
invariant-loop-next l = any_from link_order (asks_for l.level) l.self.top.links (option_map (λ e. (e.0, e.1.now)) l.next) ≡ has_link_to l.level l.self.top.links

abbrev pub decreases-loop-next : goal.decreases-loop-next
decreases-loop-next l = left_from link_order l.self.top.links (option_map (λ e. (e.0, e.1.now)) l.next)
