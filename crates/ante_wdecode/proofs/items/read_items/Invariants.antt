use Rattle.std.proofs.Common.{◌≡◌, ◌-◌}
use Rattle.ante_wdecode.specs.Rules.{items_at}
use Rattle.ante_wdecode.proofs.Fronts.{with_front}
use Rattle.ante_wdecode.proofs.items.read_items.Given as goal

abbrev pub invariant-loop : goal.invariant-loop
invariant-loop g l = with_front l.items (items_at g.T.Item.rule.read (l.count - l.counter) l.rest) ≡ items_at g.T.Item.rule.read l.count l.fn.bytes
