use Rattle.std.proofs.Common.{◌≡◌, ◌-◌}
use Rattle.ante_wdecode.specs.Rules.{items_at}
use Rattle.ante_wdecode.specs.Modules.{sized_type}
use Rattle.ante_wdecode.proofs.Fronts.{with_front}
use Rattle.ante_wdecode.proofs.types.sized_items.Given as goal

abbrev pub invariant-loop : goal.invariant-loop
invariant-loop l = with_front l.items (items_at (sized_type l.of_table).read (l.count - l.counter) l.rest) ≡ items_at (sized_type l.of_table).read l.count l.fn.bytes
