use Rattle.std.proofs.Common.{◌≡◌, ◌-◌}
use Rattle.ante_pack.specs.Forms.{items_at}
use Rattle.ante_pack.proofs.Items.{with_front}
use Rattle.ante_pack.proofs.packed.read_items.Given as goal

abbrev pub invariant-loop : goal.invariant-loop
invariant-loop g l = with_front l.items (items_at g.T.Packed.form.read (l.count - l.counter) l.reader) ≡ items_at g.T.Packed.form.read l.count l.initial.reader
