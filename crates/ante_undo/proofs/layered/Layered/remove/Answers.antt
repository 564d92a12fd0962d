use Rattle.std.proofs.Common.{◌≡◌, false, true≢false, is_some, Option, Some, None, option_map, sym, ap}
use Rattle.ante_undo.specs.Stack.{with_top}
use Rattle.ante_undo.proofs.Entries.{without_absent}
use Rattle.ante_undo.proofs.layered.Layered.remove.Goals as goal

-- what is read through a reference that is not there is nothing
nothing_read : {X Y : Type 0} (f : X → Y) (o : Option X) (p : Option Y) → option_map f o ≡ p → is_some o ≡ false → p ≡ None
nothing_read f None p read none = sym read
nothing_read f (Some x) p read none = absurd (true≢false none)

pub returns-then-is_none-clause-ok : goal.returns-then-is_none-clause-ok
returns-then-is_none-clause-ok g c =
    ap (λ m. with_top m c.args.self.now)
    (sym (without_absent g.K.Ord.cmp c.args.key.now c.args.self.now.top (nothing_read (λ v. v.now) c.get.result _ c.get.ensures c.if-is_none.ensures)))
