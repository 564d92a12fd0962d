use Rattle.std.specs.Ordering.{nat_cmp}
use Rattle.ante_ram.proofs.Sums.{written}
use Rattle.ante_ram.proofs.usage.Usage.write.Goals as goal

pub invariant_of-self-inside-2 : goal.invariant_of-self-inside-2
invariant_of-self-inside-2 c =
    written (λ a b. nat_cmp a.0 b.0) c.total_order.ensures (record { account = c.args.account; used = c.args.others }) c.args.share.used c.args.share.quota _ c.put_rest.new.parts c.put_share.new.parts c.put_share.result
    c.in_ok-put_rest.ensures.ok c.put_share.ensures.ok c.put_share.ensures.err (rw (← c.self.view_is, ← c.self-inside.view_is) at c.requires.others) c.requires.small c.self-inside.invariant
