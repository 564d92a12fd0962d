use Rattle.std.proofs.Common.{◌≡◌, T, true, not, sym, subst}
use Rattle.std.specs.Ordering.{nat_cmp}
use Rattle.ante_ram.specs.Usage.{is_free}
use Rattle.ante_ram.proofs.Walks.{all_past, next_holds, is_true}
use Rattle.ante_ram.proofs.usage.Usage.next_usage.Goals as goal

pub returns-in-Some-clause-counted : goal.returns-in-Some-clause-counted
returns-in-Some-clause-counted c =
    subst (λ n. not (is_free n.1 n.2) ≡ true) (sym c.shown.ensures)
    (is_true _ (next_holds (λ a b. nat_cmp a.0 b.0) (λ e. T (not (is_free e.1.used e.1.quota))) _ (c.in-Some.account.now, c.in-Some.share.now) c.in-Some.ensures.next
    (all_past (λ a b. nat_cmp a.0 b.0) (λ e. T (not (is_free e.1.used e.1.quota))) c.args.after _
    (rw (← c.self-inside-inside.view_is) at c.self-inside.invariant.top.counted))))
