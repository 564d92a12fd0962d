use Rattle.std.proofs.Common.{T, sym, ap, subst, ◌∙◌}
use Rattle.ante_secidx.specs.Index.{only_at, index_of}
use Rattle.ante_secidx.proofs.Bounds.{exact_is}
use Rattle.ante_secidx.proofs.index.SecIndex.exact.Goals as goal

pub returns : goal.returns
returns g c =
    c.only_at.ensures ∙ ap (only_at g.K.Ord.cmp c.args.key) c.lower.ensures
    ∙ exact_is g.K.Ord.cmp c.total_order.ensures c.args.key (index_of c.args.table c.args.self.now.top) (subst T (sym c.is_ordered-ordered.ensures) tt)
