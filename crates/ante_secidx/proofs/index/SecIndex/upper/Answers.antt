use Rattle.std.proofs.Common.{◌≤◌, ap, ◌∙◌, option_map}
use Rattle.ante_secidx.specs.Keys.{greatest_64}
use Rattle.ante_secidx.specs.Index.{index_of}
use Rattle.ante_secidx.proofs.Bounds.{upper_is, all_of, all_weaker}
use Rattle.ante_secidx.proofs.index.SecIndex.upper.Goals as goal

pub returns : goal.returns
returns g c =
    c.first_after.ensures
    ∙ ap (option_map (λ e. e.0)) (upper_is g.K.Ord.cmp c.args.key (index_of c.args.table c.args.self.now.top)
    (all_weaker (λ e p. p.1) _ (all_of (λ key primary. g.K.SecKey.fits key × (primary ≤ greatest_64)) c.args.table c.args.self.now.top c.rows-rows.ensures.fit)))
