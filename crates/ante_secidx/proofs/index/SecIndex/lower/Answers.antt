use Rattle.std.proofs.Common.{ap, ◌∙◌, option_map}
use Rattle.ante_secidx.specs.Index.{index_of}
use Rattle.ante_secidx.proofs.Bounds.{lower_is}
use Rattle.ante_secidx.proofs.index.SecIndex.lower.Goals as goal

pub returns : goal.returns
returns g c = c.first_from.ensures ∙ ap (option_map (λ e. e.0)) (lower_is g.K.Ord.cmp c.args.key (index_of c.args.table c.args.self.now.top))
