use Rattle.std.proofs.Common.{ap, ◌∙◌}
use Rattle.ante_wtree.specs.Trees.{tree_of}
use Rattle.ante_wmeaning.specs.Instantiation.{named_apply}
use Rattle.ante_wmeaning.proofs.Reached.{apply_by_name}
use Rattle.ante_wrun.proofs.instance.apply_index.Goals as goal

pub returns : goal.returns
returns c = c.named_apply.ensures ∙ ap named_apply c.as_slice.ensures ∙ apply_by_name (tree_of c.args.module.now) c.requires
