use Rattle.std.proofs.Common.{Some, sym, ap, ◌∙◌}
use Rattle.ante_wrun.proofs.Landing.{there, own_label}
use Rattle.ante_wrun.proofs.blocks.inner_label.Goals as goal

pub unreachable-requires : goal.unreachable-requires
unreachable-requires c = there c.args.depth c.args.frames.now c.requires.0 c.requires.1 (sym c.at.ensures ∙ c.in_default.is)

pub returns-in-Call : goal.returns-in-Call
returns-in-Call c = own_label c.args.depth c.args.frames.now c.requires.0 _ _ _ _ _ c.requires.1 (sym c.at.ensures ∙ c.in-Some.is ∙ ap Some c.in-Call.is)
