use Rattle.std.proofs.Common.{ap, ◌∙◌, drop, drop-drop, arith}
use Rattle.ante_undo.specs.Logs.{named_in_all}
use Rattle.ante_undo.proofs.Moves.{released_again}
use Rattle.ante_undo.proofs.logs.close.Goals as goal

pub loop-preserved : goal.loop-preserved
loop-preserved g c = record {
  logs = c.pop_front.ensures.rest ∙ ap (drop 1) c.loop.invariant.logs ∙ drop-drop 1 c.loop.counter c.args.logs.now ∙ ap (λ n. drop n c.args.logs.now) (omega arith);
  map = c.release.ensures.map ∙ c.loop.invariant.map;
  released = released_again c.loop.invariant.released c.release.ensures.released (λ q. ap (named_in_all g.K.Ord.cmp q) c.in-Some.ensures.items);
  ordered = c.release.ensures.ordered;
}
