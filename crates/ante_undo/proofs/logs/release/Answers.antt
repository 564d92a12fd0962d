use Rattle.std.proofs.Common.{refl, ap, ◌∙◌}
use Rattle.ante_undo.specs.Logs.{named_in}
use Rattle.ante_undo.proofs.Moves.{none_released, first_left, forgotten, forgotten_live, released_again, all_released}
use Rattle.ante_undo.proofs.logs.release.Goals as goal

pub loop-change-init : goal.loop-change-init
loop-change-init g c = record { map = refl; released = none_released c.args.slots.now.entries (λ q. named_in g.K.Ord.cmp q c.args.log); ordered = c.requires.ordered }

pub forget-requires : goal.forget-requires
forget-requires g c = record { named = first_left g.met.K.Ord.total c.in-Some.ensures.items c.loop-change.invariant.released (c.requires.named c.in-Some.change.0) }

pub loop-change-preserved : goal.loop-change-preserved
loop-change-preserved g c = record {
  map = forgotten_live g.met.K.Ord.total c.requires.exact c.loop-change.slots.entries c.forget.new.slots.entries c.loop-change.invariant.ordered c.forget.ensures.ordered c.in-Some.change.0 c.forget.ensures.slots ∙ c.loop-change.invariant.map;
  released = released_again c.loop-change.invariant.released
      (forgotten g.met.K.Ord.total c.requires.exact c.loop-change.slots.entries c.forget.new.slots.entries c.loop-change.invariant.ordered c.forget.ensures.ordered c.in-Some.change.0 _ c.forget.ensures.slots
      (first_left g.met.K.Ord.total c.in-Some.ensures.items c.loop-change.invariant.released (c.requires.named c.in-Some.change.0)))
      (λ q. ap (named_in g.K.Ord.cmp q) c.in-Some.ensures.items);
  ordered = c.forget.ensures.ordered;
}

pub loop-change-preserved-in-Some : goal.loop-change-preserved-in-Some
loop-change-preserved-in-Some g c = record {
  map = forgotten_live g.met.K.Ord.total c.requires.exact c.loop-change.slots.entries c.forget.new.slots.entries c.loop-change.invariant.ordered c.forget.ensures.ordered c.in-Some.change.0 c.forget.ensures.slots ∙ c.loop-change.invariant.map;
  released = released_again c.loop-change.invariant.released
      (forgotten g.met.K.Ord.total c.requires.exact c.loop-change.slots.entries c.forget.new.slots.entries c.loop-change.invariant.ordered c.forget.ensures.ordered c.in-Some.change.0 _ c.forget.ensures.slots
      (first_left g.met.K.Ord.total c.in-Some.ensures.items c.loop-change.invariant.released (c.requires.named c.in-Some.change.0)))
      (λ q. ap (named_in g.K.Ord.cmp q) c.in-Some.ensures.items);
  ordered = c.forget.ensures.ordered;
}

pub returns-clause-released : goal.returns-clause-released
returns-clause-released g c = all_released c.loop-change.invariant.released (λ q. ap (named_in g.K.Ord.cmp q) c.in_default.ensures.cases.0)
