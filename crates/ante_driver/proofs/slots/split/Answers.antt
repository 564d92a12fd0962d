use Rattle.std.proofs.Common.{refl, ap, ◌∙◌, take, drop, List, ℕ, ◌++◌}
use Rattle.ante_driver.specs.Slots.{Splits}
use Rattle.ante_driver.proofs.Places.{changes}
use Rattle.ante_driver.proofs.slots.split.Goals as goal

pub returns : goal.returns
returns c = changes c.args.at c.args.slots.now.items _ c.index_mut-slot.result.now _ (Splits c.extend_from_slice.new.self.items c.args.count c.args.close) c.requires.within c.index_mut-slot.ensures.value refl (record {
  front_is = c.in_ok-extend_from_slice.ensures.items ∙ ap (λ (l : List ℕ). l ++ c.split_at.result.0.now) c.new-taken.ensures.items ∙ c.split_at.ensures.front ∙ ap (take c.args.count) c.deref.ensures.value;
  held = c.in_ok-extend_from_slice-2.ensures.items ∙ ap (λ (l : List ℕ). l ++ c.split_at.result.1.now) c.new-left.ensures.items ∙ c.split_at.ensures.back ∙ ap (drop c.args.count) c.deref.ensures.value;
  output = refl;
  is_open = refl;
  is_last = refl;
})
