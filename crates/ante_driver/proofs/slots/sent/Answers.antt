use Rattle.std.proofs.Common.{refl, ap, ◌∙◌, drop, List, ℕ, ◌++◌}
use Rattle.ante_driver.specs.Slots.{Sends}
use Rattle.ante_driver.proofs.Places.{changes}
use Rattle.ante_driver.proofs.slots.sent.Goals as goal

pub returns : goal.returns
returns c = changes c.args.at c.args.slots.now.items _ c.index_mut-slot.result.now _ (Sends c.args.count) c.requires.within c.index_mut-slot.ensures.value refl (record {
  held = refl;
  output = c.in_ok-extend_from_slice.ensures.items ∙ ap (λ (l : List ℕ). l ++ c.split_at.result.1.now) c.new-left.ensures.items ∙ c.split_at.ensures.back ∙ ap (drop c.args.count) c.deref.ensures.value;
  is_open = refl;
  is_last = refl;
})
