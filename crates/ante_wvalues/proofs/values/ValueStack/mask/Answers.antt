use Rattle.std.proofs.Common.{◌≡◌, ℕ, ◌-◌, List, length, refl, ap, ◌∙◌}
use Rattle.ante_wtree.specs.declared.instructions.ValueKind.{ValueKind}
use Rattle.ante_wvalues.proofs.Regions.{view}
use Rattle.ante_wvalues.proofs.Masks.{masked_from, masked_arguments, masked_rest, masked_frames}
use Rattle.ante_wvalues.proofs.values.ValueStack.mask.Goals as goal

changed : (xs ys : List ℕ) (n : ℕ) (kinds : List ValueKind) → n ≡ length xs → ys ≡ masked_from xs (n - 1 - length kinds) kinds → ys ≡ masked_from xs (length xs - 1 - length kinds) kinds
changed xs ys n kinds e y = y ∙ ap (λ k. masked_from xs (k - 1 - length kinds) kinds) e

pub returns-clause-arguments : goal.returns-clause-arguments
returns-clause-arguments c = masked_arguments c.self.inside.items.items c.mask_from.new.values.items c.self.inside.base c.self.inside.floor c.args.self.now (view c.mask_from.new.values.items c.self.inside.base c.self.inside.floor) c.self.view_is refl c.self.invariant.0 c.self.invariant.1 c.mask_from.ensures.length c.args.kinds.now c.requires (changed c.self.inside.items.items c.mask_from.new.values.items c.len.result c.args.kinds.now c.len.ensures c.mask_from.ensures.values)

pub returns-clause-rest : goal.returns-clause-rest
returns-clause-rest c = masked_rest c.self.inside.items.items c.mask_from.new.values.items c.self.inside.base c.self.inside.floor c.args.self.now (view c.mask_from.new.values.items c.self.inside.base c.self.inside.floor) c.self.view_is refl c.self.invariant.0 c.self.invariant.1 c.mask_from.ensures.length c.args.kinds.now c.requires (changed c.self.inside.items.items c.mask_from.new.values.items c.len.result c.args.kinds.now c.len.ensures c.mask_from.ensures.values)

pub returns-clause-frames : goal.returns-clause-frames
returns-clause-frames c = masked_frames c.self.inside.items.items c.mask_from.new.values.items c.self.inside.base c.self.inside.floor c.args.self.now (view c.mask_from.new.values.items c.self.inside.base c.self.inside.floor) c.self.view_is refl c.self.invariant.0 c.self.invariant.1 c.mask_from.ensures.length c.args.kinds.now c.requires (changed c.self.inside.items.items c.mask_from.new.values.items c.len.result c.args.kinds.now c.len.ensures c.mask_from.ensures.values)
