use Rattle.std.proofs.Common.{ℕ, ◌∷◌, ap, ◌∙◌}
use Rattle.ante_wvalues.specs.FrameValues.{FrameValues}
use Rattle.ante_wmeaning.specs.PlainInstructions.{popped}
use Rattle.ante_wvalues.proofs.Regions.{kept_answer}
use Rattle.ante_wvalues.proofs.values.ValueStack.answer.Goals as goal

abbrev later : FrameValues → ℕ → FrameValues
later w x = record { below = w.below; locals = w.locals; stack = x ∷ popped w.stack }

pub returns : goal.returns
returns c =
    let v = c.args.self.now in
    c.put.ensures
    ∙ ap (λ w. later w c.args.value) c.keep.ensures
    ∙ ap (λ r. record { below = v.below; locals = v.locals; stack = c.args.value ∷ r }) (kept_answer c.height-height.result c.args.count v.stack c.height-height.ensures c.requires)
