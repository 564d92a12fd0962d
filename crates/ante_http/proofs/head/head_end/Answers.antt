use Rattle.std.proofs.Common.{◌≡◌, ℕ, ap, sym, ◌∙◌, below_more, false}
use Rattle.ante_http.specs.HeadEnds.{leading, ends_at}
use Rattle.ante_http.proofs.head.head_end.Goals as goal

pub loop-at-preserved : goal.loop-at-preserved
loop-at-preserved c =
    let p : ends_at c.args.bytes.now (leading c.args.bytes.now) c.loop-at.at ≡ ends_at c.args.bytes.now c.leading-from.result c.loop-at.at =
    ap (λ (n : ℕ). ends_at c.args.bytes.now n c.loop-at.at) (sym c.leading-from.ensures.count) in
    let h : ends_at c.args.bytes.now (leading c.args.bytes.now) c.loop-at.at ≡ false = p ∙ sym c.ends_at.ensures ∙ c.if-ends_at.false in
    below_more (λ k. ends_at c.args.bytes.now (leading c.args.bytes.now) k ≡ false) c.loop-at.at c.loop-at.invariant h
