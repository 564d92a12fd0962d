use Rattle.std.proofs.Common.{◌≡◌, true, false, cond, ap, ◌∙◌}
use Rattle.std.specs.Ordering.{eq_by_cmp}
use Rattle.std.specs.FinMap.Entries.{find}
use Rattle.ante_undo.specs.Logs.{taken_back}
use Rattle.ante_undo.proofs.Sides.{found_back}
use Rattle.ante_undo.proofs.logs.replaced_at.Goals as goal

pub returns-then-is_eq : goal.returns-then-is_eq
returns-then-is_eq g c m =
    let tied : eq_by_cmp g.K.Ord.cmp c.args.key.now c.in-Some.entry.now.0 ≡ true = cc in
    c.loop-entry.invariant m
    ∙ ap (λ l. find g.K.Ord.cmp c.args.key.now (taken_back g.K.Ord.cmp m l)) c.in-Some.ensures.steps
    ∙ found_back g.K.Ord.cmp g.met.K.Ord.total c.args.key.now m c.in-Some.entry.now c.next.new.self
    ∙ ap (λ b. cond b c.in-Some.entry.now.1 (find g.K.Ord.cmp c.args.key.now (taken_back g.K.Ord.cmp m c.next.new.self))) tied

pub loop-entry-preserved : goal.loop-entry-preserved
loop-entry-preserved g c m =
    let apart : eq_by_cmp g.K.Ord.cmp c.args.key.now c.in-Some.entry.now.0 ≡ false = cc in
    c.loop-entry.invariant m
    ∙ ap (λ l. find g.K.Ord.cmp c.args.key.now (taken_back g.K.Ord.cmp m l)) c.in-Some.ensures.steps
    ∙ found_back g.K.Ord.cmp g.met.K.Ord.total c.args.key.now m c.in-Some.entry.now c.next.new.self
    ∙ ap (λ b. cond b c.in-Some.entry.now.1 (find g.K.Ord.cmp c.args.key.now (taken_back g.K.Ord.cmp m c.next.new.self))) apart
