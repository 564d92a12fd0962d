use Rattle.std.proofs.Common.{◌≡◌, ◌<◌, false, ap, sym, ◌∙◌, arith}
use Rattle.ante_types.specs.Ids.{block_num}
use Rattle.ante_verdicts.specs.Judge.{Judge}
use Rattle.ante_control.specs.Pushing.{is_sealed}
use Rattle.ante_control.proofs.Entering.{out_seal}
use Rattle.ante_control.proofs.Standing.{entered_off, entered_gone}
use Rattle.ante_control.proofs.enter.enter.Goals as goal

pub drop_block-requires : goal.drop_block-requires
drop_block-requires g c =
    let small : block_num c.args.block.header.previous < 4294967295 = omega arith in
    entered_off c.args.tree.now c.add.new.self c.args.block c.block_id-id.result c.head-head.ensures.sound c.in_ok-add.ensures.answer small c.block_id-id.ensures c.in_ok-add.ensures.ok

pub returns-then-not-accepted : goal.returns-then-not-accepted
returns-then-not-accepted g c =
    let judge : Judge = g.V.Verdicts.judge c.args.verdicts.now in
    let denied : is_sealed judge c.args.block ≡ false =
    ap (λ i. judge.accepts c.args.block.header.producer.0 i c.args.block.seal) (sym c.block_id-id.ensures)
    ∙ ap (λ seal. judge.accepts c.args.block.header.producer.0 c.block_id-id.result seal) (sym c.as_slice.ensures)
    ∙ sym c.block_ok-accepted.ensures ∙ c.if-not-accepted.true in
    let small : block_num c.args.block.header.previous < 4294967295 = omega arith in
    out_seal judge c.args.tree.now c.drop_block.new.self c.args.block c.in_ok-add.ensures.answer denied
    (entered_gone c.args.tree.now c.add.new.self c.drop_block.new.self c.args.block c.block_id-id.result c.head-head.ensures.sound c.in_ok-add.ensures.answer small c.block_id-id.ensures c.in_ok-add.ensures.ok c.drop_block.ensures)
