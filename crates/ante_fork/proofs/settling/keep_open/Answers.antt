use Rattle.std.proofs.Common.{◌-◌, ◌<◌, length, sym, ◌∙◌, arith}
use Rattle.ante_fork.proofs.Pruned.{some_node}
use Rattle.ante_fork.proofs.Opening.{opening_on, opening_above, opening_gone, opening_full}
use Rattle.ante_fork.proofs.settling.keep_open.Goals as goal

pub loop-at-preserved-then-is_on : goal.loop-at-preserved-then-is_on
loop-at-preserved-then-is_on c =
    let some : 0 < c.loop-at.at = omega arith in
    let within : c.loop-at.at - 1 < length c.loop-at.nodes = omega (arith, c.loop-at.invariant.within) in
    let d = some_node c.loop-at.nodes (c.loop-at.at - 1) within in
    opening_on c.args.num c.args.genesis.now c.args.head.now c.args.nodes.now c.loop-at.nodes c.loop-at.next c.previous_at-previous.result c.loop-at.at d c.loop-at.invariant some
    (sym (c.is_on.ensures d) ∙ c.if-is_on.true) (c.previous_at-previous.ensures d)

pub loop-at-preserved-then-is_above : goal.loop-at-preserved-then-is_above
loop-at-preserved-then-is_above c =
    let some : 0 < c.loop-at.at = omega arith in
    let within : c.loop-at.at - 1 < length c.loop-at.nodes = omega (arith, c.loop-at.invariant.within) in
    let d = some_node c.loop-at.nodes (c.loop-at.at - 1) within in
    opening_above c.args.num c.args.genesis.now c.args.head.now c.args.nodes.now c.loop-at.nodes c.loop-at.next c.loop-at.at d c.loop-at.invariant some
    (sym (c.is_on.ensures d) ∙ c.if-is_on.false) (sym (c.is_above.ensures d) ∙ c.if-is_above.true)

pub loop-at-preserved : goal.loop-at-preserved
loop-at-preserved c =
    let some : 0 < c.loop-at.at = omega arith in
    let within : c.loop-at.at - 1 < length c.loop-at.nodes = omega (arith, c.loop-at.invariant.within) in
    let d = some_node c.loop-at.nodes (c.loop-at.at - 1) within in
    opening_gone c.args.num c.args.genesis.now c.args.head.now c.args.nodes.now c.loop-at.nodes c.take_out.new.self c.loop-at.next c.loop-at.at d c.loop-at.invariant some
    (sym (c.is_on.ensures d) ∙ c.if-is_on.false) (sym (c.is_above.ensures d) ∙ c.if-is_above.false) c.take_out.ensures

pub returns-then-is_full-clause-left : goal.returns-then-is_full-clause-left
returns-then-is_full-clause-left c =
    let some : 0 < c.loop-at.at = omega arith in
    let within : c.loop-at.at - 1 < length c.loop-at.nodes = omega (arith, c.loop-at.invariant.within) in
    let d = some_node c.loop-at.nodes (c.loop-at.at - 1) within in
    let is = opening_full c.args.num c.args.genesis.now c.args.head.now c.args.nodes.now c.loop-at.nodes c.loop-at.next c.loop-at.at d c.requires.first c.loop-at.invariant some
    (sym (c.is_on.ensures d) ∙ c.if-is_on.true) (c.is_full.ensures d c.if-is_full.true) in
    is.left

pub returns-then-is_full-clause-low : goal.returns-then-is_full-clause-low
returns-then-is_full-clause-low c =
    let some : 0 < c.loop-at.at = omega arith in
    let within : c.loop-at.at - 1 < length c.loop-at.nodes = omega (arith, c.loop-at.invariant.within) in
    let d = some_node c.loop-at.nodes (c.loop-at.at - 1) within in
    let is = opening_full c.args.num c.args.genesis.now c.args.head.now c.args.nodes.now c.loop-at.nodes c.loop-at.next c.loop-at.at d c.requires.first c.loop-at.invariant some
    (sym (c.is_on.ensures d) ∙ c.if-is_on.true) (c.is_full.ensures d c.if-is_full.true) in
    is.low
