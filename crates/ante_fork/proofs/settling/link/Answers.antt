use Rattle.std.proofs.Common.{◌≡◌, ◌<◌, length, arith, sym, ◌∙◌, subst, take, true, false, slice_index_or}
use Rattle.ante_fork.specs.Shown.{test_on}
use Rattle.ante_fork.specs.Finality.{always}
use Rattle.ante_fork.proofs.Pruned.{some_node, sifted_stays, sifted_goes, sifted_end}
use Rattle.ante_fork.proofs.Low.{linked_start}
use Rattle.ante_fork.proofs.settling.link.Goals as goal

pub loop-at-preserved-then-linked_at : goal.loop-at-preserved-then-linked_at
loop-at-preserved-then-linked_at c =
    let within : c.loop-at.at < length c.loop-at.nodes = omega arith in
    let d = some_node c.loop-at.nodes c.loop-at.at within in
    sifted_stays always c.args.genesis.now c.args.nodes.now c.loop-at.nodes c.loop-at.at d c.loop-at.invariant within
    (subst (λ xs. true ≡ test_on always c.args.genesis.now (take c.loop-at.at xs) (slice_index_or xs c.loop-at.at d)) c.as_slice.ensures.value (sym c.if-linked_at.true ∙ c.linked_at.ensures d))

pub returns : goal.returns
returns c = sifted_end always c.args.genesis.now c.args.nodes.now c.loop-at.nodes c.loop-at.at c.loop-at.invariant (omega arith)

pub loop-at-init : goal.loop-at-init
loop-at-init c = linked_start c.args.genesis.now c.args.nodes.now c.args.from c.requires.within c.requires.low

pub loop-at-preserved : goal.loop-at-preserved
loop-at-preserved c =
    let within : c.loop-at.at < length c.loop-at.nodes = omega arith in
    let d = some_node c.loop-at.nodes c.loop-at.at within in
    sifted_goes always c.args.genesis.now c.args.nodes.now c.loop-at.nodes c.take_out.new.self c.loop-at.at d c.loop-at.invariant within
    (subst (λ xs. false ≡ test_on always c.args.genesis.now (take c.loop-at.at xs) (slice_index_or xs c.loop-at.at d)) c.as_slice.ensures.value (sym c.if-linked_at.false ∙ c.linked_at.ensures d)) c.take_out.ensures
