use Rattle.std.proofs.Common.{◌≡◌, ◌<◌, length, arith, sym, ◌∙◌, subst, take, true, false, slice_index_or}
use Rattle.ante_fork.specs.Shown.{test_on}
use Rattle.ante_fork.specs.Tree.{other_than}
use Rattle.ante_fork.proofs.Pruned.{some_node, sifted_stays, sifted_goes, sifted_end}
use Rattle.ante_fork.proofs.walks.prune.Goals as goal

pub loop-at-preserved-then-stays_at : goal.loop-at-preserved-then-stays_at
loop-at-preserved-then-stays_at c =
    let within : c.loop-at.at < length c.loop-at.nodes = omega arith in
    let d = some_node c.loop-at.nodes c.loop-at.at within in
    sifted_stays (other_than c.args.id.now) c.args.genesis.now c.args.nodes.now c.loop-at.nodes c.loop-at.at d c.loop-at.invariant within
    (subst (λ xs. true ≡ test_on (other_than c.args.id.now) c.args.genesis.now (take c.loop-at.at xs) (slice_index_or xs c.loop-at.at d)) c.as_slice.ensures.value (sym c.if-stays_at.true ∙ c.stays_at.ensures d))

pub returns : goal.returns
returns c = sifted_end (other_than c.args.id.now) c.args.genesis.now c.args.nodes.now c.loop-at.nodes c.loop-at.at c.loop-at.invariant (omega arith)

pub loop-at-preserved : goal.loop-at-preserved
loop-at-preserved c =
    let within : c.loop-at.at < length c.loop-at.nodes = omega arith in
    let d = some_node c.loop-at.nodes c.loop-at.at within in
    sifted_goes (other_than c.args.id.now) c.args.genesis.now c.args.nodes.now c.loop-at.nodes c.take_out.new.self c.loop-at.at d c.loop-at.invariant within
    (subst (λ xs. false ≡ test_on (other_than c.args.id.now) c.args.genesis.now (take c.loop-at.at xs) (slice_index_or xs c.loop-at.at d)) c.as_slice.ensures.value (sym c.if-stays_at.false ∙ c.stays_at.ensures d)) c.take_out.ensures
