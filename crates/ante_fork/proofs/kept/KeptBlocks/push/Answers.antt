use Rattle.std.proofs.Common.{◌≡◌, ◌++◌, ◌∷◌, [], None, refl, ap, ◌∙◌, sym, subst}
use Rattle.ante_fork.specs.declared.node.Node.{Node}
use Rattle.ante_fork.specs.Tree.{id_of, find_block}
use Rattle.ante_fork.specs.Shown.{newest}
use Rattle.ante_fork.proofs.Branches.{newest_snoc}
use Rattle.ante_fork.proofs.Finding.{found_put}
use Rattle.ante_fork.proofs.kept.KeptBlocks.push.Goals as goal

pub invariant_of-self-2 : goal.invariant_of-self-2
invariant_of-self-2 c =
    let node : Node = record { id = c.args.id; block = c.in_ok-block.block } in
    let nodes = c.self.inside.nodes.items in
    found_put c.self.inside.by_id c.insert.new.self c.in_ok-copy.copy node c.args.id nodes c.push_reserved.new.self.items c.self.invariant
    (c.push_reserved.ensures.items ∙ ap (λ xs. xs ++ node ∷ []) c.reserve.ensures.items) c.in_ok-copy.ensures.cases
    (c.requires.id ∙ ap id_of (sym c.in_ok-block.ensures.ok)) refl
    (subst (λ ns. find_block c.args.id (newest ns) ≡ None) (sym c.self.view_is) c.requires.new) c.in_ok-insert.ensures.updates.0

pub returns-clause-ok : goal.returns-clause-ok
returns-clause-ok c =
    let node : Node = record { id = c.args.id; block = c.in_ok-block.block } in
    ap newest (c.push_reserved.ensures.items ∙ ap (λ xs. xs ++ node ∷ []) c.reserve.ensures.items)
    ∙ newest_snoc c.self.inside.nodes.items node
    ∙ ap (λ b. b ∷ newest c.self.inside.nodes.items) c.in_ok-block.ensures.ok
    ∙ ap (λ ns. c.args.block ∷ newest ns) c.self.view_is
