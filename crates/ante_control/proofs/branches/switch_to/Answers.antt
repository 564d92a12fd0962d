use Rattle.std.proofs.Common.{◌+◌, sym, subst, ◌∙◌, arith, Err}
use Rattle.ante_verdicts.specs.Judge.{Judge}
use Rattle.ante_fork.specs.Tree.{branch, meeting}
use Rattle.ante_control.specs.Chosen.{play_of}
use Rattle.ante_control.specs.Tabled.{Holds, worlds}
use Rattle.ante_control.specs.Running.{BranchEnds, IsReplaced}
use Rattle.ante_control.proofs.Worlds.{replaced, brought_back}
use Rattle.ante_control.proofs.Switches.{never_path, is_way, shelved_holds, ends_any, shelf_some}
use Rattle.ante_control.proofs.branches.switch_to.Goals as goal

pub unreachable-requires : goal.unreachable-requires
unreachable-requires g c = never_path c.args.tree.now c.args.id.now c.requires.kept c.in_default.ensures

pub shelve-requires-clause-from : goal.shelve-requires-clause-from
shelve-requires-clause-from g c =
    let w = is_way c.args.tree.now c.args.id.now c.in-Some.path c.head-head.ensures.sound c.requires.kept c.in-Some.ensures in
    omega (arith, w.fork, c.requires.deep)

pub shelve-requires-clause-to : goal.shelve-requires-clause-to
shelve-requires-clause-to g c =
    let w = is_way c.args.tree.now c.args.id.now c.in-Some.path c.head-head.ensures.sound c.requires.kept c.in-Some.ensures in
    omega (arith, w.fork, w.head, w.below, c.requires.at_head)

pub run_branch-requires-clause-above : goal.run_branch-requires-clause-above
run_branch-requires-clause-above g c =
    let w = is_way c.args.tree.now c.args.id.now c.in-Some.path c.head-head.ensures.sound c.requires.kept c.in-Some.ensures in
    w.above

pub run_branch-requires-clause-at : goal.run_branch-requires-clause-at
run_branch-requires-clause-at g c =
    let w = is_way c.args.tree.now c.args.id.now c.in-Some.path c.head-head.ensures.sound c.requires.kept c.in-Some.ensures in
    c.shelve.ensures.stack.revision ∙ w.fork

pub drop_shelf-requires-clause-shelf : goal.drop_shelf-requires-clause-shelf
drop_shelf-requires-clause-shelf g c =
    shelf_some c.in-Some.path.fork.num (g.M.Worlds.stack c.args.machine.now) (g.M.Worlds.stack c.shelve.new.self) c.run_branch.ensures.grown.0 (g.M.Worlds.stack c.run_branch.new.machine)
    c.shelve.ensures.stack c.run_branch.ensures.grown.1

pub unshelve-requires-clause-shelf : goal.unshelve-requires-clause-shelf
unshelve-requires-clause-shelf g c =
    shelf_some c.in-Some.path.fork.num (g.M.Worlds.stack c.args.machine.now) (g.M.Worlds.stack c.shelve.new.self) c.run_branch.ensures.grown.0 (g.M.Worlds.stack c.run_branch.new.machine)
    c.shelve.ensures.stack c.run_branch.ensures.grown.1

pub returns-in-Ok-clause-ok : goal.returns-in-Ok-clause-ok
returns-in-Ok-clause-ok g c =
    let w = is_way c.args.tree.now c.args.id.now c.in-Some.path c.head-head.ensures.sound c.requires.kept c.in-Some.ensures in
    let r =
    replaced c.in-Some.path.fork.num c.in-Some.path.above (g.M.Worlds.stack c.args.machine.now) (g.M.Worlds.stack c.shelve.new.self) (g.M.Worlds.stack c.run_branch.new.machine)
    (omega (arith, w.fork, w.head, w.below, c.requires.at_head)) (omega (arith, w.fork, c.requires.deep)) c.shelve.ensures.stack c.in-Ok.ensures.ok in
    subst (λ n. IsReplaced n (g.M.Worlds.stack c.args.machine.now) (g.M.Worlds.stack c.drop_shelf.new.self)) (sym w.num)
    (subst (λ s. IsReplaced (c.in-Some.path.fork.num + c.in-Some.path.above) (g.M.Worlds.stack c.args.machine.now) s) (sym c.drop_shelf.ensures.stack) r)

pub returns-in-Ok-clause-tables : goal.returns-in-Ok-clause-tables
returns-in-Ok-clause-tables g c = λ first h.
    let judge : Judge = g.V.Verdicts.judge c.args.verdicts.now in
    let w = is_way c.args.tree.now c.args.id.now c.in-Some.path c.head-head.ensures.sound c.requires.kept c.in-Some.ensures in
    let low =
    shelved_holds (play_of g.M.BlockMachine.steps judge (g.M.Worlds.chain_id c.args.machine.now) first) c.args.tree.now c.args.id.now c.in-Some.path.fork.num (g.M.Worlds.stack c.args.machine.now)
    (g.M.Worlds.stack c.shelve.new.self) c.shelve.ensures.stack (omega (arith, w.fork, c.requires.deep)) (omega (arith, w.fork, w.head, w.below, c.requires.at_head)) h in
    let run =
    subst
    (λ ch. Holds (play_of g.M.BlockMachine.steps judge ch first) (meeting c.args.id.now c.args.tree.now.head c.args.tree.now.kept) (worlds (g.M.Worlds.stack c.shelve.new.self)) →
    Holds (play_of g.M.BlockMachine.steps judge ch first) (branch c.args.id.now c.args.tree.now.kept) (worlds (g.M.Worlds.stack c.run_branch.new.machine)))
    c.shelve.ensures.chain (c.in-Ok.ensures.tables first) in
    subst (λ s. Holds (play_of g.M.BlockMachine.steps judge (g.M.Worlds.chain_id c.args.machine.now) first) (branch c.args.id.now c.args.tree.now.kept) (worlds s)) (sym c.drop_shelf.ensures.stack) (run low)

pub returns-in-Err-clause-err : goal.returns-in-Err-clause-err
returns-in-Err-clause-err g c =
    let w = is_way c.args.tree.now c.args.id.now c.in-Some.path c.head-head.ensures.sound c.requires.kept c.in-Some.ensures in
    brought_back c.in-Some.path.fork.num c.run_branch.ensures.grown.0 (g.M.Worlds.stack c.args.machine.now) (g.M.Worlds.stack c.shelve.new.self) (g.M.Worlds.stack c.run_branch.new.machine)
    (g.M.Worlds.stack c.unshelve.new.self) c.requires.no_shelf (omega (arith, w.fork, w.head, w.below, c.requires.at_head)) (omega (arith, w.fork, c.requires.deep)) c.shelve.ensures.stack
    c.run_branch.ensures.grown.1 c.unshelve.ensures.stack

pub returns-in-Err-clause-tables : goal.returns-in-Err-clause-tables
returns-in-Err-clause-tables g c = λ first h.
    let judge : Judge = g.V.Verdicts.judge c.args.verdicts.now in
    let w = is_way c.args.tree.now c.args.id.now c.in-Some.path c.head-head.ensures.sound c.requires.kept c.in-Some.ensures in
    let low =
    shelved_holds (play_of g.M.BlockMachine.steps judge (g.M.Worlds.chain_id c.args.machine.now) first) c.args.tree.now c.args.id.now c.in-Some.path.fork.num (g.M.Worlds.stack c.args.machine.now)
    (g.M.Worlds.stack c.shelve.new.self) c.shelve.ensures.stack (omega (arith, w.fork, c.requires.deep)) (omega (arith, w.fork, w.head, w.below, c.requires.at_head)) h in
    let run =
    subst
    (λ ch. Holds (play_of g.M.BlockMachine.steps judge ch first) (meeting c.args.id.now c.args.tree.now.head c.args.tree.now.kept) (worlds (g.M.Worlds.stack c.shelve.new.self)) →
    BranchEnds {A = Unit {0}} (play_of g.M.BlockMachine.steps judge ch first) (branch c.args.id.now c.args.tree.now.kept) (g.M.Worlds.stack c.run_branch.new.machine) (Err c.in-Err.refused))
    c.shelve.ensures.chain (c.in-Err.ensures.tables first) in
    ends_any (play_of g.M.BlockMachine.steps judge (g.M.Worlds.chain_id c.args.machine.now) first) (branch c.args.id.now c.args.tree.now.kept) (g.M.Worlds.stack c.run_branch.new.machine)
    (g.M.Worlds.stack c.unshelve.new.self) c.in-Err.refused (run low)
