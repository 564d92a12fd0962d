use Rattle.std.specs.Prelude.{replicate, None}
use Rattle.ante_wmeaning.specs.Environment.{looks_of}
use Rattle.ante_wtree.specs.Trees.{tree_of}
use Rattle.ante_wmeaning.specs.Instantiation.{program_in}
use Rattle.ante_wmeaning.proofs.GivenTypes.{imports_typed}
use Rattle.ante_execution.specs.Hosts.{host_call, Allows}
use Rattle.ante_execution.proofs.Replies.{host_typed}
use Rattle.ante_host.proofs.Alone.{runs_as, same_base, same_holder}
use Rattle.ante_host.proofs.code.run_on.Goals as goal

pub run-requires-clause-answers : goal.run-requires-clause-answers
run-requires-clause-answers g c =
    imports_typed (λ host function args left. Allows host left) host_call (program_in (tree_of c.args.module.now)) c.imports_have_host_types.ensures host_typed

pub returns-clause-base : goal.returns-clause-base
returns-clause-base g c = same_base (tree_of c.args.module.now) c.args.args c.args.host.now c.args.left.now c.run.new.host c.run.new.left c.run.result c.run.ensures.comes

pub returns-clause-holder : goal.returns-clause-holder
returns-clause-holder g c = same_holder (tree_of c.args.module.now) c.args.args c.args.host.now c.args.left.now c.run.new.host c.run.new.left c.run.result c.run.ensures.comes

pub returns-clause-runs : goal.returns-clause-runs
returns-clause-runs g c = runs_as (tree_of c.args.module.now) c.args.args c.args.host.now c.args.left.now c.run.new.host c.run.new.left c.run.result _ _ c.run.ensures.undisturbed

pub returns-clause-reaches : goal.returns-clause-reaches
returns-clause-reaches g c = (looks_of c.run.ensures.ends.0, c.run.ensures.ends.1)

pub returns-clause-cut : goal.returns-clause-cut
returns-clause-cut g c = λ at is. let asked = c.run.ensures.cut at is in (asked.0, (replicate asked.1.0 None, asked.1.1), asked.2)
