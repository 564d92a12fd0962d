use Rattle.std.proofs.Common.{length, ◌∙◌}
use Rattle.ante_wrun.specs.ThreadStates.{state_of}
use Rattle.ante_wrun.proofs.Landing.{returns_from, as_return}
use Rattle.ante_wrun.proofs.thread.branch.Goals as goal

pub inner_label-requires : goal.inner_label-requires
inner_label-requires g c = (length c.args.thread.now.state.values.stack, c.requires.reaches)

pub leave-requires-clause-returns : goal.leave-requires-clause-returns
leave-requires-clause-returns g c = returns_from c.args.depth c.args.thread.now.frames (length c.args.thread.now.state.values.stack) c.in-None.ensures c.requires.reaches

pub returns-in-Some-clause-whole : goal.returns-in-Some-clause-whole
returns-in-Some-clause-whole g c = λ program w left last environment. let t = c.args.thread.now in c.land-thread.ensures.leads program w t.free left last environment t.state

pub returns-in-None-clause-whole : goal.returns-in-None-clause-whole
returns-in-None-clause-whole g c = λ program w left last environment.
    let t = c.args.thread.now in
    as_return g.H.Host.meaning program c.args.depth t.free t.state.values.below t.frames (state_of t.state w left last environment) c.in-None.ensures
    ∙ c.leave.ensures.whole program w left last environment
