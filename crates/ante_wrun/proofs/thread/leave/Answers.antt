use Rattle.std.proofs.Common.{◌∷◌, sym, ap, ◌∙◌}
use Rattle.ante_wmeaning.specs.Configurations.{Normal, Returned}
use Rattle.ante_wrun.specs.ThreadStates.{state_of, under}
use Rattle.ante_wrun.proofs.thread.leave.Goals as goal

pub returns-in-Call-clause-whole : goal.returns-in-Call-clause-whole
returns-in-Call-clause-whole g c = λ program w left last environment.
    let s = state_of c.frames.thread.state w left last environment in
    let m = under g.H.Host.meaning program c.frames.thread.free c.frames.thread.state.values.below in
    c.frames.invariant.0 program w left last environment
    ∙ ap (λ fs. m fs (Returned s)) c.in-Some.ensures
    ∙ ap (λ f. m (f ∷ c.pop.new.self) (Returned s)) c.in-Call.is
    ∙ sym (ap (λ f. m (f ∷ c.pop.new.self) (Normal s)) c.in-Call.is)
    ∙ c.resume.ensures.whole program w left last environment
