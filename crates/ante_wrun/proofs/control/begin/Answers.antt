use Rattle.ante_wrun.proofs.control.begin.Goals as goal

pub begin_body-requires : goal.begin_body-requires
begin_body-requires g c =
    let q = c.requires.sound in
    let t = c.args.thread.now in
    (q.0, q.1, t.free, q.2, q.3, q.4, t.state, q.5)

pub returns-in-Some-clause-leads : goal.returns-in-Some-clause-leads
returns-in-Some-clause-leads g c = λ program w left last environment. let t = c.args.thread.now in c.in-Some.ensures.leads program w t.free left last environment t.state
