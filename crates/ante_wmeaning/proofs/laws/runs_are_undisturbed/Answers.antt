use Rattle.ante_wmeaning.proofs.Likeness.{run_undisturbed}
use Rattle.ante_wmeaning.proofs.laws.runs_are_undisturbed.Goals as goal

pub returns : goal.returns
returns g c = run_undisturbed g.A.AlikeHosts.like g.A.AlikeHosts.one g.A.AlikeHosts.other g.A.AlikeHosts.alike
