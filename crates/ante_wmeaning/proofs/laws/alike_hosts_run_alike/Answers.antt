use Rattle.ante_wmeaning.proofs.Likeness.{run_alike}
use Rattle.ante_wmeaning.proofs.laws.alike_hosts_run_alike.Goals as goal

pub returns : goal.returns
returns g c = run_alike g.A.AlikeHosts.like g.A.AlikeHosts.one g.A.AlikeHosts.other g.A.AlikeHosts.alike
