use Rattle.ante_wmeaning.specs.Instantiation.{program_in}
use Rattle.ante_wmeaning.proofs.GivenTypes.{have_host_types, imports_typed}
use Rattle.ante_wmeaning.proofs.Safe.{whole_safe}
use Rattle.ante_wmeaning.proofs.laws.never_stuck.Goals as goal

pub returns : goal.returns
returns g c = λ m args w left environment valid n may answers.
    let types = have_host_types c.one_number_a_name.ensures m valid in
    whole_safe g.H.Host.meaning g.H.Host.allowed m valid (imports_typed g.H.Host.allowed g.H.Host.meaning (program_in m) types answers)
    g.met.H.Host.keeps g.met.H.Host.falls g.met.H.Host.lower args n w left environment may
