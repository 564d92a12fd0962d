use Rattle.ante_wvalid.proofs.HostTypes.{tells_found, tells_none}
use Rattle.ante_wvalid.proofs.imports.host_type_of.Goals as goal

pub returns-in-Some : goal.returns-in-Some
returns-in-Some c = tells_found c.args.name.now c.in-Some.host _ c.in-Some.ensures c.host_type.ensures

pub returns-in-None : goal.returns-in-None
returns-in-None c = tells_none c.args.name.now c.in-None.ensures
