use Rattle.ante_wrun.proofs.Making.{place_is}
use Rattle.ante_wrun.proofs.instance.host_place.Goals as goal

pub returns : goal.returns
returns c = place_is c.args.name.now c.host_number.result c.host_number.ensures
