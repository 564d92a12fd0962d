use Rattle.std.proofs.Common.{ap}
use Rattle.ante_wdecode.proofs.Lebs.{low}
use Rattle.ante_wdecode.proofs.integers.read_s32.Goals as goal

pub returns-in-Ok : goal.returns-in-Ok
returns-in-Ok c = ap low c.in-Ok.ensures

pub returns-in-Err : goal.returns-in-Err
returns-in-Err c = ap low c.in-Err.ensures
