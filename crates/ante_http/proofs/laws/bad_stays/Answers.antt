use Rattle.ante_http.proofs.Stays.{bad-append}
use Rattle.ante_http.proofs.laws.bad_stays.Goals as goal

pub returns : goal.returns
returns c = bad-append
