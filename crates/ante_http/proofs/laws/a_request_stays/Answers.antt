use Rattle.ante_http.proofs.Stays.{request-append}
use Rattle.ante_http.proofs.laws.a_request_stays.Goals as goal

pub returns : goal.returns
returns c = request-append
