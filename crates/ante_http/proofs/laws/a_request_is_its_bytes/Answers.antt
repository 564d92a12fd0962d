use Rattle.ante_http.proofs.Fronts.{request-front}
use Rattle.ante_http.proofs.laws.a_request_is_its_bytes.Goals as goal

pub returns : goal.returns
returns c = request-front
