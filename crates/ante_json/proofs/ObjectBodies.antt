-- From an object's fields to the bytes of a body.
use Rattle.std.proofs.Common.{◌≡◌, ℕ, List, Result, Ok, Err, ap, subst, inl, inr}
use Rattle.serde_json.specs.Data.{Data}
use Rattle.ante_json.specs.declared.fault.BodyError.{BodyError}
use Rattle.ante_json.specs.declared.fault.BodyError.TheVariants.{OutOfMemory, BadBody}
use Rattle.ante_json.specs.declared.request.Path.{Path}
use Rattle.ante_json.specs.declared.request.ApiRequest.{ApiRequest}
use Rattle.ante_json.specs.Fields.{Answers}
use Rattle.ante_json.specs.Bodies.{request_of}
use Rattle.ante_json.specs.Reading.{IsBody, IsObject, ReadsObject, ReadsBody}

pub body_reads : (path : Path) (bytes : List ℕ) (d : Data) (r : Result ApiRequest BodyError)
    → IsBody bytes d × IsObject d → Answers r (request_of path d) → ReadsBody path bytes r
body_reads path bytes d (Ok x) (b, (ms, e)) a = inl (ms, subst (IsBody bytes) e b, subst (λ (o : Data). request_of path o ≡ Ok x) e a)
body_reads path bytes d (Err OutOfMemory) h a = tt
body_reads path bytes d (Err (BadBody kind)) (b, (ms, e)) a =
    inl (ms, subst (IsBody bytes) e b, subst (λ (o : Data). request_of path o ≡ Err kind) e a)

pub body_fails : (path : Path) (bytes : List ℕ) (e : BodyError) → ReadsObject bytes (Err e) → ReadsBody path bytes (Err e)
body_fails path bytes OutOfMemory h = tt
body_fails path bytes (BadBody kind) h = inr (h.1, ap Err h.0)
