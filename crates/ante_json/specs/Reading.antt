-- What the bytes of a body are read as.
use Rattle.std.specs.Prelude.{◌≡◌, ◌⊎◌, ℕ, List, [], ◌∷◌, Some, Result, Ok, Err, IsUtf8}
use Rattle.serde_json.specs.Data.{Data, object, no_members, Members}
use Rattle.serde_json.specs.Read as json
use Rattle.serde_json.specs.View.{view}
use Rattle.serde_json.specs.declared.value.Value.{Value}
use Rattle.ante_json.specs.declared.fault.BodyKind.{BodyKind}
use Rattle.ante_json.specs.declared.fault.BodyKind.TheVariants.{NotJson}
use Rattle.ante_json.specs.declared.fault.BodyError.{BodyError}
use Rattle.ante_json.specs.declared.fault.BodyError.TheVariants.{OutOfMemory, BadBody}
use Rattle.ante_json.specs.declared.request.Path.{Path}
use Rattle.ante_json.specs.declared.request.ApiRequest.{ApiRequest}
use Rattle.ante_json.specs.Bodies.{request_of}

-- The bytes are the text of this JSON value in UTF-8, nested at most 127 deep. An empty body is an empty object.
abbrev pub IsBody : List ℕ → Data → Type 0
IsBody [] d = d ≡ object no_members
IsBody (b ∷ bytes) d = IsUtf8 (b ∷ bytes) × (json.read (b ∷ bytes) ≡ Some d)

abbrev pub IsNoObject : List ℕ → Type 0
IsNoObject bytes = (ms : Members) → ¬ (IsBody bytes (object ms))

-- What a body asks for at a path, or its first fault: NotJson where it is no JSON object, else what its table says.
abbrev pub BodyIs : Path → List ℕ → Result ApiRequest BodyKind → Type 0
BodyIs path bytes read =
    ((ms : Members) × IsBody bytes (object ms) × (request_of path (object ms) ≡ read)) ⊎ (IsNoObject bytes × (read ≡ Err NotJson))

-- A call answers so, unless memory runs out.
abbrev pub ReadsBody : Path → List ℕ → Result ApiRequest BodyError → Type 0
ReadsBody path bytes (Ok request) = BodyIs path bytes (Ok request)
ReadsBody path bytes (Err OutOfMemory) = Unit {0}
ReadsBody path bytes (Err (BadBody kind)) = BodyIs path bytes (Err kind)

abbrev pub IsObject : Data → Type 0
IsObject d = (ms : Members) × (d ≡ object ms)

abbrev pub ReadsObject : List ℕ → Result Value BodyError → Type 0
ReadsObject bytes (Ok value) = IsBody bytes (view value) × IsObject (view value)
ReadsObject bytes (Err OutOfMemory) = Unit {0}
ReadsObject bytes (Err (BadBody kind)) = (kind ≡ NotJson) × IsNoObject bytes
