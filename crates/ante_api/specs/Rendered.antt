-- The bytes of replies: a status, and a body that is JSON.
use Rattle.std.specs.Prelude.{ℕ, Bool, List, [], ◌∷◌, codes}
use Rattle.serde_json.specs.Data.{boolean}
use Rattle.serde_json.specs.Written.{compact_text}
use Rattle.ante_json_text.specs.Values.{number_value, hex_value, object_value}
use Rattle.ante_http.specs.declared.answer.HeadKind.{HeadKind}
use Rattle.ante_http.specs.declared.answer.HeadKind.TheVariants as heads
use Rattle.ante_http.specs.Replies.{reply}
use Rattle.ante_types.specs.Traces.{trace_json}
use Rattle.ante_json.specs.declared.fault.ApiFault.{ApiFault}
use Rattle.ante_json.specs.declared.fault.ApiFault.TheVariants as faults
use Rattle.ante_json.specs.Replies as bodies
use Rattle.ante_api.specs.declared.reply.ApiReply.{ApiReply}
use Rattle.ante_api.specs.declared.reply.ApiReply.TheVariants as replies

abbrev pub head_status : HeadKind → ℕ
head_status heads.HeadLong = 400
head_status heads.Head = 400
head_status heads.Method = 400
head_status heads.Encoding = 400
head_status heads.Length = 400
head_status (heads.TooLarge length) = 413

abbrev pub fault_status : ApiFault → ℕ
fault_status faults.OutOfMemory = 503
fault_status (faults.BadHead kind) = head_status kind
fault_status (faults.BadBody kind) = 400
fault_status faults.UnknownPath = 404
fault_status faults.UnknownBlock = 404
fault_status faults.UnknownAccount = 404
fault_status (faults.TooLarge length) = 413
fault_status (faults.Ahead seen last) = 409
fault_status faults.NotProducing = 409
fault_status (faults.Push why) = 409

-- a block that was taken
unfoldable pub pushed_json : List ℕ → Bool → ℕ → List ℕ
pushed_json block_id kept position = compact_text (object_value (
    (codes "block_id", hex_value block_id)
    ∷ (codes "kept", boolean kept)
    ∷ (codes "position", number_value position)
    ∷ []))

abbrev pub reply_status : ApiReply → ℕ
reply_status (replies.View answer) = 200
reply_status (replies.Trace trace) = 200
reply_status (replies.Pushed block_id kept position) = 200
reply_status (replies.Fault fault) = fault_status fault

abbrev pub reply_body : ApiReply → List ℕ
reply_body (replies.View answer) = bodies.view_json answer
reply_body (replies.Trace trace) = trace_json trace
reply_body (replies.Pushed block_id kept position) = pushed_json block_id kept position
reply_body (replies.Fault fault) = bodies.fault_json fault

-- an account that isn't there is answered by a fault
abbrev pub IsThere : ApiReply → Type 0
IsThere (replies.View answer) = bodies.IsThere answer
IsThere (replies.Trace trace) = Unit {0}
IsThere (replies.Pushed block_id kept position) = Unit {0}
IsThere (replies.Fault fault) = Unit {0}

abbrev pub rendered : ApiReply → Bool → List ℕ
rendered r close = reply (reply_status r) (reply_body r) close
