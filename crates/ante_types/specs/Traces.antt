-- A trace as a JSON value, whose members stand in ascending order, and its text.
use Rattle.std.specs.Prelude.{ℕ, List, [], ◌∷◌, map, codes, Option, Some, None}
use Rattle.serde_json.specs.Data.{Data, null, string}
use Rattle.serde_json.specs.Written.{compact_text}
use Rattle.ante_json_text.specs.Values.{number_value, hex_value, name_value, list_value, object_value}
use Rattle.ante_types.specs.declared.failure.Failure.{Failure}
use Rattle.ante_types.specs.declared.trace.ActionTrace.{ActionTrace}
use Rattle.ante_types.specs.declared.trace.Trace.{Trace}
use Rattle.ante_types.specs.Failures.{failure_code, failure_name, failure_args}

-- one run of an action
unfoldable pub action_value : ActionTrace → Data
action_value t = object_value (
    (codes "account", name_value t.account)
    ∷ (codes "bytes", hex_value t.bytes)
    ∷ (codes "console", hex_value t.console)
    ∷ (codes "creator", number_value t.creator)
    ∷ (codes "name", name_value t.name)
    ∷ (codes "ordinal", number_value t.ordinal)
    ∷ (codes "receiver", name_value t.receiver)
    ∷ (codes "return_value", hex_value t.return_value)
    ∷ (codes "steps", number_value t.steps)
    ∷ [])

unfoldable pub failure_value : Failure → Data
failure_value f = object_value (
    (codes "args", list_value (failure_args f))
    ∷ (codes "code", number_value (failure_code f))
    ∷ (codes "name", string (failure_name f))
    ∷ [])

abbrev pub outcome_value : Option Failure → Data
outcome_value None = null
outcome_value (Some f) = failure_value f

unfoldable pub trace_value : Trace → Data
trace_value t = object_value (
    (codes "actions", list_value (map action_value t.actions))
    ∷ (codes "block_id", hex_value t.head.id)
    ∷ (codes "block_num", number_value t.head.num)
    ∷ (codes "failure", outcome_value t.failure)
    ∷ (codes "id", hex_value t.id)
    ∷ (codes "position", number_value t.position)
    ∷ (codes "steps", number_value t.steps)
    ∷ [])

-- the text of a trace
unfoldable pub trace_json : Trace → List ℕ
trace_json t = compact_text (trace_value t)
