-- Replies as JSON values, whose members stand in ascending order.
use Rattle.std.specs.Prelude.{ℕ, ℤ, Bool, List, [], ◌∷◌, ◌++◌, map, codes, decimal, Option, Some, None}
use Rattle.serde_json.specs.Data.{Data, null, boolean, string}
use Rattle.serde_json.specs.Written.{compact_text}
use Rattle.ante_json_text.specs.Values.{number_value, signed_value, hex_value, name_value, list_value, object_value}
use Rattle.ante_pack.specs.declared.names.Name.{Name}
use Rattle.ante_http.specs.declared.answer.HeadKind.{HeadKind}
use Rattle.ante_http.specs.declared.answer.HeadKind.TheVariants as heads
use Rattle.ante_types.specs.declared.chain.Head.{Head}
use Rattle.ante_views.specs.declared.answers.PermissionView.{PermissionView}
use Rattle.ante_views.specs.declared.answers.ViewAnswer.{ViewAnswer}
use Rattle.ante_views.specs.declared.answers.ViewAnswer.TheVariants as answers
use Rattle.ante_views.specs.Views.{permission_value, scope_value}
use Rattle.ante_json.specs.declared.fault.BodyKind.{BodyKind}
use Rattle.ante_json.specs.declared.fault.BodyKind.TheVariants as bodies
use Rattle.ante_json.specs.declared.fault.Refused.{Refused}
use Rattle.ante_json.specs.declared.fault.Refused.TheVariants as refusals
use Rattle.ante_json.specs.declared.fault.ApiFault.{ApiFault}
use Rattle.ante_json.specs.declared.fault.ApiFault.TheVariants as faults

-- ---- answers

unfoldable pub info_value : List ℕ → Head → ℕ → ℕ → ℕ → Data
info_value chain_id head head_slot irreversible position = object_value (
    (codes "chain_id", hex_value chain_id)
    ∷ (codes "head_block_id", hex_value head.id)
    ∷ (codes "head_block_num", number_value head.num)
    ∷ (codes "head_slot", number_value head_slot)
    ∷ (codes "last_irreversible_block_num", number_value irreversible)
    ∷ (codes "position", number_value position)
    ∷ [])

unfoldable pub block_value : ℕ → List ℕ → List ℕ → Data
block_value num id packed = object_value (
    (codes "block_num", number_value num)
    ∷ (codes "id", hex_value id)
    ∷ (codes "packed", hex_value packed)
    ∷ [])

unfoldable pub account_value : Name → List ℕ → List PermissionView → Bool → ℤ → ℕ → Data
account_value name code_hash permissions privileged ram_quota ram_usage = object_value (
    (codes "account_name", name_value name)
    ∷ (codes "code_hash", hex_value code_hash)
    ∷ (codes "permissions", list_value (map permission_value permissions))
    ∷ (codes "privileged", boolean privileged)
    ∷ (codes "ram_quota", signed_value ram_quota)
    ∷ (codes "ram_usage", number_value ram_usage)
    ∷ [])

-- the key as decimal text, or empty
abbrev pub key_text : Option ℕ → List ℕ
key_text None = []
key_text (Some key) = decimal key

unfoldable pub view_value : ViewAnswer → Data
view_value (answers.Info chain_id head head_slot irreversible position) = info_value chain_id head head_slot irreversible position
view_value (answers.Block num id packed) = block_value num id packed
view_value (answers.Account name code_hash permissions privileged ram_quota ram_usage) =
    account_value name code_hash permissions privileged ram_quota ram_usage
view_value (answers.Rows more next_key rows) = object_value (
    (codes "more", boolean more)
    ∷ (codes "next_key", string (key_text next_key))
    ∷ (codes "rows", list_value (map hex_value rows))
    ∷ [])
view_value (answers.Scopes more rows) = object_value (
    (codes "more", boolean more)
    ∷ (codes "rows", list_value (map scope_value rows))
    ∷ [])
view_value answers.Missing = null

-- an account that isn't there has no text
abbrev pub IsThere : ViewAnswer → Type 0
IsThere (answers.Info chain_id head head_slot irreversible position) = Unit {0}
IsThere (answers.Block num id packed) = Unit {0}
IsThere (answers.Account name code_hash permissions privileged ram_quota ram_usage) = Unit {0}
IsThere (answers.Rows more next_key rows) = Unit {0}
IsThere (answers.Scopes more rows) = Unit {0}
IsThere answers.Missing = ⊥

-- ---- faults

abbrev pub text_value : List ℕ → Data
text_value text = string text

abbrev pub head_args : HeadKind → List Data
head_args heads.HeadLong = text_value (codes "headlong") ∷ []
head_args heads.Head = text_value (codes "head") ∷ []
head_args heads.Method = text_value (codes "method") ∷ []
head_args heads.Encoding = text_value (codes "encoding") ∷ []
head_args heads.Length = text_value (codes "length") ∷ []
head_args (heads.TooLarge length) = number_value length ∷ []

abbrev pub head_name : HeadKind → List ℕ
head_name heads.HeadLong = codes "bad_head"
head_name heads.Head = codes "bad_head"
head_name heads.Method = codes "bad_head"
head_name heads.Encoding = codes "bad_head"
head_name heads.Length = codes "bad_head"
head_name (heads.TooLarge length) = codes "too_large"

abbrev pub body_word : BodyKind → List ℕ
body_word bodies.NotJson = codes "notjson"
body_word (bodies.Missing field) = codes "missing"
body_word (bodies.Wrong field) = codes "wrong"
body_word (bodies.NotHex field) = codes "nothex"
body_word bodies.Compressed = codes "compressed"
body_word bodies.ContextFree = codes "contextfree"
body_word (bodies.Packed at) = codes "packed"

-- the field or the place
abbrev pub body_detail : BodyKind → List Data
body_detail bodies.NotJson = []
body_detail (bodies.Missing field) = text_value field ∷ []
body_detail (bodies.Wrong field) = text_value field ∷ []
body_detail (bodies.NotHex field) = text_value field ∷ []
body_detail bodies.Compressed = []
body_detail bodies.ContextFree = []
body_detail (bodies.Packed at) = number_value at ∷ []

abbrev pub body_args : BodyKind → List Data
body_args kind = text_value (body_word kind) ∷ body_detail kind

abbrev pub refused_word : Refused → List ℕ
refused_word refusals.Known = codes "known"
refused_word refusals.Unlinkable = codes "unlinkable"
refused_word refusals.BadRoot = codes "bad_root"
refused_word refusals.BadSlot = codes "bad_slot"
refused_word refusals.BadProducer = codes "bad_producer"
refused_word refusals.BadSeal = codes "bad_seal"
refused_word (refusals.Invalid code) = codes "invalid:"

-- the number of the failure of a block that is invalid
abbrev pub refused_code : Refused → List ℕ
refused_code refusals.Known = []
refused_code refusals.Unlinkable = []
refused_code refusals.BadRoot = []
refused_code refusals.BadSlot = []
refused_code refusals.BadProducer = []
refused_code refusals.BadSeal = []
refused_code (refusals.Invalid code) = decimal code

abbrev pub refused_name : Refused → List ℕ
refused_name why = refused_word why ++ refused_code why

abbrev pub fault_args : ApiFault → List Data
fault_args faults.OutOfMemory = []
fault_args (faults.BadHead kind) = head_args kind
fault_args (faults.BadBody kind) = body_args kind
fault_args faults.UnknownPath = []
fault_args faults.UnknownBlock = []
fault_args faults.UnknownAccount = []
fault_args (faults.TooLarge length) = number_value length ∷ []
fault_args (faults.Ahead seen last) = number_value seen ∷ number_value last ∷ []
fault_args faults.NotProducing = []
fault_args (faults.Push why) = text_value (refused_name why) ∷ []

abbrev pub fault_name : ApiFault → List ℕ
fault_name faults.OutOfMemory = codes "out_of_memory"
fault_name (faults.BadHead kind) = head_name kind
fault_name (faults.BadBody kind) = codes "bad_body"
fault_name faults.UnknownPath = codes "unknown_path"
fault_name faults.UnknownBlock = codes "unknown_block"
fault_name faults.UnknownAccount = codes "unknown_account"
fault_name (faults.TooLarge length) = codes "too_large"
fault_name (faults.Ahead seen last) = codes "ahead"
fault_name faults.NotProducing = codes "not_producing"
fault_name (faults.Push why) = codes "push"

unfoldable pub fault_value : ApiFault → Data
fault_value fault = object_value (
    (codes "args", list_value (fault_args fault))
    ∷ (codes "error", text_value (fault_name fault))
    ∷ [])

-- ---- their texts

unfoldable pub view_json : ViewAnswer → List ℕ
view_json answer = compact_text (view_value answer)

unfoldable pub fault_json : ApiFault → List ℕ
fault_json fault = compact_text (fault_value fault)
