-- What the body of each path may hold: its fields in the order in which faults are looked for. Other fields are passed over.
use Rattle.std.specs.Prelude.{ℕ, List, [], codes, Option, Some, None, is_some, false, if◌then◌else◌, Result, Ok, Err}
use Rattle.serde_json.specs.Data.{Data}
use Rattle.serde_json.specs.Find.{get, as_object}
use Rattle.ante_pack.specs.Forms.{◌>>=◌, whole}
use Rattle.ante_types.specs.Chain.{block}
use Rattle.ante_types.specs.Jobs.{Job, job_of}
use Rattle.ante_views.specs.declared.queries.Seen.{Seen}
use Rattle.ante_views.specs.declared.queries.ViewQuery.{ViewQuery}
use Rattle.ante_views.specs.declared.queries.ViewQuery.TheVariants as queries
use Rattle.ante_json.specs.declared.fault.BodyKind.{BodyKind}
use Rattle.ante_json.specs.declared.fault.BodyKind.TheVariants.{Wrong}
use Rattle.ante_json.specs.declared.request.Path.{Path}
use Rattle.ante_json.specs.declared.request.Path.TheVariants as paths
use Rattle.ante_json.specs.declared.request.ApiRequest.{ApiRequest}
use Rattle.ante_json.specs.declared.request.ApiRequest.TheVariants as requests
use Rattle.ante_json.specs.Kinds.{number_of, name_of, bound_of, limit_of, flag_of, block_of, texts_of}
use Rattle.ante_json.specs.Fields.{required, optional, defaulted, hex_field, id_field, unpacked, uncompressed, without_context_free}

abbrev pub block_query : Data → Result ViewQuery BodyKind
block_query body =
    required block_of (codes "block_num_or_id") body >>= λ block. Ok (queries.Block block)

abbrev pub account_query : Data → Result ViewQuery BodyKind
account_query body =
    required name_of (codes "account_name") body >>= λ name. Ok (queries.Account name)

abbrev pub default_limit : ℕ
default_limit = 10

abbrev pub rows_query : Data → Result ViewQuery BodyKind
rows_query body =
    required name_of (codes "code") body
    >>= λ code. required name_of (codes "scope") body
    >>= λ scope. required name_of (codes "table") body
    >>= λ table. optional bound_of (codes "lower_bound") body
    >>= λ lower. optional bound_of (codes "upper_bound") body
    >>= λ upper. defaulted default_limit limit_of (codes "limit") body
    >>= λ limit. defaulted false flag_of (codes "reverse") body
    >>= λ reverse. Ok (queries.Rows code scope table lower upper limit reverse)

abbrev pub scopes_query : Data → Result ViewQuery BodyKind
scopes_query body =
    required name_of (codes "code") body
    >>= λ code. optional name_of (codes "table") body
    >>= λ table. optional bound_of (codes "lower_bound") body
    >>= λ lower. defaulted default_limit limit_of (codes "limit") body
    >>= λ limit. Ok (queries.Scopes code table lower limit)

-- the fields of a transaction: it with its packed form, and its signatures
abbrev pub transaction_of : Data → Result (Job × List (List ℕ)) BodyKind
transaction_of fields =
    hex_field (codes "packed_trx") fields
    >>= λ packed. unpacked (job_of packed)
    >>= λ job. defaulted [] texts_of (codes "signatures") fields
    >>= λ signatures. uncompressed (get (codes "compression") fields)
    >>= λ none. without_context_free (get (codes "packed_context_free_data") fields)
    >>= λ empty. Ok (job, signatures)

abbrev pub pushed_transaction : Data → Result ApiRequest BodyKind
pushed_transaction body =
    transaction_of body >>= λ t. Ok (requests.PushTransaction t.0.packed t.1)

abbrev pub pushed_block : Data → Result ApiRequest BodyKind
pushed_block body =
    hex_field (codes "packed_block") body
    >>= λ packed. unpacked (whole block packed)
    >>= λ block. Ok (requests.PushBlock block)

abbrev pub object_or_wrong : List ℕ → Data → Result Data BodyKind
object_or_wrong field d = if is_some (as_object d) then Ok d else Err (Wrong field)

abbrev pub object_at : List ℕ → Data → Option Data → Result Data BodyKind
object_at field body None = Ok body
object_at field body (Some d) = object_or_wrong field d

-- where the fields of a read-only transaction stand: in the object `transaction`, or else at the top
abbrev pub transaction_fields : Data → Result Data BodyKind
transaction_fields body = object_at (codes "transaction") body (get (codes "transaction") body)

abbrev pub seen_fields : Data → Result (Option Seen) BodyKind
seen_fields fields =
    required number_of (codes "position") fields
    >>= λ position. id_field (codes "block_id") fields
    >>= λ id. Ok (Some (record { position = position; block_id = id }))

abbrev pub seen_at : Option Data → Result (Option Seen) BodyKind
seen_at None = Ok None
seen_at (Some d) = object_or_wrong (codes "seen") d >>= λ fields. seen_fields fields

-- a head that the caller has seen, at the top
abbrev pub seen_of : Data → Result (Option Seen) BodyKind
seen_of body = seen_at (get (codes "seen") body)

abbrev pub read_only : Data → Result ApiRequest BodyKind
read_only body =
    transaction_fields body
    >>= λ fields. transaction_of fields
    >>= λ t. seen_of body
    >>= λ seen. Ok (requests.ReadOnly t.0 seen)

abbrev pub viewed : Result ViewQuery BodyKind → Result ApiRequest BodyKind
viewed query = query >>= λ q. Ok (requests.View q)

-- what a body that is an object asks for, or its first fault
abbrev pub request_of : Path → Data → Result ApiRequest BodyKind
request_of paths.GetInfo body = Ok (requests.View queries.Info)
request_of paths.GetBlock body = viewed (block_query body)
request_of paths.GetAccount body = viewed (account_query body)
request_of paths.GetTableRows body = viewed (rows_query body)
request_of paths.GetTableByScope body = viewed (scopes_query body)
request_of paths.PushTransaction body = pushed_transaction body
request_of paths.PushBlock body = pushed_block body
request_of paths.SendReadOnlyTransaction body = read_only body
