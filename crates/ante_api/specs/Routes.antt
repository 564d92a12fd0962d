-- What requests ask for, by their target and their body.
use Rattle.std.specs.Prelude.{◌≡◌, ℕ, List, codes, if◌then◌else◌, Option, Some, None, Result, Ok, Err}
use Rattle.std.specs.Str.{bytes_eq}
use Rattle.ante_http.specs.declared.answer.HeadKind.{HeadKind}
use Rattle.ante_http.specs.declared.answer.HeadKind.TheVariants as heads
use Rattle.ante_http.specs.declared.answer.RequestSpan.{RequestSpan}
use Rattle.ante_http.specs.Requests.{IsRequest}
use Rattle.httparse.specs.Spans.{span_bytes}
use Rattle.ante_json.specs.declared.request.Path.{Path}
use Rattle.ante_json.specs.declared.request.Path.TheVariants as paths
use Rattle.ante_json.specs.declared.request.ApiRequest.{ApiRequest}
use Rattle.ante_json.specs.declared.fault.ApiFault.{ApiFault}
use Rattle.ante_json.specs.declared.fault.ApiFault.TheVariants as faults
use Rattle.ante_json.specs.Reading.{BodyIs}

-- the whole target is compared
abbrev pub path_of : List ℕ → Option Path
path_of target =
    if bytes_eq target (codes "/v1/chain/get_info") then Some paths.GetInfo
    else (if bytes_eq target (codes "/v1/chain/get_block") then Some paths.GetBlock
    else (if bytes_eq target (codes "/v1/chain/get_account") then Some paths.GetAccount
    else (if bytes_eq target (codes "/v1/chain/get_table_rows") then Some paths.GetTableRows
    else (if bytes_eq target (codes "/v1/chain/get_table_by_scope") then Some paths.GetTableByScope
    else (if bytes_eq target (codes "/v1/chain/push_transaction") then Some paths.PushTransaction
    else (if bytes_eq target (codes "/v1/chain/push_block") then Some paths.PushBlock
    else (if bytes_eq target (codes "/v1/chain/send_read_only_transaction") then Some paths.SendReadOnlyTransaction
    else None)))))))

-- The bytes begin with a request whose parts stand there.
abbrev pub IsSpanOf : List ℕ → RequestSpan → Type 0
IsSpanOf bytes request = (n : ℕ) × IsRequest bytes request n

-- what a body at a path asks for, or its first fault, unless memory runs out
abbrev pub ReadsAt : Path → List ℕ → Result ApiRequest ApiFault → Type 0
ReadsAt path body (Ok request) = BodyIs path body (Ok request)
ReadsAt path body (Err faults.OutOfMemory) = Unit {0}
ReadsAt path body (Err (faults.BadHead kind)) = ⊥
ReadsAt path body (Err (faults.BadBody kind)) = BodyIs path body (Err kind)
ReadsAt path body (Err faults.UnknownPath) = ⊥
ReadsAt path body (Err faults.UnknownBlock) = ⊥
ReadsAt path body (Err faults.UnknownAccount) = ⊥
ReadsAt path body (Err (faults.TooLarge length)) = ⊥
ReadsAt path body (Err (faults.Ahead seen last)) = ⊥
ReadsAt path body (Err faults.NotProducing) = ⊥
ReadsAt path body (Err (faults.Push why)) = ⊥

-- an unknown path is found before the body is looked at
abbrev pub RoutesAt : Option Path → List ℕ → Result ApiRequest ApiFault → Type 0
RoutesAt None body result = result ≡ Err faults.UnknownPath
RoutesAt (Some path) body result = ReadsAt path body result

abbrev pub Routes : List ℕ → RequestSpan → Result ApiRequest ApiFault → Type 0
Routes bytes request result = RoutesAt (path_of (span_bytes bytes request.target)) (span_bytes bytes request.body) result

-- the fault of a request that is Bad
abbrev pub head_fault : HeadKind → ApiFault
head_fault heads.HeadLong = faults.BadHead heads.HeadLong
head_fault heads.Head = faults.BadHead heads.Head
head_fault heads.Method = faults.BadHead heads.Method
head_fault heads.Encoding = faults.BadHead heads.Encoding
head_fault heads.Length = faults.BadHead heads.Length
head_fault (heads.TooLarge length) = faults.TooLarge length
