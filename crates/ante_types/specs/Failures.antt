-- Why a transaction fails: each failure's number, its name, and its arguments, which are its fields in order.
use Rattle.std.specs.Prelude.{ℕ, List, [], ◌∷◌, codes}
use Rattle.serde_json.specs.Data.{Data, string}
use Rattle.ante_types.specs.declared.failure.Failure.{Failure}
use Rattle.ante_types.specs.declared.failure.Failure.TheVariants as f
use Rattle.ante_json_text.specs.Values.{number_value, signed_value, hex_value, name_value}

abbrev pub failure_code : Failure → ℕ
failure_code f.NoAction = 1
failure_code (f.HasAuthorization action) = 2
failure_code (f.UnknownAccount name) = 3
failure_code (f.Unsupported field) = 4
failure_code (f.WriteRefused intrinsic) = 5
failure_code (f.Assert message) = 6
failure_code (f.AssertCode code) = 7
failure_code (f.Trap kind) = 8
failure_code f.StepLimit = 9
failure_code f.CallDepth = 10
failure_code f.InlineDepth = 11
failure_code f.BadPointer = 12
failure_code (f.BadIterator value) = 13
failure_code (f.KeyExists primary) = 14
failure_code (f.NotOwner code) = 15
failure_code (f.BadPayer account) = 16
failure_code (f.RamExceeded account used quota) = 17
failure_code f.RamTotal = 18
failure_code (f.MissingAuth actor permission) = 19
failure_code (f.Irrelevant actor permission) = 20
failure_code f.AuthWork = 21
failure_code (f.DataFault at) = 22
failure_code f.Expired = 23
failure_code f.TooFar = 24
failure_code f.BadReference = 25
failure_code f.Duplicate = 26
failure_code f.NoAuthorization = 27
failure_code (f.BadSignature index) = 28
failure_code f.BadCode = 29
failure_code f.NotPrivileged = 30
failure_code (f.Native rule) = 31
failure_code f.WrongSteps = 32
failure_code (f.KeyLength count) = 33
failure_code f.Abort = 34
failure_code f.TooBig = 35
failure_code f.ReturnTooLong = 36
failure_code f.Overlap = 37
failure_code f.BadLimit = 38

abbrev pub failure_name : Failure → List ℕ
failure_name f.NoAction = codes "NoAction"
failure_name (f.HasAuthorization action) = codes "HasAuthorization"
failure_name (f.UnknownAccount name) = codes "UnknownAccount"
failure_name (f.Unsupported field) = codes "Unsupported"
failure_name (f.WriteRefused intrinsic) = codes "WriteRefused"
failure_name (f.Assert message) = codes "Assert"
failure_name (f.AssertCode code) = codes "AssertCode"
failure_name (f.Trap kind) = codes "Trap"
failure_name f.StepLimit = codes "StepLimit"
failure_name f.CallDepth = codes "CallDepth"
failure_name f.InlineDepth = codes "InlineDepth"
failure_name f.BadPointer = codes "BadPointer"
failure_name (f.BadIterator value) = codes "BadIterator"
failure_name (f.KeyExists primary) = codes "KeyExists"
failure_name (f.NotOwner code) = codes "NotOwner"
failure_name (f.BadPayer account) = codes "BadPayer"
failure_name (f.RamExceeded account used quota) = codes "RamExceeded"
failure_name f.RamTotal = codes "RamTotal"
failure_name (f.MissingAuth actor permission) = codes "MissingAuth"
failure_name (f.Irrelevant actor permission) = codes "Irrelevant"
failure_name f.AuthWork = codes "AuthWork"
failure_name (f.DataFault at) = codes "DataFault"
failure_name f.Expired = codes "Expired"
failure_name f.TooFar = codes "TooFar"
failure_name f.BadReference = codes "BadReference"
failure_name f.Duplicate = codes "Duplicate"
failure_name f.NoAuthorization = codes "NoAuthorization"
failure_name (f.BadSignature index) = codes "BadSignature"
failure_name f.BadCode = codes "BadCode"
failure_name f.NotPrivileged = codes "NotPrivileged"
failure_name (f.Native rule) = codes "Native"
failure_name f.WrongSteps = codes "WrongSteps"
failure_name (f.KeyLength count) = codes "KeyLength"
failure_name f.Abort = codes "Abort"
failure_name f.TooBig = codes "TooBig"
failure_name f.ReturnTooLong = codes "ReturnTooLong"
failure_name f.Overlap = codes "Overlap"
failure_name f.BadLimit = codes "BadLimit"

abbrev pub failure_args : Failure → List Data
failure_args (f.HasAuthorization action) = number_value action ∷ []
failure_args (f.UnknownAccount name) = name_value name ∷ []
failure_args (f.Unsupported field) = string field ∷ []
failure_args (f.WriteRefused intrinsic) = string intrinsic ∷ []
failure_args (f.Assert message) = hex_value message ∷ []
failure_args (f.AssertCode code) = number_value code ∷ []
failure_args (f.Trap kind) = string kind ∷ []
failure_args (f.BadIterator value) = signed_value value ∷ []
failure_args (f.KeyExists primary) = number_value primary ∷ []
failure_args (f.NotOwner code) = name_value code ∷ []
failure_args (f.BadPayer account) = name_value account ∷ []
failure_args (f.RamExceeded account used quota) = name_value account ∷ number_value used ∷ signed_value quota ∷ []
failure_args (f.MissingAuth actor permission) = name_value actor ∷ name_value permission ∷ []
failure_args (f.Irrelevant actor permission) = name_value actor ∷ name_value permission ∷ []
failure_args (f.DataFault at) = number_value at ∷ []
failure_args (f.BadSignature index) = number_value index ∷ []
failure_args (f.Native rule) = number_value rule ∷ []
failure_args (f.KeyLength count) = number_value count ∷ []
failure_args f.NoAction = []
failure_args f.StepLimit = []
failure_args f.CallDepth = []
failure_args f.InlineDepth = []
failure_args f.BadPointer = []
failure_args f.RamTotal = []
failure_args f.AuthWork = []
failure_args f.Expired = []
failure_args f.TooFar = []
failure_args f.BadReference = []
failure_args f.Duplicate = []
failure_args f.NoAuthorization = []
failure_args f.BadCode = []
failure_args f.NotPrivileged = []
failure_args f.WrongSteps = []
failure_args f.Abort = []
failure_args f.TooBig = []
failure_args f.ReturnTooLong = []
failure_args f.Overlap = []
failure_args f.BadLimit = []
