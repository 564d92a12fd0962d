-- Valid modules and accepted codes, told by functions.
use Rattle.std.specs.Prelude.{ℕ, zero, suc, ◌==◌, nat_lt, nat_le, Bool, true, false, not, ◌&&◌, ◌||◌, List, [], ◌∷◌, length, codes, bytes_eq, Option, None, Some, slice_get, Result, Ok, Err}
use Rattle.std.specs.List.{list_all, list_any}
use Rattle.ante_wmem.specs.Limits.{most_memory_pages}
use Rattle.ante_wtree.specs.declared.instructions.ValueKind.{ValueKind}
use Rattle.ante_wtree.specs.declared.instructions.ValueKind.TheVariants.{I32, I64}
use Rattle.ante_wtree.specs.declared.modules.FuncType.{FuncType}
use Rattle.ante_wtree.specs.declared.modules.ImportKind.{ImportKind}
use Rattle.ante_wtree.specs.declared.modules.ImportKind.TheVariants as import
use Rattle.ante_wtree.specs.declared.modules.Import.{Import}
use Rattle.ante_wtree.specs.declared.modules.Limits.{Limits}
use Rattle.ante_wtree.specs.declared.modules.Init.{Init}
use Rattle.ante_wtree.specs.declared.modules.ExportKind.{ExportKind}
use Rattle.ante_wtree.specs.declared.modules.ExportKind.TheVariants as export
use Rattle.ante_wtree.specs.declared.modules.Export.{Export}
use Rattle.ante_wtree.specs.Limits.{most_table_elements}
use Rattle.ante_wtree.specs.Intrinsics.{HostFunction, host_functions}
use Rattle.ante_wtree.specs.Trees.{Tree, Body}
use Rattle.ante_wtree.specs.Types.{kinds_of, result_of, same_kind, same_kinds}
use Rattle.ante_wdecode.specs.Decoding.{module_at}
use Rattle.ante_wdecode.specs.Rules.{Fault}
use Rattle.ante_wvalid.specs.Modules.{constant_kind, context_of, count, function_types, is_there}
use Rattle.ante_wvalid.specs.Typing.{type_numbered}
use Rattle.ante_accepts.specs.Sequences.{is_typed}
use Rattle.ante_execution.specs.Codes.{codes_with}
use Rattle.ante_execution.specs.Runs.{Codes}

-- ---- types

abbrev pub is_type : (params results : List ValueKind) → Option FuncType → Bool
is_type params results None = false
is_type params results (Some t) = same_kinds t.params params && same_kinds t.results results

-- function f is there, and its type has these parameters and results
abbrev pub has_type : Tree → ℕ → (params results : List ValueKind) → Bool
has_type m f params results = is_type params results (type_numbered m.types (slice_get (function_types m) f))

-- ---- imports

abbrev pub number_of : ImportKind → Option ℕ
number_of (import.Function number) = Some number
number_of (import.Table limits) = None
number_of (import.Memory limits) = None
number_of (import.Global kind changes) = None

abbrev pub is_host : Import → FuncType → HostFunction → Bool
is_host i t h = bytes_eq h.name i.name && (same_kinds h.params t.params && same_kinds t.results (kinds_of h.result))

abbrev pub host_has : Import → Option FuncType → Bool
host_has i None = false
host_has i (Some t) = list_any (is_host i t) host_functions

-- it is a function of the module `env` with the type that hosts give the function of its name
abbrev pub is_import : List FuncType → Import → Bool
is_import types i = bytes_eq i.module (codes "env") && host_has i (type_numbered types (number_of i.kind))

-- ---- the rest of a module

abbrev pub is_most : (least : ℕ) → Option ℕ → Bool
is_most least None = true
is_most least (Some most) = nat_le least most

abbrev pub in_bounds : ℕ → Limits → Bool
in_bounds bound l = is_most l.least l.most && nat_le l.least bound

abbrev pub is_of_kind : ValueKind → Option ValueKind → Bool
is_of_kind kind None = false
is_of_kind kind (Some found) = same_kind found kind

abbrev pub is_constant : ValueKind → Init → Bool
is_constant kind init = is_of_kind kind (constant_kind init)

abbrev pub are_distinct : List Export → Bool
are_distinct [] = true
are_distinct (e ∷ es) = list_all (λ d. not (bytes_eq d.name e.name)) es && are_distinct es

abbrev pub may_start : Tree → Option ℕ → Bool
may_start m None = true
may_start m (Some f) = has_type m f [] []

abbrev pub keeps_rules : Tree → Bool
keeps_rules m =
    list_all (λ number. nat_lt number (length m.types)) m.functions
    && (list_all (λ t. nat_le (length t.results) 1) m.types
    && (nat_le (length m.table) 1
    && (nat_le (length m.memory) 1
    && ((list_all (in_bounds most_table_elements) m.table && list_all (in_bounds most_memory_pages) m.memory)
    && ((list_all (λ g. is_constant g.kind g.init) m.globals
    && (list_all (λ e. is_constant I32 e.offset) m.elements && list_all (λ s. is_constant I32 s.offset) m.segments))
    && (list_all (λ e. nat_lt e.index (count m e.kind)) m.exports
    && (are_distinct m.exports
    && (may_start m m.start
    && (list_all (λ e. is_there m.table && list_all (λ f. nat_lt f (length (function_types m))) e.functions) m.elements
    && (length m.segments == 0 || is_there m.memory))))))))))

-- ---- functions

abbrev pub is_body_typed : Tree → FuncType → Option Body → Bool
is_body_typed m t None = false
is_body_typed m t (Some b) = is_typed (context_of m t.params b.locals (result_of t.results)) b.body (kinds_of (result_of t.results))

abbrev pub is_typed_as : Tree → (at : ℕ) → Option FuncType → Bool
is_typed_as m at None = false
is_typed_as m at (Some t) = is_body_typed m t (slice_get m.codes at)

-- the own function at this place has a type, and a body that leaves its result
abbrev pub is_function_typed : Tree → (at : ℕ) → Bool
is_function_typed m at = is_typed_as m at (type_numbered m.types (slice_get m.functions at))

abbrev pub all_below : (ℕ → Bool) → ℕ → Bool
all_below test zero = true
all_below test (suc n) = test n && all_below test n

abbrev pub is_function : ExportKind → Bool
is_function export.Function = true
is_function export.Table = false
is_function export.Memory = false
is_function export.Global = false

abbrev pub is_apply : Tree → Export → Bool
is_apply m e = bytes_eq e.name (codes "apply") && (is_function e.kind && has_type m e.index (I64 ∷ I64 ∷ I64 ∷ []) [])

-- ---- the whole

unfoldable pub is_valid : Tree → Bool
is_valid m =
    list_all (is_import m.types) m.imports
    && (keeps_rules m
    && (all_below (is_function_typed m) (length m.functions)
    && (all_below (is_function_typed m) (length m.codes)
    && list_any (is_apply m) m.exports)))

abbrev pub is_valid_module : Result Tree Fault → Bool
is_valid_module (Err fault) = false
is_valid_module (Ok m) = is_valid m

unfoldable pub accepts : List ℕ → Bool
accepts code = is_valid_module (module_at code)

-- what code does on this chain
abbrev pub chain_codes : Codes
chain_codes = codes_with accepts
