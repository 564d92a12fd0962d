-- The rules for modules (Core 1.0, section 3.4, and those of this profile), and the first that a module breaks.
use Rattle.std.specs.Prelude.{◌≡◌, ◌⊎◌, ℕ, ◌+◌, ◌<◌, ◌≤◌, Bool, true, false, List, [], ◌∷◌, ◌++◌, length, Option, None, Some, MatchOption, slice_get, codes}
use Rattle.std.specs.List.{Any}
use Rattle.ante_wmem.specs.Limits.{most_memory_pages}
use Rattle.ante_wtree.specs.declared.instructions.ValueKind.{ValueKind}
use Rattle.ante_wtree.specs.declared.instructions.ValueKind.TheVariants.{I32, I64}
use Rattle.ante_wtree.specs.declared.modules.FuncType.{FuncType}
use Rattle.ante_wtree.specs.declared.modules.ImportKind.{ImportKind}
use Rattle.ante_wtree.specs.declared.modules.ImportKind.TheVariants as import
use Rattle.ante_wtree.specs.declared.modules.Import.{Import}
use Rattle.ante_wtree.specs.declared.modules.Limits.{Limits}
use Rattle.ante_wtree.specs.declared.modules.Init.{Init}
use Rattle.ante_wtree.specs.declared.modules.Init.TheVariants as init
use Rattle.ante_wtree.specs.declared.modules.ExportKind.{ExportKind}
use Rattle.ante_wtree.specs.declared.modules.ExportKind.TheVariants as export
use Rattle.ante_wtree.specs.declared.modules.Export.{Export}
use Rattle.ante_wtree.specs.Limits.{most_table_elements}
use Rattle.ante_wtree.specs.Types.{kinds_of, result_of}
use Rattle.ante_wtree.specs.Intrinsics.{name_at, type_at}
use Rattle.ante_wtree.specs.Trees.{Tree, Body}
use Rattle.ante_wvalid.specs.declared.kinds.ModuleRule.{ModuleRule}
use Rattle.ante_wvalid.specs.declared.kinds.ModuleRule.TheVariants as rule
use Rattle.ante_wvalid.specs.declared.kinds.InvalidKind.{InvalidKind}
use Rattle.ante_wvalid.specs.declared.kinds.InvalidKind.TheVariants as invalid
use Rattle.ante_wvalid.specs.Typing.{Context, Typed, type_numbered}

-- ---- functions, the imported ones first

abbrev pub function_of : ImportKind → List ℕ
function_of (import.Function kind) = kind ∷ []
function_of (import.Table limits) = []
function_of (import.Memory limits) = []
function_of (import.Global kind changes) = []

-- the numbers of the types of the imported functions
abbrev pub imported : List Import → List ℕ
imported [] = []
imported (i ∷ is) = function_of i.kind ++ imported is

-- the number of each function's type
abbrev pub function_types : Tree → List ℕ
function_types m = imported m.imports ++ m.functions

-- Function f is there, and its type has these parameters and results.
abbrev pub HasType : List FuncType → List ℕ → ℕ → (params results : List ValueKind) → Type 0
HasType types functions f params results = (t : FuncType) × (type_numbered types (slice_get functions f) ≡ Some t) × (t.params ≡ params) × (t.results ≡ results)

-- ---- imports

abbrev pub IsFunction : Import → Type 0
IsFunction i = (number : ℕ) × (i.kind ≡ import.Function number)

abbrev pub IsHostName : List ℕ → Type 0
IsHostName name = (host : ℕ) × (name_at host ≡ Some name)

-- The import names a function that hosts have.
abbrev pub IsKnown : Import → Type 0
IsKnown i = (i.module ≡ codes "env") × IsHostName i.name

-- The function that hosts give this name has this type.
abbrev pub HostType : List ℕ → List ValueKind → Option ValueKind → Type 0
HostType name params result = (host : ℕ) × (name_at host ≡ Some name) × (type_at host ≡ Some (params, result))

-- The import has the type that hosts give the function of its name.
abbrev pub HasHostType : List FuncType → Import → Type 0
HasHostType types i = (number : ℕ) × (t : FuncType) × (result : Option ValueKind)
    × (i.kind ≡ import.Function number) × (slice_get types number ≡ Some t) × HostType i.name t.params result × (t.results ≡ kinds_of result)

-- ---- rules for the rest

-- at least more than at most, or at least more than this
abbrev pub OutOfBounds : ℕ → Limits → Type 0
OutOfBounds bound l = ((most : ℕ) × (l.most ≡ Some most) × (most < l.least)) ⊎ (bound < l.least)

-- the kind of a constant; no global is imported, so there is none whose value could be taken
abbrev pub constant_kind : Init → Option ValueKind
constant_kind (init.Const32 n) = Some I32
constant_kind (init.Const64 n) = Some I64
constant_kind (init.GlobalGet n) = None

abbrev pub IsConstant : ValueKind → Init → Type 0
IsConstant kind init = constant_kind init ≡ Some kind

-- how many there are of what can be exported
abbrev pub count : Tree → ExportKind → ℕ
count m export.Function = length (function_types m)
count m export.Table = length m.table
count m export.Memory = length m.memory
count m export.Global = length m.globals

-- Two exports at different places have one name.
abbrev pub Twice : List Export → Type 0
Twice [] = ⊥
Twice (e ∷ es) = Any (λ d. d.name ≡ e.name) es ⊎ Twice es

abbrev pub Breaks : Tree → ModuleRule → Type 0
Breaks m rule.TypeIndex = Any (λ number. length m.types ≤ number) m.functions
Breaks m rule.Results = Any (λ t. 1 < length t.results) m.types
Breaks m rule.TwoTables = 1 < length m.table
Breaks m rule.TwoMemories = 1 < length m.memory
Breaks m rule.Bounds = Any (OutOfBounds most_table_elements) m.table ⊎ Any (OutOfBounds most_memory_pages) m.memory
Breaks m rule.GlobalInit = Any (λ g. IsConstant g.kind g.init → ⊥) m.globals
    ⊎ (Any (λ e. IsConstant I32 e.offset → ⊥) m.elements ⊎ Any (λ s. IsConstant I32 s.offset → ⊥) m.segments)
Breaks m rule.ExportIndex = Any (λ e. count m e.kind ≤ e.index) m.exports
Breaks m rule.ExportTwice = Twice m.exports
Breaks m rule.Start = (f : ℕ) × (m.start ≡ Some f) × (HasType m.types (function_types m) f [] [] → ⊥)
Breaks m rule.ElementIndex = Any (λ e. (m.table ≡ []) ⊎ Any (λ f. length (function_types m) ≤ f) e.functions) m.elements
Breaks m rule.SegmentMemory = (0 < length m.segments) × (m.memory ≡ [])

-- ---- bodies

abbrev pub is_there : {A : Type 0} → List A → Bool
is_there [] = false
is_there (x ∷ xs) = true

-- what the body of an own function is typed in: its one label is the function's result (section 3.4.1)
abbrev pub context_of : Tree → (params locals : List ValueKind) → Option ValueKind → Context
context_of m params locals result = record {
  types = m.types;
  functions = function_types m;
  table = is_there m.table;
  memory = is_there m.memory;
  globals = m.globals;
  locals = params ++ locals;
  labels = result ∷ [];
  result = result;
}

-- The own function at this place has a type, and a body that leaves its result. Types have one result at most.
abbrev pub IsFunctionTyped : Tree → ℕ → Type 0
IsFunctionTyped m at = (number : ℕ) × (t : FuncType) × (code : Body)
    × (slice_get m.functions at ≡ Some number) × (slice_get m.types number ≡ Some t) × (slice_get m.codes at ≡ Some code)
    × Typed (context_of m t.params code.locals (result_of t.results)) code.body [] (kinds_of (result_of t.results))

-- The export is a function `apply` of three i64 and no result.
abbrev pub IsApply : List FuncType → List ℕ → Export → Type 0
IsApply types functions e = (e.name ≡ codes "apply") × (e.kind ≡ export.Function) × HasType types functions e.index (I64 ∷ I64 ∷ I64 ∷ []) []

abbrev pub HasApply : Tree → Type 0
HasApply m = Any (IsApply m.types (function_types m)) m.exports

-- ---- what is wrong with a module

-- What is found is the first that this holds of, in the order of these numbers; nothing, where it holds of none.
abbrev pub FindsFirst : {A : Type 0} → (order : A → ℕ) → (A → Type 0) → Option A → Type 0
FindsFirst {A} order P found = MatchOption found ((x : A) → P x → ⊥) (λ x. P x × ((y : A) → order y < order x → P y → ⊥))

abbrev pub HoldsAt : {A : Type 0} → (A → Type 0) → List A → ℕ → Type 0
HoldsAt {A} P xs at = (x : A) × (slice_get xs at ≡ Some x) × P x

-- There is an own function or a body at this place, and no typed function.
abbrev pub IsUntyped : Tree → ℕ → Type 0
IsUntyped m at = ((at < length m.functions) ⊎ (at < length m.codes)) × (IsFunctionTyped m at → ⊥)

abbrev pub Applies : Tree → InvalidKind → Type 0
Applies m (invalid.ImportKind index) = HoldsAt (λ i. IsFunction i → ⊥) m.imports index
Applies m (invalid.UnknownImport index) = HoldsAt (λ i. IsKnown i → ⊥) m.imports index
Applies m (invalid.ImportType index) = HoldsAt (λ i. HasHostType m.types i → ⊥) m.imports index
Applies m (invalid.Rule r) = Breaks m r
Applies m (invalid.Body function) = (at : ℕ) × (function ≡ length (imported m.imports) + at) × IsUntyped m at
Applies m invalid.NoApply = HasApply m → ⊥

-- the order in which rules are looked for
abbrev pub rule_place : ModuleRule → ℕ
rule_place rule.TypeIndex = 0
rule_place rule.Results = 1
rule_place rule.TwoTables = 2
rule_place rule.TwoMemories = 3
rule_place rule.Bounds = 4
rule_place rule.GlobalInit = 5
rule_place rule.ExportIndex = 6
rule_place rule.ExportTwice = 7
rule_place rule.Start = 8
rule_place rule.ElementIndex = 9
rule_place rule.SegmentMemory = 10

-- the order in which kinds are looked for: by this number, and within it by the index
abbrev pub place : InvalidKind → ℕ
place (invalid.ImportKind index) = 0
place (invalid.UnknownImport index) = 1
place (invalid.ImportType index) = 2
place (invalid.Rule r) = 3 + rule_place r
place (invalid.Body function) = 14
place invalid.NoApply = 15

abbrev pub index_of : InvalidKind → ℕ
index_of (invalid.ImportKind index) = index
index_of (invalid.UnknownImport index) = index
index_of (invalid.ImportType index) = index
index_of (invalid.Rule r) = 0
index_of (invalid.Body function) = function
index_of invalid.NoApply = 0

abbrev pub Precedes : InvalidKind → InvalidKind → Type 0
Precedes j k = (place j < place k) ⊎ ((place j ≡ place k) × (index_of j < index_of k))

-- Of the kinds that apply this is the first.
abbrev pub IsFirstInvalid : Tree → InvalidKind → Type 0
IsFirstInvalid m k = Applies m k × ((j : InvalidKind) → Precedes j k → Applies m j → ⊥)

-- The module is typed: no kind applies.
abbrev pub IsValid : Tree → Type 0
IsValid m = (k : InvalidKind) → Applies m k → ⊥
