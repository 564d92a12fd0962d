-- Types and the parts of sections (sections 5.3 and 5.5).
use Rattle.std.specs.Prelude.{◌≡◌, ℕ, zero, suc, ◌-◌, Bool, true, false, List, [], ◌∷◌, ◌++◌, length, Option, None, Some, slice_get, replicate, IsUtf8}
use Rattle.std.specs.Str.{is_utf8}
use Rattle.ante_wtree.specs.declared.instructions.ValueKind.{ValueKind}
use Rattle.ante_wtree.specs.declared.modules.FuncType.{FuncType}
use Rattle.ante_wtree.specs.declared.modules.Limits.{Limits}
use Rattle.ante_wtree.specs.declared.modules.ImportKind.{ImportKind}
use Rattle.ante_wtree.specs.declared.modules.ImportKind.TheVariants as import_kind
use Rattle.ante_wtree.specs.declared.modules.Import.{Import}
use Rattle.ante_wtree.specs.declared.modules.Init.{Init}
use Rattle.ante_wtree.specs.declared.modules.Init.TheVariants as init
use Rattle.ante_wtree.specs.declared.modules.Global.{Global}
use Rattle.ante_wtree.specs.declared.modules.ExportKind.{ExportKind}
use Rattle.ante_wtree.specs.declared.modules.ExportKind.TheVariants as external
use Rattle.ante_wtree.specs.declared.modules.Export.{Export}
use Rattle.ante_wtree.specs.declared.modules.Element.{Element}
use Rattle.ante_wtree.specs.declared.modules.Segment.{Segment}
use Rattle.ante_wtree.specs.Limits.{most_params, most_table_elements, most_nested_blocks, most_locals}
use Rattle.ante_wtree.specs.Trees.{Body}
use Rattle.ante_wdecode.specs.declared.fault.DecodeKind.TheVariants as kind
use Rattle.ante_wdecode.specs.declared.opcodes.Opcode.{Opcode}
use Rattle.ante_wdecode.specs.declared.opcodes.Opcode.TheVariants as opcode
use Rattle.ante_wdecode.specs.declared.opcodes.Indexed.TheVariants as indexed
use Rattle.ante_wdecode.specs.Rules.{Rule, yields, nothing, only, one_of, form, byte, raw, filling, misfit_of, u32, s32, s64, limited, exactly}
use Rattle.ante_wdecode.specs.InTurn.{◌>>=◌}
use Rattle.ante_wdecode.specs.Opcodes.{an_opcode, value_type}
use Rattle.ante_wdecode.specs.Instructions.{vector}
use Rattle.ante_wdecode.specs.NestedInstructions.{expression}

-- as many as a u32 can say
abbrev pub any : ℕ
any = 4294967295

-- a name, which is UTF-8 (section 5.2.4)
abbrev pub name : Rule (List ℕ)
name = do
  n ← u32
  only IsUtf8 is_utf8 kind.Utf8 (raw n)

-- functype (section 5.3.3)
abbrev pub func_type : Rule FuncType
func_type = do
  head ← byte 0x60
  params ← vector most_params value_type
  results ← vector any value_type
  yields (record { params = params; results = results })

abbrev pub flags : List (ℕ × Bool)
flags = (0x00, false) ∷ (0x01, true) ∷ []

abbrev pub flag : Rule Bool
flag = one_of form flags

-- limits (section 5.3.4), of which the first is at most so large
abbrev pub limits_of : ℕ → Bool → Rule Limits
limits_of most false = do
  least ← limited most
  yields (record { least = least; most = None })
limits_of most true = do
  least ← limited most
  n ← u32
  yields (record { least = least; most = Some n })

abbrev pub limits : ℕ → Rule Limits
limits most = do
  has_most ← flag
  limits_of most has_most

-- tabletype (section 5.3.6)
abbrev pub table_type : ℕ → Rule Limits
table_type most = do
  element ← byte 0x70
  limits most

-- the type of a table of the module's own, or of a memory
abbrev pub sized_type : (of_table : Bool) → Rule Limits
sized_type true = table_type most_table_elements
sized_type false = limits any

-- what an import or an export is
abbrev pub external_kinds : List (ℕ × ExportKind)
external_kinds = (0x00, external.Function) ∷ (0x01, external.Table) ∷ (0x02, external.Memory) ∷ (0x03, external.Global) ∷ []

abbrev pub external_kind : Rule ExportKind
external_kind = one_of form external_kinds

-- importdesc (section 5.5.5)
abbrev pub import_desc : ExportKind → Rule ImportKind
import_desc external.Function = do
  n ← u32
  yields (import_kind.Function n)
import_desc external.Table = do
  table ← table_type any
  yields (import_kind.Table table)
import_desc external.Memory = do
  memory ← limits any
  yields (import_kind.Memory memory)
import_desc external.Global = do
  value ← value_type
  changes ← flag
  yields (import_kind.Global value changes)

abbrev pub import : Rule Import
import = do
  from ← name
  item ← name
  external ← external_kind
  desc ← import_desc external
  yields (record { «module» = from; name = item; kind = desc })

-- a constant expression (section 3.3.7.2)
abbrev pub is_init : Opcode → Bool
is_init opcode.I32Const = true
is_init opcode.I64Const = true
is_init (opcode.Indexed indexed.GlobalGet) = true
is_init l = false

abbrev pub is_end : Opcode → Bool
is_end opcode.End = true
is_end l = false

abbrev pub init_of : Opcode → Rule Init
init_of opcode.I32Const = do
  n ← s32
  yields (init.Const32 n)
init_of opcode.I64Const = do
  n ← s64
  yields (init.Const64 n)
init_of (opcode.Indexed indexed.GlobalGet) = do
  n ← u32
  yields (init.GlobalGet n)
init_of l = nothing

abbrev pub const_expr : Rule Init
const_expr = do
  l ← only (λ l. is_init l ≡ true) is_init kind.Form an_opcode
  value ← init_of l
  end ← only (λ l. is_end l ≡ true) is_end kind.Form an_opcode
  yields value

-- global (section 5.5.9)
abbrev pub global : Rule Global
global = do
  value ← value_type
  changes ← flag
  first ← const_expr
  yields (record { kind = value; changes = changes; init = first })

-- export (section 5.5.10)
abbrev pub export : Rule Export
export = do
  item ← name
  external ← external_kind
  n ← u32
  yields (record { name = item; kind = external; index = n })

-- elem (section 5.5.12)
abbrev pub element : Rule Element
element = do
  table ← exactly 0
  offset ← const_expr
  functions ← vector any u32
  yields (record { offset = offset; functions = functions })

-- data (section 5.5.14)
abbrev pub segment : Rule Segment
segment = do
  memory ← exactly 0
  offset ← const_expr
  n ← u32
  text ← raw n
  yields (record { offset = offset; bytes = text })

-- The locals of a function (section 5.5.13) in so many groups, each a count and a kind; at most so many locals in all.
abbrev pub groups : (most : ℕ) → ℕ → Rule (List ValueKind)
groups most zero = yields []
groups most (suc n) = do
  count ← limited most
  value ← value_type
  more ← groups (most - count) n
  yields (replicate count value ++ more)

-- func (section 5.5.13)
abbrev pub func : (most : ℕ) → Rule Body
func most = do
  n ← u32
  locals ← groups most n
  body ← expression most_nested_blocks
  yields (record { locals = locals; body = body })

-- code (section 5.5.13): the size of a function, and the function, in just so many bytes
abbrev pub code : (most : ℕ) → Rule Body
code most = do
  size ← u32
  filling (misfit_of None) size (func most)

-- how many parameters a type has, where it is there
abbrev pub params_of : Option FuncType → ℕ
params_of None = 0
params_of (Some t) = length t.params

-- a body for each function, given by the number of its type; at most so many parameters and locals
abbrev pub codes : List FuncType → List ℕ → Rule (List Body)
codes types [] = yields []
codes types (n ∷ ns) = do
  body ← code (most_locals - params_of (slice_get types n))
  more ← codes types ns
  yields (body ∷ more)
