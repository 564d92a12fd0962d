-- The rules of types and of the parts of sections are exact.
use Rattle.std.proofs.Common.{◌≡◌, ℕ, zero, suc, ◌-◌, Bool, true, false, List, [], ◌∷◌}
use Rattle.std.specs.Bool.{Decides}
use Rattle.std.specs.Prelude.{IsUtf8, slice_get}
use Rattle.std.specs.Str.{is_utf8}
use Rattle.std.proofs.lemmas.Str.{IsUtf8-from_is_utf8, is_utf8-from_IsUtf8}
use Rattle.ante_wtree.specs.Limits.{most_params, most_table_elements, most_nested_blocks, most_locals}
use Rattle.ante_wtree.specs.declared.modules.FuncType.{FuncType}
use Rattle.ante_wtree.specs.declared.modules.ExportKind.{ExportKind}
use Rattle.ante_wtree.specs.declared.modules.ExportKind.TheVariants as external
use Rattle.ante_wdecode.specs.declared.fault.DecodeKind.TheVariants as kind
use Rattle.ante_wdecode.specs.declared.opcodes.Opcode.{Opcode}
use Rattle.ante_wdecode.specs.declared.opcodes.Opcode.TheVariants as opcode
use Rattle.ante_wdecode.specs.declared.opcodes.Indexed.TheVariants as indexed
use Rattle.ante_wdecode.specs.Rules.{only, byte, raw, u32, s32, s64, limited, exactly}
use Rattle.ante_wdecode.specs.Opcodes.{an_opcode, value_type}
use Rattle.ante_wdecode.specs.Instructions.{vector}
use Rattle.ante_wdecode.specs.NestedInstructions.{expression}
use Rattle.ante_wdecode.specs.Modules.{any, name, func_type, flags, flag, limits_of, limits, table_type, sized_type, external_kinds, external_kind, import_desc, import, is_init, is_end, init_of, const_expr, global, export, element, segment, groups, func, code, params_of, codes}
use Rattle.ante_wdecode.proofs.Laws.{IsExact, whole, exact_yields, exact_nothing, exact_turn, exact_only, exact_form, exact_raw}
use Rattle.ante_wdecode.proofs.Values.{exact_u32, exact_s32, exact_s64, exact_limited, exact_exactly, exact_vector, exact_byte, exact_opcode, exact_value_type, one_then, exact_part}
use Rattle.ante_wdecode.proofs.Grammar.{exact_expression}

pub exact_name : IsExact name
exact_name = exact_turn u32 _ exact_u32 (λ n. exact_only IsUtf8 is_utf8 kind.Utf8 (raw n) (exact_raw n) (λ bs. (IsUtf8-from_is_utf8 bs, is_utf8-from_IsUtf8 bs)) (λ bytes. tt))

pub exact_func_type : IsExact func_type
exact_func_type =
    exact_turn (byte 0x60) _ (exact_byte 0x60) λ head.
    exact_turn (vector most_params value_type) _ (exact_vector most_params value_type exact_value_type) λ params.
    one_then (vector any value_type) _ (exact_vector any value_type exact_value_type)

exact_flag : IsExact flag
exact_flag = exact_form flags

exact_limits_of : (most : ℕ) (b : Bool) → IsExact (limits_of most b)
exact_limits_of most false = one_then (limited most) _ (exact_limited most)
exact_limits_of most true = exact_turn (limited most) _ (exact_limited most) λ least. one_then u32 _ exact_u32

exact_limits : (most : ℕ) → IsExact (limits most)
exact_limits most = exact_turn flag _ exact_flag (exact_limits_of most)

exact_table_type : (most : ℕ) → IsExact (table_type most)
exact_table_type most = exact_turn (byte 0x70) _ (exact_byte 0x70) λ element. exact_limits most

pub exact_sized_type : (b : Bool) → IsExact (sized_type b)
exact_sized_type true = exact_table_type most_table_elements
exact_sized_type false = exact_limits any

exact_external_kind : IsExact external_kind
exact_external_kind = exact_form external_kinds

exact_import_desc : (k : ExportKind) → IsExact (import_desc k)
exact_import_desc external.Function = one_then u32 _ exact_u32
exact_import_desc external.Table = one_then (table_type any) _ (exact_table_type any)
exact_import_desc external.Memory = one_then (limits any) _ (exact_limits any)
exact_import_desc external.Global = exact_turn value_type _ exact_value_type λ value. one_then flag _ exact_flag

pub exact_import : IsExact import
exact_import =
    exact_turn name _ exact_name λ from.
    exact_turn name _ exact_name λ item.
    exact_turn external_kind _ exact_external_kind λ external.
    one_then (import_desc external) _ (exact_import_desc external)

tells : (b : Bool) → Decides b (b ≡ true)
tells b = (λ e. e, λ e. e)

exact_init_of : (l : Opcode) → IsExact (init_of l)
exact_init_of opcode.I32Const = one_then s32 _ exact_s32
exact_init_of opcode.I64Const = one_then s64 _ exact_s64
exact_init_of (opcode.Indexed indexed.GlobalGet) = one_then u32 _ exact_u32
exact_init_of (opcode.Indexed indexed.LocalGet) = exact_nothing
exact_init_of (opcode.Indexed indexed.LocalSet) = exact_nothing
exact_init_of (opcode.Indexed indexed.LocalTee) = exact_nothing
exact_init_of (opcode.Indexed indexed.GlobalSet) = exact_nothing
exact_init_of (opcode.Fixed i) = exact_nothing
exact_init_of (opcode.Load k) = exact_nothing
exact_init_of (opcode.Store k) = exact_nothing
exact_init_of opcode.MemorySize = exact_nothing
exact_init_of opcode.MemoryGrow = exact_nothing
exact_init_of opcode.Br = exact_nothing
exact_init_of opcode.BrIf = exact_nothing
exact_init_of opcode.BrTable = exact_nothing
exact_init_of opcode.Return = exact_nothing
exact_init_of opcode.Call = exact_nothing
exact_init_of opcode.CallIndirect = exact_nothing
exact_init_of opcode.Block = exact_nothing
exact_init_of opcode.Loop = exact_nothing
exact_init_of opcode.If = exact_nothing
exact_init_of opcode.Else = exact_nothing
exact_init_of opcode.End = exact_nothing

exact_opcodes : (test : Opcode → Bool) → IsExact (only (λ l. test l ≡ true) test kind.Form an_opcode)
exact_opcodes test = exact_only (λ l. test l ≡ true) test kind.Form an_opcode exact_opcode (λ l. tells (test l)) (λ bytes. tt)

exact_const_expr : IsExact const_expr
exact_const_expr =
    exact_turn (only (λ l. is_init l ≡ true) is_init kind.Form an_opcode) _ (exact_opcodes is_init) λ l.
    exact_turn (init_of l) _ (exact_init_of l) λ value.
    one_then (only (λ l. is_end l ≡ true) is_end kind.Form an_opcode) (λ end. value) (exact_opcodes is_end)

pub exact_global : IsExact global
exact_global =
    exact_turn value_type _ exact_value_type λ value.
    exact_turn flag _ exact_flag λ changes.
    one_then const_expr _ exact_const_expr

pub exact_export : IsExact export
exact_export =
    exact_turn name _ exact_name λ item.
    exact_turn external_kind _ exact_external_kind λ external.
    one_then u32 _ exact_u32

pub exact_element : IsExact element
exact_element =
    exact_turn (exactly 0) _ (exact_exactly 0) λ table.
    exact_turn const_expr _ exact_const_expr λ offset.
    one_then (vector any u32) _ (exact_vector any u32 exact_u32)

pub exact_segment : IsExact segment
exact_segment =
    exact_turn (exactly 0) _ (exact_exactly 0) λ memory.
    exact_turn const_expr _ exact_const_expr λ offset.
    exact_turn u32 _ exact_u32 λ n.
    one_then (raw n) _ (exact_raw n)

pub exact_groups : (most n : ℕ) → IsExact (groups most n)
exact_groups most zero = exact_yields []
exact_groups most (suc n) =
    exact_turn (limited most) _ (exact_limited most) λ count.
    exact_turn value_type _ exact_value_type λ value.
    one_then (groups (most - count) n) _ (exact_groups (most - count) n)

pub exact_func : (most : ℕ) → IsExact (func most)
exact_func most =
    exact_turn u32 _ exact_u32 λ n.
    exact_turn (groups most n) _ (exact_groups most n) λ locals.
    one_then (expression most_nested_blocks) _ (exact_expression most_nested_blocks)

pub exact_code : (most : ℕ) → IsExact (code most)
exact_code most = exact_turn u32 _ exact_u32 λ size. exact_part size (func most) (whole (func most) (exact_func most))

pub exact_codes : (types : List FuncType) (ns : List ℕ) → IsExact (codes types ns)
exact_codes types [] = exact_yields []
exact_codes types (n ∷ ns) =
    let most = most_locals - params_of (slice_get types n) in
    exact_turn (code most) _ (exact_code most) λ body. one_then (codes types ns) _ (exact_codes types ns)
