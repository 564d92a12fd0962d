-- An instance of a module before it runs: section 4.5.4 of WebAssembly Core 1.0. A function that no valid module has is
-- `Missing`, and a constant that none has is 0.
use Rattle.std.specs.Prelude.{ℕ, ◌+◌, ◌*◌, Bool, true, false, ◌&&◌, nat_le, min, Option, None, Some}
use Rattle.std.specs.Prelude.{List, [], ◌∷◌, ◌++◌, length, take, drop, replicate, map, codes, slice_get, position, find, fold}
use Rattle.std.specs.List.{list_all, zip}
use Rattle.std.specs.Str.{bytes_eq}
use Rattle.std.specs.Option.{option_map}
use Rattle.ante_wmem.specs.Linear.{LinearMemory, written}
use Rattle.ante_wmem.specs.Limits.{page_size, most_memory_pages}
use Rattle.ante_wtree.specs.declared.modules.FuncType.{FuncType}
use Rattle.ante_wtree.specs.declared.modules.ImportKind.{ImportKind}
use Rattle.ante_wtree.specs.declared.modules.ImportKind.TheVariants as import
use Rattle.ante_wtree.specs.declared.modules.Import.{Import}
use Rattle.ante_wtree.specs.declared.modules.Limits.{Limits}
use Rattle.ante_wtree.specs.declared.modules.Init.{Init}
use Rattle.ante_wtree.specs.declared.modules.Init.TheVariants as init
use Rattle.ante_wtree.specs.declared.modules.ExportKind.{ExportKind}
use Rattle.ante_wtree.specs.declared.modules.ExportKind.TheVariants as export
use Rattle.ante_wtree.specs.declared.modules.Export.{Export}
use Rattle.ante_wtree.specs.declared.modules.Element.{Element}
use Rattle.ante_wtree.specs.declared.modules.Segment.{Segment}
use Rattle.ante_wtree.specs.Intrinsics.{names}
use Rattle.ante_wtree.specs.Trees.{Tree, Body}
use Rattle.ante_wmeaning.specs.PlainInstructions.{Values, low}
use Rattle.ante_wmeaning.specs.Configurations.{FunctionInstance, Own, Given, Missing, Program}

-- ---- functions

-- the number of the host's function of this name: its place in the table
unfoldable pub host_place : List ℕ → Option ℕ
host_place name = position (bytes_eq name) names

abbrev pub given : Option FuncType → Option ℕ → FunctionInstance
given (Some kind) (Some number) = Given kind number
given (Some kind) None = Missing
given None number = Missing

abbrev pub given_as : List FuncType → (name : List ℕ) → ImportKind → List FunctionInstance
given_as types name (import.Function kind) = given (slice_get types kind) (host_place name) ∷ []
given_as types name (import.Table limits) = []
given_as types name (import.Memory limits) = []
given_as types name (import.Global kind changes) = []

-- an imported function is the host's of its name
abbrev pub given_functions : List FuncType → List Import → List FunctionInstance
given_functions types [] = []
given_functions types (i ∷ is) = given_as types i.name i.kind ++ given_functions types is

abbrev pub own : Option FuncType → Body → FunctionInstance
own (Some kind) code = Own kind (length code.locals) code.body
own None code = Missing

-- a function of the module's own has the type of its number, and the body at its place
abbrev pub own_functions : List FuncType → (kinds : List ℕ) → List Body → List FunctionInstance
own_functions types kinds bodies = map (λ p. own (slice_get types p.0) p.1) (zip kinds bodies)

-- ---- globals, tables and memories

abbrev pub constant : Init → ℕ
constant (init.Const32 n) = n
constant (init.Const64 n) = n
constant (init.GlobalGet n) = 0

abbrev pub offset_of : Init → ℕ
offset_of i = low (constant i)

abbrev pub first_globals : Tree → List ℕ
first_globals m = map (λ g. constant g.init) m.globals

-- as many places as the least number, all of them empty
abbrev pub empty_table : List Limits → List (Option ℕ)
empty_table [] = []
empty_table (l ∷ ls) = replicate l.least None

-- the most pages that a memory may grow to: those of the profile, or fewer where the module says so
abbrev pub most_pages : Option ℕ → ℕ
most_pages None = most_memory_pages
most_pages (Some most) = min most most_memory_pages

-- A memory of zeros. A module without one has a memory of no pages, which can't grow.
abbrev pub empty_memory : List Limits → LinearMemory
empty_memory [] = record { bytes = []; most = 0 }
empty_memory (l ∷ ls) = record { bytes = replicate (page_size * l.least) 0; most = most_pages l.most }

-- ---- segments

-- each element segment lies in a table of so many places
abbrev pub elements_fit : (places : ℕ) → List Element → Bool
elements_fit places elements = list_all (λ e. nat_le (offset_of e.offset + length e.functions) places) elements

-- each data segment lies in a memory of so many bytes
abbrev pub data_fits : (count : ℕ) → List Segment → Bool
data_fits count segments = list_all (λ s. nat_le (offset_of s.offset + length s.bytes) count) segments

-- all of them do, an empty one too
abbrev pub segments_fit : Tree → Bool
segments_fit m = elements_fit (length (empty_table m.table)) m.elements && data_fits (length (empty_memory m.memory).bytes) m.segments

-- a list with others in place of its items from `at` on
abbrev pub placed : {A : Type 0} → List A → (at : ℕ) → List A → List A
placed xs at ys = take at xs ++ (ys ++ drop (length ys) (drop at xs))

abbrev pub with_element : List (Option ℕ) → Element → List (Option ℕ)
with_element table e = placed table (offset_of e.offset) (map Some e.functions)

abbrev pub with_segment : LinearMemory → Segment → LinearMemory
with_segment memory s = written memory (offset_of s.offset) s.bytes

-- ---- the instance, where all segments fit: they are written in order

abbrev pub program_in : Tree → Program
program_in m = record {
  types = m.types;
  functions = given_functions m.types m.imports ++ own_functions m.types m.functions m.codes;
  table = fold with_element (empty_table m.table) m.elements;
}

abbrev pub first_values : Tree → Values
first_values m = record {
  locals = [];
  stack = [];
  globals = first_globals m;
  memory = fold with_segment (empty_memory m.memory) m.segments;
}

-- ---- the function that is exported as `apply`

abbrev pub is_function : ExportKind → Bool
is_function export.Function = true
is_function export.Table = false
is_function export.Memory = false
is_function export.Global = false

-- the number of what is exported as `apply`, whatever it is; a valid module exports only one thing so
abbrev pub named_apply : List Export → Option ℕ
named_apply exports = option_map (λ e. e.index) (find (λ e. bytes_eq e.name (codes "apply")) exports)

abbrev pub apply_in : Tree → Option ℕ
apply_in m = option_map (λ e. e.index) (find (λ e. bytes_eq e.name (codes "apply") && is_function e.kind) m.exports)
