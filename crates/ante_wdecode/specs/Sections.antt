-- Sections and modules (section 5.5).
use Rattle.std.specs.Prelude.{◌≡◌, ℕ, ◌+◌, ◌-◌, ◌≤◌, Bool, true, false, List, [], ◌∷◌, ◌++◌, length, Option, None, Some, Ok, Err, nat_lt, map, if◌then◌else◌}
use Rattle.ante_wtree.specs.declared.modules.FuncType.{FuncType}
use Rattle.ante_wtree.specs.declared.modules.Limits.{Limits}
use Rattle.ante_wtree.specs.declared.modules.ImportKind.{ImportKind}
use Rattle.ante_wtree.specs.declared.modules.ImportKind.TheVariants as import_kind
use Rattle.ante_wtree.specs.declared.modules.Import.{Import}
use Rattle.ante_wtree.specs.declared.modules.Global.{Global}
use Rattle.ante_wtree.specs.declared.modules.Export.{Export}
use Rattle.ante_wtree.specs.declared.modules.Element.{Element}
use Rattle.ante_wtree.specs.declared.modules.Segment.{Segment}
use Rattle.ante_wtree.specs.Limits.{most_module_bytes, most_types, most_imports, most_functions, most_table_elements, most_globals, most_exports, most_element_segments, most_data_segments}
use Rattle.ante_wtree.specs.Trees.{Body, Tree, body_of}
use Rattle.ante_wdecode.specs.declared.fault.DecodeKind.{DecodeKind}
use Rattle.ante_wdecode.specs.declared.fault.DecodeKind.TheVariants as kind
use Rattle.ante_wdecode.specs.declared.sections.SectionId.{SectionId}
use Rattle.ante_wdecode.specs.declared.sections.SectionId.TheVariants as id
use Rattle.ante_wdecode.specs.declared.sections.Contents.{Contents}
use Rattle.ante_wdecode.specs.declared.sections.Contents.TheVariants as made
use Rattle.ante_wdecode.specs.Rules.{Fault, Read, Rule, yields, only, one_of, filling, misfit_of, u32, exactly}
use Rattle.ante_wdecode.specs.InTurn.{◌>>=◌}
use Rattle.ante_wdecode.specs.Instructions.{vector}
use Rattle.ante_wdecode.specs.Modules.{any, name, func_type, limits, table_type, import, global, export, element, segment, codes}

-- what a section says
pub data Section : Type 0 where
  Custom : Section
  Types : List FuncType → Section
  Imports : List Import → Section
  Functions : List ℕ → Section
  Tables : List Limits → Section
  Memories : List Limits → Section
  Globals : List Global → Section
  Exports : List Export → Section
  Start : ℕ → Section
  Elements : List Element → Section
  Codes : List Body → Section
  Segments : List Segment → Section

-- what the code answers of it
abbrev pub section_of : Contents → Section
section_of made.Custom = Custom
section_of (made.Types x) = Types x
section_of (made.Imports x) = Imports x
section_of (made.Functions x) = Functions x
section_of (made.Tables x) = Tables x
section_of (made.Memories x) = Memories x
section_of (made.Globals x) = Globals x
section_of (made.Exports x) = Exports x
section_of (made.Start x) = Start x
section_of (made.Elements x) = Elements x
section_of (made.Codes x) = Codes (map body_of x)
section_of (made.Segments x) = Segments x

abbrev pub tree : List FuncType → List Import → List ℕ → List Limits → List Limits → List Global → List Export → Option ℕ → List Element → List Body → List Segment → Tree
tree types imports functions table memory globals exports start elements codes segments = record {
  types = types;
  imports = imports;
  functions = functions;
  table = table;
  memory = memory;
  globals = globals;
  exports = exports;
  start = start;
  elements = elements;
  codes = codes;
  segments = segments;
}

-- the module of no sections
abbrev pub bare : Tree
bare = tree [] [] [] [] [] [] [] None [] [] []

-- a module with what one more section says
abbrev pub with_section : Tree → Section → Tree
with_section m Custom = m
with_section m (Types x) = tree x m.imports m.functions m.table m.memory m.globals m.exports m.start m.elements m.codes m.segments
with_section m (Imports x) = tree m.types x m.functions m.table m.memory m.globals m.exports m.start m.elements m.codes m.segments
with_section m (Functions x) = tree m.types m.imports x m.table m.memory m.globals m.exports m.start m.elements m.codes m.segments
with_section m (Tables x) = tree m.types m.imports m.functions x m.memory m.globals m.exports m.start m.elements m.codes m.segments
with_section m (Memories x) = tree m.types m.imports m.functions m.table x m.globals m.exports m.start m.elements m.codes m.segments
with_section m (Globals x) = tree m.types m.imports m.functions m.table m.memory x m.exports m.start m.elements m.codes m.segments
with_section m (Exports x) = tree m.types m.imports m.functions m.table m.memory m.globals x m.start m.elements m.codes m.segments
with_section m (Start x) = tree m.types m.imports m.functions m.table m.memory m.globals m.exports (Some x) m.elements m.codes m.segments
with_section m (Elements x) = tree m.types m.imports m.functions m.table m.memory m.globals m.exports m.start x m.codes m.segments
with_section m (Codes x) = tree m.types m.imports m.functions m.table m.memory m.globals m.exports m.start m.elements x m.segments
with_section m (Segments x) = tree m.types m.imports m.functions m.table m.memory m.globals m.exports m.start m.elements m.codes x

-- how many functions are imported
abbrev pub is_function : ImportKind → Bool
is_function (import_kind.Function n) = true
is_function kind = false

abbrev pub imported : List Import → ℕ
imported [] = 0
imported (i ∷ is) = if is_function i.kind then imported is + 1 else imported is

-- A custom section is a name, and any bytes (section 5.5.3).
abbrev pub passed : Read (List ℕ) → Read Section
passed (Ok x) = Ok (Custom, [])
passed (Err fault) = Err fault

abbrev pub custom : Rule Section
custom = record {
  Spells = λ s bytes. (s ≡ Custom) × ((text : List ℕ) × (a : List ℕ) × (b : List ℕ) × name.Spells text a × (bytes ≡ a ++ b));
  read = λ bytes. passed (name.read bytes);
}

-- as many bodies as there are functions
abbrev pub bodies : Tree → Rule (List Body)
bodies m = do
  n ← exactly (length m.functions)
  codes m.types m.functions

-- The contents of a section, after the sections before it (sections 5.5.3 to 5.5.14), with the profile's limits.
abbrev pub contents : Tree → SectionId → Rule Section
contents m id.Custom = custom
contents m id.Types = do
  x ← vector most_types func_type
  yields (Types x)
contents m id.Imports = do
  x ← vector most_imports import
  yields (Imports x)
contents m id.Functions = do
  x ← vector (most_functions - imported m.imports) u32
  yields (Functions x)
contents m id.Tables = do
  x ← vector any (table_type most_table_elements)
  yields (Tables x)
contents m id.Memories = do
  x ← vector any (limits any)
  yields (Memories x)
contents m id.Globals = do
  x ← vector most_globals global
  yields (Globals x)
contents m id.Exports = do
  x ← vector most_exports export
  yields (Exports x)
contents m id.Start = do
  x ← u32
  yields (Start x)
contents m id.Elements = do
  x ← vector most_element_segments element
  yields (Elements x)
contents m id.Codes = do
  x ← bodies m
  yields (Codes x)
contents m id.Segments = do
  x ← vector most_data_segments segment
  yields (Segments x)

abbrev pub number_of : SectionId → ℕ
number_of id.Custom = 0
number_of id.Types = 1
number_of id.Imports = 2
number_of id.Functions = 3
number_of id.Tables = 4
number_of id.Memories = 5
number_of id.Globals = 6
number_of id.Exports = 7
number_of id.Start = 8
number_of id.Elements = 9
number_of id.Codes = 10
number_of id.Segments = 11

abbrev pub section_ids : List (ℕ × SectionId)
section_ids =
    (0, id.Custom) ∷ (1, id.Types) ∷ (2, id.Imports) ∷ (3, id.Functions) ∷ (4, id.Tables) ∷ (5, id.Memories) ∷ (6, id.Globals) ∷ (7, id.Exports)
    ∷ (8, id.Start) ∷ (9, id.Elements) ∷ (10, id.Codes) ∷ (11, id.Segments) ∷ []

-- A custom section stands anywhere, another one after those of lower numbers.
abbrev pub follows : ℕ → SectionId → Bool
follows last id.Custom = true
follows last i = nat_lt last (number_of i)

-- the highest number, once a section was read
abbrev pub last_after : ℕ → SectionId → ℕ
last_after last id.Custom = last
last_after last i = number_of i

abbrev pub no_section : ℕ → DecodeKind
no_section byte = kind.Section

-- A section (section 5.5.2): its number, the size of its contents, and the contents, in just so many bytes.
abbrev pub section_id : ℕ → Rule SectionId
section_id last = only (λ i. follows last i ≡ true) (follows last) kind.Section (one_of no_section section_ids)

abbrev pub numbered : SectionId → Rule Section → Rule (SectionId × Section)
numbered i rule = do
  s ← rule
  yields (i, s)

abbrev pub section_within : (misfit : ℕ → Fault) → ℕ → Tree → Rule (SectionId × Section)
section_within misfit last m = do
  i ← section_id last
  size ← u32
  numbered i (filling misfit size (contents m i))

-- A misfit of the contents stands at the section's number; the spelling doesn't speak of it.
abbrev pub section : ℕ → Tree → Rule (SectionId × Section)
section last m = record {
  Spells = (section_within (misfit_of (Some 0)) last m).Spells;
  read = λ bytes. (section_within (misfit_of (Some (length bytes))) last m).read bytes;
}

-- These sections, one after another, make this module of what stands already.
abbrev pub AreSections : ℕ → Tree → List (SectionId × Section) → Tree → List ℕ → Type 0
AreSections last m [] whole bytes = (whole ≡ m) × (bytes ≡ [])
AreSections last m (s ∷ ss) whole bytes = (a : List ℕ) × (b : List ℕ) × (section last m).Spells s a × AreSections (last_after last s.0) (with_section m s.1) ss whole b × (bytes ≡ a ++ b)

abbrev pub magic : List ℕ
magic = 0x00 ∷ 0x61 ∷ 0x73 ∷ 0x6D ∷ []

abbrev pub version : List ℕ
version = 0x01 ∷ 0x00 ∷ 0x00 ∷ 0x00 ∷ []

-- These bytes encode this module (section 5.5.15): magic, version, and sections; a body for each function.
pub record Encodes (m : Tree) (code : List ℕ) : Type 0 where
  pub size : length code ≤ most_module_bytes
  pub sections : (ss : List (SectionId × Section)) × (rest : List ℕ) × AreSections 0 bare ss m rest × (code ≡ magic ++ version ++ rest)
  pub bodies : length m.functions ≡ length m.codes
