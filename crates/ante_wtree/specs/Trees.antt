-- Modules without their places in memory: what contracts speak of in place of `Module`.
use Rattle.std.specs.Prelude.{ℕ, List, Option, map}
use Rattle.ante_wtree.specs.declared.instructions.ValueKind.{ValueKind}
use Rattle.ante_wtree.specs.declared.modules.FuncType.{FuncType}
use Rattle.ante_wtree.specs.declared.modules.Import.{Import}
use Rattle.ante_wtree.specs.declared.modules.Limits.{Limits}
use Rattle.ante_wtree.specs.declared.modules.Global.{Global}
use Rattle.ante_wtree.specs.declared.modules.Export.{Export}
use Rattle.ante_wtree.specs.declared.modules.Element.{Element}
use Rattle.ante_wtree.specs.declared.modules.Code.{Code}
use Rattle.ante_wtree.specs.declared.modules.Segment.{Segment}
use Rattle.ante_wtree.specs.declared.modules.Module.{Module}
use Rattle.ante_wtree.specs.Expressions.{Expression, expression_of}

-- A function's body: the kinds of its own locals, and its instructions.
pub record Body : Type 0 where
  pub locals : List ValueKind
  pub body : Expression

-- a module, field by field
pub record Tree : Type 0 where
  pub types : List FuncType
  pub imports : List Import
  pub functions : List ℕ
  pub table : List Limits
  pub memory : List Limits
  pub globals : List Global
  pub exports : List Export
  pub start : Option ℕ
  pub elements : List Element
  pub codes : List Body
  pub segments : List Segment

abbrev pub body_of : Code → Body
body_of c = record { locals = c.locals; body = expression_of c.body.items }

abbrev pub tree_of : Module → Tree
tree_of m = record {
  types = m.types;
  imports = m.imports;
  functions = m.functions;
  table = m.table;
  memory = m.memory;
  globals = m.globals;
  exports = m.exports;
  start = m.start;
  elements = m.elements;
  codes = map body_of m.codes;
  segments = m.segments;
}
