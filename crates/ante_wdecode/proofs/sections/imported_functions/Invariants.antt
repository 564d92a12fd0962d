use Rattle.std.proofs.Common.{◌≡◌, ◌+◌, ◌≤◌, drop}
use Rattle.ante_wdecode.specs.Sections.{imported}
use Rattle.ante_wdecode.proofs.sections.imported_functions.Given as goal

abbrev pub invariant-loop-import : goal.invariant-loop-import
invariant-loop-import l = record {
  sum : l.count + imported (drop l.import-index l.imports) ≡ imported l.imports;
  within : l.count ≤ l.import-index;
}
