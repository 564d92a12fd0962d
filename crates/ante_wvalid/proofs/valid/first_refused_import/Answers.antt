use Rattle.ante_wtree.specs.Trees.{tree_of}
use Rattle.ante_wvalid.specs.declared.imports.ImportRule.TheVariants as import_rule
use Rattle.ante_wvalid.proofs.Order.{clear_none, imports_met, import_first}
use Rattle.ante_wvalid.proofs.valid.first_refused_import.Goals as goal

pub returns-in-Some : goal.returns-in-Some
returns-in-Some c = let m = tree_of c.args.module.now in
    import_first m import_rule.Function c.in-Some.index c.in-Some.ensures.0 c.in-Some.ensures.1 (clear_none m)

pub returns-in-Some-first_refused : goal.returns-in-Some-first_refused
returns-in-Some-first_refused c = let m = tree_of c.args.module.now in
    import_first m import_rule.Known c.in-Some-first_refused.index c.in-Some-first_refused.ensures.0 c.in-Some-first_refused.ensures.1 (imports_met m import_rule.Function c.in_default.ensures (clear_none m))

pub returns-in-Some-first_refused-2 : goal.returns-in-Some-first_refused-2
returns-in-Some-first_refused-2 c = let m = tree_of c.args.module.now in
    import_first m import_rule.HostType c.in-Some-first_refused-2.index c.in-Some-first_refused-2.ensures.0 c.in-Some-first_refused-2.ensures.1
    (imports_met m import_rule.Known c.in_default-first_refused.ensures (imports_met m import_rule.Function c.in_default.ensures (clear_none m)))

pub returns : goal.returns
returns c = let m = tree_of c.args.module.now in
    imports_met m import_rule.HostType c.in_default-first_refused-2.ensures (imports_met m import_rule.Known c.in_default-first_refused.ensures (imports_met m import_rule.Function c.in_default.ensures (clear_none m)))
