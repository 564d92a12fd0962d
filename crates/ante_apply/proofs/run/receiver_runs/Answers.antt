use Rattle.std.proofs.Common.{refl, sym, ap, subst, ◌∙◌}
use Rattle.ante_types.specs.declared.failure.Failure.TheVariants as failure
use Rattle.ante_types.specs.World.{World}
use Rattle.ante_undo.specs.Stack.{Stack}
use Rattle.ante_wtree.specs.declared.modules.Module.{Module}
use Rattle.ante_wtree.specs.Trees.{tree_of}
use Rattle.ante_execution.specs.Runs.{arguments, code_at}
use Rattle.ante_host.specs.Code.{run_alone}
use Rattle.ante_apply.specs.Codes.{IsModuleFor}
use Rattle.ante_apply.specs.Runs.{seen}
use Rattle.ante_apply.proofs.Ends.{is_fine, is_failed, same_ran}
use Rattle.ante_apply.proofs.Modules.{runs_nothing, runs_none, runs_module}
use Rattle.ante_apply.proofs.run.receiver_runs.Goals as goal

pub returns-then-is_empty-clause-runs : goal.returns-then-is_empty-clause-runs
returns-then-is_empty-clause-runs g c = λ accepts a.
    let s = seen (g.T.Tables.stack c.args.tables.now).top c.args.run c.args.packed.now in
    let same = c.code_at-code.ensures ∙ ap (λ (x : Stack World). code_at c.args.run.receiver x.top) c.store.ensures in
    is_fine _ _ s c.args.left.now (runs_nothing accepts s c.args.left.now c.code_at-code.result.now same (sym c.is_empty.ensures ∙ c.if-is_empty.true))

pub returns-in_default-clause-runs : goal.returns-in_default-clause-runs
returns-in_default-clause-runs g c = λ accepts a.
    let s = seen (g.T.Tables.stack c.args.tables.now).top c.args.run c.args.packed.now in
    let same = c.code_at-code.ensures ∙ ap (λ (x : Stack World). code_at c.args.run.receiver x.top) c.store.ensures in
    is_failed _ _ failure.Abort s s 0 refl (runs_none accepts s c.args.left.now c.code_at-code.result.now same (sym c.is_empty.ensures ∙ c.if-is_empty.false)
    (subst (λ m. IsModuleFor accepts c.code_at-code.result.now m) c.in_default.is (c.in_ok-module.ensures accepts a)))

pub returns-clause-runs : goal.returns-clause-runs
returns-clause-runs g c = λ accepts a.
    let s = seen (g.T.Tables.stack c.args.tables.now).top c.args.run c.args.packed.now in
    let same = c.code_at-code.ensures ∙ ap (λ (x : Stack World). code_at c.args.run.receiver x.top) c.store.ensures in
    same_ran _ _ _ _ c.module_runs.result _ c.module_runs.new.left
    (runs_module accepts s c.args.left.now c.code_at-code.result.now same (sym c.is_empty.ensures ∙ c.if-is_empty.false) c.in-Some.module
    (subst (λ m. IsModuleFor accepts c.code_at-code.result.now m) c.in-Some.is (c.in_ok-module.ensures accepts a))
    ∙ ap (λ (m : Module). run_alone (tree_of m) (arguments c.args.run) s c.args.left.now) (sym c.get.ensures))
    c.module_runs.ensures.runs
