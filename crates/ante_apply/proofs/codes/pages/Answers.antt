use Rattle.std.proofs.Common.{ap, subst, ◌∙◌}
use Rattle.ante_wtree.specs.Trees.{tree_of}
use Rattle.ante_wtree.specs.declared.modules.Module.{Module}
use Rattle.ante_execution.specs.Codes.{least_pages}
use Rattle.ante_apply.specs.Codes.{IsModuleFor}
use Rattle.ante_apply.proofs.Modules.{pages_found, pages_none}
use Rattle.ante_apply.proofs.codes.pages.Goals as goal

pub returns-in-Some : goal.returns-in-Some
returns-in-Some c = λ accepts a.
    c.least_pages.ensures ∙ ap (λ (m : Module). least_pages (tree_of m).memory) (c.module.ensures.module ∙ c.get.ensures)
    ∙ pages_found accepts c.args.code.now c.in-Some.module (subst (λ m. IsModuleFor accepts c.args.code.now m) c.in-Some.is (c.in_ok-module.ensures accepts a))

pub returns-in-None : goal.returns-in-None
returns-in-None c = λ accepts a. pages_none accepts c.args.code.now (subst (λ m. IsModuleFor accepts c.args.code.now m) c.in-None.is (c.in_ok-module.ensures accepts a))
