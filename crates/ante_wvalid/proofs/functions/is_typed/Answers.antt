use Rattle.std.proofs.Common.{[], ◌∷◌, ◌++◌, slice_get, sym, ap, subst, ◌∙◌}
use Rattle.ante_wtree.specs.Expressions.{expression_of}
use Rattle.ante_wtree.specs.Trees.{tree_of, body_of}
use Rattle.ante_wtree.specs.Types.{kinds_of, result_of}
use Rattle.ante_wvalid.specs.Typing.{Context, Typed}
use Rattle.ante_wvalid.specs.Modules.{is_there}
use Rattle.ante_wvalid.proofs.Own.{body_at, function_is, context_is}
use Rattle.ante_wvalid.proofs.functions.is_typed.Goals as goal

pub returns : goal.returns
returns c =
    let m = tree_of c.args.module.now in
    let t = c.in-Some-numbered.found.now in
    let code = c.in-Some-code_at.code.now in
    let same = context_is m c.as_slice-types.result.now c.args.functions.now c.is_there.result c.is_there-2.result c.as_slice-5.result.now c.as_slice-6.result.now c.as_slice-7.result.now t.params code.locals c.result_of.result (result_of t.results)
    c.as_slice-types.ensures c.requires (c.is_there.ensures ∙ ap is_there c.as_slice-3.ensures) (c.is_there-2.ensures ∙ ap is_there c.as_slice-4.ensures) c.as_slice-5.ensures c.as_slice-6.ensures c.as_slice-7.ensures (c.result_of.ensures ∙ ap result_of c.as_slice-8.ensures)
    (λ x r. Typed x (expression_of code.body.items) [] (kinds_of r)) in
    let own = function_is m c.args.at c.in-Some.number t (body_of code)
    (ap (λ xs. slice_get xs c.args.at) (sym c.as_slice.ensures) ∙ sym c.in-Some.ensures)
    (ap (λ xs. slice_get xs c.in-Some.number) (sym c.as_slice-types.ensures) ∙ sym c.in-Some-numbered.ensures)
    (body_at c.args.module.now.codes c.args.at code (ap (λ xs. slice_get xs c.args.at) (sym c.as_slice-2.ensures) ∙ sym c.in-Some-code_at.ensures)) in
    let h = c.in_ok-typed.ensures in
    let context : Context = record {
      types = c.as_slice-types.result.now;
      functions = c.args.functions.now;
      table = c.is_there.result;
      memory = c.is_there-2.result;
      globals = c.as_slice-5.result.now;
      locals = c.as_slice-6.result.now ++ c.as_slice-7.result.now;
      labels = c.result_of.result ∷ [];
      result = c.result_of.result;
    } in (
      λ y. own.0 (subst (λ A. A) same (subst (λ is. Typed context (expression_of is) [] (kinds_of c.result_of.result)) c.as_slice-9.ensures.value (h.0 y))),
      λ x. h.1 (subst (λ is. Typed context (expression_of is) [] (kinds_of c.result_of.result)) (sym c.as_slice-9.ensures.value) (subst (λ A. A) (sym same) (own.1 x))),
    )
