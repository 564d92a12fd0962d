use Rattle.std.proofs.Common.{Some, [], ◌∷◌, refl, sym, ap, ◌∙◌}
use Rattle.std.proofs.lemmas.Result.{err_from_is_err_and}
use Rattle.ante_rows.specs.Rows.{row_set}
use Rattle.ante_store.specs.Applied.{in_rows}
use Rattle.ante_store.proofs.Made.{leads_as, leads_within, made_then, unpaid}
use Rattle.ante_store.proofs.RowChanges.{update_leads}
use Rattle.ante_store.proofs.apply_rows.update_row.Goals as goal

pub rebill-requires-clause-within : goal.rebill-requires-clause-within
rebill-requires-clause-within c = leads_within _ _ _ _ _ c.requires.billed (leads_as _ _ _ _ _ _ _ (c.one-removed.ensures ∙ ap (λ b. b ∷ []) c.row_bill.ensures) (c.one-added.ensures ∙ ap (λ b. b ∷ []) c.row_bill-2.ensures)
    (update_leads c.args.table c.args.primary c.args.payer c.args.bytes c.in-Some.was.now c.args.parts.now.top c.requires.billed (sym c.in-Some.ensures)))

pub returns-in_err-rebill-clause-answers : goal.returns-in_err-rebill-clause-answers
returns-in_err-rebill-clause-answers c =
    let p = err_from_is_err_and c.from_residual.result c.from_residual.ensures.1 in
    rw (p.1, p.2) (unpaid _ _ _ _ _ _ c.requires.billed (leads_as _ _ _ _ _ _ _ (c.one-removed.ensures ∙ ap (λ b. b ∷ []) c.row_bill.ensures) (c.one-added.ensures ∙ ap (λ b. b ∷ []) c.row_bill-2.ensures)
    (update_leads c.args.table c.args.primary c.args.payer c.args.bytes c.in-Some.was.now c.args.parts.now.top c.requires.billed (sym c.in-Some.ensures))) c.in_err-rebill.ensures.err)

pub returns-clause-answers : goal.returns-clause-answers
returns-clause-answers c =
    made_then _ _ _ (in_rows (row_set c.args.table c.args.primary (Some (record { payer = c.args.payer; bytes = c.args.bytes })))) _ c.args.parts.now c.rebill.new.parts c.put_row.new.parts (λ shares. refl) c.requires.billed
    (leads_as _ _ _ _ _ _ _ (c.one-removed.ensures ∙ ap (λ b. b ∷ []) c.row_bill.ensures) (c.one-added.ensures ∙ ap (λ b. b ∷ []) c.row_bill-2.ensures)
    (update_leads c.args.table c.args.primary c.args.payer c.args.bytes c.in-Some.was.now c.args.parts.now.top c.requires.billed (sym c.in-Some.ensures)))
    c.in_ok-rebill.ensures.ok c.in_ok-rebill.ensures.small c.in_ok-rebill.ensures.same c.in_ok-put_row.ensures.ok
