use Rattle.std.proofs.Common.{refl, Some}
use Rattle.std.proofs.lemmas.Result.{err_from_is_err_and}
use Rattle.ante_undo.specs.Entries.{changed}
use Rattle.ante_state.specs.Orders.{name_order}
use Rattle.ante_objects.specs.Objects.{account_set}
use Rattle.ante_store.specs.Applied.{in_objects}
use Rattle.ante_store.proofs.Made.{leads_as, leads_within, made_then, unpaid}
use Rattle.ante_store.proofs.ObjectChanges.{account_leads}
use Rattle.ante_store.proofs.apply_objects.set_account.Goals as goal

pub rebill-requires-clause-within : goal.rebill-requires-clause-within
rebill-requires-clause-within c = leads_within _ _ _ _ _ c.requires.billed (leads_as _ _ _ _ _ _ _ c.removed_account-removed.ensures c.of_account-added.ensures (account_leads c.args.name c.args.row c.args.parts.now.top c.requires.billed))

pub returns-in_err-rebill-clause-answers : goal.returns-in_err-rebill-clause-answers
returns-in_err-rebill-clause-answers c =
    let p = err_from_is_err_and c.from_residual.result c.from_residual.ensures.1 in
    rw (p.1, p.2) (unpaid _ _ _ _ _ _ c.requires.billed (leads_as _ _ _ _ _ _ _ c.removed_account-removed.ensures c.of_account-added.ensures (account_leads c.args.name c.args.row c.args.parts.now.top c.requires.billed)) c.in_err-rebill.ensures.err)

pub returns-clause-answers : goal.returns-clause-answers
returns-clause-answers c =
    made_then _ _ _ (in_objects (account_set c.args.name (Some c.args.row))) _ c.args.parts.now c.rebill.new.parts c.put_account.new.parts (λ shares. refl) c.requires.billed
    (leads_as _ _ _ _ _ _ _ c.removed_account-removed.ensures c.of_account-added.ensures (account_leads c.args.name c.args.row c.args.parts.now.top c.requires.billed))
    c.in_ok-rebill.ensures.ok c.in_ok-rebill.ensures.small c.in_ok-rebill.ensures.same c.in_ok-put_account.ensures.ok
