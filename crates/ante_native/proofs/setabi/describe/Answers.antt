use Rattle.std.proofs.Common.{◌≡◌, ◌∙◌, None, refl, subst, sym, ap}
use Rattle.std.specs.Option.{option_copied}
use Rattle.ante_undo.specs.Stack.{Stack}
use Rattle.ante_types.specs.World.{World}
use Rattle.ante_calls.specs.Accounts.{account_at}
use Rattle.ante_execution.specs.Native.Rules.{acting_refusal, make_all}
use Rattle.ante_execution.specs.Native.SetAbi.{setabi_changes}
use Rattle.ante_native.specs.Data.{setabi_of}
use Rattle.ante_native.proofs.Steps.{done, described_makes}
use Rattle.ante_native.proofs.setabi.describe.Goals as goal

pub returns-clause-does : goal.returns-clause-does
returns-clause-does g c =
    let w = (g.T.Tables.stack c.args.tables.now).top in
    let v = (g.T.Tables.stack c.make.new.tables).top in
    let d = setabi_of c.args.described in
    done (acting_refusal c.args.described.account c.args.run.now w) None (make_all (setabi_changes d w) w) v c.make.result
    (subst (λ (s : Stack World). acting_refusal c.args.described.account c.args.run.now s.top ≡ None) c.store.ensures c.in_ok-check_acting.ensures)
    refl
    (described_makes d (account_at c.args.described.account w) c.in-Some.row.now c.in_ok-row.row w v c.make.result
    (sym (subst (λ (s : Stack World). option_copied c.account.result ≡ account_at c.args.described.account s.top) c.store-2.ensures c.account.ensures) ∙ ap option_copied c.in-Some.is)
    c.in_ok-row.ensures c.make.ensures.does)
