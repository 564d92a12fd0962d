use Rattle.std.proofs.Common.{◌∙◌, sym, ap, unwrap_or}
use Rattle.std.specs.Option.{option_or}
use Rattle.ante_pack.specs.Names.{name_number, number_of}
use Rattle.ante_calls.specs.Accounts.{no_name}
use Rattle.ante_execution.specs.Authorities.{link_at}
use Rattle.ante_execution.specs.NativeData.{active}
use Rattle.ante_authz.proofs.least.linked.Goals as goal

pub returns-in-None : goal.returns-in-None
unfolding name_number number_of
returns-in-None c =
    let w = c.args.store.now.top in
    let second = link_at c.args.actor c.args.action.now.account no_name w in
    c.unwrap_or.ensures ∙ ap (λ o. unwrap_or o active) c.link-in-None.ensures
    ∙ ap (λ o. unwrap_or (option_or o second) active) (sym c.in-None.is ∙ c.link.ensures)
