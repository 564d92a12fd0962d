use Rattle.std.proofs.lemmas.Result.{on_ok_weaker}
use Rattle.ante_pack.specs.Names.{number_of, name_number}
use Rattle.ante_store.proofs.Founding.{all_joined}
use Rattle.ante_store.proofs.genesis.add_account.Goals as goal

pub returns-clause-world : goal.returns-clause-world
unfolding name_number number_of
returns-clause-world c =
    on_ok_weaker c.set_permission-2.result
    (λ made.
    all_joined c.args.account.now c.in_ok-row.row c.level.result c.level-2.result c.args.parts.now.top c.make.new.parts.top c.set_permission.new.parts.top c.set_permission-2.new.parts.top
    c.in_ok-row.ensures c.level.ensures c.level-2.ensures c.in_ok-make.ensures.ok c.in_ok-set_permission.ensures.ok made)
    c.set_permission-2.ensures.ok
