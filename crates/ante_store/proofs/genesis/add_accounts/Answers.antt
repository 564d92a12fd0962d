use Rattle.std.proofs.Common.{ap, ◌∙◌}
use Rattle.ante_store.specs.Genesis.{joined}
use Rattle.ante_store.specs.Worlds.{world_of}
use Rattle.ante_store.proofs.Founding.{next_shown}
use Rattle.ante_store.proofs.Rebilled.{over_top}
use Rattle.ante_store.proofs.genesis.add_accounts.Goals as goal

pub loop-account-preserved : goal.loop-account-preserved
loop-account-preserved c =
    let made = c.in_ok-add_account.ensures in (
      next_shown c.args.accounts.now c.loop-account.account-index c.account-item.result c.loop-account.parts.top c.add_account.new.parts.top c.loop-account-test.true c.requires.rises c.loop-account.invariant.0
          (made.world ∙ ap (λ a. joined a (world_of c.loop-account.parts.top)) c.account-item.is) made.billed,
      over_top _ c.args.parts.now c.loop-account.parts c.add_account.new.parts made.top c.loop-account.invariant.1,
    )
