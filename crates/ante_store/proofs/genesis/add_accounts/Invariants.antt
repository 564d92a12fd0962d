use Rattle.std.proofs.Common.{◌≡◌, take}
use Rattle.ante_undo.specs.Stack.{with_top}
use Rattle.ante_store.specs.Genesis.{Shows}
use Rattle.ante_store.proofs.genesis.add_accounts.Given as goal

abbrev pub invariant-loop-account : goal.invariant-loop-account
invariant-loop-account l = Shows (take l.account-index l.accounts) l.parts.top × (l.parts ≡ with_top l.parts.top l.initial.parts)
