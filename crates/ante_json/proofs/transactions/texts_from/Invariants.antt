use Rattle.std.proofs.Common.{◌≡◌, drop}
use Rattle.serde_json.specs.View.{items_view}
use Rattle.ante_json.specs.Kinds.{texts_from}
use Rattle.ante_json.proofs.Texts.{with_front}
use Rattle.ante_json.proofs.transactions.texts_from.Given as goal

abbrev pub invariant-loop-item : goal.invariant-loop-item
invariant-loop-item l = texts_from (items_view l.items) ≡ with_front l.texts (texts_from (items_view (drop l.item-index l.items)))
