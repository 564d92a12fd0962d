use Rattle.std.proofs.Common.{◌+◌, length, sym, ap, ◌∙◌}
use Rattle.ante_store.proofs.Lengths.{key_length}
use Rattle.ante_store.proofs.sizes.key_size.Goals as goal

pub returns-clause-size : goal.returns-clause-size
returns-clause-size c = ap (λ key. length key + 2) c.as_slice.ensures ∙ sym (key_length c.args.key.now)
