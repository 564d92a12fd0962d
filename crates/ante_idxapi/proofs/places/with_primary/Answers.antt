use Rattle.std.proofs.Common.{◌==◌, sym, ap, ◌∙◌}
use Rattle.ante_secidx.specs.Index.{index_of}
use Rattle.ante_calls.specs.IndexCalls.{first_place}
use Rattle.ante_idxapi.proofs.Found.{found_place}
use Rattle.ante_idxapi.proofs.places.with_primary.Goals as goal

pub returns-in-Some : goal.returns-in-Some
returns-in-Some g c =
    found_place c.args.primary (index_of c.args.key c.rows_of.result.now.top) c.in-Some.found (sym c.in-Some.is ∙ c.by_primary.ensures.listed)
    ∙ ap (first_place g.K.Indexed.form g.K.Indexed.index (λ place. place.1 == c.args.primary))
    (c.rows_of.ensures c.args.key ∙ ap (λ s. g.K.Indexed.index.rows c.args.key s.top) c.store.ensures)
