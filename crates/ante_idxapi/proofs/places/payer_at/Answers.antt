use Rattle.std.proofs.Common.{◌==◌, option_map, sym, ap, ◌∙◌}
use Rattle.ante_undo.specs.Entries.{first_where}
use Rattle.ante_secidx.specs.Index.{index_of}
use Rattle.ante_idxapi.proofs.Found.{found_payer}
use Rattle.ante_idxapi.proofs.places.payer_at.Goals as goal

pub returns-in-Some : goal.returns-in-Some
returns-in-Some g c =
    found_payer c.args.primary (index_of c.args.key c.rows_of.result.now.top) c.in-Some.found (sym c.in-Some.is ∙ c.by_primary.ensures.listed)
    ∙ ap (λ m. option_map (λ e. e.1) (first_where (λ place. place.1 == c.args.primary) m))
    (c.rows_of.ensures c.args.key ∙ ap (λ s. g.K.Indexed.index.rows c.args.key s.top) c.store.ensures)
