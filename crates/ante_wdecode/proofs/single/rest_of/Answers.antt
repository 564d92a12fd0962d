use Rattle.std.proofs.Common.{sym, ap, ◌∙◌}
use Rattle.ante_wtree.specs.Expressions.{Plain}
use Rattle.ante_pack.specs.Forms.{◌>>=◌}
use Rattle.ante_wdecode.specs.Instructions.{indexed_of, completes}
use Rattle.ante_wdecode.proofs.Laws.{ok}
use Rattle.ante_wdecode.proofs.single.rest_of.Goals as goal

pub returns-in-Fixed : goal.returns-in-Fixed
returns-in-Fixed c = ap (λ l. (completes l).read c.args.bytes.now) c.in-Fixed.is ∙ ap (λ make. ok make c.args.bytes.now) (sym c.plain_instr.ensures)

pub returns-in_ok-n-in-Indexed : goal.returns-in_ok-n-in-Indexed
returns-in_ok-n-in-Indexed c =
    ap (λ l. (completes l).read c.args.bytes.now) c.in-Indexed.is
    ∙ ap (λ r. r >>= λ n. ok (Plain (indexed_of c.in-Indexed.indexed n.0)) n.1) c.in_ok-n-in-Indexed.ensures
    ∙ ap (λ make. ok make c.in_ok-n-in-Indexed.rest.now) (sym c.indexed_instr.ensures)
