use Rattle.std.proofs.lemmas.Result.{err_from_is_err_and}
use Rattle.ante_pack.specs.Packed.{authority}
use Rattle.ante_pack.proofs.Consequences.{reads_at, refuses_at}
use Rattle.ante_pack.specs.Codecs.{IsCodec-authority}
use Rattle.ante_pack.proofs.authority.read_authority.Goals as goal

pub returns : goal.returns
returns c =
    reads_at authority IsCodec-authority c.args.reader.now c.read_fields.new.reader c.in_ok-value.value c.fork-ahead.ensures.bytes
    (rw c.fork-ahead.ensures.place at c.in_ok-value.ensures)

pub returns-in_err-value : goal.returns-in_err-value
returns-in_err-value c =
    let p = err_from_is_err_and c.from_residual.result c.from_residual.ensures.1 in
    rw (p.1, p.2) (refuses_at authority IsCodec-authority c.args.reader.now c.read_fields.new.reader c.in_err-value.field-0.0
    (rw c.fork-ahead.ensures.place at c.in_err-value.ensures))
