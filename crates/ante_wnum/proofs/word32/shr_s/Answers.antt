use Rattle.std.proofs.Common.{ap, sym, ◌∙◌, arith, Ok, FitsSigned, w32, mod-eq_of_lt}
use Rattle.std.specs.Int.{int_shr, cast_unsigned, bit_at}
use Rattle.std.specs.Prelude.{replicate, ◌-◌, ◌++◌, take}
use Rattle.ante_wnum.specs.Numerics.{ibits, integer}
use Rattle.ante_wnum.proofs.Readings.{shifted, shr_s-is}
use Rattle.ante_wnum.proofs.word32.shr_s.Goals as goal

pub returns : goal.returns
returns c =
    let f : FitsSigned w32 c.cast_signed.result = record { sfits = c.cast_signed.type_inv } in
    let is = shifted w32 c.cast_signed.result c.args.count c.cast_unsigned.result f c.cast_unsigned.ensures in
    ap Ok (is ∙ ap (λ z. cast_unsigned w32 (int_shr z c.args.count)) c.cast_signed.ensures
    ∙ sym (shr_s-is 32 c.args.count c.args.a (omega arith) (omega arith) c.ranges.a.fits)
    ∙ ap (λ k. integer (replicate k (bit_at c.args.a 31) ++ take (32 - k) (ibits 32 c.args.a))) (sym (mod-eq_of_lt c.requires)))
