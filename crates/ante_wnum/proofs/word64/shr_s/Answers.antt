use Rattle.std.proofs.Common.{ap, sym, ◌∙◌, arith, Ok, FitsSigned, w64, mod-eq_of_lt}
use Rattle.std.specs.Int.{int_shr, cast_unsigned, bit_at}
use Rattle.std.specs.Prelude.{replicate, ◌-◌, ◌++◌, take}
use Rattle.ante_wnum.specs.Numerics.{ibits, integer}
use Rattle.ante_wnum.proofs.Readings.{shifted, shr_s-is}
use Rattle.ante_wnum.proofs.word64.shr_s.Goals as goal

pub returns : goal.returns
returns c =
    let f : FitsSigned w64 c.cast_signed.result = record { sfits = c.cast_signed.type_inv } in
    let is = shifted w64 c.cast_signed.result c.args.count c.cast_unsigned.result f c.cast_unsigned.ensures in
    ap Ok (is ∙ ap (λ z. cast_unsigned w64 (int_shr z c.args.count)) c.cast_signed.ensures
    ∙ sym (shr_s-is 64 c.args.count c.args.a (omega arith) (omega arith) c.ranges.a.fits)
    ∙ ap (λ k. integer (replicate k (bit_at c.args.a 63) ++ take (64 - k) (ibits 64 c.args.a))) (sym (mod-eq_of_lt c.requires)))
