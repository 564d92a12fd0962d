use Rattle.std.proofs.Common.{ap, ap₂, ◌∙◌, Ok, FitsSigned, w64, ◌-ℤ◌, ◌*ℤ◌}
use Rattle.std.specs.Int.{cast_unsigned}
use Rattle.std.specs.Prelude.{int_div}
use Rattle.std.proofs.lemmas.Bool.{ne_eqb}
use Rattle.ante_wnum.proofs.Readings.{remainder, cast-is}
use Rattle.ante_wnum.proofs.word64.rem_s.Goals as goal

pub returns-else-b-eq0-clause-value : goal.returns-else-b-eq0-clause-value
returns-else-b-eq0-clause-value c =
    let x = c.cast_signed.result in
    let y = c.cast_signed-else-b-eq0.result in
    let f : FitsSigned w64 x = record { sfits = c.cast_signed.type_inv } in
    let g : FitsSigned w64 y = record { sfits = c.cast_signed-else-b-eq0.type_inv } in
    let is = remainder w64 x y c.wrapping_rem.result c.cast_unsigned.result f g c.cast_unsigned.ensures c.wrapping_rem.ensures in
    let a = c.cast_signed.ensures ∙ cast-is 64 c.args.a c.ranges.a.fits in
    let b = c.cast_signed-else-b-eq0.ensures ∙ cast-is 64 c.args.b c.ranges.b.fits in
    let value = is ∙ ap₂ (λ p q. cast_unsigned w64 (p -ℤ q *ℤ int_div p q)) a b in
    rw (ne_eqb c.args.b 0 c.if-b-eq0.false) (ap Ok value)
