use Rattle.std.proofs.Common.{arith}
use Rattle.ante_http.proofs.Digits.{small}
use Rattle.ante_http.proofs.fields.number.Goals as goal

pub overflow_mul-value : goal.overflow_mul-value
overflow_mul-value c = omega (arith, small c.loop-b.value c.loop-b.b-index c.loop-b.invariant.1 (omega arith))

pub overflow_add-value : goal.overflow_add-value
overflow_add-value c = omega (arith, small c.loop-b.value c.loop-b.b-index c.loop-b.invariant.1 (omega arith))
