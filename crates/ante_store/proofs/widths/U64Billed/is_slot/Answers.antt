use Rattle.std.proofs.Common.{arith}
use Rattle.std.specs.FinMap.{nat_cmp-IsAntisymmetric}
use Rattle.std.specs.Cmp.{nat_cmp_total}
use Rattle.std.specs.Ordering.{nat_cmp}
use Rattle.ante_store.proofs.KeyOrders.{index_total, index_exact}
use Rattle.ante_store.proofs.widths.U64Billed.is_slot.Goals as goal

pub returns : goal.returns
returns c = record {
  total = index_total nat_cmp nat_cmp_total;
  exact = index_exact nat_cmp nat_cmp-IsAntisymmetric;
  summed = λ part rows m. omega arith;
  within = λ part m. omega arith;
  counted = λ table rows m. omega arith;
  few = λ table m. omega arith;
  rises = λ m rise. rise.index64;
  rise = λ rows m sorted rise. record { index64 = sorted; index128 = rise.index128; index256 = rise.index256 };
}
