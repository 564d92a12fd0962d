use Rattle.std.proofs.Common.{arith}
use Rattle.ante_pack.specs.KeyOrder.{key256_order}
use Rattle.ante_secidx.specs.Keys.{key256_exact}
use Rattle.ante_store.proofs.KeyOrders.{index_total, index_exact, key256_total}
use Rattle.ante_store.proofs.widths.Key256Billed.is_slot.Goals as goal

pub returns : goal.returns
returns c = record {
  total = index_total key256_order key256_total;
  exact = index_exact key256_order key256_exact;
  summed = λ part rows m. omega arith;
  within = λ part m. omega arith;
  counted = λ table rows m. omega arith;
  few = λ table m. omega arith;
  rises = λ m rise. rise.index256;
  rise = λ rows m sorted rise. record { index64 = rise.index64; index128 = rise.index128; index256 = sorted };
}
