use Rattle.std.proofs.Common.{refl}
use Rattle.ante_store.proofs.widths.Key256Billed.are_changes.Goals as goal

pub returns : goal.returns
returns c = record {
  stored = λ table key primary payer m. refl;
  stored_new = λ table key primary payer m. refl;
  stored_fits = λ table key primary payer m. refl;
  updated = λ table key primary payer m. refl;
  updated_standing = λ table key primary payer m. refl;
  updated_fits = λ table key primary payer m. refl;
  removed = λ table primary m. refl;
  removed_standing = λ table primary m. refl;
  removed_fits = λ table primary m. refl;
}
