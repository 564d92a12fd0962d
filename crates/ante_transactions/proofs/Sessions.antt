-- A session whose newest state alone has changed.
use Rattle.std.proofs.Common.{◌≡◌, ℕ, zero, suc, ◌-◌, ◌<◌, List, [], ◌∷◌, length, slice_index_or, Bool, refl, ap, ◌∙◌, arith}
use Rattle.ante_types.specs.World.{World}
use Rattle.ante_undo.specs.Stack.{Stack, under_top, with_top}
use Rattle.ante_calls.specs.Views.{base_of}

pub same_base : (old new : Stack World) (writing again : Bool) (lent now : ℕ) → base_of new again now ≡ base_of old writing lent → new ≡ with_top new.top old
same_base old new writing again lent now e =
    λ i. record { under = (ap (λ b. b.under) e) i; top = new.top; revision = (ap (λ b. b.revision) e) i; shelf = (ap (λ b. b.shelf) e) i }

indexed : (u : List World) (k : ℕ) (a b : World) → k < length u → slice_index_or u k a ≡ slice_index_or u k b
indexed [] k a b lt = absurd (omega arith)
indexed (x ∷ u) zero a b lt = refl
indexed (x ∷ u) (suc k) a b lt = indexed u k a b (omega arith)

-- what the newest session began with stays
pub same_under : (old new : Stack World) → 0 < length old.under → new ≡ with_top new.top old → under_top new ≡ under_top old
same_under old new some e = ap under_top e ∙ indexed old.under (length old.under - 1) new.top old.top (omega arith)
