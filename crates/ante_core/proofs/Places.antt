-- Where a reader's job stands in the list of jobs in hand.
use Rattle.std.proofs.Common.{◌≡◌, ℕ, zero, suc, ◌<◌, true, false, List, [], ◌∷◌, length, take, slice_index_or, None, nat_eq, refl, ap, subst, arith}
use Rattle.std.specs.List.{AllByRecursion}
use Rattle.ante_core.specs.declared.window.Held.{Held}
use Rattle.ante_core.specs.Machine.{held_by}
use Rattle.ante_core.specs.Place.{IsAt}

-- none of these jobs is the reader's
abbrev pub NoneHeldBy : {F : Type 0} → ℕ → List (Held F) → Type 0
NoneHeldBy reader hs = AllByRecursion (λ h. nat_eq h.reader reader ≡ false) hs

pub held_by-none : {F : Type 0} (reader : ℕ) (hs : List (Held F)) → NoneHeldBy reader hs → held_by reader hs ≡ None
held_by-none reader [] none = refl
held_by-none reader (h ∷ hs) none = rw none.0 (held_by-none reader hs none.1)

pub is_at : {F : Type 0} (reader : ℕ) (hs : List (Held F)) (place : ℕ) (h : Held F) → NoneHeldBy reader (take place hs) → place < length hs → h ≡ slice_index_or hs place h → nat_eq h.reader reader ≡ true → IsAt reader hs place
is_at reader [] place h none within is here = absurd (omega arith)
is_at reader (x ∷ hs) zero h none within is here =
    let e : nat_eq x.reader reader ≡ true = subst (λ (y : Held _). nat_eq y.reader reader ≡ true) is here in
    record { within = within; here = λ d. rw e refl; others = rw e refl; changed = λ d frame. rw e refl }
is_at reader (x ∷ hs) (suc place) h none within is here =
    let r : IsAt reader hs place = is_at reader hs place h none.1 (omega arith) is here in
    let e : nat_eq x.reader reader ≡ false = none.0 in
    record {
      within = omega (arith, r.within);
      here = λ d. rw e (r.here d);
      others = rw e (ap (λ l. x ∷ l) r.others);
      changed = λ d frame. rw e (ap (λ l. x ∷ l) (r.changed d frame));
    }
