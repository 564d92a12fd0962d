-- One slot changes.
use Rattle.std.proofs.Common.{◌≡◌, ℕ, ◌<◌, true, List, ◌++◌, length, if◌then◌else◌, is_ok, get_or, slice_set, Result, Ok, Err, OnOk, refl}
use Rattle.ante_links.specs.Links.{Changes}
use Rattle.ante_driver.specs.declared.front.Slot.{Slot}
use Rattle.ante_driver.specs.Slots.{Holds, Says, SaysLast}
use Rattle.ante_driver.proofs.Places.{changes}

pub held_is : {A E : Type 0} (r : Result A E) (slots : List Slot) (n : ℕ) (x y : Slot) (bytes : List ℕ) → n < length slots → x ≡ get_or slots n x →
    y.held.items ≡ (if is_ok r then x.held.items ++ bytes else x.held.items) → y.output.items ≡ x.output.items → y.is_open ≡ x.is_open → y.is_last ≡ x.is_last → OnOk r (Changes n slots (slice_set slots n y) (Holds bytes))
held_is (Ok v) slots n x y bytes h e p q o l = changes n slots (slice_set slots n y) x y (Holds bytes) h e refl (record { held = p; output = q; is_open = o; is_last = l })
held_is (Err d) slots n x y bytes h e p q o l = tt

pub said_is : {A E : Type 0} (r : Result A E) (slots : List Slot) (n : ℕ) (x y : Slot) (bytes : List ℕ) → n < length slots → x ≡ get_or slots n x →
    y.output.items ≡ (if is_ok r then x.output.items ++ bytes else x.output.items) → y.held.items ≡ x.held.items → y.is_open ≡ x.is_open → y.is_last ≡ x.is_last → OnOk r (Changes n slots (slice_set slots n y) (Says bytes))
said_is (Ok v) slots n x y bytes h e p q o l = changes n slots (slice_set slots n y) x y (Says bytes) h e refl (record { held = q; output = p; is_open = o; is_last = l })
said_is (Err d) slots n x y bytes h e p q o l = tt

pub said_last_is : {A E : Type 0} (r : Result A E) (slots : List Slot) (n : ℕ) (x y : Slot) (bytes : List ℕ) → n < length slots → x ≡ get_or slots n x →
    y.output.items ≡ (if is_ok r then x.output.items ++ bytes else x.output.items) → y.held.items ≡ x.held.items → y.is_open ≡ x.is_open → y.is_last ≡ true → OnOk r (Changes n slots (slice_set slots n y) (SaysLast bytes))
said_last_is (Ok v) slots n x y bytes h e p q o l = changes n slots (slice_set slots n y) x y (SaysLast bytes) h e refl (record { held = q; output = p; is_open = o; is_last = l })
said_last_is (Err d) slots n x y bytes h e p q o l = tt
