-- What happens to one slot.
use Rattle.std.specs.Prelude.{◌≡◌, ℕ, ◌+◌, Bool, true, false, List, [], ◌∷◌, ◌++◌, take, drop}
use Rattle.ante_journal.specs.Desk.{one_if}
use Rattle.ante_driver.specs.declared.front.Slot.{Slot}

pub record Holds (bytes : List ℕ) (old new : Slot) : Type 0 where
  pub held : new.held.items ≡ old.held.items ++ bytes
  pub output : new.output.items ≡ old.output.items
  pub is_open : new.is_open ≡ old.is_open
  pub is_last : new.is_last ≡ old.is_last

pub record Splits (front : List ℕ) (count : ℕ) (close : Bool) (old new : Slot) : Type 0 where
  pub front_is : front ≡ take count old.held.items
  pub held : new.held.items ≡ drop count old.held.items
  pub output : new.output.items ≡ old.output.items
  pub is_open : new.is_open ≡ old.is_open
  pub is_last : new.is_last ≡ close

-- A request is taken, and perhaps answered.
pub record Takes (count : ℕ) (close : Bool) (said : List ℕ) (old new : Slot) : Type 0 where
  pub held : new.held.items ≡ drop count old.held.items
  pub output : new.output.items ≡ old.output.items ++ said
  pub is_open : new.is_open ≡ old.is_open
  pub is_last : new.is_last ≡ close

-- A reply more is to be written.
pub record Says (reply : List ℕ) (old new : Slot) : Type 0 where
  pub held : new.held.items ≡ old.held.items
  pub output : new.output.items ≡ old.output.items ++ reply
  pub is_open : new.is_open ≡ old.is_open
  pub is_last : new.is_last ≡ old.is_last

-- It is the last one.
pub record SaysLast (reply : List ℕ) (old new : Slot) : Type 0 where
  pub held : new.held.items ≡ old.held.items
  pub output : new.output.items ≡ old.output.items ++ reply
  pub is_open : new.is_open ≡ old.is_open
  pub is_last : new.is_last ≡ true

pub record Shuts (old new : Slot) : Type 0 where
  pub held : new.held.items ≡ old.held.items
  pub output : new.output.items ≡ old.output.items
  pub is_open : new.is_open ≡ false
  pub is_last : new.is_last ≡ old.is_last

pub record Sends (count : ℕ) (old new : Slot) : Type 0 where
  pub held : new.held.items ≡ old.held.items
  pub output : new.output.items ≡ drop count old.output.items
  pub is_open : new.is_open ≡ old.is_open
  pub is_last : new.is_last ≡ old.is_last

abbrev pub open_slots : List Slot → ℕ
open_slots [] = 0
open_slots (s ∷ slots) = one_if s.is_open + open_slots slots
