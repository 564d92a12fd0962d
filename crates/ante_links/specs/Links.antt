-- What the calls of links do. Of bytes something is said only where links of this kind tell them.
use Rattle.std.specs.Prelude.{◌≡◌, ℕ, ◌+◌, ◌^◌, ◌<◌, ◌≤◌, Bool, true, false, IsTrue, List, [], ◌∷◌, ◌++◌, length, take, slice_get, slice_set, Option, Some, None}
use Rattle.ante_base.specs.Faults.{Rose}
use Rattle.ante_base.specs.Stops.{looked}
use Rattle.ante_links.specs.LinkStates.{LinkState, Door, fresh_link}
use Rattle.ante_links.specs.declared.links.LinkId.{LinkId}
use Rattle.ante_links.specs.declared.links.Begun.{Begun}
use Rattle.ante_links.specs.declared.links.Begun.TheVariants as begun
use Rattle.ante_links.specs.declared.links.Accept.{Accept}
use Rattle.ante_links.specs.declared.links.Accept.TheVariants as accept
use Rattle.ante_links.specs.declared.links.LinkRead.{LinkRead}
use Rattle.ante_links.specs.declared.links.LinkRead.TheVariants as read
use Rattle.ante_links.specs.declared.links.LinkWrite.{LinkWrite}
use Rattle.ante_links.specs.declared.links.LinkWrite.TheVariants as write

-- how many links a set gives
abbrev pub most_links : ℕ
most_links = 4294967295

-- a read is handed this many bytes of room
abbrev pub read_room : ℕ
read_room = 65536

-- `listen` fails only where the count of faults rises.
abbrev pub Listens : Door → Door → Begun → Type 0
Listens old new begun.Listening = new ≡ old
Listens old new begun.Failed = (new ≡ record old { faults = new.faults }) × Rose old.faults new.faults

-- `accept` fails only where the count of faults rises, and waits only where that of waits does.
abbrev pub Admits : Door → Door → Accept → Type 0
Admits old new (accept.New id) = new ≡ old
Admits old new accept.NotReady = (new ≡ record old { waits = new.waits }) × Rose old.waits new.waits
Admits old new accept.Failed = (new ≡ record old { faults = new.faults }) × Rose old.faults new.faults

-- A call of `accept` that waits takes a wait off what is to come, or nothing is to come any more.
abbrev pub Waits : List (Option (List ℕ)) → List (Option (List ℕ)) → Type 0
Waits [] coming = coming ≡ []
Waits (c ∷ come) coming = (c ≡ None) × (coming ≡ come)

-- A new link has the next number and the next input, and all its counts are 0. No other answer gives a link, and a set that has given all
-- numbers fails.
abbrev pub Accepts : Bool → List (Option (List ℕ)) → List (Option (List ℕ)) → List LinkState → List LinkState → Accept → Type 0
Accepts tells come coming old new (accept.New id) =
    (input : List ℕ) × (id.0 ≡ length old) × (length old < most_links) × (new ≡ old ++ fresh_link input ∷ []) × (IsTrue tells → come ≡ Some input ∷ coming)
Accepts tells come coming old new accept.NotReady = (length old < most_links) × (new ≡ old) × (IsTrue tells → Waits come coming)
Accepts tells come coming old new accept.Failed = (new ≡ old) × (coming ≡ come)

-- One element of the list changes so, and no other does.
pub record Changes {A : Type 0} (place : ℕ) (old new : List A) (How : A → A → Type 0) : Type 0 where
  pub before : A
  pub after : A
  pub there : slice_get old place ≡ Some before
  pub is : new ≡ slice_set old place after
  pub how : How before after

-- A read of n bytes gives the first n that are left and takes them away. One that waits or fails raises its count. Once the input is over,
-- nothing is left, and a read answers so or fails.
abbrev pub OneRead : Bool → LinkState → LinkState → List ℕ → LinkRead → Type 0
OneRead tells old new buffer (read.Bytes n) = (1 ≤ n) × (n ≤ length buffer) × (old.is_over ≡ false)
    × (new ≡ record old { left = new.left; reads = looked old.reads 1 }) × (IsTrue tells → old.left ≡ take n buffer ++ new.left)
OneRead tells old new buffer read.NotReady = (old.is_over ≡ false) × (new ≡ record old { reads = looked old.reads 1; read_waits = new.read_waits }) × Rose old.read_waits new.read_waits
OneRead tells old new buffer read.End = (new ≡ record old { is_over = true }) × (IsTrue tells → old.left ≡ [])
OneRead tells old new buffer read.Failed = (new ≡ record old { faults = new.faults }) × Rose old.faults new.faults

-- A write of n bytes adds the first n of the buffer. One that waits or fails adds nothing and raises its count. The answer is kept.
abbrev pub OneWrite : Bool → LinkState → LinkState → List ℕ → LinkWrite → Type 0
OneWrite tells old new bytes (write.Wrote n) = (1 ≤ n) × (n ≤ length bytes)
    × (new ≡ record old { written = new.written; last = Some (write.Wrote n) }) × (IsTrue tells → new.written ≡ old.written ++ take n bytes)
OneWrite tells old new bytes write.NotReady = (new ≡ record old { write_waits = new.write_waits; last = Some write.NotReady }) × Rose old.write_waits new.write_waits
OneWrite tells old new bytes write.Failed = (new ≡ record old { faults = new.faults; last = Some write.Failed }) × Rose old.faults new.faults
