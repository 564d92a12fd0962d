-- A reader's stop.
use Rattle.std.specs.Prelude.{◌≡◌, ℕ, Option}
use Rattle.ante_window.specs.declared.pool_stop.PoolStop.{PoolStop}
use Rattle.ante_window.specs.Watching.{LooksAt}

-- the stop over the same pool and clock, with the same deadline
abbrev pub IsSameStop : {C : Type 0} → PoolStop C → PoolStop C → Type 0
IsSameStop a b = (b.pool.now ≡ a.pool.now) × (b.clock.now ≡ a.clock.now) × (b.deadline ≡ a.deadline)

abbrev pub StopLooks : {C : Type 0} → (told : C → ℕ → Type 0) → PoolStop C → Option ℕ → PoolStop C → Type 0
StopLooks told a answer b = IsSameStop a b × LooksAt (told a.clock.now) a.deadline a.seat.known answer b.seat.known
