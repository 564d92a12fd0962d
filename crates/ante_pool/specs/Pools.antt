-- What contracts see of a pool, of its seats, and of its end.
use Rattle.std.specs.Prelude.{◌≡◌, ℕ, ◌≤◌, min, true, All, Some}
use Rattle.atomic_table.specs.Seated.{TableId}
use Rattle.ante_pool.specs.declared.words.Known.{Known}
use Rattle.ante_pool.specs.declared.PoolEnd.{PoolEnd}
use Rattle.ante_pool.specs.Seats.{times}
use Rattle.ante_pool.specs.Standing.{below}

-- which pool it is, and how many jobs it has
pub record PoolView : Type 0 where
  pub table : TableId
  pub jobs : ℕ

-- which pool a seat is of, and what it knows
pub record SeatView : Type 0 where
  pub table : TableId
  pub known : Known

abbrev pub IsSeatOf : PoolView → SeatView → Type 0
IsSeatOf pool seat = (seat.table ≡ pool.table) × (seat.known.jobs ≡ pool.jobs)

-- What the seat with the whole share has, by how the pool ended: each job below the number of claims, once; all jobs, where it
-- was told that none is left; and every moment that any seat was told is the one of the ring, which this seat or one that
-- was joined into it has won
pub record IsTruth (jobs : ℕ) (v : Known) (end : PoolEnd) : Type 0 where
  pub numbers : (x : ℕ) → times x v.numbers ≡ below x (min end.drawn jobs)
  pub ended : v.ended ≡ true → jobs ≤ end.drawn
  pub rung : end.rung ≡ v.won
  pub moments : All (λ m. end.rung ≡ Some m) v.moments
