-- The least account that is over, found among those that a session changed.
use Rattle.std.specs.Prelude.{ℕ, ℤ, List, [], ◌∷◌, Option, Some, None, if◌then◌else◌}
use Rattle.std.specs.declared.cmp.Ordering.{Ordering}
use Rattle.std.specs.Option.{option_or}
use Rattle.std.specs.Ordering.{is_gt}
use Rattle.std.specs.FinMap.Entries.{find}
use Rattle.ante_pack.specs.declared.names.Name.{Name}
use Rattle.ante_ram.specs.declared.parts.Share.{Share}
use Rattle.ante_ram.specs.Usage.{used_of, quota_of, is_over}

module _ (cmp : Name → Name → Ordering) (before now : List (Name × Share)) where
  -- an account with its usage and its quota
  abbrev pub shown_at : Name → Name × ℕ × ℤ
  shown_at account = (account, used_of (find cmp account now), quota_of (find cmp account now))

  -- the same, if it is over
  abbrev pub over_at : Name → Option (Name × ℕ × ℤ)
  over_at account = if is_over cmp before (shown_at account) then Some (shown_at account) else None

  -- the least so far, and one account more
  abbrev pub lesser_over : Option (Name × ℕ × ℤ) → Name → Option (Name × ℕ × ℤ)
  lesser_over None account = over_at account
  lesser_over (Some least) account = if is_gt (cmp least.0 account) then option_or (over_at account) (Some least) else Some least

  -- the least so far, and these accounts more
  abbrev pub least_over : {V : Type 0} → Option (Name × ℕ × ℤ) → List (Name × V) → Option (Name × ℕ × ℤ)
  least_over least [] = least
  least_over least (c ∷ cs) = least_over (lesser_over least c.0) cs
