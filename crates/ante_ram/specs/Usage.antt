-- The memory that accounts use and may use.
use Rattle.std.specs.Prelude.{ℕ, ◌+◌, ◌-◌, suc, ℤ, pos, negsuc, List, [], ◌∷◌, Option, Some, None}
use Rattle.std.specs.Prelude.{Bool, not, ◌==◌, ◌&&◌, nat_lt, if◌then◌else◌}
use Rattle.std.specs.Ordering.{int_eq}
use Rattle.std.specs.declared.cmp.Ordering.{Ordering}
use Rattle.std.specs.FinMap.Entries.{find}
use Rattle.ante_undo.specs.Entries.{changed}
use Rattle.ante_sums.specs.Weights.{weight_of}
use Rattle.ante_pack.specs.declared.names.Name.{Name}
use Rattle.ante_ram.specs.declared.parts.Share.{Share}

-- what an account uses: nothing, where it has no entry
abbrev pub used_of : Option Share → ℕ
used_of None = 0
used_of (Some share) = share.used

-- what it may use: -1, which is no quota, where it has no entry
abbrev pub quota_of : Option Share → ℤ
quota_of None = negsuc 0
quota_of (Some share) = share.quota

-- what all accounts use together
abbrev pub usage_sum : List (Name × Share) → ℕ
usage_sum = weight_of (λ e. e.1.used)

-- nothing is used, and there is no quota
abbrev pub is_free : ℕ → ℤ → Bool
is_free used quota = used == 0 && int_eq quota (negsuc 0)

-- the entry of an account that uses so much and has this quota
abbrev pub entry_of : ℕ → ℤ → Option Share
entry_of used quota = if is_free used quota then None else Some (record { used = used; quota = quota })

-- usage after a change of it
abbrev pub moved : ℤ → ℕ → ℕ
moved (pos n) used = used + n
moved (negsuc n) used = used - suc n

-- by how much a change lowers usage
abbrev pub fall : ℤ → ℕ
fall (pos n) = 0
fall (negsuc n) = suc n

-- an account with its usage and its quota
abbrev pub shown_share : Name × Share → Name × ℕ × ℤ
shown_share e = (e.0, e.1.used, e.1.quota)

-- more than the quota is used: the quota -1 is none, and any usage is more than another negative one
abbrev pub exceeds : ℕ → ℤ → Bool
exceeds used (pos quota) = nat_lt quota used
exceeds used (negsuc n) = not (n == 0)

module _ (cmp : Name → Name → Ordering) where
  -- the map with the account's usage and quota
  abbrev pub with_share : Name → ℕ → ℤ → List (Name × Share) → List (Name × Share)
  with_share account used quota m = changed cmp m account (entry_of used quota)

  -- with another usage, with usage that rose or fell by so much, and with another quota
  abbrev pub with_used : Name → ℕ → List (Name × Share) → List (Name × Share)
  with_used account used m = with_share account used (quota_of (find cmp account m)) m

  abbrev pub with_change : Name → ℤ → List (Name × Share) → List (Name × Share)
  with_change account change m = with_used account (moved change (used_of (find cmp account m))) m

  abbrev pub with_quota : Name → ℤ → List (Name × Share) → List (Name × Share)
  with_quota account quota m = with_share account (used_of (find cmp account m)) quota m

  -- the account uses more than before, and more than its quota
  abbrev pub is_over : List (Name × Share) → Name × ℕ × ℤ → Bool
  is_over before e = nat_lt (used_of (find cmp e.0 before)) e.1 && exceeds e.1 e.2

  -- the first account that is over
  abbrev pub first_over : List (Name × Share) → List (Name × Share) → Option (Name × ℕ × ℤ)
  first_over before [] = None
  first_over before (e ∷ es) = if is_over before (shown_share e) then Some (shown_share e) else first_over before es
