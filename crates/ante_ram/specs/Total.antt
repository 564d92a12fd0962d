-- How the sum of all usage is kept.
use Rattle.std.specs.Prelude.{◌≡◌, ℕ, ◌+◌, ◌≤◌, T, not, List, Option, Some, None}
use Rattle.std.specs.declared.cmp.Ordering.{Ordering}
use Rattle.std.specs.Ordering.{nat_cmp}
use Rattle.std.specs.List.{AllByRecursion}
use Rattle.std.specs.FinMap.Entries.{find, is_sorted}
use Rattle.ante_pack.specs.declared.names.Name.{Name}
use Rattle.ante_state.specs.Billing.{most_usage}
use Rattle.ante_ram.specs.declared.parts.Share.{Share}
use Rattle.ante_ram.specs.declared.parts.Rest.{Rest}
use Rattle.ante_ram.specs.Usage.{used_of, usage_sum, is_free}

-- what is written down of the rest: at first nothing is used by all but the account 0
abbrev pub rest_of : Option Rest → Rest
rest_of None = record { account = record { 0 = 0 }; used = 0 }
rest_of (Some rest) = rest

-- the rest and the share beside it give the sum of all usage, which is within the most; no entry is free
pub record IsSummed (cmp : Name → Name → Ordering) (m : List (Name × Share) × List (ℕ × Rest)) : Type 0 where
  pub sorted : T (is_sorted cmp m.0)
  pub total : (rest_of (find nat_cmp 0 m.1)).used + used_of (find cmp (rest_of (find nat_cmp 0 m.1)).account m.0) ≡ usage_sum m.0
  pub small : usage_sum m.0 ≤ most_usage
  pub counted : AllByRecursion (λ e. T (not (is_free e.1.used e.1.quota))) m.0
