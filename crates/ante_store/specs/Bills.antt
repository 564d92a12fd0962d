-- Usage and quotas as the store keeps them, against the bills of the world.
use Rattle.std.specs.Prelude.{◌≡◌, ℕ, ◌+◌, ◌-◌, ℤ, negsuc, T, nat_le, List, [], ◌∷◌, Option, Some, None, if◌then◌else◌}
use Rattle.std.specs.List.{sum_by}
use Rattle.std.specs.Ordering.{int_eq}
use Rattle.std.specs.FinMap.Entries.{find, is_sorted}
use Rattle.ante_pack.specs.declared.names.Name.{Name}
use Rattle.ante_state.specs.Billing.{table_size}
use Rattle.ante_state.specs.Orders.{name_order}
use Rattle.ante_state.specs.declared.tables.TableRow.{TableRow}
use Rattle.ante_types.specs.World.{World, bills, paid_by}
use Rattle.ante_ram.specs.declared.parts.Share.{Share}
use Rattle.ante_ram.specs.Usage.{used_of, usage_sum, with_used}

-- a quota, unless it is -1, which is none
abbrev pub limit : ℤ → Option ℤ
limit quota = if int_eq quota (negsuc 0) then None else Some quota

-- the quotas of all accounts that have one
abbrev pub quotas_of : List (Name × Share) → List (Name × ℤ)
quotas_of [] = []
quotas_of (e ∷ es) = if int_eq e.1.quota (negsuc 0) then quotas_of es else (e.0, e.1.quota) ∷ quotas_of es

-- what an account pays of all these bills, and what they are together
abbrev pub paid : Name → List (Name × ℕ) → ℕ
paid account bills = sum_by (paid_by account) bills

abbrev pub sizes : List (Name × ℕ) → ℕ
sizes bills = sum_by (λ bill. bill.1) bills

-- usage with so much taken out of what an account uses, and with so much added
abbrev pub lowered : Name → ℕ → List (Name × Share) → List (Name × Share)
lowered account size shares = with_used name_order account (used_of (find name_order account shares) - size) shares

abbrev pub raised : Name → ℕ → List (Name × Share) → List (Name × Share)
raised account size shares = with_used name_order account (used_of (find name_order account shares) + size) shares

-- these bills were taken out of the usage, those were added to it, and nothing else changed
pub record IsRebilled (removed added : List (Name × ℕ)) (old new : List (Name × Share)) : Type 0 where
  pub sorted : T (is_sorted name_order new)
  pub used : (account : Name) → used_of (find name_order account new) + paid account removed ≡ used_of (find name_order account old) + paid account added
  pub total : usage_sum new + sizes removed ≡ usage_sum old + sizes added
  pub quotas : quotas_of new ≡ quotas_of old

-- the bills of the entry at a key, if there is one
abbrev pub bills_at : {K V : Type 0} → (K × V → List (Name × ℕ)) → K → Option V → List (Name × ℕ)
bills_at of_entry key None = []
bills_at of_entry key (Some value) = of_entry (key, value)

-- the bill of a table object that comes with its first row, and of one that goes with its last
abbrev pub opening_bills : Option TableRow → Name → List (Name × ℕ)
opening_bills None payer = (payer, table_size) ∷ []
opening_bills (Some table) payer = []

abbrev pub closing_bills : Option TableRow → List (Name × ℕ)
closing_bills None = []
closing_bills (Some table) = if nat_le table.count 1 then (table.payer, table_size) ∷ [] else []

-- From the one world to the other these bills are removed and those are added, whatever is summed up of them.
abbrev pub Rebills : (removed added : List (Name × ℕ)) → World → World → Type 0
Rebills removed added w w2 = (part : Name × ℕ → ℕ) → sum_by part (bills w2) + sum_by part removed ≡ sum_by part (bills w) + sum_by part added
