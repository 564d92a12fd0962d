-- Worked examples of authorities, with expected values from outside.
use Rattle.std.proofs.Common.{◌≡◌, refl, ℕ, false, List, [], ◌∷◌, None, Some}
use Rattle.ante_pack.specs.declared.authority.Authority.{Authority}
use Rattle.ante_pack.specs.declared.authority.Level.{Level}
use Rattle.ante_pack.specs.declared.names.Name.{Name}
use Rattle.ante_pack.specs.Names.{name_number, number_of}
use Rattle.ante_state.specs.declared.objects.AccountRow.{AccountRow}
use Rattle.ante_state.specs.declared.objects.PermissionRow.{PermissionRow}
use Rattle.ante_types.specs.declared.chain.Action.{Action}
use Rattle.ante_types.specs.declared.failure.Failure.TheVariants as failure
use Rattle.ante_types.specs.World.{World}
use Rattle.ante_execution.specs.Authorities.{satisfied, check_action}
use Rattle.ante_execution.specs.declared.kinds.Weighed.TheVariants as weighed
use Rattle.ante_execution.specs.NativeData.{owner, active, eosio_code}

abbrev pub named : ℕ → Name
named n = record { 0 = n }

abbrev pub level : ℕ → Name → Level
level n permission = record { actor = named n; permission = permission }

abbrev pub account : ℕ → (code : List ℕ) → Name × AccountRow
account n code = (named n, record { payer = named n; privileged = false; code = code; abi = [] })

-- each key counts 1, and each level
abbrev pub authority : (threshold : ℕ) → List (List ℕ) → List Level → Authority
authority threshold [] [] = record { threshold = threshold; keys = []; accounts = []; waits = [] }
authority threshold (k ∷ []) [] = record { threshold = threshold; keys = record { key = k; weight = 1 } ∷ []; accounts = []; waits = [] }
authority threshold (k ∷ []) (l ∷ ls) = record { threshold = threshold; keys = record { key = k; weight = 1 } ∷ []; accounts = record { level = l; weight = 1 } ∷ []; waits = [] }
authority threshold [] (l ∷ ls) = record { threshold = threshold; keys = []; accounts = record { level = l; weight = 1 } ∷ []; waits = [] }
authority threshold (k ∷ k2 ∷ ks) ls = record { threshold = threshold; keys = record { key = k; weight = 1 } ∷ record { key = k2; weight = 1 } ∷ []; accounts = []; waits = [] }

abbrev pub permission : Level → (parent : Name) → Authority → Level × PermissionRow
permission l parent a = (l, record { parent = parent; authority = a })

-- 1's `active` asks for a key and for 2's `active`, which asks for another key; 3's asks for itself, and 4's for the code of 5
abbrev pub world : World
world = record {
  accounts = account 1 [] ∷ account 2 [] ∷ account 3 [] ∷ account 4 [] ∷ account 5 [] ∷ [];
  permissions = permission (level 1 active) owner (authority 2 ((1 ∷ []) ∷ []) (level 2 active ∷ []))
      ∷ permission (level 2 active) owner (authority 1 ((2 ∷ []) ∷ []) [])
      ∷ permission (level 3 active) owner (authority 1 [] (level 3 active ∷ []))
      ∷ permission (level 4 active) owner (authority 1 [] (level 5 eosio_code ∷ [])) ∷ [];
  links = [];
  quotas = [];
  recent = [];
  references = [];
  tables = [];
  rows = [];
  index64 = [];
  index128 = [];
  index256 = [];
}

one_key : satisfied world ((1 ∷ []) ∷ []) None (level 1 active) 512 ≡ (weighed.No, 510)
unfolding satisfied name_number number_of
one_key = refl

both_keys : satisfied world ((1 ∷ []) ∷ (2 ∷ []) ∷ []) None (level 1 active) 512 ≡ (weighed.Yes, 510)
unfolding satisfied name_number number_of
both_keys = refl

-- the threshold is met by the key alone where no level has to be looked at
no_visit : satisfied world ((2 ∷ []) ∷ []) None (level 2 active) 1 ≡ (weighed.Yes, 0)
unfolding satisfied name_number number_of
no_visit = refl

spent : satisfied world ((1 ∷ []) ∷ (2 ∷ []) ∷ []) None (level 1 active) 1 ≡ (weighed.Spent, 0)
unfolding satisfied name_number number_of
spent = refl

-- six levels and the one that is too deep
too_deep : satisfied world [] None (level 3 active) 512 ≡ (weighed.No, 505)
unfolding satisfied name_number number_of
too_deep = refl

by_code : satisfied world [] (Some (named 5)) (level 4 active) 512 ≡ (weighed.Yes, 510)
unfolding satisfied name_number number_of
by_code = refl

by_other_code : satisfied world [] (Some (named 4)) (level 4 active) 512 ≡ (weighed.No, 510)
unfolding satisfied name_number number_of
by_other_code = refl

-- ---- the check of an action: 9 asks for `active` of its actors

abbrev pub by : ℕ → List Level → Action
by n levels = record { account = named n; name = named 7; authorization = levels; bytes = [] }

unknown : check_action world (by 9 []) [] None ≡ Some (failure.UnknownAccount (named 9))
unfolding check_action
unknown = refl

no_permission : check_action world (by 1 (level 2 owner ∷ [])) [] None ≡ Some (failure.MissingAuth (named 2) owner)
unfolding check_action name_number number_of
no_permission = refl

fine : check_action world (by 1 (level 2 active ∷ [])) ((2 ∷ []) ∷ []) None ≡ None
unfolding check_action satisfied name_number number_of
fine = refl

missing : check_action world (by 1 (level 2 active ∷ [])) [] None ≡ Some (failure.MissingAuth (named 2) active)
unfolding check_action satisfied name_number number_of
missing = refl

-- an own permission beside `active` isn't above it
abbrev pub beside : World
beside = record world { permissions = permission (level 1 (named 2)) active (authority 1 ((1 ∷ []) ∷ []) []) ∷ permission (level 1 active) owner (authority 1 ((1 ∷ []) ∷ []) []) ∷ [] }

irrelevant : check_action beside (by 1 (level 1 (named 2) ∷ [])) ((1 ∷ []) ∷ []) None ≡ Some (failure.Irrelevant (named 1) (named 2))
unfolding check_action satisfied name_number number_of
irrelevant = refl

-- a link to it makes it enough, and `active` above it too
abbrev pub with_link : World
with_link = record beside { links = (record { account = named 1; code = named 1; action = named 0 }, named 2) ∷ [] }

linked_one : check_action with_link (by 1 (level 1 (named 2) ∷ level 1 active ∷ [])) ((1 ∷ []) ∷ []) None ≡ None
unfolding check_action satisfied name_number number_of
linked_one = refl
