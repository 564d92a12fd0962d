-- Worked examples of native actions, with expected values from outside.
use Rattle.std.proofs.Common.{◌≡◌, refl, ℕ, ◌+◌, true, false, List, [], ◌∷◌, None, Some}
use Rattle.std.specs.Prelude.{Bool, codes, Ok, Err, Result}
use Rattle.ante_pack.specs.declared.authority.Level.{Level}
use Rattle.ante_pack.specs.declared.names.Name.{Name}
use Rattle.ante_pack.specs.Forms.{varuint, varuint_bytes, varuint_within, string}
use Rattle.ante_pack.specs.Names.{name_number, number_of, name_text}
use Rattle.ante_pack.specs.Packed as packed
use Rattle.ante_state.specs.declared.objects.PermissionRow.{PermissionRow}
use Rattle.ante_types.specs.declared.context.Mode.{Mode}
use Rattle.ante_types.specs.declared.context.Mode.TheVariants as mode
use Rattle.ante_types.specs.declared.context.RunContext.{RunContext}
use Rattle.ante_types.specs.declared.failure.Failure.{Failure}
use Rattle.ante_types.specs.declared.failure.Failure.TheVariants as failure
use Rattle.ante_types.specs.Genesis.{eosio, builtin_authority}
use Rattle.ante_types.specs.World.{World, used}
use Rattle.ante_calls.specs.Accounts.{no_name}
use Rattle.ante_execution.specs.Native.{native_run}
use Rattle.ante_execution.specs.Native.DeleteAuth.{deleteauth_refusal}
use Rattle.ante_execution.specs.Native.LinkAuth.{linkauth_refusal}
use Rattle.ante_execution.specs.Native.NewAccount.{newaccount_refusal, newaccount_changes}
use Rattle.ante_execution.specs.Native.Rules.{make_all}
use Rattle.ante_execution.specs.Native.UpdateAuth.{updateauth_refusal}
use Rattle.ante_execution.specs.declared.kinds.NativeAction.TheVariants as native
use Rattle.ante_execution.specs.NativeData.{named, owner, active, NewAccount}

abbrev pub permission : Name → Name → Name → Level × PermissionRow
permission account name parent = (record { actor = account; permission = name }, record { parent = parent; authority = builtin_authority })

-- the state of the built-in genesis, but for its reference
abbrev pub world : World
world = record {
  accounts = (eosio, record { payer = eosio; privileged = true; code = []; abi = [] }) ∷ [];
  permissions = permission eosio active owner ∷ permission eosio owner no_name ∷ [];
  links = [];
  quotas = [];
  recent = [];
  references = [];
  tables = [];
  rows = [];
  index64 = [];
  index128 = [];
  index256 = [];
}

used_at_first : used world eosio ≡ 3446
unfolding name_number number_of packed.authority packed.u32 packed.key_weight packed.key packed.u16 packed.level_weight packed.wait_weight varuint varuint_bytes
used_at_first = refl

abbrev pub bob : Name
bob = named (codes "bob")

abbrev pub new_account : Name → NewAccount
new_account name = record { creator = eosio; name = name; owner = builtin_authority; active = builtin_authority }

may_be_made : newaccount_refusal (new_account bob) world ≡ None
unfolding name_number number_of name_text
may_be_made = refl

abbrev pub after_make : Result World Failure → World → World
after_make (Ok w) old = w
after_make (Err f) old = old

abbrev pub with_bob : World
with_bob = after_make (make_all (newaccount_changes (new_account bob)) world) world

billed_to_creator : used with_bob eosio ≡ 3446 + 2720
unfolding name_number number_of packed.authority packed.u32 packed.key_weight packed.key packed.u16 packed.level_weight packed.wait_weight varuint varuint_bytes
billed_to_creator = refl

billed_to_new : used with_bob bob ≡ 726
unfolding name_number number_of packed.authority packed.u32 packed.key_weight packed.key packed.u16 packed.level_weight packed.wait_weight varuint varuint_bytes
billed_to_new = refl

made_twice : newaccount_refusal (new_account bob) with_bob ≡ Some (failure.Native 2)
unfolding name_number number_of name_text packed.authority packed.u32 packed.key_weight packed.key packed.u16 packed.level_weight packed.wait_weight varuint varuint_bytes
made_twice = refl

empty_name : newaccount_refusal (new_account no_name) world ≡ Some (failure.Native 2)
unfolding name_number number_of name_text
empty_name = refl

thirteen_characters : newaccount_refusal (new_account (record { 0 = 17 })) world ≡ Some (failure.Native 2)
unfolding name_number number_of name_text
thirteen_characters = refl

reserved_name : newaccount_refusal (record (new_account (named (codes "eosio.b"))) { creator = bob }) world ≡ Some (failure.Native 2)
unfolding name_number number_of name_text
reserved_name = refl

out_of_reach : newaccount_refusal (record (new_account bob) { active = record builtin_authority { threshold = 2 } }) world ≡ Some (failure.Native 1)
unfolding name_number number_of name_text
out_of_reach = refl

-- ---- the others

owner_is_kept : deleteauth_refusal (record { account = eosio; permission = owner }) world ≡ Some (failure.Native 5)
unfolding name_number number_of
owner_is_kept = refl

not_linked_so : linkauth_refusal (record { account = eosio; code = eosio; action = named (codes "linkauth"); requirement = active }) world ≡ Some (failure.Native 6)
unfolding name_number number_of
not_linked_so = refl

linked_so : linkauth_refusal (record { account = eosio; code = eosio; action = named (codes "setabi"); requirement = active }) world ≡ None
unfolding name_number number_of
linked_so = refl

another_parent : updateauth_refusal (record { account = eosio; permission = active; parent = no_name; authority = builtin_authority }) world ≡ Some (failure.Native 4)
unfolding name_number number_of name_text
another_parent = refl

same_parent : updateauth_refusal (record { account = eosio; permission = active; parent = owner; authority = builtin_authority }) world ≡ None
unfolding name_number number_of name_text
same_parent = refl

-- ---- in order: the mode, the data, the actor, the account

abbrev pub running : Mode → List Level → List ℕ → RunContext
running m levels bytes = record {
  receiver = eosio;
  action = record { account = eosio; name = named (codes "setabi"); authorization = levels; bytes = bytes };
  notified = false;
  depth = 0;
  sender = no_name;
  slot = 0;
  mode = m;
  recipients = [];
  inlines = [];
  console = [];
  return_value = [];
}

abbrev pub no_codes : List ℕ → Bool
no_codes code = false

reading : native_run no_codes (running mode.Reading [] []) world native.SetAbi ≡ Err (failure.WriteRefused (codes "setabi"))
unfolding native_run name_number number_of name_text
reading = refl

short : native_run no_codes (running mode.Writing [] (1 ∷ [])) world native.SetAbi ≡ Err (failure.DataFault 0)
unfolding native_run packed.name packed.u64
short = refl

nobody : native_run no_codes (running mode.Writing [] (1 ∷ 0 ∷ 0 ∷ 0 ∷ 0 ∷ 0 ∷ 0 ∷ 0 ∷ 0 ∷ [])) world native.SetAbi ≡ Err (failure.MissingAuth (record { 0 = 1 }) no_name)
unfolding native_run packed.name packed.u64 varuint varuint_within string
nobody = refl

unknown : native_run no_codes (running mode.Writing (record { actor = record { 0 = 1 }; permission = active } ∷ []) (1 ∷ 0 ∷ 0 ∷ 0 ∷ 0 ∷ 0 ∷ 0 ∷ 0 ∷ 0 ∷ [])) world native.SetAbi ≡ Err (failure.UnknownAccount (record { 0 = 1 }))
unfolding native_run name_number number_of packed.name packed.u64 varuint varuint_within string
unknown = refl
