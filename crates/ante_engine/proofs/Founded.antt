-- What holds of a genesis without a fault.
use Rattle.std.proofs.Common.{◌≡◌, ◌==◌, ◌≤◌, ◌&&◌, nat_le, not, ℕ, Bool, true, false, T, List, [], ◌∷◌, length, Option, Some, None, IsNone, Result, Ok, Err, if◌then◌else◌, refl, sym, ap, subst, ◌∙◌, arith}
use Rattle.std.proofs.lemmas.Bool.Decides.{nat_tests}
use Rattle.std.specs.Cmp.{nat_cmp_total}
use Rattle.std.specs.List.{list_all, list_any}
use Rattle.std.specs.Option.{option_or}
use Rattle.std.specs.Ordering.{is_lt, nat_cmp}
use Rattle.std.specs.declared.cmp.Ordering.{Ordering}
use Rattle.std.specs.declared.cmp.Ordering.TheVariants.{Less, Equal, Greater}
use Rattle.std.specs.FinMap.Entries.{below_all, is_sorted}
use Rattle.ante_pack.specs.declared.names.Name.{Name}
use Rattle.ante_state.specs.Orders.{name_order}
use Rattle.ante_state.specs.declared.objects.AccountRow.{AccountRow}
use Rattle.ante_types.specs.declared.chain.Genesis.{Genesis}
use Rattle.ante_types.specs.declared.chain.GenesisAccount.{GenesisAccount}
use Rattle.ante_types.specs.Genesis.{eosio}
use Rattle.ante_types.specs.GenesisWorld.{accounts_of, genesis_world}
use Rattle.ante_undo.proofs.Entries.{both, first, second}
use Rattle.ante_store.specs.Genesis.{Rises}
use Rattle.ante_calls.specs.Accounts.{same_name}
use Rattle.sha2.specs.Sha256.{sha256}
use Rattle.ante_types.specs.World.{World}
use Rattle.ante_undo.specs.Stack.{Stack, opened}
use Rattle.ante_session_machine.specs.Under.{Parts}
use Rattle.ante_pack.specs.declared.fault.PackFault.{PackFault}
use Rattle.ante_pack.specs.Forms.{whole}
use Rattle.ante_types.specs.Chain as forms
use Rattle.ante_engine.specs.declared.founding.EngineError.{EngineError}
use Rattle.ante_engine.specs.declared.founding.EngineError.TheVariants as error
use Rattle.ante_engine.specs.Founding.{IsGenesis, IsNoGenesis, Shows, founded}
use Rattle.ante_accepts.specs.Accepting.{accepts}
use Rattle.ante_execution.specs.declared.ends.GenesisFault.{GenesisFault}
use Rattle.ante_execution.specs.declared.ends.GenesisFault.TheVariants as fault
use Rattle.ante_execution.specs.GenesisRules.{account_order, are_distinct, are_producers, authority_fault, code_fault, genesis_fault, most_producers}
use Rattle.ante_execution.specs.Native.Rules.{rises}

-- where there is no fault, each rule holds
module _ (v p o s : GenesisFault) (rest : Option GenesisFault) where
  abbrev first_fault : (a b c d : Bool) → Option GenesisFault
  first_fault a b c d = if not a then Some v else if not b then Some p else if not c then Some o else if not d then Some s else rest

  producers_hold : (a b c d : Bool) → first_fault a b c d ≡ None → T b
  producers_hold true true c d none = tt
  producers_hold true false c d none = cc
  producers_hold false b c d none = cc

  order_holds : (a b c d : Bool) → first_fault a b c d ≡ None → T c
  order_holds true true true d none = tt
  order_holds true true false d none = cc
  order_holds true false c d none = cc
  order_holds false b c d none = cc

-- ---- accounts that rise one by one rise all

is_less : (o : Ordering) → T (is_lt o) → o ≡ Less
is_less Less below = refl
is_less Equal below = absurd below
is_less Greater below = absurd below

below_more : (x y : Name) (es : List (Name × AccountRow)) → name_order x y ≡ Less → T (below_all name_order y es) → T (below_all name_order x es)
below_more x y [] less h = tt
below_more x y (e ∷ es) less h = both _ _
    (subst (λ o. T (is_lt o)) (sym (nat_cmp_total.trans x.0 y.0 e.0.0 less (is_less (name_order y e.0) (first _ _ h)))) tt)
    (below_more x y es less (second _ _ h))

risen : (a : GenesisAccount) (accounts : List GenesisAccount) → T (rises account_order (a ∷ accounts)) →
    T (below_all name_order a.name (accounts_of accounts)) × Rises accounts
risen a [] h = (tt, tt)
risen a (b ∷ accounts) h =
    let rest = risen b accounts (second _ _ h) in
    let less : name_order a.name b.name ≡ Less = is_less (name_order a.name b.name) (first _ _ h) in
    (both _ _ (first _ _ h) (below_more a.name b.name (accounts_of accounts) less rest.0), both _ _ rest.0 rest.1)

all_rise : (accounts : List GenesisAccount) → T (rises account_order accounts) → Rises accounts
all_rise [] h = tt
all_rise (a ∷ accounts) h = let rest = risen a accounts h in both _ _ rest.0 rest.1

-- ---- both for a genesis

module _ (g : Genesis) (none : genesis_fault accepts g ≡ None) where
  abbrev other : Option GenesisFault
  other = option_or (authority_fault g.accounts) (code_fault accepts g.accounts)

  pub accounts_rise : Rises g.accounts
  unfolding genesis_fault
  accounts_rise = all_rise g.accounts (order_holds (fault.Version g.version) fault.Producers fault.AccountOrder fault.NoSystem other
      (g.version == 1) (are_producers g.producers) (rises account_order g.accounts) (list_any (λ a. same_name a.name eosio) g.accounts) none)

  have_producers : T (are_producers g.producers)
  unfolding genesis_fault
  have_producers = producers_hold (fault.Version g.version) fault.Producers fault.AccountOrder fault.NoSystem other
      (g.version == 1) (are_producers g.producers) (rises account_order g.accounts) (list_any (λ a. same_name a.name eosio) g.accounts) none

  -- at least one and at most so many
  abbrev some : Bool
  some = nat_le 1 (length g.producers)

  abbrev few : Bool
  few = nat_le (length g.producers) most_producers

  abbrev named : Bool
  named = list_all (λ (n : Name). not (n.0 == 0)) g.producers

  counted : T (some && few)
  counted = first (some && few) (are_distinct g.producers) (first (some && few && are_distinct g.producers) named have_producers)

  pub some_producers : 1 ≤ length g.producers
  some_producers = let h : T some = first some few counted in grind (arith, nat_tests)

  pub few_producers : length g.producers ≤ 21
  few_producers = let h : T few = second some few counted in grind (arith, nat_tests)

-- ---- what the engine begins with

same_genesis : (x y : Genesis) → ◌≡◌ {A = Result Genesis PackFault} (Ok x) (Ok y) → x ≡ y
same_genesis x y h = cc

none_is : {A : Type 0} (o : Option A) → IsNone o → o ≡ None
none_is None h = refl
none_is (Some x) h = cc

-- a genesis with a fault is none
pub no_genesis : (packed : List ℕ) (g : Genesis) → whole forms.genesis packed ≡ Ok g → (e : EngineError) → Shows (genesis_fault accepts g) e → IsNoGenesis packed e
no_genesis packed g read error.OutOfMemory shows = tt
no_genesis packed g read (error.Pack fault) shows = absurd shows
no_genesis packed g read (error.Genesis fault) shows = (g, read, shows)

pub founded_is : (packed : List ℕ) (found : Genesis) (world : Stack World) (m : Parts World) → IsGenesis packed found → world ≡ opened (genesis_world found) 1 →
    m.chain ≡ sha256 packed → m.stack ≡ world → IsNone m.pending → m.counted ≡ 0 → (g : Genesis) → IsGenesis packed g → m ≡ founded packed g
founded_is packed found world m is at chain stack idle count g again =
    let same : found ≡ g = same_genesis found g (sym is.read ∙ again.read) in
    let begun = stack ∙ at ∙ ap (λ x. opened (genesis_world x) 1) same in
    λ i. record { chain = chain i; stack = begun i; pending = none_is m.pending idle i; counted = count i }
