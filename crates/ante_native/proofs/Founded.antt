-- A state that begins with a genesis without fault has accepted codes alone.
use Rattle.std.proofs.Common.{◌≡◌, ◌==◌, ◌||◌, not, ℕ, Bool, true, false, cond, T, length, true≢false, is_some, List, [], ◌∷◌, Option, Some, None, option_map, IfSome, OnOk, Result, Ok, Err, if◌then◌else◌, ap}
use Rattle.std.specs.List.{find as first_that, list_any}
use Rattle.std.specs.Option.{option_or}
use Rattle.std.specs.Ordering.{eq_by_cmp}
use Rattle.std.specs.FinMap.Entries.{find}
use Rattle.ante_pack.specs.declared.names.Name.{Name}
use Rattle.ante_state.specs.Orders.{name_order}
use Rattle.ante_types.specs.declared.chain.Genesis.{Genesis}
use Rattle.ante_types.specs.declared.chain.GenesisAccount.{GenesisAccount}
use Rattle.ante_types.specs.Genesis.{eosio}
use Rattle.ante_types.specs.GenesisWorld.{account_of, accounts_of, genesis_world}
use Rattle.ante_calls.specs.Accounts.{same_name}
use Rattle.ante_execution.specs.Answers.{ChecksGenesis}
use Rattle.ante_execution.specs.declared.ends.GenesisFault.{GenesisFault}
use Rattle.ante_execution.specs.declared.ends.GenesisFault.TheVariants as fault
use Rattle.ante_execution.specs.GenesisRules.{are_producers, account_order, has_bad_code, code_fault, authority_fault, genesis_fault}
use Rattle.ante_execution.specs.Native.Rules.{rises}
use Rattle.ante_execution.specs.Native.SetCode.{CodesAreAccepted}
use Rattle.ante_native.proofs.Kept.{Good}

-- where there is no fault at all, no code is at fault
no_code_fault : (a b c d : Bool) (v p o s : GenesisFault) (authority code : Option GenesisFault) →
    (if not a then Some v else if not b then Some p else if not c then Some o else if not d then Some s else option_or authority code) ≡ None → code ≡ None
no_code_fault true true true true v p o s None code none = none
no_code_fault true true true true v p o s (Some f) code none = absurd (true≢false (ap is_some none))
no_code_fault true true true false v p o s authority code none = absurd (true≢false (ap is_some none))
no_code_fault true true false d v p o s authority code none = absurd (true≢false (ap is_some none))
no_code_fault true false c d v p o s authority code none = absurd (true≢false (ap is_some none))
no_code_fault false b c d v p o s authority code none = absurd (true≢false (ap is_some none))

first_good : (good : Bool) (a : GenesisAccount) (rest : Option GenesisAccount) → option_map (λ a. fault.BadCode a.name) (cond (not good) (Some a) rest) ≡ None →
    T good × (option_map (λ a. fault.BadCode a.name) rest ≡ None)
first_good true a rest none = (tt, none)
first_good false a rest none = absurd (true≢false (ap is_some none))

module _ (accepts : List ℕ → Bool) where
  by_accounts : (accounts : List GenesisAccount) → code_fault accepts accounts ≡ None → (name : Name) → IfSome (find name_order name (accounts_of accounts)) (Good accepts)
  by_accounts [] none name = tt
  by_accounts (a ∷ accounts) none name =
      let both = first_good (length a.code == 0 || accepts a.code) a (first_that (has_bad_code accepts) accounts) none in
      elim (eq_by_cmp name_order name a.name) as (λ b. IfSome (cond b (Some (account_of a).1) (find name_order name (accounts_of accounts))) (Good accepts))
      [ true ↦ both.0 | false ↦ by_accounts accounts both.1 name ]

  founded_codes : (g : Genesis) → genesis_fault accepts g ≡ None → CodesAreAccepted accepts (genesis_world g)
  unfolding genesis_fault
  founded_codes g none = by_accounts g.accounts
      (no_code_fault (g.version == 1) (are_producers g.producers) (rises account_order g.accounts) (list_any (λ a. same_name a.name eosio) g.accounts)
      (fault.Version g.version) fault.Producers fault.AccountOrder fault.NoSystem (authority_fault g.accounts) (code_fault accepts g.accounts) none)

  pub founded : (g : Genesis) (result : Result (Unit {0}) GenesisFault) → ChecksGenesis (genesis_fault accepts g) result → OnOk result (CodesAreAccepted accepts (genesis_world g))
  founded g (Ok done) none = founded_codes g none
  founded g (Err f) p = tt
