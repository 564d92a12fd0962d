-- The native actions by their names, and the data of each, its fields in order.
use Rattle.std.specs.Prelude.{ℕ, List, [], ◌∷◌, codes, Option, None, option_map, find, ◌==◌, if◌then◌else◌}
use Rattle.ante_pack.specs.declared.authority.Authority.{Authority}
use Rattle.ante_pack.specs.declared.names.Name.{Name}
use Rattle.ante_pack.specs.Forms.{Form, pair, made_of, string}
use Rattle.ante_pack.specs.Names.{name_number}
use Rattle.ante_pack.specs.Packed.{u8, name, authority}
use Rattle.ante_types.specs.declared.chain.Action.{Action}
use Rattle.ante_types.specs.Genesis.{eosio}
use Rattle.ante_calls.specs.Accounts.{same_name}
use Rattle.ante_execution.specs.declared.kinds.NativeAction.{NativeAction}
use Rattle.ante_execution.specs.declared.kinds.NativeAction.TheVariants as native

-- ---- names

abbrev pub named : List ℕ → Name
named text = record { 0 = name_number text }

abbrev pub owner : Name
owner = named (codes "owner")

abbrev pub active : Name
active = named (codes "active")

-- a contract satisfies its own level of this permission
abbrev pub eosio_code : Name
eosio_code = named (codes "eosio.code")

abbrev pub eosio_any : Name
eosio_any = named (codes "eosio.any")

abbrev pub native_names : List (ℕ × NativeAction)
native_names =
    (name_number (codes "newaccount"), native.NewAccount) ∷ (name_number (codes "setcode"), native.SetCode) ∷ (name_number (codes "setabi"), native.SetAbi)
    ∷ (name_number (codes "updateauth"), native.UpdateAuth) ∷ (name_number (codes "deleteauth"), native.DeleteAuth)
    ∷ (name_number (codes "linkauth"), native.LinkAuth) ∷ (name_number (codes "unlinkauth"), native.UnlinkAuth) ∷ []

abbrev pub native_named : Name → Option NativeAction
native_named n = option_map (λ e. e.1) (find (λ e. e.0 == n.0) native_names)

-- the native action that an action asks the system's account for
abbrev pub native_of : Action → Option NativeAction
native_of a = if same_name a.account eosio then native_named a.name else None

-- ---- data

pub record NewAccount : Type 0 where
  pub creator : Name
  pub name : Name
  pub owner : Authority
  pub active : Authority

abbrev pub newaccount : Form NewAccount
newaccount = made_of
    (λ p. record { creator = p.0; name = p.1.0; owner = p.1.1.0; active = p.1.1.1 })
    (λ d. (d.creator, (d.name, (d.owner, d.active))))
    (pair name (pair name (pair authority authority)))

pub record SetCode : Type 0 where
  pub account : Name
  pub vmtype : ℕ
  pub vmversion : ℕ
  pub code : List ℕ

abbrev pub setcode : Form SetCode
setcode = made_of
    (λ p. record { account = p.0; vmtype = p.1.0; vmversion = p.1.1.0; code = p.1.1.1 })
    (λ d. (d.account, (d.vmtype, (d.vmversion, d.code))))
    (pair name (pair u8 (pair u8 string)))

pub record SetAbi : Type 0 where
  pub account : Name
  pub abi : List ℕ

abbrev pub setabi : Form SetAbi
setabi = made_of (λ p. record { account = p.0; abi = p.1 }) (λ d. (d.account, d.abi)) (pair name string)

pub record UpdateAuth : Type 0 where
  pub account : Name
  pub permission : Name
  pub parent : Name
  pub authority : Authority

abbrev pub updateauth : Form UpdateAuth
updateauth = made_of
    (λ p. record { account = p.0; permission = p.1.0; parent = p.1.1.0; authority = p.1.1.1 })
    (λ d. (d.account, (d.permission, (d.parent, d.authority))))
    (pair name (pair name (pair name authority)))

pub record DeleteAuth : Type 0 where
  pub account : Name
  pub permission : Name

abbrev pub deleteauth : Form DeleteAuth
deleteauth = made_of (λ p. record { account = p.0; permission = p.1 }) (λ d. (d.account, d.permission)) (pair name name)

-- the empty type is for all actions of the contract
pub record LinkAuth : Type 0 where
  pub account : Name
  pub code : Name
  pub action : Name
  pub requirement : Name

abbrev pub linkauth : Form LinkAuth
linkauth = made_of
    (λ p. record { account = p.0; code = p.1.0; action = p.1.1.0; requirement = p.1.1.1 })
    (λ d. (d.account, (d.code, (d.action, d.requirement))))
    (pair name (pair name (pair name name)))

pub record UnlinkAuth : Type 0 where
  pub account : Name
  pub code : Name
  pub action : Name

abbrev pub unlinkauth : Form UnlinkAuth
unlinkauth = made_of
    (λ p. record { account = p.0; code = p.1.0; action = p.1.1 })
    (λ d. (d.account, (d.code, d.action)))
    (pair name (pair name name))
