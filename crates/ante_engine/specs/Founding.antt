-- What the engine begins with.
use Rattle.std.specs.Prelude.{◌≡◌, ℕ, List, Option, None, Some, Result, Ok, Err}
use Rattle.sha2.specs.Sha256.{sha256}
use Rattle.ante_pack.specs.declared.fault.PackFault.{PackFault}
use Rattle.ante_pack.specs.Forms.{whole}
use Rattle.ante_types.specs.declared.chain.Genesis.{Genesis}
use Rattle.ante_types.specs.Chain.{genesis}
use Rattle.ante_types.specs.GenesisWorld.{genesis_world}
use Rattle.ante_types.specs.World.{World}
use Rattle.ante_accepts.specs.Accepting.{accepts}
use Rattle.ante_execution.specs.declared.ends.GenesisFault.{GenesisFault}
use Rattle.ante_execution.specs.GenesisRules.{genesis_fault}
use Rattle.ante_session_machine.specs.Under.{Parts, parts}
use Rattle.ante_undo.specs.Stack.{opened}
use Rattle.ante_engine.specs.declared.founding.EngineError.{EngineError}
use Rattle.ante_engine.specs.declared.founding.EngineError.TheVariants as error

-- these bytes are a genesis without a fault
pub record IsGenesis (packed : List ℕ) (g : Genesis) : Type 0 where
  pub read : whole genesis packed ≡ Ok g
  pub faultless : genesis_fault accepts g ≡ None

-- why they aren't: they don't read, or what they read as has this first fault
abbrev pub IsNoGenesis : (packed : List ℕ) → EngineError → Type 0
IsNoGenesis packed error.OutOfMemory = Unit {0}
IsNoGenesis packed (error.Pack fault) = whole genesis packed ≡ Err fault
IsNoGenesis packed (error.Genesis fault) = (g : Genesis) × (whole genesis packed ≡ Ok g) × (genesis_fault accepts g ≡ Some fault)

-- a fault of the check, as the engine's
abbrev pub Shows : Option GenesisFault → EngineError → Type 0
Shows found error.OutOfMemory = Unit {0}
Shows found (error.Pack fault) = ⊥
Shows found (error.Genesis fault) = found ≡ Some fault

-- no session is open, no block is pending, and none was run; the chain's id is the digest of the packed genesis
abbrev pub founded : (packed : List ℕ) → Genesis → Parts World
founded packed g = parts (sha256 packed) (opened (genesis_world g) 1) None 0
