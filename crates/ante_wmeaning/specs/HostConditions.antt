-- What a run needs of its host.
use Rattle.std.specs.Prelude.{◌≡◌, ℕ, ◌<◌, true, false, List, slice_get, Some}
use Rattle.ante_wmem.specs.Linear.{LinearMemory}
use Rattle.ante_wmem.specs.HostCalls.{Reply, value, nothing, exit, refused, step_limit, HostMeaning}
use Rattle.ante_wtree.specs.declared.instructions.ValueKind.{ValueKind}
use Rattle.ante_wtree.specs.declared.modules.FuncType.{FuncType}
use Rattle.ante_wtree.specs.Intrinsics.{type_at}
use Rattle.ante_wtree.specs.Types.{result_of, all_fit}
use Rattle.ante_wtree.specs.Replies.{IsReplyOf}
use Rattle.ante_wmeaning.specs.Configurations.{Given, Program}
use Rattle.ante_wmeaning.specs.Arities.{gives_none}

-- the module has the host's function of this number, of this type
abbrev pub IsGiven : Program → FuncType → ℕ → Type 0
IsGiven program kind number = (f : ℕ) × (slice_get program.functions f ≡ Some (Given kind number))

-- each is of the type that hosts give the function of its number
abbrev pub HaveHostTypes : Program → Type 0
HaveHostTypes program = (kind : FuncType) (number : ℕ) → IsGiven program kind number → type_at number ≡ Some (kind.params, result_of kind.results)

-- ---- which calls the host allows

-- the host allows each import with all arguments of its type
abbrev pub MayCall : {W : Type 0} → (allowed : W → ℕ → List ℕ → ℕ → Type 0) → Program → W → (left : ℕ) → Type 0
MayCall allowed program w left =
    (kind : FuncType) (number : ℕ) (args : List ℕ) → IsGiven program kind number → all_fit kind.params args ≡ true → allowed w number args left

-- at every number of steps below this one
abbrev pub MayBelow : {W : Type 0} → (allowed : W → ℕ → List ℕ → ℕ → Type 0) → Program → W → (left : ℕ) → Type 0
MayBelow allowed program w left = (less : ℕ) → less < left → MayCall allowed program w less

-- the function of this number is one of the host's
abbrev pub IsHosts : Program → ℕ → Type 0
IsHosts program f = (kind : FuncType) × (number : ℕ) × (slice_get program.functions f ≡ Some (Given kind number))

-- ---- what the host replies

-- a function with a result is answered a value, and one without is answered none
abbrev pub Replies : {W R : Type 0} → List ValueKind → Reply W R → Type 0
Replies results (value n w m) = gives_none results ≡ false
Replies results (nothing w m) = gives_none results ≡ true
Replies results (exit w m) = Unit {0}
Replies results (refused r) = Unit {0}
Replies results step_limit = Unit {0}

-- Where an import may be called with arguments of its type, the host replies as a function of that type does. A host whose
-- functions all do, meets this for each valid module.
abbrev pub ImportsTyped : {W R : Type 0} → (allowed : W → ℕ → List ℕ → ℕ → Type 0) → HostMeaning W R → Program → Type 0
ImportsTyped {W} allowed host program = (kind : FuncType) (number : ℕ) (args : List ℕ) (w : W) (memory : LinearMemory) (left : ℕ) →
    IsGiven program kind number → all_fit kind.params args ≡ true → allowed w number args left →
    IsReplyOf (result_of kind.results) (host w number args memory left).reply
