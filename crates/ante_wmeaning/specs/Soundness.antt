-- The law that a run of a valid module is never stuck.
use Rattle.std.specs.Prelude.{◌≡◌, ℕ, List, length}
use Rattle.ante_wmem.specs.HostCalls.{HostMeaning}
use Rattle.ante_wtree.specs.Trees.{Tree}
use Rattle.ante_wtree.specs.Replies.{AnswersTyped}
use Rattle.ante_wvalid.specs.Modules.{IsValid}
use Rattle.ante_wmeaning.specs.Environment.{Environment}
use Rattle.ante_wmeaning.specs.RunEnds.{NotStuck}
use Rattle.ante_wmeaning.specs.HostConditions.{MayCall}
use Rattle.ante_wmeaning.specs.Instantiation.{program_in}
use Rattle.ante_wmeaning.specs.Invocation.{run_of}

-- A run of a valid module finds a rule for each of its instructions, whatever the environment answers.
abbrev pub NeverStuck : {W R : Type 0} → (allowed : W → ℕ → List ℕ → ℕ → Type 0) → HostMeaning W R → Type 0
NeverStuck {W} allowed host = (m : Tree) (args : List ℕ) (w : W) (left : ℕ) (environment : Environment) → IsValid m → length args ≡ 3 →
    MayCall allowed (program_in m) w left → AnswersTyped allowed host → NotStuck (run_of host m args w left environment)
