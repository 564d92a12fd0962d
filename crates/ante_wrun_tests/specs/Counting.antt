-- A host that counts its calls.
use Rattle.std.specs.Prelude.{◌≡◌, ℕ, ◌+◌, ◌%◌, ◌^◌, List, [], ◌∷◌, Option, None, Some}
use Rattle.ante_wmem.specs.Linear.{LinearMemory}
use Rattle.ante_wmem.specs.HostCalls.{Reply, Outcome, nothing, HostMeaning}
use Rattle.ante_wtree.specs.declared.instructions.ValueKind.{ValueKind}
use Rattle.ante_wtree.specs.Intrinsics.{type_at}
use Rattle.ante_wtree.specs.Replies.{result_reply}
use Rattle.ante_wtree.specs.Trees.{Tree}
use Rattle.ante_wmeaning.specs.declared.ends.RunEnd.{RunEnd}
use Rattle.ante_wmeaning.specs.Environment.{Environment, undisturbed}
use Rattle.ante_wmeaning.specs.Invocation.{run_of}
use Rattle.ante_wmeaning.specs.RunEnds.{Ends}

-- the count, and which reference to a counter is held
pub record Counted : Type 0 where
  pub count : ℕ
  pub holder : ℕ

-- 0 as a result, where there is one
abbrev pub zero_of : {W : Type 0} → Option (List ValueKind × Option ValueKind) → W → LinearMemory → Reply W ℕ
zero_of None w m = nothing w m
zero_of (Some (params, result)) w m = result_reply result 0 w m

abbrev pub one_more : ℕ → ℕ
one_more n = (n + 1) % 2 ^ 64

abbrev pub counted : Counted → (function : ℕ) → LinearMemory → (left : ℕ) → Outcome Counted ℕ
counted host function m left = record { reply = zero_of (type_at function) (record host { count = one_more host.count }) m; left = left }

-- the same of the count alone
abbrev pub counts : HostMeaning ℕ ℕ
counts n function args m left = record { reply = zero_of (type_at function) (one_more n) m; left = left }

-- the undisturbed run from this count has this end, and leaves that count
abbrev pub Leads : Tree → (steps : ℕ) → (before : ℕ) → RunEnd ℕ → (after : ℕ) → Type 0
Leads m steps before e after = (left : ℕ) × (environment : Environment) ×
    Ends (λ w f args memory left answer u. u ≡ w) e after left environment (run_of counts m (1 ∷ 2 ∷ 3 ∷ []) before steps undisturbed)
