-- The types of a host's replies, by the number that its functions have in the table.
use Rattle.std.specs.Prelude.{◌≡◌, ℕ, true, List, Option, None, Some}
use Rattle.ante_wmem.specs.Linear.{LinearMemory}
use Rattle.ante_wmem.specs.HostCalls.{Reply, value, nothing, exit, refused, step_limit, HostMeaning}
use Rattle.ante_wtree.specs.declared.instructions.ValueKind.{ValueKind}
use Rattle.ante_wtree.specs.Types.{fits, all_fit, mask}
use Rattle.ante_wtree.specs.Intrinsics.{type_at}

-- a reply that a function of this result may give
abbrev pub IsReplyOf : {W R : Type 0} → Option ValueKind → Reply W R → Type 0
IsReplyOf None (value n w m) = ⊥
IsReplyOf (Some kind) (value n w m) = fits kind n ≡ true
IsReplyOf None (nothing w m) = Unit {0}
IsReplyOf (Some kind) (nothing w m) = ⊥
IsReplyOf result (exit w m) = Unit {0}
IsReplyOf result (refused r) = Unit {0}
IsReplyOf result step_limit = Unit {0}

-- Such a reply: the low bits of a number, so an i32 is the number modulo 2 ^ 32; without a result, none.
abbrev pub result_reply : {W R : Type 0} → Option ValueKind → ℕ → W → LinearMemory → Reply W R
result_reply None n w m = nothing w m
result_reply (Some kind) n w m = value (mask kind n) w m

-- Where the function of this number may be called with arguments of its type, the host replies as a function of that type does.
abbrev pub RepliesTyped : {W R : Type 0} → (allowed : W → ℕ → List ℕ → ℕ → Type 0) → HostMeaning W R → (number : ℕ) → Type 0
RepliesTyped {W} allowed host number = (params : List ValueKind) (result : Option ValueKind) (args : List ℕ) (w : W) (memory : LinearMemory) (left : ℕ) →
    type_at number ≡ Some (params, result) → all_fit params args ≡ true → allowed w number args left → IsReplyOf result (host w number args memory left).reply

-- Each function of the table does. A crate of some of the calls shows its own part.
abbrev pub AnswersTyped : {W R : Type 0} → (allowed : W → ℕ → List ℕ → ℕ → Type 0) → HostMeaning W R → Type 0
AnswersTyped allowed host = (number : ℕ) → RepliesTyped allowed host number
