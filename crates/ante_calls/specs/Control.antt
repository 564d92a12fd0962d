-- Calls that end a run.
use Rattle.std.specs.Prelude.{ℕ, ◌==◌, List, length, take, if◌then◌else◌}
use Rattle.ante_types.specs.declared.failure.Failure.{Failure}
use Rattle.ante_types.specs.declared.failure.Failure.TheVariants as failure
use Rattle.ante_wmem.specs.Linear.{LinearMemory}
use Rattle.ante_wmem.specs.HostCalls.{Outcome, nothing, exit, refused}
use Rattle.ante_calls.specs.Calls.{arg, arg32, range, text, refuses, replies, reading, paying}
use Rattle.ante_calls.specs.Views.{SysView}

-- an assertion's message is cut there
abbrev pub most_message : ℕ
most_message = 1024

-- a call that does nothing where its first argument isn't 0
abbrev pub asserting : SysView → List ℕ → LinearMemory → (left : ℕ) → Outcome SysView Failure → Outcome SysView Failure
asserting v args m left failing = if arg32 args 0 == 0 then failing else replies (nothing v m) left

abbrev pub failing_with : List ℕ → (left : ℕ) → Outcome SysView Failure
failing_with message left = paying (length message) left (refused (failure.Assert (take most_message message)))

-- abort()
abbrev pub abort : (left : ℕ) → Outcome SysView Failure
abort left = refuses failure.Abort left

-- eosio_exit(code): the run ends well, whatever the code
abbrev pub eosio_exit : SysView → LinearMemory → (left : ℕ) → Outcome SysView Failure
eosio_exit v m left = replies (exit v m) left

-- eosio_assert(test, text)
abbrev pub eosio_assert : SysView → List ℕ → LinearMemory → (left : ℕ) → Outcome SysView Failure
eosio_assert v args m left = asserting v args m left (reading (text 1 args m) left (λ message. failing_with message left))

-- eosio_assert_message(test, at, n)
abbrev pub eosio_assert_message : SysView → List ℕ → LinearMemory → (left : ℕ) → Outcome SysView Failure
eosio_assert_message v args m left = asserting v args m left (reading (range 1 args m) left (λ message. failing_with message left))

-- eosio_assert_code(test, code)
abbrev pub eosio_assert_code : SysView → List ℕ → LinearMemory → (left : ℕ) → Outcome SysView Failure
eosio_assert_code v args m left = asserting v args m left (refuses (failure.AssertCode (arg args 1)) left)
