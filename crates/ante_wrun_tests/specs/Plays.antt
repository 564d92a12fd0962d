-- What a host that is told beforehand what to do makes of a call.
use Rattle.std.specs.Prelude.{◌≡◌, ℕ, ◌-◌, ◌%◌, ◌^◌, nat_lt, if◌then◌else◌, List, [], ◌∷◌, ◌++◌, drop, Option, None, Some}
use Rattle.ante_wmem.specs.Linear.{LinearMemory, is_inside, bytes_at, little_endian, low_bytes, written}
use Rattle.ante_wmem.specs.declared.host.HostAnswer.{HostAnswer}
use Rattle.ante_wmem.specs.declared.host.HostAnswer.TheVariants as host_answer
use Rattle.ante_wmem.specs.HostCalls.{Reply, Outcome, value, nothing, exit, refused, step_limit}
use Rattle.ante_wtree.specs.declared.instructions.ValueKind.{ValueKind}
use Rattle.ante_wtree.specs.Intrinsics.{type_at}
use Rattle.ante_wtree.specs.Replies.{result_reply}
use Rattle.ante_wrun_tests.specs.declared.player.Answer.{Answer}
use Rattle.ante_wrun_tests.specs.declared.player.Answer.TheVariants as answer
use Rattle.ante_wrun_tests.specs.declared.player.Play.{Play}
use Rattle.ante_wrun_tests.specs.declared.player.Note.{Note}
use Rattle.ante_wrun_tests.specs.declared.player.Note.TheVariants as note
use Rattle.ante_wrun_tests.specs.declared.player.Player.{Player}

abbrev pub silent : Play
silent = record { pays = 0; puts = None; shows = None; answer = answer.Give 0 }

abbrev pub next : List Play → Play
next [] = silent
next (play ∷ plays) = play

abbrev pub noted : Player → Note → Player
noted host n = record host { notes = host.notes ++ n ∷ [] }

-- the number as a result of this kind, where there is one
abbrev pub given : Option (List ValueKind × Option ValueKind) → ℕ → Player → LinearMemory → Reply Player ℕ
given None n host memory = nothing host memory
given (Some (params, result)) n host memory = result_reply result n host memory

abbrev pub ended : (function : ℕ) → Answer → Player → LinearMemory → Reply Player ℕ
ended function (answer.Give n) host memory = given (type_at function) n host memory
ended function answer.Exit host memory = exit host memory
ended function (answer.Refuse n) host memory = refused n
ended function answer.Limit host memory = step_limit

-- the number in the eight bytes at an address, and the memory with another one there, if they are inside
abbrev pub number_at : LinearMemory → (at : ℕ) → Option ℕ
number_at memory at = if is_inside memory.bytes at 8 then Some (little_endian (bytes_at memory.bytes at 8)) else None

abbrev pub with_number : LinearMemory → (at n : ℕ) → Option LinearMemory
with_number memory at n = if is_inside memory.bytes at 8 then Some (written memory at (low_bytes 8 n)) else None

abbrev pub if_inside : {A : Type 0} → Option A → (A → Reply Player ℕ) → Reply Player ℕ
if_inside None go = refused 0
if_inside (Some x) go = go x

abbrev pub shown : Option ℕ → (Player → LinearMemory → Reply Player ℕ) → Player → LinearMemory → Reply Player ℕ
shown None go host memory = go host memory
shown (Some at) go host memory = if_inside (number_at memory at) (λ n. go (noted host (note.Shown n)) memory)

abbrev pub put : Option (ℕ × ℕ) → (Player → LinearMemory → Reply Player ℕ) → Player → LinearMemory → Reply Player ℕ
put None go host memory = go host memory
put (Some (at, n)) go host memory = if_inside (with_number memory at n) (go host)

-- what a play makes of a call that is noted and paid
abbrev pub played : Play → (function : ℕ) → Player → LinearMemory → Reply Player ℕ
played play function = put play.puts (shown play.shows (ended function play.answer))

abbrev pub paid : Play → (function : ℕ) → Player → LinearMemory → (left : ℕ) → Outcome Player ℕ
paid play function host memory left =
    if nat_lt left play.pays then record { reply = step_limit; left = left }
    else record { reply = played play function host memory; left = left - play.pays }

-- the call is noted, and the first play is done
abbrev pub outcome : Player → (function : ℕ) → List ℕ → LinearMemory → (left : ℕ) → Outcome Player ℕ
outcome host function args memory left =
    paid (next host.plays) function (noted (record host { plays = drop 1 host.plays }) (note.Call function args)) memory left

-- The code's answer is the reply, or want of memory.
abbrev pub Answers : Reply Player ℕ → HostAnswer ℕ → Player → LinearMemory → Type 0
Answers reply (host_answer.Value n) host memory = reply ≡ value n host memory
Answers reply host_answer.Nothing host memory = reply ≡ nothing host memory
Answers reply host_answer.Exit host memory = reply ≡ exit host memory
Answers reply (host_answer.Refused r) host memory = reply ≡ refused r
Answers reply host_answer.StepLimit host memory = reply ≡ step_limit
Answers reply host_answer.OutOfMemory host memory = Unit {0}
