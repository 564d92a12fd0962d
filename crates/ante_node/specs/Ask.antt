-- What `ask` makes of its input: one line, which spells a transaction.
use Rattle.std.specs.Prelude.{◌≡◌, ℕ, List, ◌++◌, codes, Option, Result, Ok, IfSome}
use Rattle.std.specs.Io.KnownBytes.{Appends}
use Rattle.ante_pack.specs.Forms.{◌>>=◌, Packs}
use Rattle.ante_types.specs.Chain.{transaction}
use Rattle.ante_types.specs.Genesis.{builtin_genesis, genesis_head}
use Rattle.ante_types.specs.Traces.{trace_json}
use Rattle.ante_types.specs.Jobs.{Job}
use Rattle.ante_node.specs.Lines.{line_at, job_in, ends_input}
use Rattle.ante_node.specs.ReadOnly.{builtin_world, read_only}
use Rattle.ante_node.specs.declared.fault.InputFault.{InputFault}

-- The job that an input asks for: the faults of its line come before what stands after it.
unfoldable pub asked_of : List ℕ → Result Job InputFault
asked_of input = let line = line_at 0 input in job_in line >>= ends_input input line

-- what the source tells asks for this job
abbrev pub Asks : Option (List ℕ) → Job → Type 0
Asks left job = IfSome left (λ input. asked_of input ≡ Ok job)

-- The answer to a job: the text of the trace that it gives at position 0 on the built-in genesis, and a newline.
unfoldable pub answer : Job → List ℕ
answer job = trace_json (read_only builtin_world 0 (genesis_head builtin_genesis) job) ++ codes "\n"

-- The answer was written to a job that the input asks for, whose transaction packs to its bytes.
abbrev pub HasAnswered : Option (List ℕ) → Option (List ℕ) → Option (List ℕ) → Type 0
HasAnswered left before after = (job : Job) × Asks left job × Packs transaction job.trx job.packed × Appends before after (answer job)

abbrev pub ask : List ℕ → Result (List ℕ) InputFault
ask input = asked_of input >>= λ job. Ok (answer job)
