-- How a call comes to the key that its arguments name, and what it replies then.
use Rattle.std.specs.Prelude.{◌≡◌, ℕ, ℤ, List, codes, Option, option_map, Result, Ok, Err}
use Rattle.ante_types.specs.declared.context.Mode.{Mode}
use Rattle.ante_types.specs.declared.context.RunContext.{RunContext}
use Rattle.ante_types.specs.declared.failure.Failure.{Failure}
use Rattle.ante_wmem.specs.Linear.{LinearMemory}
use Rattle.ante_wmem.specs.declared.host.HostAnswer.{HostAnswer}
use Rattle.ante_wmem.specs.HostCalls.{Reply, Outcome, value}
use Rattle.ante_calls.specs.Calls.{arg, arg32, signed_arg, name_arg, bytes_from, replies, reading, writing, unless, word}
use Rattle.ante_calls.specs.IndexCalls.{KeyForm, IndexRows, index_kind, key_bytes, key_refusal, after_key, name_of, shows_both}
use Rattle.ante_calls.specs.Rows.{store, update}
use Rattle.ante_calls.specs.RowReplies.{answered, iterator_alone, no_answer, with_bytes}
use Rattle.ante_calls.specs.Views.{RowView}
use Rattle.ante_rowcalls.specs.RowCalls.{AnswersRow}

module _ {K : Type 0} where
  -- the key, then the count of its words
  abbrev pub with_key : KeyForm K → IndexRows K → List ℕ → LinearMemory → (K → Reply RowView Failure) → (left : ℕ) → Outcome RowView Failure
  with_key form index args m go left = reading (key_bytes form index 3 args m) left (λ bytes.
      replies (unless (key_refusal form index 3 args) (go (form.of_bytes bytes))) left)

  -- the key, a range for the primary key, then the count of the key's words
  abbrev pub with_keys : KeyForm K → IndexRows K → List ℕ → LinearMemory → (K → Reply RowView Failure) → (left : ℕ) → Outcome RowView Failure
  with_keys form index args m go left = reading (key_bytes form index 3 args m) left (λ bytes. reading (bytes_from (after_key form index 3) 8 args m) left (λ others.
      replies (unless (key_refusal form index 3 args) (go (form.of_bytes bytes))) left))

  -- the key, whether the run writes, then the count of the key's words
  abbrev pub with_written : KeyForm K → IndexRows K → (call : List ℕ) → Mode → (k : ℕ) → List ℕ → LinearMemory → (K → Reply RowView Failure) →
      (left : ℕ) → Outcome RowView Failure
  with_written form index call mode k args m go left = reading (key_bytes form index k args m) left (λ bytes.
      replies (writing mode call (unless (key_refusal form index k args) (go (form.of_bytes bytes)))) left)

  -- the call goes on with the key, or ends with this answer, whatever it would reply to the key
  abbrev pub HasKey : ((K → Reply RowView Failure) → (left : ℕ) → Outcome RowView Failure) → Result K (HostAnswer Failure) → LinearMemory → Type 0
  HasKey outcome (Ok key) m = (go : K → Reply RowView Failure) (left : ℕ) → outcome go left ≡ replies (go key) left
  HasKey outcome (Err answer) m = (go : K → Reply RowView Failure) (left : ℕ) (v : RowView) → AnswersRow (outcome go left) answer v v m left

  -- what storing a row with the key replies
  abbrev pub stored_by : KeyForm K → IndexRows K → RunContext → (args : List ℕ) → LinearMemory → RowView → K → Reply RowView Failure
  stored_by form index run args m v key = answered (name_of form index (codes "store"))
      (store (index_kind form index) run (name_arg args 0) (name_arg args 1) (name_arg args 2) (arg args 3) key v) (iterator_alone m)

  -- what updating a row to the key replies
  abbrev pub updated_by : KeyForm K → IndexRows K → RunContext → (args : List ℕ) → LinearMemory → RowView → K → Reply RowView Failure
  updated_by form index run args m v key = answered (name_of form index (codes "update"))
      (update (index_kind form index) run (signed_arg args 0) (name_arg args 1) key v) (no_answer m)

  -- an iterator, with the key of its row written to this address
  abbrev pub iterator_and_key : KeyForm K → (at : ℕ) → LinearMemory → ℤ × Option K → RowView → Reply RowView Failure
  iterator_and_key form at m a v = value (word a.0) v (with_bytes (option_map (λ key. form.bytes key) a.1) at m)

  -- what is shown of the row that a bound finds
  abbrev pub shows_bound : KeyForm K → IndexRows K → (args : List ℕ) → LinearMemory → (ℤ × Option (K × ℕ)) × RowView → Reply RowView Failure
  shows_bound form index args m found = shows_both form index (arg32 args 3) (arg32 args (after_key form index 3)) m found
