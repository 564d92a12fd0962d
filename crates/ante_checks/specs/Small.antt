-- A transaction whose form is allowed isn't too big.
use Rattle.std.proofs.Common.{◌≡◌, ℕ, ◌==◌, ◌≤◌, nat_lt, Bool, true, false, not, codes, length, None, Some, if◌then◌else◌, refl, arith}
use Rattle.std.proofs.lemmas.Bool.Decides.{nat_tests}
use Rattle.ante_types.specs.declared.chain.Transaction.{Transaction}
use Rattle.ante_types.specs.declared.failure.Failure.{Failure}
use Rattle.ante_types.specs.declared.failure.Failure.TheVariants as failure
use Rattle.ante_types.specs.Limits.{most_transaction_bytes}
use Rattle.ante_calls.specs.Calls.{unsupported}
use Rattle.ante_execution.specs.Transactions.{form_refusal}

-- of five tests, none of which refuses, the last one
last_test : (a b c d e : Bool) (one two three four five : Failure) →
    (if a then Some one else if b then Some two else if c then Some three else if d then Some four else if e then Some five else None) ≡ None → e ≡ false
last_test true b c d e one two three four five none = cc
last_test false true c d e one two three four five none = cc
last_test false false true d e one two three four five none = cc
last_test false false false true e one two three four five none = cc
last_test false false false false true one two three four five none = cc
last_test false false false false false one two three four five none = refl

pub small_form : (size : ℕ) (t : Transaction) → form_refusal size t ≡ None → size ≤ most_transaction_bytes
small_form size t none =
    let fits : nat_lt most_transaction_bytes size ≡ false =
    last_test (length t.actions == 0) (not (length t.context_free_actions == 0)) (not (t.delay_sec == 0)) (not (length t.extensions == 0)) (nat_lt most_transaction_bytes size)
    failure.NoAction (unsupported (codes "context_free_actions")) (unsupported (codes "delay_sec")) (unsupported (codes "extensions")) failure.TooBig none in
    grind (arith, nat_tests)
