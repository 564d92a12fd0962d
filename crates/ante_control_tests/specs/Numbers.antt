-- A world of numbers: what blocks and transactions do to it.
use Rattle.std.specs.Prelude.{ℕ, ◌-◌, ◌==◌, nat_lt, Bool, true, false, List, [], ◌∷◌, length, Option, None, Some, Result, Ok, Err, if◌then◌else◌}
use Rattle.std.specs.Ordering.{nat_cmp}
use Rattle.sha2.specs.Sha256.{sha256}
use Rattle.ante_pack.specs.declared.fault.PackFault.{PackFault}
use Rattle.ante_pack.specs.Forms.{whole}
use Rattle.ante_types.specs.declared.chain.BlockInfo.{BlockInfo}
use Rattle.ante_types.specs.declared.chain.Transaction.{Transaction}
use Rattle.ante_types.specs.declared.failure.Failure.{Failure}
use Rattle.ante_types.specs.declared.failure.Failure.TheVariants.{Assert, TooBig}
use Rattle.ante_types.specs.declared.trace.Trace.{Trace}
use Rattle.ante_types.specs.Chain.{transaction}
use Rattle.ante_undo.specs.Entries.{changed}
use Rattle.ante_machine.specs.Steps.{Steps}

abbrev pub Numbers : Type 0
Numbers = List (ℕ × ℕ)

abbrev pub put : (key value : ℕ) → Numbers → Numbers
put key value w = changed nat_cmp w key (Some value)

-- the number that a transaction puts is its expiration
abbrev pub asked_of : Result Transaction PackFault → ℕ
asked_of (Ok t) = t.expiration
asked_of (Err fault) = 0

abbrev pub asked : List ℕ → ℕ
asked packed = asked_of (whole transaction packed)

-- more than 1,000 bytes, or signed
abbrev pub is_big : (packed : List ℕ) → (signatures : List (List ℕ)) → Bool
is_big packed [] = nat_lt 1000 (length packed)
is_big packed (s ∷ signatures) = true

-- one that asks for 0 fails, and so does one that is too big
abbrev pub failure_of : (big : Bool) → (asked : ℕ) → Option Failure
failure_of true asked = Some TooBig
failure_of false asked = if asked == 0 then Some (Assert []) else None

abbrev pub all_steps : ℕ
all_steps = 7

abbrev pub trace_of : BlockInfo → (packed : List ℕ) → Option Failure → Trace
trace_of info packed failure = record {
  position = 0;
  head = record { num = info.num - 1; id = info.previous };
  id = sha256 packed;
  failure = failure;
  steps = all_steps;
  actions = [];
}

abbrev pub done : Numbers → BlockInfo → (packed : List ℕ) → Option Failure → Numbers × Trace
done w info packed (Some f) = (w, trace_of info packed (Some f))
done w info packed None = (put (asked packed) info.num w, trace_of info packed None)

-- a block puts its slot at 0, and its number at 1
abbrev pub number_steps : Steps Numbers
number_steps = record {
  begin = λ chain w info. put 0 info.slot w;
  trx = λ chain judge w info packed signatures. done w info packed (failure_of (is_big packed signatures) (asked packed));
  finish = λ chain w num id. put 1 num w;
}
