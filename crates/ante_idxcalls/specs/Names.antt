-- The names of the calls on the rows of an index, as a contract imports them.
use Rattle.std.specs.Prelude.{List, ℕ, codes}
use Rattle.ante_calls.specs.declared.calls.IndexCall.{IndexCall}
use Rattle.ante_calls.specs.declared.calls.IndexCall.TheVariants as calls
use Rattle.ante_calls.specs.IndexCalls.{KeyForm, IndexRows, name_of}

-- what stands behind the prefix of the key's width
abbrev pub ending : IndexCall → List ℕ
ending calls.Store = codes "store"
ending calls.Update = codes "update"
ending calls.Remove = codes "remove"
ending calls.Next = codes "next"
ending calls.Previous = codes "previous"
ending calls.FindPrimary = codes "find_primary"
ending calls.FindSecondary = codes "find_secondary"
ending calls.LowerBound = codes "lowerbound"
ending calls.UpperBound = codes "upperbound"
ending calls.End = codes "end"

module _ {K : Type 0} where
  abbrev pub name_of_call : KeyForm K → IndexRows K → IndexCall → List ℕ
  name_of_call form index call = name_of form index (ending call)
