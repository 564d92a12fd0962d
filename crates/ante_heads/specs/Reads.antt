-- Ends of reads.
use Rattle.std.specs.Prelude.{Result, Ok, Err}
use Rattle.ante_port.specs.declared.ReadEnd.{ReadEnd}
use Rattle.ante_port.specs.declared.ReadEnd.TheVariants.{Done, Cut}

-- where the reply was given, this holds
abbrev pub OnDone : {R E : Type 0} → Result (ReadEnd R) E → Type 0 → Type 0
OnDone (Ok (Done reply)) Holds = Holds
OnDone (Ok (Cut at)) Holds = Unit {0}
OnDone (Err e) Holds = Unit {0}
