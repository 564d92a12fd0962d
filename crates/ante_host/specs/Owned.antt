-- What a run has of its own.
use Rattle.ante_calls.specs.Views.{Lists}
use Rattle.ante_host.specs.declared.own.Own.{Own}

abbrev pub lists_of : Own → Lists
lists_of own = record { rows = own.rows; index64 = own.index64; index128 = own.index128; index256 = own.index256 }
