-- The calls by their numbers alone.
use Rattle.std.specs.Prelude.{List, map}
use Rattle.ante_calls.specs.declared.calls.SysCall.{SysCall}
use Rattle.ante_calls.specs.Numbers.{sys_calls}

abbrev pub calls : List SysCall
calls = map (λ c. c.1) sys_calls
