use Rattle.std.proofs.Common.{◌≡◌, drop}
use Rattle.ante_wrun.proofs.blocks.discard.Given as goal

abbrev pub invariant-loop : goal.invariant-loop
invariant-loop l = l.frames ≡ drop l.counter l.fn.frames
