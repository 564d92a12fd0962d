use Rattle.std.proofs.Common.{◌≡◌, length, true}
use Rattle.std.specs.Prelude.{fold}
use Rattle.std.specs.List.{AllByRecursion}
use Rattle.ante_wmeaning.specs.Instantiation.{with_segment, data_fits}
use Rattle.ante_wrun.specs.GrantedByValidity.{IsLiteral}
use Rattle.ante_wrun.proofs.instance.put_segments.Given as goal

abbrev pub invariant-segments : goal.invariant-segments
invariant-segments l =
    (fold with_segment l.memory l.rest ≡ fold with_segment l.fn.memory l.fn.segments)
    × AllByRecursion (λ s. IsLiteral s.offset) l.rest
    × (data_fits (length l.memory.bytes) l.rest ≡ true)

abbrev pub decreases-segments : goal.decreases-segments
decreases-segments l = length l.rest
