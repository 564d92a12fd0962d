use Rattle.std.proofs.Common.{◌≡◌, length}
use Rattle.std.specs.List.{AllByRecursion}
use Rattle.ante_wmeaning.specs.Instantiation.{data_fits}
use Rattle.ante_wrun.specs.GrantedByValidity.{IsLiteral}
use Rattle.ante_wrun.proofs.instance.data_fits.Given as goal

abbrev pub invariant-segments : goal.invariant-segments
invariant-segments l = (data_fits l.count l.rest ≡ data_fits l.count l.fn.segments) × AllByRecursion (λ s. IsLiteral s.offset) l.rest

abbrev pub decreases-segments : goal.decreases-segments
decreases-segments l = length l.rest
