-- The calls stand in the order of the table of imports.
use Rattle.std.proofs.Common.{◌≡◌, refl}
use Rattle.std.specs.Prelude.{map}
use Rattle.ante_wtree.specs.Intrinsics.{names}
use Rattle.ante_calls.specs.Numbers.{intrinsics}

intrinsics-named : map (λ c. c.0) intrinsics ≡ names
intrinsics-named = refl
