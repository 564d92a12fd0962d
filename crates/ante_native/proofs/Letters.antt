-- Whether a text begins with another, by either order of comparison.
use Rattle.std.proofs.Common.{◌≡◌, ℕ, List, length, bytes_eq, take}
use Rattle.std.specs.Bool.{nat_eq}
use Rattle.std.specs.List.{starts_with}
use Rattle.std.specs.Cmp.Lexicographic.{nat_list_eq_equiv}

pub begins : (text needle : List ℕ) → starts_with nat_eq text needle ≡ bytes_eq (take (length needle) text) needle
begins text needle = nat_list_eq_equiv.symm needle (take (length needle) text)
