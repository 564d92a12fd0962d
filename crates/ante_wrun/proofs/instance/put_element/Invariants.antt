use Rattle.std.proofs.Common.{◌≡◌, ◌+◌, ◌≤◌, length, map, Some}
use Rattle.ante_wmeaning.specs.Instantiation.{placed, with_element}
use Rattle.ante_wrun.proofs.instance.put_element.Given as goal

abbrev pub invariant-functions : goal.invariant-functions
invariant-functions l = (placed l.table l.at (map Some l.rest) ≡ with_element l.fn.table l.fn.element) × (l.at + length l.rest ≤ length l.table)

abbrev pub decreases-functions : goal.decreases-functions
decreases-functions l = length l.rest
