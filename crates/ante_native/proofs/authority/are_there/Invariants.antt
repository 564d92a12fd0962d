use Rattle.std.proofs.Common.{◌≡◌, length}
use Rattle.std.specs.List.{list_all}
use Rattle.ante_native.proofs.authority.are_there.Given as goal

abbrev pub invariant-all : goal.invariant-all
invariant-all g l = list_all (λ a. g.L.Levels.there l.levels a.level) l.rest ≡ list_all (λ a. g.L.Levels.there l.levels a.level) l.accounts

abbrev pub decreases-all : goal.decreases-all
decreases-all g l = length l.rest
