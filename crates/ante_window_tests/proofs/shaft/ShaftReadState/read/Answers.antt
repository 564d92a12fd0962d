use Rattle.std.proofs.Common.{[], ◌∷◌, Some, None, refl}
use Rattle.ante_window_tests.proofs.shaft.ShaftReadState.read.Goals as goal

pub returns-in-Some : goal.returns-in-Some
returns-in-Some g c = (Some c.in-Some.at ∷ [], (c.look.new.self, c.in-Some.ensures.answer, refl), ([], refl))

pub returns-then-not-reaches : goal.returns-then-not-reaches
returns-then-not-reaches g c = (None ∷ [], (c.look.new.self, c.in_default.ensures.answer, refl), tt)

pub returns : goal.returns
returns g c = (None ∷ [], (c.look.new.self, c.in_default.ensures.answer, refl), refl)
