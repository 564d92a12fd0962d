use Rattle.ante_window_tests.proofs.shaft.+reaches.Given as goal

abbrev pub decreases-reaches : goal.decreases-reaches
decreases-reaches l = l.levels
