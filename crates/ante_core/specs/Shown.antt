-- What contracts see of the machine that the code keeps.
use Rattle.std.specs.Prelude.{◌≤◌, length, option_map}
use Rattle.ante_core.specs.declared.window.Window.{Window}
use Rattle.ante_core.specs.declared.machine.Machine.TheInside.{Inside}
use Rattle.ante_core.specs.Machine.{State, WindowState, most_jobs}

abbrev pub shown_window : {F : Type 0} → Window F → WindowState F
shown_window w = record { deadline = w.deadline; listed = w.listed.items; drawn = w.drawn; rung = w.rung; held = w.held.items }

abbrev pub shown_machine : {A W X J F R : Type 0} → Inside A W X J F R → State W J F R
shown_machine c =
    record { world = c.world; position = c.position; jobs = c.jobs.items; done = c.done.items; window = option_map shown_window c.window }

-- no more jobs were taken than can be numbered
abbrev pub HasFewJobs : {A W X J F R : Type 0} → Inside A W X J F R → Type 0
HasFewJobs c = length c.jobs.items ≤ most_jobs
