use Rattle.std.proofs.Common.{◌≡◌, ℕ, ◌-◌, ◌≤◌}
use Rattle.std.specs.Prelude.{◌%◌}
use Rattle.ante_wtree.specs.Limits.{round_steps}
use Rattle.ante_wmeaning.specs.Environment.{Environment}
use Rattle.ante_wmeaning.specs.Configurations.{Program}
use Rattle.ante_wmeaning.specs.Environment.{Begins, past}
use Rattle.ante_wrun.specs.ThreadStates.{goes, Nested}
use Rattle.ante_wrun.specs.Stretches.{stepping, WithoutLooks}
use Rattle.ante_wrun.proofs.stretch.run_code.Given as goal

abbrev pub invariant-instructions : goal.invariant-instructions
invariant-instructions g l =
    ((program : Program) (w : g.row.H.Denot) (free left : ℕ) → l.fn.most ≤ left % round_steps → WithoutLooks (λ events. (environment : Environment) → Begins environment events →
    goes g.H.Host.meaning program free l.fn.frames l.fn.code l.fn.values (stepping l.fn.values l.fn.globals.items l.fn.memory w left environment)
    ≡ goes g.H.Host.meaning program free l.frames l.rest l.values (stepping l.values l.globals.items l.memory w (left - l.steps) (past environment events))))
    × (l.steps ≤ l.fn.most) × (l.values.below ≡ l.fn.values.below) × ((below : ℕ) → Nested below l.fn.frames → Nested below l.frames)

abbrev pub decreases-instructions : goal.decreases-instructions
decreases-instructions g l = l.fn.most - l.steps
