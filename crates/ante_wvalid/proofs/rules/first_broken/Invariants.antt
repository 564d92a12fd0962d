use Rattle.std.proofs.Common.{◌<◌, ◌-◌}
use Rattle.ante_wtree.specs.Trees.{tree_of}
use Rattle.ante_wvalid.specs.declared.kinds.ModuleRule.{ModuleRule}
use Rattle.ante_wvalid.specs.Modules.{Breaks, rule_place}
use Rattle.ante_wvalid.proofs.rules.first_broken.Given as goal

abbrev pub invariant-rules : goal.invariant-rules
invariant-rules l = (s : ModuleRule) → rule_place s < rule_place l.rule → Breaks (tree_of l.module) s → ⊥

abbrev pub decreases-rules : goal.decreases-rules
decreases-rules l = 11 - rule_place l.rule
