use Rattle.std.proofs.Common.{◌≡◌, ◌-◌}
use Rattle.ante_wdecode.specs.Modules.{groups}
use Rattle.ante_wdecode.proofs.Fronts.{with_front}
use Rattle.ante_wdecode.proofs.code.read_groups.Given as goal

abbrev pub invariant-loop : goal.invariant-loop
invariant-loop l = with_front l.locals ((groups l.left (l.count - l.counter)).read l.rest) ≡ (groups l.most l.count).read l.fn.bytes
