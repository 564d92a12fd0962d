use Rattle.std.proofs.Common.{rules, ◌+◌, ◌^◌, ◌<◌, length, arith}
use Rattle.ante_undo.proofs.Ends.{adds_log, last_small}
use Rattle.ante_undo.proofs.logs.join_last.Goals as goal

pub unreachable-requires-in_default-append : goal.unreachable-requires-in_default-append
unreachable-requires-in_default-append g c =
    let small = last_small c.args.logs.now c.in-Some.last.now c.requires.some c.in-Some.ensures.value in
    let room = c.requires.room in
    let fits : length c.in-Some.last.now + length c.args.log < 2 ^ 63 = omega arith in
    let ok = c.append.ensures.succeeds fits in
    search rules

pub returns : goal.returns
returns g c = adds_log c.args.log c.args.logs.now c.in-Some.last.now c.append.new.self c.requires.some c.in-Some.ensures.value c.in-Ok.ensures.items
