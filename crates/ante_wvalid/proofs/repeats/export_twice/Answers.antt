use Rattle.std.proofs.Common.{refl}
use Rattle.ante_wvalid.proofs.Repeating.{left_first, left_more, left_stops, left_none, none_seen, seen_more, seen_not, seen_yes, Seen}
use Rattle.ante_wvalid.proofs.repeats.export_twice.Goals as goal

pub exports-init : goal.exports-init
exports-init c = left_first (Seen c.new-seen.result) c.args.exports.now (none_seen c.new-seen.result c.new-seen.ensures.len)

pub returns-then-not-branch : goal.returns-then-not-branch
returns-then-not-branch c =
    let twice = left_stops (Seen c.exports.seen) c.args.exports.now c.exports.rest.now c.in-Some.tail.now c.in-Some.export.now c.in-Some.ensures.cases.0 c.exports.invariant (seen_yes c.exports.seen c.as_slice.result c.in-Some.export.now.name c.in_ok-insert.field-0 c.as_slice.ensures c.in_ok-insert.ensures.added c.if-not-branch.true) in
    (λ e. twice, λ t. refl)

pub exports-preserved : goal.exports-preserved
exports-preserved c = left_more (Seen c.exports.seen) (Seen c.insert.new.self) c.args.exports.now c.exports.rest.now c.in-Some.tail.now c.in-Some.export.now c.in-Some.ensures.cases.0 c.exports.invariant
    (seen_not c.exports.seen c.as_slice.result c.in-Some.export.now.name c.in_ok-insert.field-0 c.as_slice.ensures c.in_ok-insert.ensures.added c.if-not-branch.false)
    (seen_more c.exports.seen c.insert.new.self c.as_slice.result c.in-Some.export.now.name c.as_slice.ensures c.in_ok-insert.ensures.updates)

pub returns : goal.returns
returns c = (λ e. cc, λ t. absurd (left_none (Seen c.exports.seen) c.args.exports.now c.exports.rest.now c.in_default.ensures.cases c.exports.invariant t))
