use Rattle.std.proofs.Common.{ap, subst, length, List, ℕ, arith}
use Rattle.std.proofs.lemmas.List.{length-take}
use Rattle.ante_http.specs.Reading.{IsHeadReading}
use Rattle.ante_http.proofs.Framed.{end_in, framed}
use Rattle.ante_http.proofs.cutting.cut.Goals as goal

pub split_at-requires : goal.split_at-requires
split_at-requires c = (end_in c.args.bytes.now c.head_room.result.now c.in-Some.end c.head_room.ensures c.in-Some.ensures.some).0

pub read_head-requires : goal.read_head-requires
read_head-requires c =
    let e = end_in c.args.bytes.now c.head_room.result.now c.in-Some.end c.head_room.ensures c.in-Some.ensures.some in
    omega (arith, e.1, ap (λ (l : List ℕ). length l) c.split_at.ensures.front, length-take c.in-Some.end c.args.bytes.now)

pub returns-in-Framed : goal.returns-in-Framed
returns-in-Framed c =
    framed c.args.bytes.now c.head_room.result.now _ c.in-Some.end c.in-Framed.framing _ c.head_room.ensures c.in-Some.ensures.some c.split_at.ensures.front
    (subst (IsHeadReading c.split_at.result.0.now) c.in-Framed.is c.read_head.ensures) c.answer_framed.ensures
