-- A step is paid between two calls, so the second is made below what the first left.
use Rattle.std.proofs.Common.{◌-◌, [], arith}
use Rattle.ante_wmem.proofs.tests.a_host_answers_and_pays.Goals as goal

pub call-requires-2 : goal.call-requires-2
call-requires-2 g c = c.call.ensures.after 1 [] (c.call.new.left - 1) (omega arith) (omega arith)

pub call-requires-3 : goal.call-requires-3
call-requires-3 g c =
    let earlier = c.call.ensures.after 0 [] (c.call.new.left - 1) (omega arith) (omega arith) in
    c.call-2.ensures.after 0 [] (c.call-2.new.left - 1) (omega arith) earlier
