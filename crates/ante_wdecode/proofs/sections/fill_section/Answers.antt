use Rattle.std.proofs.Common.{arith}
use Rattle.ante_wtree.specs.Trees.{tree_of}
use Rattle.ante_wdecode.specs.Sections.{contents}
use Rattle.ante_wdecode.proofs.Order.{whole_contents}
use Rattle.ante_wdecode.proofs.Values.{left_small}
use Rattle.ante_wdecode.proofs.sections.fill_section.Goals as goal

pub moved-requires : goal.moved-requires
moved-requires c =
    let m = tree_of c.args.so_far.now in
    let p = left_small (contents m c.args.id) (whole_contents m c.args.id) c.in-Err.why c.split_at.result.0.now c.in-Err.ensures in
    omega (arith, p, c.split_at.ensures.front_len, c.split_at.ensures.back_len)
