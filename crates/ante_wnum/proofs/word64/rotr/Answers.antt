use Rattle.std.proofs.Common.{◌≡◌, ◌-◌, ◌*◌, ◌/◌, ◌%◌, ◌^◌, ◌++◌, take, drop, bit_or, Ok, ap, sym, ◌∙◌, mod-eq_of_lt}
use Rattle.ante_wnum.specs.Numerics.{ibits, integer}
use Rattle.ante_wnum.proofs.Shifts.{rotr-is}
use Rattle.ante_wnum.proofs.word64.rotr.Goals as goal

pub returns : goal.returns
returns c =
    let same : c.args.count % 64 ≡ c.args.count = mod-eq_of_lt c.requires in
    ap Ok (c.rotate_right.ensures ∙ ap (λ k. bit_or (c.args.a / 2 ^ k) ((c.args.a * 2 ^ ((64 - k) % 64)) % 2 ^ 64)) same ∙ sym (rotr-is 64 c.args.count c.args.a c.requires c.ranges.a.fits)
    ∙ ap (λ k. integer (drop (64 - k) (ibits 64 c.args.a) ++ take (64 - k) (ibits 64 c.args.a))) (sym same))
