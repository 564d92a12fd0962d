use Rattle.std.proofs.Common.{◌≡◌, [], ◌∷◌}
use Rattle.std.proofs.lemmas.Result.{err_from_is_err_and}
use Rattle.std.proofs.lemmas.List.{nil_from_length}
use Rattle.ante_pack.proofs.Varuint.{within-end, within-last, within-one, gives-fault, gives-zero, gives-more}
use Rattle.ante_pack.proofs.reader.+varuint_of.Goals as goal

pub returns-in_default-clause-number : goal.returns-in_default-clause-number
returns-in_default-clause-number t c =
    let e : c.args.bytes.now ≡ [] = nil_from_length c.args.bytes.now c.in_default.ensures.cases in
    rw e (within-end c.args.at c.args.left)

pub returns-then-left-eq0-clause-number : goal.returns-then-left-eq0-clause-number
returns-then-left-eq0-clause-number t c =
    let e : c.args.bytes.now ≡ c.in-Some.first.now ∷ c.in-Some.rest.now = c.in-Some.ensures.cases.0 in
    rw e (rw (within-last c.args.at c.in-Some.first.now c.in-Some.rest.now c.args.left c.if-left-eq0.true) c.last_of_five.ensures.number)

pub returns-then-first-lt128-clause-number : goal.returns-then-first-lt128-clause-number
returns-then-first-lt128-clause-number t c =
    let e : c.args.bytes.now ≡ c.in-Some.first.now ∷ c.in-Some.rest.now = c.in-Some.ensures.cases.0 in
    rw (e, c.from.ensures) (within-one c.args.at c.in-Some.first.now c.in-Some.rest.now c.args.left c.if-left-eq0.false c.if-first-lt128.true)

pub returns-in_err-high-clause-number : goal.returns-in_err-high-clause-number
returns-in_err-high-clause-number t c =
    let p = err_from_is_err_and c.from_residual.result c.from_residual.ensures.1 in
    let e : c.args.bytes.now ≡ c.in-Some.first.now ∷ c.in-Some.rest.now = c.in-Some.ensures.cases.0 in
    rw (p.1, p.2, e) (gives-fault c.args.at c.in-Some.first.now c.in-Some.rest.now c.args.left _ c.if-left-eq0.false c.if-first-lt128.false c.in_err-high.ensures.number)

pub returns-then-high-eq0-clause-number : goal.returns-then-high-eq0-clause-number
returns-then-high-eq0-clause-number t c =
    let e : c.args.bytes.now ≡ c.in-Some.first.now ∷ c.in-Some.rest.now = c.in-Some.ensures.cases.0 in
    rw e (gives-zero c.args.at c.in-Some.first.now c.in-Some.rest.now c.args.left c.in_ok-high.high c.in_ok-high.rest.now c.if-left-eq0.false c.if-first-lt128.false c.if-high-eq0.true c.in_ok-high.ensures.number)

pub returns-clause-number : goal.returns-clause-number
returns-clause-number t c =
    let e : c.args.bytes.now ≡ c.in-Some.first.now ∷ c.in-Some.rest.now = c.in-Some.ensures.cases.0 in
    rw (e, c.from-2.ensures) (gives-more c.args.at c.in-Some.first.now c.in-Some.rest.now c.args.left c.in_ok-high.high c.in_ok-high.rest.now c.if-left-eq0.false c.if-first-lt128.false c.if-high-eq0.false c.in_ok-high.ensures.number)
