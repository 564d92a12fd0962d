use Rattle.std.proofs.Common.{◌≡◌, ◌+◌, ◌-◌, ◌≤◌, sym, ap, subst, ◌∙◌, arith}
use Rattle.std.specs.Ordering.{nat_cmp}
use Rattle.ante_ram.specs.Usage.{usage_sum}
use Rattle.ante_ram.proofs.Sums.{used_within}
use Rattle.ante_ram.proofs.usage.Usage.others.Goals as goal

pub overflow_sub-result : goal.overflow_sub-result
overflow_sub-result c =
    let within : c.used-2.result ≤ usage_sum c.args.self.now.top = subst (λ n. n ≤ usage_sum c.args.self.now.top) (sym c.used-2.ensures) (used_within (λ a b. nat_cmp a.0 b.0) c.args.account c.args.self.now.top) in
    let total : c.rest-rest.result.used + c.used.result ≡ usage_sum c.args.self.now.top = ap (λ n. c.rest-rest.result.used + n) c.used.ensures ∙ c.rest-rest.ensures.total in
    omega (arith, within, total)

pub returns-clause-others : goal.returns-clause-others
returns-clause-others c =
    let within : c.used-2.result ≤ usage_sum c.args.self.now.top = subst (λ n. n ≤ usage_sum c.args.self.now.top) (sym c.used-2.ensures) (used_within (λ a b. nat_cmp a.0 b.0) c.args.account c.args.self.now.top) in
    let total : c.rest-rest.result.used + c.used.result ≡ usage_sum c.args.self.now.top = ap (λ n. c.rest-rest.result.used + n) c.used.ensures ∙ c.rest-rest.ensures.total in
    subst (λ n. c.rest-rest.result.used + c.used.result - c.used-2.result + n ≡ usage_sum c.args.self.now.top) c.used-2.ensures (omega (arith, within, total))
