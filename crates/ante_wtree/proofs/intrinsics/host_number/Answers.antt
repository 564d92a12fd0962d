use Rattle.std.proofs.Common.{◌≡◌, ℕ, Some, slice_get, sym, subst, ap, ◌∙◌, arith}
use Rattle.ante_wtree.specs.Intrinsics.{name_at}
use Rattle.ante_wtree.proofs.Table.{one_number, number_below}
use Rattle.ante_wtree.proofs.intrinsics.host_number.Goals as goal

same_number : {m n : ℕ} → Some m ≡ Some n → m ≡ n
same_number h = cc

pub overflow_cast-result : goal.overflow_cast-result
overflow_cast-result c = omega (arith, number_below c.in-Some.at c.args.name.now (ap (λ xs. slice_get xs c.in-Some.at) (sym c.rows.ensures.names) ∙ c.in-Some.ensures.found))

pub returns-in-Some : goal.returns-in-Some
returns-in-Some c = λ number.
    let at : name_at c.in-Some.at ≡ Some c.args.name.now = ap (λ xs. slice_get xs c.in-Some.at) (sym c.rows.ensures.names) ∙ c.in-Some.ensures.found in
    (λ e. subst (λ n. name_at n ≡ Some c.args.name.now) (same_number e) at, λ h. ap Some (one_number c.in-Some.at number c.args.name.now at h))

pub returns-in-None : goal.returns-in-None
returns-in-None c = λ number. (λ e. cc, λ h. absurd (c.in-None.ensures.none number (ap (λ xs. slice_get xs number) c.rows.ensures.names ∙ h)))
