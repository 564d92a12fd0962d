-- What an update comes to, once the row with the number is known. `it` is the argument, and `jt` the argument as it was passed on.
use Rattle.std.proofs.Common.{◌≡◌, ℕ, ℤ, true, true≢false, Option, None, Some, Result, Ok, Err, refl, sym, ap, ◌∙◌, subst}
use Rattle.ante_pack.specs.declared.names.Name.{Name}
use Rattle.ante_pack.specs.declared.names.TableKey.{TableKey}
use Rattle.ante_types.specs.declared.context.Mode.{Mode}
use Rattle.ante_types.specs.declared.context.Mode.TheVariants as mode
use Rattle.ante_types.specs.declared.context.RunContext.{RunContext}
use Rattle.ante_types.specs.World.{World}
use Rattle.ante_store.specs.declared.change.Change.{Change}
use Rattle.ante_itercache.specs.Iterators.{Iterators}
use Rattle.ante_calls.specs.declared.faults.DbFault.{DbFault}
use Rattle.ante_calls.specs.declared.faults.DbFault.TheVariants as fault
use Rattle.ante_calls.specs.Kinds.{Kind}
use Rattle.ante_calls.specs.RowAnswers.{IsFaultOf, IsRowAnswer}
use Rattle.ante_calls.specs.Rows.{Answer, then_do, some_or, unless, writing, make, own_row, update, update_refusal, new_payer}
use Rattle.ante_calls.specs.Views.{RowView, is_writing}
use Rattle.ante_dbapi.specs.Made.{Makes}
use Rattle.ante_dbapi.proofs.Faults.{fault_is, fault_goes_on}

abbrev pub done : Iterators → World → Answer (Unit {0})
done i w = Ok (tt, record { world = w; iters = i })

pub made_answers : (misplaced : DbFault) (c : Change) (result : Result (Unit {0}) DbFault) (old new : World) (i : Iterators) → Makes misplaced c result old new → IsRowAnswer (λ d. d) (then_do (make misplaced c old) (done i)) result (record { world = old; iters = i }) (record { world = new; iters = i })
made_answers misplaced c (Ok d) old new i h = ap (λ r. then_do r (done i)) h
made_answers misplaced c (Err f) old new i h = (fault_goes_on f (make misplaced c old) (done i) h.0, λ k. record { world = h.1 k; iters = i })

pub writes : (m : Mode) (answer : Answer (Unit {0})) → is_writing m ≡ true → writing m answer ≡ answer
writes mode.Writing answer h = refl
writes mode.Reading answer h = absurd (true≢false (sym h))

module _ {P R V : Type 0} (kind : Kind P R V) where
  abbrev pub put : RunContext → ℤ → TableKey → ℕ → (payer : Name) → V → RowView → R → Answer (Unit {0})
  put run it key primary payer value v row =
      unless (update_refusal kind run payer row value v.world)
      (then_do (make (fault.BadIterator it) (kind.updating key primary (new_payer kind payer row) value) v.world) (done v.iters))

  abbrev pub changes : RunContext → ℤ → (payer : Name) → V → RowView → TableKey × ℕ → Answer (Unit {0})
  changes run it payer value v r = then_do (some_or (fault.BadIterator it) (kind.row r.0 r.1 v.world)) (put run it r.0 r.1 payer value v)

  update_is : (run : RunContext) (it jt : ℤ) → jt ≡ it → (payer : Name) (value : V) (v : RowView) (key : TableKey) (primary : ℕ) (o : Option R) → is_writing run.mode ≡ true → own_row kind run jt v.iters ≡ Ok (key, primary) → kind.row key primary v.world ≡ o → update kind run it payer value v ≡ then_do (some_or (fault.BadIterator jt) o) (put run jt key primary payer value v)
  update_is run it jt e payer value v key primary o w own at =
      ap (λ n. update kind run n payer value v) (sym e) ∙ writes run.mode (then_do (own_row kind run jt v.iters) (changes run jt payer value v)) w
      ∙ ap (λ x. then_do x (changes run jt payer value v)) own ∙ ap (λ o. then_do (some_or (fault.BadIterator jt) o) (put run jt key primary payer value v)) at

  pub update_of_none : (run : RunContext) (it jt : ℤ) → jt ≡ it → (payer : Name) (value : V) (v : RowView) (key : TableKey) (primary : ℕ) → is_writing run.mode ≡ true → own_row kind run jt v.iters ≡ Ok (key, primary) → kind.row key primary v.world ≡ None → update kind run it payer value v ≡ Err (fault.BadIterator jt)
  update_of_none run it jt e payer value v key primary w own at = update_is run it jt e payer value v key primary None w own at

  pub update_refused : (run : RunContext) (it jt : ℤ) → jt ≡ it → (payer : Name) (value : V) (v : RowView) (key : TableKey) (primary : ℕ) (row : R) (f : DbFault) → is_writing run.mode ≡ true → own_row kind run jt v.iters ≡ Ok (key, primary) → kind.row key primary v.world ≡ Some row → update_refusal kind run payer row value v.world ≡ Some f → IsFaultOf (update kind run it payer value v) f
  update_refused run it jt e payer value v key primary row f w own at refusal =
      fault_is f _
      (update_is run it jt e payer value v key primary (Some row) w own at
      ∙ ap (λ o. unless o (then_do (make (fault.BadIterator jt) (kind.updating key primary (new_payer kind payer row) value) v.world) (done v.iters))) refusal)

  pub update_made : (run : RunContext) (it jt : ℤ) → jt ≡ it → (payer : Name) (value : V) (v : RowView) (key : TableKey) (primary : ℕ) (row : R) (paying : Name) (bytes : V) (result : Result (Unit {0}) DbFault) (new : World) → is_writing run.mode ≡ true → own_row kind run jt v.iters ≡ Ok (key, primary) → kind.row key primary v.world ≡ Some row → update_refusal kind run payer row value v.world ≡ None → paying ≡ new_payer kind payer row → bytes ≡ value → Makes (fault.BadIterator jt) (kind.updating key primary paying bytes) result v.world new → IsRowAnswer (λ d. d) (update kind run it payer value v) result v (record { world = new; iters = v.iters })
  update_made run it jt e payer value v key primary row paying bytes result new w own at refusal pays same h =
      subst (λ a. IsRowAnswer (λ d. d) a result v (record { world = new; iters = v.iters }))
      (ap (λ c. then_do (make (fault.BadIterator jt) c v.world) (done v.iters)) (λ k. kind.updating key primary (pays k) (same k))
      ∙ sym (update_is run it jt e payer value v key primary (Some row) w own at
      ∙ ap (λ o. unless o (then_do (make (fault.BadIterator jt) (kind.updating key primary (new_payer kind payer row) value) v.world) (done v.iters))) refusal))
      (made_answers (fault.BadIterator jt) (kind.updating key primary paying bytes) result v.world new v.iters h)
