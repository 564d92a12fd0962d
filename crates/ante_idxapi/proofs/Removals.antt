-- A removal is refused where the change isn't made. `it` is the argument, and `jt` the argument as it was passed on.
use Rattle.std.proofs.Common.{◌≡◌, ℕ, ℤ, true, Ok, sym, ap, ◌∙◌, subst}
use Rattle.ante_pack.specs.declared.names.TableKey.{TableKey}
use Rattle.ante_types.specs.declared.context.RunContext.{RunContext}
use Rattle.ante_types.specs.World.{World}
use Rattle.ante_itercache.specs.Iterators.{row_removed}
use Rattle.ante_calls.specs.declared.faults.DbFault.{DbFault}
use Rattle.ante_calls.specs.declared.faults.DbFault.TheVariants as fault
use Rattle.ante_calls.specs.Kinds.{Kind}
use Rattle.ante_calls.specs.RowAnswers.{IsFaultOf}
use Rattle.ante_calls.specs.Rows.{Answer, then_do, make, own_row, remove}
use Rattle.ante_calls.specs.Views.{RowView, is_writing}
use Rattle.ante_dbapi.proofs.Faults.{fault_goes_on}
use Rattle.ante_dbapi.proofs.Updates.{writes}

module _ {P R V : Type 0} (kind : Kind P R V) where
  abbrev gone : ℤ → RowView → World → Answer (Unit {0})
  gone it v w = Ok (tt, record { world = w; iters = row_removed it v.iters })

  abbrev removes : ℤ → RowView → TableKey × ℕ → Answer (Unit {0})
  removes it v r = then_do (make (fault.BadIterator it) (kind.removing r.0 r.1) v.world) (gone it v)

  pub removal_refused : (run : RunContext) (it jt : ℤ) → jt ≡ it → (v : RowView) (key : TableKey) (primary : ℕ) (f : DbFault) → is_writing run.mode ≡ true → own_row kind run jt v.iters ≡ Ok (key, primary) → IsFaultOf (make (fault.BadIterator jt) (kind.removing key primary) v.world) f → IsFaultOf (remove kind run it v) f
  removal_refused run it jt e v key primary f w own h =
      subst (λ a. IsFaultOf a f)
      (sym (ap (λ n. remove kind run n v) (sym e) ∙ writes run.mode (then_do (own_row kind run jt v.iters) (removes jt v)) w ∙ ap (λ x. then_do x (removes jt v)) own))
      (fault_goes_on f (make (fault.BadIterator jt) (kind.removing key primary) v.world) (gone jt v) h)
