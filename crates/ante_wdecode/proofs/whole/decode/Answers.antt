use Rattle.std.proofs.Common.{◌≡◌, ℕ, ◌-◌, List, length, Err, refl, sym, subst, ◌∙◌}
use Rattle.ante_wtree.specs.Trees.{tree_of}
use Rattle.ante_wdecode.specs.declared.fault.DecodeKind.{DecodeKind}
use Rattle.ante_wdecode.specs.declared.fault.Unread.{Unread}
use Rattle.ante_wdecode.specs.declared.fault.Unread.TheVariants as unread
use Rattle.ante_wdecode.specs.Rules.{At, Fails}
use Rattle.ante_wdecode.specs.Decoding.{module_at}
use Rattle.ante_wdecode.proofs.Lebs.{ok_is}
use Rattle.ante_wdecode.proofs.Order.{module_found, module_again, left_within, blamed, first_at, never_both}
use Rattle.ante_wdecode.proofs.whole.decode.Goals as goal

faulty : (why : Unread) (code : List ℕ) (left : ℕ) (k : DecodeKind) → why ≡ unread.Fault left k → Fails why (module_at code) → module_at code ≡ Err (At left k)
faulty why code left k e h = subst (λ w. Fails w (module_at code)) e h

pub overflow_sub-result-in-Err-Fault : goal.overflow_sub-result-in-Err-Fault
overflow_sub-result-in-Err-Fault c = left_within c.args.code.now c.in-Err-Fault.left c.in-Err-Fault.kind (faulty c.in-Err-Fault.field-0 c.args.code.now c.in-Err-Fault.left c.in-Err-Fault.kind c.in-Err-Fault.field-0-is c.in-Err-Fault.ensures)

pub returns-in-Ok-clause-found : goal.returns-in-Ok-clause-found
returns-in-Ok-clause-found c = module_found c.args.code.now (tree_of c.in-Ok.module) c.in-Ok.ensures

pub returns-in-Ok-clause-only : goal.returns-in-Ok-clause-only
returns-in-Ok-clause-only c = λ m e. ok_is (tree_of c.in-Ok.module) m (sym c.in-Ok.ensures ∙ module_again c.args.code.now m e)

pub returns-in-Err-Fault-clause-only : goal.returns-in-Err-Fault-clause-only
returns-in-Err-Fault-clause-only c = λ m e. never_both c.args.code.now m (At c.in-Err-Fault.left c.in-Err-Fault.kind) (faulty c.in-Err-Fault.field-0 c.args.code.now c.in-Err-Fault.left c.in-Err-Fault.kind c.in-Err-Fault.field-0-is c.in-Err-Fault.ensures) e

pub returns-in-Err-Fault-clause-blames : goal.returns-in-Err-Fault-clause-blames
returns-in-Err-Fault-clause-blames c = blamed c.args.code.now c.in-Err-Fault.left (length c.args.code.now - c.in-Err-Fault.left) c.in-Err-Fault.kind (faulty c.in-Err-Fault.field-0 c.args.code.now c.in-Err-Fault.left c.in-Err-Fault.kind c.in-Err-Fault.field-0-is c.in-Err-Fault.ensures) refl

pub returns-in-Err-Fault-clause-first : goal.returns-in-Err-Fault-clause-first
returns-in-Err-Fault-clause-first c = first_at c.args.code.now c.in-Err-Fault.left (length c.args.code.now - c.in-Err-Fault.left) c.in-Err-Fault.kind (faulty c.in-Err-Fault.field-0 c.args.code.now c.in-Err-Fault.left c.in-Err-Fault.kind c.in-Err-Fault.field-0-is c.in-Err-Fault.ensures) refl
