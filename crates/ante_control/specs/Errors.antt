-- How the answers of the parts of a push are handed on.
use Rattle.std.specs.Prelude.{ℕ, Result, Ok, Err}
use Rattle.ante_fork.specs.declared.AddError.{AddError}
use Rattle.ante_fork.specs.declared.AddError.TheVariants as add
use Rattle.ante_control.specs.declared.error.Pushed.{Pushed}
use Rattle.ante_control.specs.declared.error.Pushed.TheVariants.{Head}
use Rattle.ante_control.specs.declared.error.PushError.{PushError}
use Rattle.ante_control.specs.declared.error.PushError.TheVariants as push
use Rattle.ante_control.specs.declared.branches.BranchError.{BranchError}
use Rattle.ante_control.specs.declared.branches.BranchError.TheVariants as branch

abbrev pub pushed_error : AddError → PushError
pushed_error add.OutOfMemory = push.OutOfMemory
pushed_error add.Known = push.Known
pushed_error (add.Unlinkable previous) = push.Unlinkable previous
pushed_error add.BadRoot = push.BadRoot
pushed_error add.BadSlot = push.BadSlot
pushed_error add.BadProducer = push.BadProducer

abbrev pub answered : Result ℕ BranchError → Result Pushed PushError
answered (Ok position) = Ok (Head position)
answered (Err branch.OutOfMemory) = Err push.OutOfMemory
answered (Err (branch.Invalid block code)) = Err (push.Invalid block code)
