-- What is wrong with a request: the first fault of its words and its input; and what a call answers that looks for it.
use Rattle.std.specs.Prelude.{◌≡◌, ℕ, List, Option, Result, Ok, Err, IfSome}
use Rattle.ante_pack.specs.Forms.{◌>>=◌}
use Rattle.ante_base.specs.declared.failure.ReadFailure.{ReadFailure}
use Rattle.ante_base.specs.declared.failure.ReadFailure.TheVariants as reads
use Rattle.ante_pack.specs.declared.fault.PackFault.{PackFault}
use Rattle.ante_pack.specs.declared.fault.PackFault.TheVariants.{Short, LongVaruint, KeyKind, Trailing}
use Rattle.ante_pack.specs.declared.fault.ReadFault.{ReadFault}
use Rattle.ante_pack.specs.declared.fault.ReadFault.TheVariants as packs
use Rattle.ante_node.specs.declared.fault.InputKind.{InputKind}
use Rattle.ante_node.specs.declared.fault.InputKind.TheVariants as kinds
use Rattle.ante_node.specs.declared.fault.InputFault.{InputFault}
use Rattle.ante_node.specs.declared.fault.RequestFault.{RequestFault}
use Rattle.ante_node.specs.declared.fault.RequestFault.TheVariants.{Words, Input}
use Rattle.ante_node.specs.declared.fault.NodeFault.{NodeFault}
use Rattle.ante_node.specs.declared.fault.NodeFault.TheVariants as faults
use Rattle.ante_node.specs.declared.failure.AnswerFailure.{AnswerFailure}
use Rattle.ante_node.specs.declared.failure.AnswerFailure.TheVariants as failures

abbrev pub input_fault : ℕ → InputKind → InputFault
input_fault at kind = record { at = at; kind = kind }

-- the kind and place of a fault in packed bytes
abbrev pub pack_fault : PackFault → InputFault
pack_fault (Short at) = input_fault at kinds.Short
pack_fault (LongVaruint at) = input_fault at kinds.Varuint
pack_fault (KeyKind at) = input_fault at kinds.KeyKind
pack_fault (Trailing at) = input_fault at kinds.Trailing

-- the same as a fault of a request
abbrev pub requested : {A : Type 0} → Result A InputFault → Result A RequestFault
requested (Ok x) = Ok x
requested (Err fault) = Err (Input fault)

-- the fault of a run whose request has a fault
abbrev pub node_fault : RequestFault → NodeFault
node_fault (Words at) = faults.BadWords at
node_fault (Input bad) = faults.BadInput bad.at bad.kind

-- ---- what calls answer

abbrev pub of_source : ReadFailure → AnswerFailure
of_source reads.OutOfMemory = failures.OutOfMemory
of_source reads.Failed = failures.SourceFault

abbrev pub of_pack : ReadFault → AnswerFailure
of_pack packs.OutOfMemory = failures.OutOfMemory
of_pack (packs.Pack fault) = failures.Input (pack_fault fault)

-- The call answers what is defined, unless memory runs out, or the source fails with its cause.
abbrev pub Answers : {A : Type 0} → Result A AnswerFailure → Result A InputFault → Type 0 → Type 0
Answers (Ok x) defined SourceRose = defined ≡ Ok x
Answers (Err (failures.Input fault)) defined SourceRose = defined ≡ Err fault
Answers (Err failures.SourceFault) defined SourceRose = SourceRose
Answers (Err failures.OutOfMemory) defined SourceRose = Unit {0}

-- The source tells that this input is left in it, or it doesn't tell.
abbrev pub Tells : Option (List ℕ) → List ℕ → Type 0
Tells left input = IfSome left (λ all. all ≡ input)
