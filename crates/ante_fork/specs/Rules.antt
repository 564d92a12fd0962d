-- When a block is kept, and why it isn't.
use Rattle.std.specs.Prelude.{◌≡◌, ℕ, ◌/◌, ◌%◌, ◌==◌, nat_le, if◌then◌else◌, List, length, Option, Some, None, is_some, Result, Ok, Err, slice_index_or, bytes_eq}
use Rattle.ante_pack.specs.declared.names.Name.{Name}
use Rattle.ante_types.specs.declared.chain.Block.{Block}
use Rattle.ante_types.specs.Ids.{block_num, trx_root}
use Rattle.ante_fork.specs.declared.AddError.{AddError}
use Rattle.ante_fork.specs.declared.AddError.TheVariants.{OutOfMemory, Known, Unlinkable, BadRoot, BadSlot, BadProducer}
use Rattle.ante_fork.specs.Tree.{Tree, id_of, block_at}

-- whose turn a slot is: twelve slots each
abbrev pub producer_at : List Name → ℕ → Name
producer_at producers slot = slice_index_or producers (slot / 12 % length producers) (record { 0 = 0 })

-- the first rule that the block breaks upon its predecessor
abbrev pub misfit : List Name → Block → Block → Option AddError
misfit producers previous b =
    if bytes_eq b.header.trx_root (trx_root b.receipts)
    then (if nat_le b.header.slot previous.header.slot then Some BadSlot
    else (if b.header.producer.0 == (producer_at producers b.header.slot).0 then None else Some BadProducer))
    else Some BadRoot

abbrev pub misplaced : List Name → Option Block → Block → Option AddError
misplaced producers None b = Some (Unlinkable b.header.previous)
misplaced producers (Some previous) b = misfit producers previous b

-- Why a block isn't kept, if so: the first cause in this order. No block follows the last number.
abbrev pub refusal : Tree → Block → Option AddError
refusal t b =
    if block_num b.header.previous == 4294967295 then Some (Unlinkable b.header.previous)
    else (if is_some (block_at (id_of b) t) then Some Known else misplaced t.producers (block_at b.header.previous t) b)

-- The answer is this cause, or none; want of memory is free.
abbrev pub IsAnswer : Option AddError → Result (Unit {0}) AddError → Type 0
IsAnswer cause (Ok done) = cause ≡ None
IsAnswer cause (Err OutOfMemory) = Unit {0}
IsAnswer cause (Err Known) = cause ≡ Some Known
IsAnswer cause (Err (Unlinkable previous)) = cause ≡ Some (Unlinkable previous)
IsAnswer cause (Err BadRoot) = cause ≡ Some BadRoot
IsAnswer cause (Err BadSlot) = cause ≡ Some BadSlot
IsAnswer cause (Err BadProducer) = cause ≡ Some BadProducer
