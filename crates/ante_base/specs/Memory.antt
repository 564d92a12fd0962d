-- A source and a sink in memory, as contracts see them.
use Rattle.std.specs.Prelude.{◌≡◌, ◌↔◌, ℕ, ◌+◌, ◌-◌, ◌^◌, min, List, length, Contains}
use Rattle.ante_base.specs.declared.source.Got.{Got}
use Rattle.ante_base.specs.declared.source.Got.TheVariants as got
use Rattle.ante_base.specs.declared.sink.Put.{Put}
use Rattle.ante_base.specs.declared.sink.Put.TheVariants as put

-- the bytes left to read, the numbers of the reads that fail, the number of the next read (from 0), the faults so far
pub record MemoryInput : Type 0 where
  pub left : List ℕ
  pub failing : List ℕ
  pub calls : ℕ
  pub faults : ℕ

-- the bytes written, the numbers of the writes that fail, the number of the next write (from 0), the faults so far
pub record MemoryOutput : Type 0 where
  pub written : List ℕ
  pub failing : List ℕ
  pub calls : ℕ
  pub faults : ℕ

-- the number of the next call, which stays at its type's end
abbrev pub next_call : ℕ → ℕ
next_call call = min (call + 1) (2 ^ 64 - 1)

-- as many bytes as there is room for and are left
abbrev pub Fills : ℕ → MemoryInput → Got → Type 0
Fills room input (got.Bytes n) = n ≡ min room (length input.left)
Fills room input got.End = Unit {0}
Fills room input got.Failed = Unit {0}

-- A read fails exactly where its number is listed, and the next one has the next number.
pub record ReadsAsListed (old new : MemoryInput) (answer : Got) : Type 0 where
  pub fails : (answer ≡ got.Failed) ↔ Contains old.failing old.calls
  pub calls : new.calls ≡ next_call old.calls
  pub failing : new.failing ≡ old.failing

-- A write fails where its number is listed, and the next one has the next number.
pub record WritesAsListed (old new : MemoryOutput) (answer : Put) : Type 0 where
  pub fails : Contains old.failing old.calls → answer ≡ put.Failed
  pub calls : new.calls ≡ next_call old.calls
  pub failing : new.failing ≡ old.failing
