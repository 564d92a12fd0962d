-- How a run ends: its status, its fault, and what it has written.
use Rattle.std.specs.Prelude.{◌≡◌, ◌⊎◌, ℕ, List, ◌++◌, codes, decimal, Option, Result, Ok, Err}
use Rattle.std.specs.Io.KnownBytes.{Appends}
use Rattle.ante_base.specs.Sink.{AppendsFront}
use Rattle.ante_node.specs.declared.fault.InputKind.{InputKind}
use Rattle.ante_node.specs.declared.fault.InputKind.TheVariants as kinds
use Rattle.ante_node.specs.declared.fault.InputFault.{InputFault}
use Rattle.ante_node.specs.declared.fault.RequestFault.{RequestFault}
use Rattle.ante_node.specs.declared.fault.RequestFault.TheVariants.{Words, Input}
use Rattle.ante_node.specs.declared.fault.NodeFault.{NodeFault}
use Rattle.ante_node.specs.declared.fault.NodeFault.TheVariants as faults
use Rattle.ante_node.specs.Requests.{node_fault}

abbrev pub status_of : NodeFault → ℕ
status_of faults.Nothing = 0
status_of (faults.BadWords at) = 2
status_of (faults.BadInput at kind) = 3
status_of faults.SourceFault = 4
status_of faults.SinkFault = 5
status_of faults.OutOfMemory = 7

abbrev pub kind_text : InputKind → List ℕ
kind_text kinds.Hex = codes "hex"
kind_text kinds.More = codes "more"
kind_text kinds.Long = codes "long"
kind_text kinds.Short = codes "short"
kind_text kinds.Varuint = codes "varuint"
kind_text kinds.KeyKind = codes "keykind"
kind_text kinds.Trailing = codes "trailing"

-- the line that names a fault of the words, and one of the input
unfoldable pub words_line : ℕ → List ℕ
words_line at = codes "words " ++ (decimal at ++ codes "\n")

unfoldable pub input_line : InputFault → List ℕ
input_line fault = codes "input " ++ (decimal fault.at ++ (codes " " ++ (kind_text fault.kind ++ codes "\n")))

abbrev pub fault_line : RequestFault → List ℕ
fault_line (Words at) = words_line at
fault_line (Input fault) = input_line fault

-- ---- the end that the words and the input lead to, where nothing else fails

abbrev pub fault_of : Result (List ℕ) RequestFault → NodeFault
fault_of (Ok text) = faults.Nothing
fault_of (Err fault) = node_fault fault

abbrev pub text_of : Result (List ℕ) RequestFault → List ℕ
text_of (Ok text) = text
text_of (Err fault) = fault_line fault

-- The fault where the sink failed under that text: a fault of the request stays.
abbrev pub cut_fault : Result (List ℕ) RequestFault → NodeFault
cut_fault (Ok text) = faults.SinkFault
cut_fault (Err fault) = node_fault fault

-- ---- and the end that a run has

-- Which fault: that one, unless the sink, the source or memory failed before.
abbrev pub EndsWith : NodeFault → Type 0 → Type 0 → Result (List ℕ) RequestFault → Type 0
EndsWith fault SourceRose SinkRose made =
    (fault ≡ fault_of made)
    ⊎ ((fault ≡ faults.SinkFault) × SinkRose)
    ⊎ ((fault ≡ faults.SourceFault) × SourceRose)
    ⊎ (fault ≡ faults.OutOfMemory)

-- What was written: all of the text; or a front of it, and then the sink failed; or nothing, as there was no text.
abbrev pub HasWritten : NodeFault → Option (List ℕ) → Option (List ℕ) → Type 0 → Result (List ℕ) RequestFault → Type 0
HasWritten fault before after SinkRose made =
    ((fault ≡ fault_of made) × Appends before after (text_of made))
    ⊎ ((fault ≡ cut_fault made) × AppendsFront before after (text_of made) × SinkRose)
    ⊎ (((fault ≡ faults.SourceFault) ⊎ (fault ≡ faults.OutOfMemory)) × (after ≡ before))

-- How a run has ended: all was written; the sink failed in the middle; the source failed before; memory ran out before.
abbrev pub RunEnds : NodeFault → Type 0 → Option (List ℕ) → Option (List ℕ) → Type 0 → Type 0 → Result (List ℕ) RequestFault → Type 0
RunEnds fault SourceRose before after SinkRose AtEnd made =
    ((fault ≡ fault_of made) × Appends before after (text_of made) × (fault ≡ faults.Nothing → AtEnd))
    ⊎ ((fault ≡ cut_fault made) × AppendsFront before after (text_of made) × SinkRose)
    ⊎ ((fault ≡ faults.SourceFault) × (after ≡ before) × SourceRose)
    ⊎ ((fault ≡ faults.OutOfMemory) × (after ≡ before))

-- All of a text was written, or a front of it and the sink failed, and the fault says which.
abbrev pub Delivers : List ℕ → NodeFault → NodeFault → NodeFault → Option (List ℕ) → Option (List ℕ) → Type 0 → Type 0
Delivers text whole cut fault before after SinkRose =
    ((fault ≡ whole) × Appends before after text) ⊎ ((fault ≡ cut) × AppendsFront before after text × SinkRose)
