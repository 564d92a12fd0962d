-- The commands, the words that name each, and what each makes of its input.
use Rattle.std.specs.Prelude.{◌≡◌, ◌⊎◌, ℕ, ◌+◌, ◌<◌, List, [], ◌∷◌, ◌++◌, length, take, codes, Option, Result, Ok, Err}
use Rattle.ante_node.specs.declared.command.Command.{Command}
use Rattle.ante_node.specs.declared.command.Command.TheVariants.{Ask}
use Rattle.ante_node.specs.declared.fault.InputFault.{InputFault}
use Rattle.ante_node.specs.declared.fault.RequestFault.{RequestFault}
use Rattle.ante_node.specs.declared.fault.RequestFault.TheVariants.{Words}
use Rattle.ante_node.specs.Requests.{Tells, requested}
use Rattle.ante_node.specs.Ask.{ask}

-- the lists of words that name a command
abbrev pub Names : Command → List (List ℕ) → Type 0
Names Ask words = words ≡ codes "ask" ∷ []

-- what a command makes of its input: the text to write, or the first fault
abbrev pub made_by : Command → List ℕ → Result (List ℕ) InputFault
made_by Ask input = ask input

-- a list of words is accepted where it names a command
abbrev pub IsAccepted : List (List ℕ) → Type 0
IsAccepted words = (command : Command) × Names command words

-- some accepted list begins with these words
abbrev pub Begins : List (List ℕ) → Type 0
Begins words = (others : List (List ℕ)) × (command : Command) × Names command (words ++ others)

-- The first word that no accepted list has after the words before it, or the number of words where more are needed.
abbrev pub IsBadWord : List (List ℕ) → ℕ → Type 0
IsBadWord words at =
    Begins (take at words)
    × (((at < length words) × (Begins (take (at + 1) words) → ⊥)) ⊎ ((at ≡ length words) × (IsAccepted words → ⊥)))

-- the command that the words name, or the word at fault
abbrev pub ReadsCommand : List (List ℕ) → Result Command ℕ → Type 0
ReadsCommand words (Ok command) = Names command words
ReadsCommand words (Err at) = IsBadWord words at

-- What a command makes of what the source tells; of a source that doesn't tell, what it makes of some input.
abbrev pub MadeOf : Command → Option (List ℕ) → (Result (List ℕ) InputFault → Type 0) → Type 0
MadeOf command left P = (input : List ℕ) × Tells left input × P (made_by command input)

-- What words and input come to: the fault of the words, or what their command makes of the input.
abbrev pub ComesTo : List (List ℕ) → Option (List ℕ) → (Result (List ℕ) RequestFault → Type 0) → Type 0
ComesTo words left P =
    ((at : ℕ) × IsBadWord words at × P (Err (Words at)))
    ⊎ ((command : Command) × Names command words × MadeOf command left (λ made. P (requested made)))
