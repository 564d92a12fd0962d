-- Signatures that name their key, and one seal for all blocks.
use Rattle.std.specs.Prelude.{ℕ, ◌++◌, List, take, drop, codes, bytes_eq, Option, Some, None, Result, Ok, Err, if◌then◌else◌}
use Rattle.hex.specs.Hex.{encode_lower, decode_sized}
use Rattle.hex.specs.declared.error.FromHexError.{FromHexError}
use Rattle.ante_verdicts.specs.Judge.{Judge}

-- how a signature names a key
abbrev pub key_text : List ℕ → List ℕ
key_text key = codes "KEY_" ++ encode_lower key

-- this key, where it is what the signature names
abbrev pub key_if_named : List ℕ → Result (List ℕ) FromHexError → Option (List ℕ)
key_if_named signature (Ok key) = if bytes_eq signature (key_text key) then Some key else None
key_if_named signature (Err fault) = None

-- the key of 34 bytes that the signature names
abbrev pub named_key : List ℕ → Option (List ℕ)
named_key signature = key_if_named signature (decode_sized (drop 4 signature) 34)

abbrev pub only_seal : List ℕ
only_seal = codes "OK"

abbrev pub named_judge : Judge
named_judge = record {
  recovers = λ digest signature. named_key signature;
  accepts = λ producer id seal. bytes_eq seal only_seal;
  seals = λ producer id. only_seal;
}
