-- Keys that were recovered, one after the other.
use Rattle.std.specs.Prelude.{ℕ, List, ◌++◌, Result, Ok, Err}

-- with these keys before them
abbrev pub after_keys : List (List ℕ) → Result (List (List ℕ)) ℕ → Result (List (List ℕ)) ℕ
after_keys keys (Ok more) = Ok (keys ++ more)
after_keys keys (Err place) = Err place
