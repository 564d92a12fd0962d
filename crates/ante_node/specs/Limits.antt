-- The limits of what a request may ask.
use Rattle.std.specs.Prelude.{ℕ}

-- how many packed bytes an item of an input may have
abbrev pub item_limit : ℕ
item_limit = 16777216

-- how many characters a line may have: two for each byte of an item
abbrev pub line_limit : ℕ
line_limit = 33554432

-- how many characters are read of an input: a line of the greatest length, its newline, and a character too many
abbrev pub input_limit : ℕ
input_limit = 33554434
