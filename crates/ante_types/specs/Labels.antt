-- What a label may be.
use Rattle.std.specs.Prelude.{ℕ, List, Bool, not, nat_le, nat_lt, ◌==◌, ◌&&◌}
use Rattle.std.specs.List.{list_all}

-- a character of printable ASCII, but no quote and no backslash: JSON has it as it is
abbrev pub is_label_char : ℕ → Bool
is_label_char c = nat_le 32 c && nat_lt c 127 && not (c == 34) && not (c == 92)

abbrev pub is_label : List ℕ → Bool
is_label text = list_all is_label_char text
