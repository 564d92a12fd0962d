use Rattle.std.proofs.Common.{◌≡◌, ◌+◌, drop}
use Rattle.std.specs.List.{position_or_len}
use Rattle.ante_node.specs.Lines.{is_newline}
use Rattle.ante_node.proofs.lines.line_len.Given as goal

abbrev pub invariant-loop-i : goal.invariant-loop-i
invariant-loop-i l = l.i + position_or_len is_newline (drop l.i l.text) ≡ position_or_len is_newline l.text
