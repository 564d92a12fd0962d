use Rattle.std.proofs.Common.{◌≡◌, ℕ, ◌+◌, ◌^◌, ◌<◌, ◌≤◌, get_or, take}
use Rattle.ante_pack.specs.Names.{number_of, choices, number_from}
use Rattle.ante_pack.proofs.NameDigits.{top}
use Rattle.ante_pack.proofs.names.name_from_text.Given as goal

-- the number of what was read, all of it letters, and room for the rest
abbrev pub invariant-loop-at : goal.invariant-loop-at
invariant-loop-at l = record {
  number : l.number ≡ number_from 0 (take l.at l.bytes);
  letters : (k : ℕ) → k < l.at → number_of (get_or l.bytes k 0) < choices k;
  room : l.number + top l.at ≤ 2 ^ 64;
}
