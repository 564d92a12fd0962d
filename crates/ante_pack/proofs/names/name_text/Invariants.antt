use Rattle.ante_pack.proofs.NameTexts.{IsShown}
use Rattle.ante_pack.proofs.names.name_text.Given as goal

abbrev pub invariant-loop-place : goal.invariant-loop-place
invariant-loop-place l = IsShown l.name.0 l.place l.len l.text
