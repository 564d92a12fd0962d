use Rattle.std.proofs.Common.{◌≡◌, ℕ, map, subst, inl}
use Rattle.std.specs.Prelude.{◌⊎◌, string_bytes}
use Rattle.ante_node.specs.declared.fault.RequestFault.TheVariants.{Words}
use Rattle.ante_node.specs.declared.fault.NodeFault.TheVariants as faults
use Rattle.ante_node.proofs.CommandLine.{accepted_not_bad, one_bad_word}
use Rattle.ante_node.proofs.Endings.{refused, refusal_names}
use Rattle.ante_node.proofs.node.run.Goals as goal

pub returns-in-Ok-clause-bad_words : goal.returns-in-Ok-clause-bad_words
returns-in-Ok-clause-bad_words g c = λ at bad. absurd (accepted_not_bad (map string_bytes c.args.words.now) c.in-Ok.command at c.in-Ok.ensures bad)

pub returns-in-Ok-clause-untouched : goal.returns-in-Ok-clause-untouched
returns-in-Ok-clause-untouched g c = λ at bad. absurd (accepted_not_bad (map string_bytes c.args.words.now) c.in-Ok.command at c.in-Ok.ensures bad)

pub returns-in-Err-clause-ends : goal.returns-in-Err-clause-ends
returns-in-Err-clause-ends g c = inl (c.in-Err.at, c.in-Err.ensures, refused _ _ _ _ _ _ (Words c.in-Err.at) c.refuse.ensures)

pub returns-in-Err-clause-bad_words : goal.returns-in-Err-clause-bad_words
returns-in-Err-clause-bad_words g c = λ at bad.
    let same = one_bad_word (map string_bytes c.args.words.now) c.in-Err.at at c.in-Err.ensures bad in
    subst (λ (n : ℕ). (c.refuse.result ≡ faults.BadWords n) ⊎ (c.refuse.result ≡ faults.OutOfMemory)) same (refusal_names _ _ _ _ (Words c.in-Err.at) c.refuse.ensures)
