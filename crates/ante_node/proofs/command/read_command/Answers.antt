use Rattle.std.proofs.Common.{sym, ◌∙◌}
use Rattle.std.specs.Prelude.{string_bytes}
use Rattle.std.proofs.lemmas.Bool.{eqb-true, eqb-false}
use Rattle.ante_node.proofs.CommandLine.{ask_alone, ask_and_more, first_is_bad, none_is_bad, texts_differ, texts_equal}
use Rattle.ante_node.proofs.command.read_command.Goals as goal

pub returns-in_default : goal.returns-in_default
returns-in_default c = none_is_bad string_bytes c.args.words.now c.in_default.ensures.cases

pub returns-then-ne : goal.returns-then-ne
returns-then-ne c =
    first_is_bad string_bytes c.args.words.now c.in-Some.first.now c.in-Some.others.now c.in-Some.ensures.cases.0
    (λ is. texts_differ _ _ c.ne.result c.ne.ensures c.if-ne.true (c.as_str.ensures.value ∙ is))

pub returns-then-is_empty : goal.returns-then-is_empty
returns-then-is_empty c =
    ask_alone string_bytes c.args.words.now c.in-Some.first.now c.in-Some.others.now c.in-Some.ensures.cases.0
    (eqb-true _ _ (sym c.is_empty.ensures ∙ c.if-is_empty.true)) (sym c.as_str.ensures.value ∙ texts_equal _ _ c.ne.result c.ne.ensures c.if-ne.false)

pub returns-else-is_empty : goal.returns-else-is_empty
returns-else-is_empty c =
    ask_and_more string_bytes c.args.words.now c.in-Some.first.now c.in-Some.others.now c.in-Some.ensures.cases.0
    (eqb-false _ _ (sym c.is_empty.ensures ∙ c.if-is_empty.false)) (sym c.as_str.ensures.value ∙ texts_equal _ _ c.ne.result c.ne.ensures c.if-ne.false)
