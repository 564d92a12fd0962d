use Rattle.std.proofs.Common.{◌≡◌, length, rules, arith}
use Rattle.std.proofs.lemmas.Bool.Decides.{nat_tests}
use Rattle.serde_json.specs.Data.{object, no_members}
use Rattle.serde_json.specs.View.{view}
use Rattle.serde_json.specs.declared.value.Value.{the_lemmas}
use Rattle.serde_json.specs.declared.value.Value.TheVariants as value
use Rattle.ante_json.proofs.Empty.{empty_is}
use Rattle.ante_json.proofs.reading.read_object.Goals as goal

pub returns-then-is_empty : goal.returns-then-is_empty
returns-then-is_empty c =
    let h : length c.args.body.now ≡ 0 = grind (arith, nat_tests) in
    let e : view (value.Object c.new.result) ≡ object no_members = search (rules, the_lemmas) in
    empty_is c.args.body.now (view (value.Object c.new.result)) h e
