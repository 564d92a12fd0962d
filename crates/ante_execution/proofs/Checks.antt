-- Worked examples of the checks of transactions and of read-only transactions, with expected values from outside.
use Rattle.std.proofs.Common.{◌≡◌, refl, List, [], ◌∷◌, None, Some}
use Rattle.ante_pack.specs.Names.{name_number, number_of}
use Rattle.ante_types.specs.declared.chain.Action.{Action}
use Rattle.ante_types.specs.declared.chain.Transaction.{Transaction}
use Rattle.ante_types.specs.declared.failure.Failure.TheVariants as failure
use Rattle.ante_types.specs.World.{World}
use Rattle.ante_execution.specs.Actions.{run_one, apply}
use Rattle.ante_execution.specs.NativeData.{active}
use Rattle.ante_execution.specs.Runs.{runs}
use Rattle.ante_execution.specs.Transactions.{form_refusal, standing_refusal, reading_refusal, read_only}
use Rattle.ante_execution.proofs.Causes.{world, action, scripted}
use Rattle.ante_execution.proofs.Weights.{named, level}

abbrev pub of_actions : List Action → Transaction
of_actions actions = record {
  expiration = 946684800;
  ref_block_num = 1;
  ref_block_prefix = 50462976;
  max_net_usage_words = 0;
  max_cpu_usage_ms = 0;
  delay_sec = 0;
  context_free_actions = [];
  actions = actions;
  extensions = [];
}

abbrev pub with_level : Action
with_level = record (action 1) { authorization = level 1 active ∷ [] }

-- ---- read-only transactions

no_action : reading_refusal world (of_actions []) [] ≡ Some failure.NoAction
unfolding reading_refusal
no_action = refl

has_authorization : reading_refusal world (of_actions (action 1 ∷ with_level ∷ [])) [] ≡ Some (failure.HasAuthorization 1)
unfolding reading_refusal
has_authorization = refl

unknown_account : reading_refusal world (of_actions (action 1 ∷ action 9 ∷ [])) [] ≡ Some (failure.UnknownAccount (named 9))
unfolding reading_refusal
unknown_account = refl

one_step : (read_only scripted world 7 (record { num = 1; id = [] }) 0 (of_actions (action 2 ∷ [])) []).steps ≡ 1
unfolding read_only reading_refusal apply run_one runs name_number number_of
one_step = refl

nothing_run : (read_only scripted world 7 (record { num = 1; id = [] }) 0 (of_actions (with_level ∷ [])) []).steps ≡ 0
unfolding read_only reading_refusal
nothing_run = refl

-- ---- transactions: the first slot begins at 946684800 seconds after 1970, and the id's bytes 8 to 11 are 0, 1, 2 and 3

abbrev pub with_reference : World
with_reference = record world { references = (1, 9 ∷ 9 ∷ 9 ∷ 9 ∷ 9 ∷ 9 ∷ 9 ∷ 9 ∷ 0 ∷ 1 ∷ 2 ∷ 3 ∷ 9 ∷ []) ∷ [] }

too_big : form_refusal 1500001 (of_actions (action 1 ∷ [])) ≡ Some failure.TooBig
too_big = refl

fits : form_refusal 1500000 (of_actions (action 1 ∷ [])) ≡ None
fits = refl

-- a second is two slots
in_time : standing_refusal with_reference 0 (of_actions (with_level ∷ [])) [] ≡ None
in_time = refl

expired : standing_refusal with_reference 1 (of_actions (with_level ∷ [])) [] ≡ Some failure.Expired
expired = refl

an_hour : standing_refusal with_reference 0 (record (of_actions (with_level ∷ [])) { expiration = 946688400 }) [] ≡ None
an_hour = refl

too_far : standing_refusal with_reference 0 (record (of_actions (with_level ∷ [])) { expiration = 946688401 }) [] ≡ Some failure.TooFar
too_far = refl

bad_reference : standing_refusal world 0 (of_actions (with_level ∷ [])) [] ≡ Some failure.BadReference
bad_reference = refl

duplicate : standing_refusal (record with_reference { recent = (record { expiration = 946684800; id = 5 ∷ [] }, tt) ∷ [] }) 0 (of_actions (with_level ∷ [])) (5 ∷ []) ≡ Some failure.Duplicate
duplicate = refl

no_authorization : standing_refusal with_reference 0 (of_actions (action 1 ∷ [])) [] ≡ Some failure.NoAuthorization
no_authorization = refl
