-- Worked examples of iterators and of the calls on primary rows, with expected values from outside.
use Rattle.std.proofs.Common.{◌≡◌, refl, ℕ, ◌+◌, false, [], ◌∷◌, None, Some}
use Rattle.std.specs.Prelude.{ℤ, pos, negsuc, Ok, Err, Result, replicate}
use Rattle.ante_pack.specs.declared.names.Name.{Name}
use Rattle.ante_pack.specs.Names.{name_number, number_of}
use Rattle.ante_pack.specs.declared.names.TableKey.{TableKey}
use Rattle.ante_state.specs.declared.objects.AccountRow.{AccountRow}
use Rattle.ante_types.specs.declared.context.Mode.{Mode}
use Rattle.ante_types.specs.declared.context.Mode.TheVariants as mode
use Rattle.ante_types.specs.declared.context.RunContext.{RunContext}
use Rattle.ante_types.specs.World.{World, used}
use Rattle.ante_types.specs.Genesis.{eosio}
use Rattle.ante_calls.specs.declared.faults.DbFault.{DbFault}
use Rattle.ante_calls.specs.declared.faults.DbFault.TheVariants as fault
use Rattle.ante_itercache.specs.Iterators.{no_iterators}
use Rattle.ante_calls.specs.Kinds.{primary_kind}
use Rattle.ante_calls.specs.PrimaryCalls.{find_i64, get_i64}
use Rattle.ante_calls.specs.Rows.{Answer, next, previous, store, update, remove}
use Rattle.ante_calls.specs.Views.{RowView}

abbrev pub named : ℕ → Name
named n = record { 0 = n }

abbrev pub account : Name → Name × AccountRow
account n = (n, record { payer = n; privileged = false; code = []; abi = [] })

-- four accounts: three with small numbers, and the system's
abbrev pub empty : World
empty = record { accounts = account (named 1) ∷ account (named 2) ∷ account (named 3) ∷ account eosio ∷ []; permissions = []; links = []; quotas = []; recent = []; references = []; tables = []; rows = []; index64 = []; index128 = []; index256 = [] }

abbrev pub key : TableKey
key = record { code = named 1; scope = named 7; table = named 8 }

-- a table of the first account with one row of primary key 5
abbrev pub one_row : World
one_row = record empty { tables = (key, record { payer = named 1; count = 1 }) ∷ []; rows = (record { table = key; primary = 5 }, record { payer = named 1; bytes = 10 ∷ 20 ∷ 30 ∷ [] }) ∷ [] }

abbrev pub view : World → RowView
view w = record { world = w; iters = no_iterators }

abbrev pub run_as : Name → Mode → RunContext
run_as receiver m = record {
  receiver = receiver;
  action = record { account = receiver; name = named 0; authorization = []; bytes = [] };
  notified = false;
  depth = 0;
  sender = named 0;
  slot = 0;
  mode = m;
  recipients = [];
  inlines = [];
  console = [];
  return_value = [];
}

-- the answer of a call that isn't refused, and the view after it
abbrev pub answer : {A : Type 0} → A → Answer A → A
answer d (Ok a) = a.0
answer d (Err f) = d

abbrev pub view_after : {A : Type 0} → Answer A → RowView → RowView
view_after (Ok a) v = a.1
view_after (Err f) v = v

abbrev pub refused : {A : Type 0} → Answer A → Result (Unit {0}) DbFault
refused (Ok a) = Ok tt
refused (Err f) = Err f

-- ---- looking for rows: a table that isn't there, a miss, a hit, the same row again, its neighbours

not_there : (find_i64 key 5 (view empty)).0 ≡ negsuc 0
not_there = refl

abbrev pub missed : RowView
missed = (find_i64 key 6 (view one_row)).1

miss : (find_i64 key 6 (view one_row)).0 ≡ negsuc 1
miss = refl

abbrev pub met : RowView
met = (find_i64 key 5 missed).1

hit : (find_i64 key 5 missed).0 ≡ pos 0
hit = refl

again : (find_i64 key 5 met).0 ≡ pos 0
again = refl

next_of_last : answer (pos 9, None) (next primary_kind (pos 0) met) ≡ (negsuc 1, None)
next_of_last = refl

next_of_end : answer (pos 9, None) (next primary_kind (negsuc 1) met) ≡ (negsuc 0, None)
next_of_end = refl

previous_of_end : answer (pos 9, None) (previous primary_kind (negsuc 1) met) ≡ (pos 0, Some 5)
previous_of_end = refl

previous_of_first : answer (pos 9, None) (previous primary_kind (pos 0) met) ≡ (negsuc 0, None)
previous_of_first = refl

no_such : refused (get_i64 (negsuc 0) 0 met) ≡ Err (fault.BadIterator (negsuc 0))
no_such = refl

unmet_end : refused (previous primary_kind (negsuc 2) met) ≡ Err (fault.BadIterator (negsuc 2))
unmet_end = refl

size_alone : answer (0, []) (get_i64 (pos 0) 0 met) ≡ (3, [])
size_alone = refl

two_bytes : answer (0, []) (get_i64 (pos 0) 2 met) ≡ (2, 10 ∷ 20 ∷ [])
two_bytes = refl

-- ---- the system's contract stores a row of 16 bytes that one account pays for, and a row of 8 bytes that another does, and removes both

abbrev pub system : RunContext
system = run_as eosio mode.Writing

abbrev pub stored_one : Answer ℤ
stored_one = store primary_kind system (named 7) (named 8) (named 1) 1 (replicate 16 0) (view empty)

abbrev pub one : RowView
one = view_after stored_one (view empty)

first_iterator : answer (negsuc 9) stored_one ≡ pos 0
unfolding name_number number_of
first_iterator = refl

table_and_row : used one.world (named 1) ≡ used empty (named 1) + 240
unfolding name_number number_of
table_and_row = refl

abbrev pub stored_two : Answer ℤ
stored_two = store primary_kind system (named 7) (named 8) (named 2) 2 (replicate 8 0) one

abbrev pub two : RowView
two = view_after stored_two one

row_alone : used two.world (named 2) ≡ used empty (named 2) + 120
unfolding name_number number_of
row_alone = refl

abbrev pub removed_one : RowView
removed_one = view_after (remove primary_kind system (pos 0) two) two

table_stays : used removed_one.world (named 1) ≡ used empty (named 1) + 112
unfolding name_number number_of
table_stays = refl

abbrev pub removed_two : RowView
removed_two = view_after (remove primary_kind system (pos 1) removed_one) removed_one

all_gone : removed_two.world ≡ empty
unfolding name_number number_of
all_gone = refl

removed_iterator : refused (get_i64 (pos 1) 0 removed_two) ≡ Err (fault.BadIterator (pos 1))
unfolding name_number number_of
removed_iterator = refl

-- ---- refusals in their order

in_reading_mode : refused (store primary_kind (run_as (named 1) mode.Reading) (named 7) (named 8) (named 0) 5 [] (view one_row)) ≡ Err fault.WriteRefused
in_reading_mode = refl

no_payer : refused (store primary_kind (run_as (named 1) mode.Writing) (named 7) (named 8) (named 0) 5 [] (view one_row)) ≡ Err (fault.BadPayer (named 0))
no_payer = refl

unknown_payer : refused (store primary_kind (run_as (named 1) mode.Writing) (named 7) (named 8) (named 4) 5 [] (view one_row)) ≡ Err (fault.UnknownAccount (named 4))
unfolding name_number number_of
unknown_payer = refl

key_exists : refused (store primary_kind (run_as (named 1) mode.Writing) (named 7) (named 8) (named 2) 5 [] (view one_row)) ≡ Err (fault.KeyExists 5)
key_exists = refl

other_payer : refused (store primary_kind (run_as (named 1) mode.Writing) (named 7) (named 8) (named 2) 6 [] (view one_row)) ≡ Err (fault.BadPayer (named 2))
unfolding name_number number_of
other_payer = refl

not_owner : refused (remove primary_kind (run_as (named 2) mode.Writing) (pos 0) met) ≡ Err (fault.NotOwner (named 1))
not_owner = refl

grows_for_another : refused (update primary_kind (run_as (named 1) mode.Writing) (pos 0) (named 2) (1 ∷ []) met) ≡ Err (fault.BadPayer (named 2))
unfolding name_number number_of
grows_for_another = refl
