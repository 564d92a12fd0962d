-- All intrinsics by their numbers, which are the places of their names in the table of imports.
use Rattle.std.specs.Prelude.{ℕ, List, [], ◌∷◌, ◌++◌, map, codes, slice_get, Option, None, Some, option_map}
use Rattle.ante_pack.specs.declared.names.Key256.{Key256}
use Rattle.ante_types.specs.declared.failure.Failure.{Failure}
use Rattle.ante_types.specs.declared.failure.Failure.TheVariants as failure
use Rattle.ante_wmem.specs.Linear.{LinearMemory}
use Rattle.ante_wmem.specs.HostCalls.{Outcome}
use Rattle.ante_calls.specs.declared.calls.SysCall.{SysCall}
use Rattle.ante_calls.specs.declared.calls.SysCall.TheVariants as sys
use Rattle.ante_calls.specs.declared.calls.RowCall.{RowCall}
use Rattle.ante_calls.specs.declared.calls.RowCall.TheVariants as row
use Rattle.ante_calls.specs.declared.calls.IndexCall.{IndexCall}
use Rattle.ante_calls.specs.declared.calls.IndexCall.TheVariants as index
use Rattle.ante_calls.specs.declared.calls.Intrinsic.{Intrinsic}
use Rattle.ante_calls.specs.declared.calls.Intrinsic.TheVariants as group
use Rattle.ante_calls.specs.Calls.{refuses, map_outcome}
use Rattle.ante_calls.specs.IndexCalls.{key64, key128, key256, rows64, rows128, rows256, index_call}
use Rattle.ante_calls.specs.PrimaryCalls.{row_call}
use Rattle.ante_calls.specs.System.{sys_call}
use Rattle.ante_calls.specs.Views.{Seen, sys_of, with_sys, rows_of, with_rows, index64_of, with_index64, index128_of, with_index128, index256_of, with_index256}

-- each with its name as an import, in the order of the table
abbrev pub sys_calls : List (List ℕ × SysCall)
sys_calls =
    (codes "abort", sys.Abort) ∷ (codes "eosio_exit", sys.Exit) ∷ (codes "eosio_assert", sys.Assert)
    ∷ (codes "eosio_assert_message", sys.AssertMessage) ∷ (codes "eosio_assert_code", sys.AssertCode)
    ∷ (codes "current_receiver", sys.CurrentReceiver) ∷ (codes "get_sender", sys.GetSender) ∷ (codes "action_data_size", sys.ActionDataSize)
    ∷ (codes "read_action_data", sys.ReadActionData) ∷ (codes "transaction_size", sys.TransactionSize)
    ∷ (codes "read_transaction", sys.ReadTransaction) ∷ (codes "expiration", sys.Expiration) ∷ (codes "tapos_block_num", sys.TaposBlockNum)
    ∷ (codes "tapos_block_prefix", sys.TaposBlockPrefix) ∷ (codes "current_time", sys.CurrentTime)
    ∷ (codes "publication_time", sys.PublicationTime) ∷ (codes "require_auth", sys.RequireAuth) ∷ (codes "require_auth2", sys.RequireAuth2)
    ∷ (codes "has_auth", sys.HasAuth) ∷ (codes "is_account", sys.IsAccount) ∷ (codes "is_privileged", sys.IsPrivileged)
    ∷ (codes "require_recipient", sys.RequireRecipient) ∷ (codes "send_inline", sys.SendInline) ∷ (codes "prints", sys.Prints)
    ∷ (codes "prints_l", sys.PrintsL) ∷ (codes "printhex", sys.PrintHex) ∷ (codes "printi", sys.PrintI) ∷ (codes "printui", sys.PrintUi)
    ∷ (codes "printn", sys.PrintN) ∷ (codes "printi128", sys.PrintI128) ∷ (codes "printui128", sys.PrintUi128)
    ∷ (codes "memcpy", sys.Memcpy) ∷ (codes "memmove", sys.Memmove) ∷ (codes "memset", sys.Memset) ∷ (codes "memcmp", sys.Memcmp)
    ∷ (codes "sha256", sys.Sha256) ∷ (codes "assert_sha256", sys.AssertSha256) ∷ (codes "__multi3", sys.Multi3)
    ∷ (codes "__divti3", sys.DivTi3) ∷ (codes "__udivti3", sys.UdivTi3) ∷ (codes "__modti3", sys.ModTi3) ∷ (codes "__umodti3", sys.UmodTi3)
    ∷ (codes "__ashlti3", sys.AshlTi3) ∷ (codes "__ashrti3", sys.AshrTi3) ∷ (codes "__lshlti3", sys.LshlTi3)
    ∷ (codes "__lshrti3", sys.LshrTi3) ∷ (codes "set_resource_limits", sys.SetResourceLimits)
    ∷ (codes "set_action_return_value", sys.SetActionReturnValue) ∷ []

abbrev pub row_calls : List (List ℕ × RowCall)
row_calls =
    (codes "db_store_i64", row.Store) ∷ (codes "db_update_i64", row.Update) ∷ (codes "db_remove_i64", row.Remove)
    ∷ (codes "db_get_i64", row.Get) ∷ (codes "db_next_i64", row.Next) ∷ (codes "db_previous_i64", row.Previous)
    ∷ (codes "db_find_i64", row.Find) ∷ (codes "db_lowerbound_i64", row.LowerBound) ∷ (codes "db_upperbound_i64", row.UpperBound)
    ∷ (codes "db_end_i64", row.End) ∷ []

-- the names behind the prefix of a width
abbrev pub index_calls : List (List ℕ × IndexCall)
index_calls =
    (codes "store", index.Store) ∷ (codes "update", index.Update) ∷ (codes "remove", index.Remove) ∷ (codes "next", index.Next)
    ∷ (codes "previous", index.Previous) ∷ (codes "find_primary", index.FindPrimary) ∷ (codes "find_secondary", index.FindSecondary)
    ∷ (codes "lowerbound", index.LowerBound) ∷ (codes "upperbound", index.UpperBound) ∷ (codes "end", index.End) ∷ []

abbrev pub index_group : (prefix : List ℕ) → (IndexCall → Intrinsic) → List (List ℕ × Intrinsic)
index_group prefix of_call = map (λ c. (prefix ++ c.0, of_call c.1)) index_calls

abbrev pub intrinsics : List (List ℕ × Intrinsic)
intrinsics = map (λ c. (c.0, group.Sys c.1)) sys_calls ++ (map (λ c. (c.0, group.Row c.1)) row_calls
    ++ (index_group key64.prefix group.Index64 ++ (index_group key128.prefix group.Index128 ++ index_group key256.prefix group.Index256)))

abbrev pub intrinsic_at : ℕ → Option Intrinsic
intrinsic_at number = option_map (λ c. c.1) (slice_get intrinsics number)

-- each call on its part of what a run sees; a number that no intrinsic has is never called
abbrev pub intrinsic : Option Intrinsic → Seen → List ℕ → LinearMemory → (left : ℕ) → Outcome Seen Failure
intrinsic (Some (group.Sys c)) s args m left = map_outcome (with_sys s) (sys_call s.packed c (sys_of s) args m left)
intrinsic (Some (group.Row c)) s args m left = map_outcome (with_rows s) (row_call c s.run (rows_of s) args m left)
intrinsic (Some (group.Index64 c)) s args m left = map_outcome (with_index64 s) (index_call key64 rows64 c s.run (index64_of s) args m left)
intrinsic (Some (group.Index128 c)) s args m left = map_outcome (with_index128 s) (index_call key128 rows128 c s.run (index128_of s) args m left)
intrinsic (Some (group.Index256 c)) s args m left = map_outcome (with_index256 s) (index_call key256 rows256 c s.run (index256_of s) args m left)
intrinsic None s args m left = refuses failure.Abort left
