-- All calls that aren't on tables.
use Rattle.std.specs.Prelude.{ℕ, List}
use Rattle.ante_types.specs.declared.failure.Failure.{Failure}
use Rattle.ante_wmem.specs.Linear.{LinearMemory}
use Rattle.ante_wmem.specs.HostCalls.{Outcome}
use Rattle.ante_calls.specs.declared.calls.SysCall.{SysCall}
use Rattle.ante_calls.specs.declared.calls.SysCall.TheVariants as calls
use Rattle.ante_calls.specs.Control as control
use Rattle.ante_calls.specs.ActionData as action
use Rattle.ante_calls.specs.Authorization as auth
use Rattle.ante_calls.specs.Console as console
use Rattle.ante_calls.specs.MemoryCalls as memory
use Rattle.ante_calls.specs.Hashes as hashes
use Rattle.ante_calls.specs.WideIntegers as wide
use Rattle.ante_calls.specs.ChainState as state
use Rattle.ante_calls.specs.Views.{SysView}

abbrev pub sys_call : (packed : List ℕ) → SysCall → SysView → List ℕ → LinearMemory → (left : ℕ) → Outcome SysView Failure
sys_call packed calls.Abort v args m left = control.abort left
sys_call packed calls.Exit v args m left = control.eosio_exit v m left
sys_call packed calls.Assert v args m left = control.eosio_assert v args m left
sys_call packed calls.AssertMessage v args m left = control.eosio_assert_message v args m left
sys_call packed calls.AssertCode v args m left = control.eosio_assert_code v args m left
sys_call packed calls.CurrentReceiver v args m left = action.current_receiver v m left
sys_call packed calls.GetSender v args m left = action.get_sender v m left
sys_call packed calls.ActionDataSize v args m left = action.action_data_size v m left
sys_call packed calls.ReadActionData v args m left = action.read_action_data v args m left
sys_call packed calls.TransactionSize v args m left = action.transaction_size packed v m left
sys_call packed calls.ReadTransaction v args m left = action.read_transaction packed v args m left
sys_call packed calls.Expiration v args m left = action.expiration packed v m left
sys_call packed calls.TaposBlockNum v args m left = action.tapos_block_num packed v m left
sys_call packed calls.TaposBlockPrefix v args m left = action.tapos_block_prefix packed v m left
sys_call packed calls.CurrentTime v args m left = action.current_time v m left
sys_call packed calls.PublicationTime v args m left = action.current_time v m left
sys_call packed calls.RequireAuth v args m left = auth.require_auth v args m left
sys_call packed calls.RequireAuth2 v args m left = auth.require_auth2 v args m left
sys_call packed calls.HasAuth v args m left = auth.has_auth v args m left
sys_call packed calls.IsAccount v args m left = auth.is_account_call v args m left
sys_call packed calls.IsPrivileged v args m left = auth.is_privileged_call v args m left
sys_call packed calls.RequireRecipient v args m left = auth.require_recipient v args m left
sys_call packed calls.SendInline v args m left = auth.send_inline v args m left
sys_call packed calls.Prints v args m left = console.prints v args m left
sys_call packed calls.PrintsL v args m left = console.prints_l v args m left
sys_call packed calls.PrintHex v args m left = console.printhex v args m left
sys_call packed calls.PrintI v args m left = console.printi v args m left
sys_call packed calls.PrintUi v args m left = console.printui v args m left
sys_call packed calls.PrintN v args m left = console.printn v args m left
sys_call packed calls.PrintI128 v args m left = console.printi128 v args m left
sys_call packed calls.PrintUi128 v args m left = console.printui128 v args m left
sys_call packed calls.Memcpy v args m left = memory.memcpy v args m left
sys_call packed calls.Memmove v args m left = memory.memmove v args m left
sys_call packed calls.Memset v args m left = memory.memset v args m left
sys_call packed calls.Memcmp v args m left = memory.memcmp v args m left
sys_call packed calls.Sha256 v args m left = hashes.sha256_call v args m left
sys_call packed calls.AssertSha256 v args m left = hashes.assert_sha256 v args m left
sys_call packed calls.Multi3 v args m left = wide.multi3 v args m left
sys_call packed calls.DivTi3 v args m left = wide.divti3 v args m left
sys_call packed calls.UdivTi3 v args m left = wide.udivti3 v args m left
sys_call packed calls.ModTi3 v args m left = wide.modti3 v args m left
sys_call packed calls.UmodTi3 v args m left = wide.umodti3 v args m left
sys_call packed calls.AshlTi3 v args m left = wide.shlti3 v args m left
sys_call packed calls.AshrTi3 v args m left = wide.ashrti3 v args m left
sys_call packed calls.LshlTi3 v args m left = wide.shlti3 v args m left
sys_call packed calls.LshrTi3 v args m left = wide.lshrti3 v args m left
sys_call packed calls.SetResourceLimits v args m left = state.set_resource_limits v args m left
sys_call packed calls.SetActionReturnValue v args m left = action.set_action_return_value v args m left
