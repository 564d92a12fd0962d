-- Each call replies as its type in the table of imports says, whatever its arguments are.
use Rattle.std.proofs.Common.{◌≡◌, refl, ap, sym, subst, ◌∙◌, ℕ, ◌/◌, ◌%◌, ◌^◌, ◌<◌, ◌==◌, Bool, true, false, nat_lt, List, length, map, Option, None, Some, arith, lt-ltb}
use Rattle.std.proofs.lemmas.Bool.{ltb-true}
use Rattle.std.proofs.lemmas.Option.{slice_get-map}
use Rattle.std.specs.Prelude.{T, is_none, unwrap_or, option_map, slice_get, ◌*◌, ℤ, int_div, int_rem, codes, decimal, replicate, bytes_eq, Result, Ok, Err, if◌then◌else◌}
use Rattle.std.specs.Fmt.{signed_decimal}
use Rattle.std.specs.Int.{w32, w128, cast_unsigned, cast_signed, from_le_bytes, abs_diff}
use Rattle.sha2.specs.Sha256.{sha256}
use Rattle.std.specs.declared.cmp.Ordering.{Ordering}
use Rattle.std.specs.declared.cmp.Ordering.TheVariants.{Less, Equal, Greater}
use Rattle.std.specs.Ordering.{nat_cmp}
use Rattle.std.specs.Cmp.Lexicographic.{slice_cmp}
use Rattle.ante_pack.specs.declared.fault.PackFault.{PackFault}
use Rattle.ante_pack.specs.declared.names.TableKey.{TableKey}
use Rattle.ante_pack.specs.Forms.{whole}
use Rattle.ante_state.specs.declared.tables.PrimaryRow.{PrimaryRow}
use Rattle.ante_store.specs.declared.change.WriteError.{WriteError}
use Rattle.ante_store.specs.declared.change.Change.{Change}
use Rattle.ante_store.specs.declared.change.Change.TheVariants as change
use Rattle.ante_types.specs.Chain.{action}
use Rattle.ante_types.specs.declared.chain.Action.{Action}
use Rattle.ante_types.specs.declared.context.Mode.{Mode}
use Rattle.ante_types.specs.declared.context.Mode.TheVariants as mode
use Rattle.ante_types.specs.declared.context.RunContext.{RunContext}
use Rattle.ante_types.specs.declared.failure.Failure.{Failure}
use Rattle.ante_types.specs.declared.failure.Failure.TheVariants as failure
use Rattle.ante_wmem.specs.Linear.{LinearMemory, written}
use Rattle.ante_wmem.specs.HostCalls.{Reply, Outcome, value, nothing, exit, refused, step_limit}
use Rattle.ante_wtree.specs.declared.instructions.ValueKind.{ValueKind}
use Rattle.ante_wtree.specs.declared.instructions.ValueKind.TheVariants.{I32, I64}
use Rattle.ante_wtree.specs.Intrinsics.{types, type_at}
use Rattle.ante_wtree.specs.Types.{fits}
use Rattle.ante_wtree.specs.Replies.{IsReplyOf}
use Rattle.ante_calls.specs.declared.calls.SysCall.{SysCall}
use Rattle.ante_calls.specs.declared.calls.SysCall.TheVariants as sys
use Rattle.ante_calls.specs.declared.calls.RowCall.{RowCall}
use Rattle.ante_calls.specs.declared.calls.RowCall.TheVariants as row
use Rattle.ante_calls.specs.declared.calls.IndexCall.{IndexCall}
use Rattle.ante_calls.specs.declared.calls.IndexCall.TheVariants as index
use Rattle.ante_calls.specs.declared.calls.Intrinsic.{Intrinsic}
use Rattle.ante_calls.specs.declared.calls.Intrinsic.TheVariants as group
use Rattle.ante_calls.specs.declared.faults.DbFault.TheVariants as fault
use Rattle.ante_calls.specs.Accounts.{is_actor, has_level, is_account}
use Rattle.ante_calls.specs.ActionData.{most_return, with_return, copy}
use Rattle.ante_calls.specs.Authorization.{yes_or_no, asking_refusal, sending_refusal, sent}
use Rattle.ante_calls.specs.Calls.{arg, arg32, signed_arg, name_arg, word, long, range, bytes_from, shorter, reading, paying, writing, unless, write_refused, map_reply}
use Rattle.ante_calls.specs.Console.{prints_text}
use Rattle.ante_calls.specs.ChainState.{limits_refusal, limit_arg, quota_set}
use Rattle.ante_calls.specs.IndexCalls.{KeyForm, IndexRows, key64, key128, key256, rows64, rows128, rows256, index_kind, key_bytes, key_refusal, after_key, name_of, find_primary, find_secondary, lowerbound, upperbound, shows_key, shows_primary, shows_both, idx_bound, index_call}
use Rattle.ante_itercache.specs.Iterators.{live_row}
use Rattle.ante_calls.specs.Kinds.{primary_kind}
use Rattle.ante_calls.specs.MemoryCalls.{comparison}
use Rattle.ante_calls.specs.Numbers.{intrinsics, intrinsic_at, intrinsic}
use Rattle.ante_calls.specs.PrimaryCalls.{table_arg, find_i64, lowerbound_i64, upperbound_i64, got, row_call}
use Rattle.ante_calls.specs.Rows.{Answer, then_do, some_or, end, next, previous, store, update, remove}
use Rattle.ante_calls.specs.RowReplies.{failure_of, answered, iterator_alone, no_answer, iterator_and_primary}
use Rattle.ante_calls.specs.System.{sys_call}
use Rattle.ante_calls.specs.Views.{Seen, SysView, RowView, sys_of, with_sys, rows_of, with_rows, index64_of, with_index64, index128_of, with_index128, index256_of, with_index256}
use Rattle.ante_calls.specs.WideIntegers.{wide_arg, signed, unsigned, up, down, down_signed, writes_wide, dividing, shifting}

-- ---- replies of a type

abbrev i : Option ValueKind
i = Some I32

-- ---- numbers

below : (n m : ℕ) → 0 < m → nat_lt (n % m) m ≡ true
below n m h = lt-ltb (n % m) m (omega (arith, h))

word_fits : (z : ℤ) → fits I32 (word z) ≡ true
word_fits z = below (cast_unsigned w32 z) (2 ^ 32) (omega arith)

long_fits : (n : ℕ) → fits I64 (long n) ≡ true
long_fits n = below n (2 ^ 64) (omega arith)

low_fits : (n : ℕ) → fits I32 (n % 2 ^ 32) ≡ true
low_fits n = below n (2 ^ 32) (omega arith)

yes_fits : (b : Bool) → fits I32 (yes_or_no b) ≡ true
yes_fits true = refl
yes_fits false = refl

comparison_fits : (o : Ordering) → fits I32 (comparison o) ≡ true
comparison_fits Less = refl
comparison_fits Equal = refl
comparison_fits Greater = refl

either : {A : Type 0} (P : A → Type 0) (b : Bool) (x y : A) → P x → P y → P (if b then x else y)
either P true x y h k = h
either P false x y h k = k

shorter_fits : (n : ℕ) (bytes : List ℕ) → fits I32 n ≡ true → fits I32 (shorter n bytes).0 ≡ true
shorter_fits n bytes h = either (λ (x : ℕ × List ℕ). fits I32 x.0 ≡ true) (n == 0) _ _ (low_fits (length bytes)) (lt-ltb _ (2 ^ 32) (omega (arith, ltb-true n (2 ^ 32) h)))

-- ---- the parts of a call

refused_typed : (W : Type 0) (r : Option ValueKind) (f : Failure) → IsReplyOf {W = W} r (refused f)
refused_typed W None f = tt
refused_typed W (Some k) f = tt

limit_typed : (W : Type 0) (r : Option ValueKind) → IsReplyOf {W = W} {R = Failure} r step_limit
limit_typed W None = tt
limit_typed W (Some k) = tt

module _ {W : Type 0} where
  abbrev Typed : Option ValueKind → Outcome W Failure → Type 0
  Typed r o = IsReplyOf r o.reply

  reading_typed : (r : Option ValueKind) (bytes : Option (List ℕ)) (left : ℕ) (go : List ℕ → Outcome W Failure) → ((b : List ℕ) → Typed r (go b)) → Typed r (reading bytes left go)
  reading_typed r None left go h = refused_typed W r failure.BadPointer
  reading_typed r (Some b) left go h = h b

  -- at no cost
  free_typed : (r : Option ValueKind) (bytes : Option (List ℕ)) (left : ℕ) (reply : List ℕ → Reply W Failure) → ((b : List ℕ) → IsReplyOf r (reply b)) → Typed r (reading bytes left (λ b. record { reply = reply b; left = left }))
  free_typed r None left reply h = refused_typed W r failure.BadPointer
  free_typed r (Some b) left reply h = h b

  paying_typed : (r : Option ValueKind) (moved left : ℕ) (reply : Reply W Failure) → IsReplyOf r reply → Typed r (paying moved left reply)
  paying_typed r moved left reply h = either (Typed r) (nat_lt left (moved / 64)) _ _ (limit_typed W r) h

  unless_typed : (r : Option ValueKind) (f : Option Failure) (reply : Reply W Failure) → IsReplyOf r reply → IsReplyOf r (unless f reply)
  unless_typed r None reply h = h
  unless_typed r (Some f) reply h = refused_typed W r f

  writing_typed : (r : Option ValueKind) (m : Mode) (name : List ℕ) (reply : Reply W Failure) → IsReplyOf r reply → IsReplyOf r (writing m name reply)
  writing_typed r mode.Reading name reply h = refused_typed W r (write_refused name)
  writing_typed r mode.Writing name reply h = h

pub mapped_typed : {V W : Type 0} (r : Option ValueKind) (f : V → W) (reply : Reply V Failure) → IsReplyOf r reply → IsReplyOf r (map_reply f reply)
mapped_typed None f (value n v m) h = absurd h
mapped_typed (Some k) f (value n v m) h = h
mapped_typed None f (nothing v m) h = tt
mapped_typed (Some k) f (nothing v m) h = absurd h
mapped_typed None f (exit v m) h = tt
mapped_typed (Some k) f (exit v m) h = tt
mapped_typed None f (refused x) h = tt
mapped_typed (Some k) f (refused x) h = tt
mapped_typed None f step_limit h = tt
mapped_typed (Some k) f step_limit h = tt

-- ---- the calls that aren't on tables

abbrev pub sys_result : SysCall → Option ValueKind
sys_result sys.Abort = None
sys_result sys.Exit = None
sys_result sys.Assert = None
sys_result sys.AssertMessage = None
sys_result sys.AssertCode = None
sys_result sys.CurrentReceiver = Some I64
sys_result sys.GetSender = Some I64
sys_result sys.ActionDataSize = Some I32
sys_result sys.ReadActionData = Some I32
sys_result sys.TransactionSize = Some I32
sys_result sys.ReadTransaction = Some I32
sys_result sys.Expiration = Some I32
sys_result sys.TaposBlockNum = Some I32
sys_result sys.TaposBlockPrefix = Some I32
sys_result sys.CurrentTime = Some I64
sys_result sys.PublicationTime = Some I64
sys_result sys.RequireAuth = None
sys_result sys.RequireAuth2 = None
sys_result sys.HasAuth = Some I32
sys_result sys.IsAccount = Some I32
sys_result sys.IsPrivileged = Some I32
sys_result sys.RequireRecipient = None
sys_result sys.SendInline = None
sys_result sys.Prints = None
sys_result sys.PrintsL = None
sys_result sys.PrintHex = None
sys_result sys.PrintI = None
sys_result sys.PrintUi = None
sys_result sys.PrintN = None
sys_result sys.PrintI128 = None
sys_result sys.PrintUi128 = None
sys_result sys.Memcpy = Some I32
sys_result sys.Memmove = Some I32
sys_result sys.Memset = Some I32
sys_result sys.Memcmp = Some I32
sys_result sys.Sha256 = None
sys_result sys.AssertSha256 = None
sys_result sys.Multi3 = None
sys_result sys.DivTi3 = None
sys_result sys.UdivTi3 = None
sys_result sys.ModTi3 = None
sys_result sys.UmodTi3 = None
sys_result sys.AshlTi3 = None
sys_result sys.AshrTi3 = None
sys_result sys.LshlTi3 = None
sys_result sys.LshrTi3 = None
sys_result sys.SetResourceLimits = None
sys_result sys.SetActionReturnValue = None

copy_typed : (bytes : List ℕ) (v : SysView) (args : List ℕ) (m : LinearMemory) (left : ℕ) → Typed i (copy bytes v args m left)
copy_typed bytes v args m left = reading_typed i _ left _ (λ b. paying_typed i _ left _ (shorter_fits (arg32 args 1) bytes (low_fits (arg args 1))))

sent_typed : (a : Result Action PackFault) (v : SysView) (m : LinearMemory) → IsReplyOf None (sent a v m)
sent_typed (Ok a) v m = unless_typed None (sending_refusal a v) _ tt
sent_typed (Err f) v m = tt

quota_typed : (e : Option WriteError) (c : Change) (v : SysView) (m : LinearMemory) → IsReplyOf None (quota_set e c v m)
quota_typed None c v m = tt
quota_typed (Some e) c v m = tt

dividing_typed : (f : ℕ → ℕ → ℕ) (v : SysView) (args : List ℕ) (m : LinearMemory) (left : ℕ) → Typed None (dividing f v args m left)
dividing_typed f v args m left = reading_typed None _ left _ (λ b. either (IsReplyOf None) (wide_arg args 3 == 0) _ _ tt tt)

shifting_typed : (f : ℕ → ℕ → ℕ) (v : SysView) (args : List ℕ) (m : LinearMemory) (left : ℕ) → Typed None (shifting f v args m left)
shifting_typed f v args m left = free_typed None (bytes_from 0 16 args m) left (λ b. writes_wide v args m (f (wide_arg args 1) (arg32 args 3))) (λ b. tt)

-- a call that reads one range or text and answers nothing
plain_typed : (bytes : Option (List ℕ)) (left : ℕ) (go : List ℕ → Reply SysView Failure) → ((b : List ℕ) → IsReplyOf None (go b)) → Typed None (reading bytes left (λ b. paying (length b) left (go b)))
plain_typed bytes left go h = reading_typed None bytes left _ (λ b. paying_typed None (length b) left (go b) (h b))

-- one that reads two ranges, and pays for these bytes
ranges_typed : (r : Option ValueKind) (a b : Option (List ℕ)) (left : ℕ) (moved : List ℕ → List ℕ → ℕ) (reply : List ℕ → List ℕ → Reply SysView Failure) → ((x y : List ℕ) → IsReplyOf r (reply x y)) →
    Typed r (reading a left (λ x. reading b left (λ y. paying (moved x y) left (reply x y))))
ranges_typed r None b left moved reply h = refused_typed SysView r failure.BadPointer
ranges_typed r (Some x) None left moved reply h = refused_typed SysView r failure.BadPointer
ranges_typed r (Some x) (Some y) left moved reply h = paying_typed r (moved x y) left (reply x y) (h x y)

asserting_typed : (args : List ℕ) (v : SysView) (m : LinearMemory) (left : ℕ) (o : Outcome SysView Failure) → Typed None o → Typed None (if arg32 args 0 == 0 then o else record { reply = nothing v m; left = left })
asserting_typed args v m left o h = either (Typed None) (arg32 args 0 == 0) _ _ h tt

pub sys_typed : (packed : List ℕ) (c : SysCall) (v : SysView) (args : List ℕ) (m : LinearMemory) (left : ℕ) → Typed (sys_result c) (sys_call packed c v args m left)
sys_typed packed sys.Abort v args m left = tt
sys_typed packed sys.Exit v args m left = tt
sys_typed packed sys.Assert v args m left = asserting_typed args v m left _ (plain_typed _ left _ (λ b. tt))
sys_typed packed sys.AssertMessage v args m left = asserting_typed args v m left _ (plain_typed _ left _ (λ b. tt))
sys_typed packed sys.AssertCode v args m left = asserting_typed args v m left _ tt
sys_typed packed sys.CurrentReceiver v args m left = long_fits _
sys_typed packed sys.GetSender v args m left = long_fits _
sys_typed packed sys.ActionDataSize v args m left = low_fits _
sys_typed packed sys.ReadActionData v args m left = copy_typed _ v args m left
sys_typed packed sys.TransactionSize v args m left = low_fits _
sys_typed packed sys.ReadTransaction v args m left = copy_typed _ v args m left
sys_typed packed sys.Expiration v args m left = low_fits _
sys_typed packed sys.TaposBlockNum v args m left = low_fits _
sys_typed packed sys.TaposBlockPrefix v args m left = low_fits _
sys_typed packed sys.CurrentTime v args m left = long_fits _
sys_typed packed sys.PublicationTime v args m left = long_fits _
sys_typed packed sys.RequireAuth v args m left = either (IsReplyOf None) (is_actor (name_arg args 0) v.run.action) _ _ tt tt
sys_typed packed sys.RequireAuth2 v args m left = either (IsReplyOf None) (has_level (record { actor = name_arg args 0; permission = name_arg args 1 }) v.run.action) _ _ tt tt
sys_typed packed sys.HasAuth v args m left = yes_fits _
sys_typed packed sys.IsAccount v args m left = yes_fits _
sys_typed packed sys.IsPrivileged v args m left = unless_typed i (asking_refusal (name_arg args 0) v) _ (yes_fits _)
sys_typed packed sys.RequireRecipient v args m left = either (IsReplyOf None) (is_account (name_arg args 0) v.world) _ _ tt tt
sys_typed packed sys.SendInline v args m left = plain_typed _ left _ (λ b. sent_typed (whole action b) v m)
sys_typed packed sys.Prints v args m left = plain_typed _ left _ (λ b. tt)
sys_typed packed sys.PrintsL v args m left = plain_typed _ left _ (λ b. tt)
sys_typed packed sys.PrintHex v args m left = plain_typed _ left _ (λ b. tt)
sys_typed packed sys.PrintI v args m left = tt
sys_typed packed sys.PrintUi v args m left = tt
sys_typed packed sys.PrintN v args m left = tt
sys_typed packed sys.PrintI128 v args m left = free_typed None (bytes_from 0 16 args m) left (λ b. prints_text (signed_decimal (cast_signed w128 (from_le_bytes w128 b))) v m) (λ b. tt)
sys_typed packed sys.PrintUi128 v args m left = free_typed None (bytes_from 0 16 args m) left (λ b. prints_text (decimal (from_le_bytes w128 b)) v m) (λ b. tt)
sys_typed packed sys.Memcpy v args m left = let n = arg32 args 2 in let to = arg32 args 0 in let close = nat_lt (abs_diff to (arg32 args 1)) n in
    ranges_typed i (bytes_from 0 n args m) (bytes_from 1 n args m) left (λ x y. length y) (λ x y. if close then refused failure.Overlap else value to v (written m to y))
    (λ x y. either (IsReplyOf i) close (refused failure.Overlap) (value to v (written m to y)) tt (low_fits (arg args 0)))
sys_typed packed sys.Memmove v args m left = let n = arg32 args 2 in let to = arg32 args 0 in
    ranges_typed i (bytes_from 0 n args m) (bytes_from 1 n args m) left (λ x y. length y) (λ x y. value to v (written m to y)) (λ x y. low_fits (arg args 0))
sys_typed packed sys.Memset v args m left = let to = arg32 args 0 in
    reading_typed i (bytes_from 0 (arg32 args 2) args m) left (λ x. paying (length x) left (value to v (written m to (replicate (length x) (arg32 args 1 % 256)))))
    (λ x. paying_typed i (length x) left (value to v (written m to (replicate (length x) (arg32 args 1 % 256)))) (low_fits (arg args 0)))
sys_typed packed sys.Memcmp v args m left = let n = arg32 args 2 in
    ranges_typed i (bytes_from 0 n args m) (bytes_from 1 n args m) left (λ x y. length x) (λ x y. value (comparison (slice_cmp nat_cmp x y)) v m) (λ x y. comparison_fits (slice_cmp nat_cmp x y))
sys_typed packed sys.Sha256 v args m left = ranges_typed None (range 0 args m) (bytes_from 2 32 args m) left (λ x y. length x) (λ x y. nothing v (written m (arg32 args 2) (sha256 x))) (λ x y. tt)
sys_typed packed sys.AssertSha256 v args m left = let differs = failure.Assert (codes "hash mismatch") in
    ranges_typed None (range 0 args m) (bytes_from 2 32 args m) left (λ x y. length x) (λ x y. if bytes_eq (sha256 x) y then nothing v m else refused differs)
    (λ x y. either (IsReplyOf None) (bytes_eq (sha256 x) y) (nothing v m) (refused differs) tt tt)
sys_typed packed sys.Multi3 v args m left = free_typed None (bytes_from 0 16 args m) left (λ b. writes_wide v args m (wide_arg args 1 * wide_arg args 3 % 2 ^ 128)) (λ b. tt)
sys_typed packed sys.DivTi3 v args m left = dividing_typed (λ a b. unsigned (int_div (signed a) (signed b))) v args m left
sys_typed packed sys.UdivTi3 v args m left = dividing_typed (λ a b. a / b) v args m left
sys_typed packed sys.ModTi3 v args m left = dividing_typed (λ a b. unsigned (int_rem (signed a) (signed b))) v args m left
sys_typed packed sys.UmodTi3 v args m left = dividing_typed (λ a b. a % b) v args m left
sys_typed packed sys.AshlTi3 v args m left = shifting_typed up v args m left
sys_typed packed sys.AshrTi3 v args m left = shifting_typed down_signed v args m left
sys_typed packed sys.LshlTi3 v args m left = shifting_typed up v args m left
sys_typed packed sys.LshrTi3 v args m left = shifting_typed down v args m left
sys_typed packed sys.SetResourceLimits v args m left = writing_typed None v.run.mode _ _ (unless_typed None (limits_refusal args v) _ (quota_typed _ (change.SetQuota (name_arg args 0) (limit_arg args 1)) v m))
sys_typed packed sys.SetActionReturnValue v args m left = plain_typed (range 0 args m) left (λ b. if nat_lt most_return (length b) then refused failure.ReturnTooLong else nothing (with_return b v) m)
    (λ b. either (IsReplyOf None) (nat_lt most_return (length b)) (refused failure.ReturnTooLong) (nothing (with_return b v) m) tt tt)

-- ---- the calls on rows

answered_typed : {A : Type 0} (r : Option ValueKind) (name : List ℕ) (a : Answer A) (go : A → RowView → Reply RowView Failure) → ((x : A) (v : RowView) → IsReplyOf r (go x v)) → IsReplyOf r (answered name a go)
answered_typed r name (Ok a) go h = h a.0 a.1
answered_typed r name (Err f) go h = refused_typed RowView r (failure_of name f)

-- an iterator alone, or with a primary key
alone_typed : (name : List ℕ) (m : LinearMemory) (a : Answer ℤ) → IsReplyOf i (answered name a (iterator_alone m))
alone_typed name m a = answered_typed i name a (iterator_alone m) (λ it v. word_fits it)

both_typed : (name : List ℕ) (at : ℕ) (m : LinearMemory) (a : Answer (ℤ × Option ℕ)) → IsReplyOf i (answered name a (iterator_and_primary at m))
both_typed name at m a = answered_typed i name a (iterator_and_primary at m) (λ x v. word_fits x.0)

none_typed : (name : List ℕ) (m : LinearMemory) (a : Answer (Unit {0})) → IsReplyOf None (answered name a (no_answer m))
none_typed name m a = answered_typed None name a (no_answer m) (λ x v. tt)

got_row : (o : Option PrimaryRow) (it : ℤ) (n : ℕ) (v : RowView) (at : ℕ) (m : LinearMemory) (left : ℕ) → fits I32 n ≡ true →
    Typed i (got (then_do (some_or (fault.BadIterator it) o) (λ row. Ok (shorter n row.bytes, v))) at m left)
got_row None it n v at m left h = tt
got_row (Some r) it n v at m left h = paying_typed i _ left _ (shorter_fits n r.bytes h)

got_live : (o : Option (TableKey × ℕ)) (it : ℤ) (n : ℕ) (v : RowView) (at : ℕ) (m : LinearMemory) (left : ℕ) → fits I32 n ≡ true →
    Typed i (got (then_do (some_or (fault.BadIterator it) o) (λ r. then_do (some_or (fault.BadIterator it) (primary_kind.row r.0 r.1 v.world)) (λ row. Ok (shorter n row.bytes, v)))) at m left)
got_live None it n v at m left h = tt
got_live (Some r) it n v at m left h = got_row (primary_kind.row r.0 r.1 v.world) it n v at m left h

abbrev pub row_result : RowCall → Option ValueKind
row_result row.Store = Some I32
row_result row.Update = None
row_result row.Remove = None
row_result row.Get = Some I32
row_result row.Next = Some I32
row_result row.Previous = Some I32
row_result row.Find = Some I32
row_result row.LowerBound = Some I32
row_result row.UpperBound = Some I32
row_result row.End = Some I32

pub row_typed : (c : RowCall) (run : RunContext) (v : RowView) (args : List ℕ) (m : LinearMemory) (left : ℕ) → Typed (row_result c) (row_call c run v args m left)
row_typed row.Store run v args m left = reading_typed i _ left _ (λ b. paying_typed i _ left _ (alone_typed _ m _))
row_typed row.Update run v args m left = reading_typed None _ left _ (λ b. paying_typed None _ left _ (none_typed _ m _))
row_typed row.Remove run v args m left = none_typed _ m _
row_typed row.Get run v args m left = reading_typed i _ left _ (λ b. got_live (live_row (signed_arg args 0) v.iters) (signed_arg args 0) (arg32 args 2) v (arg32 args 1) m left (low_fits (arg args 2)))
row_typed row.Next run v args m left = let r = next primary_kind (signed_arg args 0) v in
    free_typed i (bytes_from 1 8 args m) left (λ b. answered (codes "db_next_i64") r (iterator_and_primary (arg32 args 1) m)) (λ b. both_typed (codes "db_next_i64") (arg32 args 1) m r)
row_typed row.Previous run v args m left = let r = previous primary_kind (signed_arg args 0) v in
    free_typed i (bytes_from 1 8 args m) left (λ b. answered (codes "db_previous_i64") r (iterator_and_primary (arg32 args 1) m)) (λ b. both_typed (codes "db_previous_i64") (arg32 args 1) m r)
row_typed row.Find run v args m left = word_fits (find_i64 (table_arg args) (arg args 3) v).0
row_typed row.LowerBound run v args m left = word_fits (lowerbound_i64 (table_arg args) (arg args 3) v).0
row_typed row.UpperBound run v args m left = word_fits (upperbound_i64 (table_arg args) (arg args 3) v).0
row_typed row.End run v args m left = word_fits (end primary_kind (table_arg args) v).0

-- ---- the calls on index rows

abbrev pub index_result : IndexCall → Option ValueKind
index_result index.Store = Some I32
index_result index.Update = None
index_result index.Remove = None
index_result index.Next = Some I32
index_result index.Previous = Some I32
index_result index.FindPrimary = Some I32
index_result index.FindSecondary = Some I32
index_result index.LowerBound = Some I32
index_result index.UpperBound = Some I32
index_result index.End = Some I32

two_free : (r : Option ValueKind) (a b : Option (List ℕ)) (left : ℕ) (reply : List ℕ → List ℕ → Reply RowView Failure) → ((x y : List ℕ) → IsReplyOf r (reply x y)) →
    Typed r (reading a left (λ x. reading b left (λ y. record { reply = reply x y; left = left })))
two_free r None b left reply h = refused_typed RowView r failure.BadPointer
two_free r (Some x) None left reply h = refused_typed RowView r failure.BadPointer
two_free r (Some x) (Some y) left reply h = h x y

module _ {K : Type 0} (form : KeyForm K) (rows : IndexRows K) where
  bound_typed : (bound : TableKey → K → RowView → (ℤ × Option (K × ℕ)) × RowView) (v : RowView) (args : List ℕ) (m : LinearMemory) (left : ℕ) → Typed i (idx_bound form rows bound v args m left)
  bound_typed bound v args m left = let at = arg32 args (after_key form rows 3) in
      two_free i (key_bytes form rows 3 args m) (bytes_from (after_key form rows 3) 8 args m) left
      (λ x y. unless (key_refusal form rows 3 args) (shows_both form rows (arg32 args 3) at m (bound (table_arg args) (form.of_bytes x) v)))
      (λ x y. unless_typed i (key_refusal form rows 3 args) (shows_both form rows (arg32 args 3) at m (bound (table_arg args) (form.of_bytes x) v)) (word_fits (bound (table_arg args) (form.of_bytes x) v).0.0))

  pub index_typed : (c : IndexCall) (run : RunContext) (v : RowView) (args : List ℕ) (m : LinearMemory) (left : ℕ) → Typed (index_result c) (index_call form rows c run v args m left)
  index_typed index.Store run v args m left = let name = name_of form rows (codes "store") in
      free_typed i (key_bytes form rows 4 args m) left
      (λ b. writing run.mode name (unless (key_refusal form rows 4 args) (answered name (store (index_kind form rows) run (name_arg args 0) (name_arg args 1) (name_arg args 2) (arg args 3) (form.of_bytes b) v) (iterator_alone m))))
      (λ b. let r = store (index_kind form rows) run (name_arg args 0) (name_arg args 1) (name_arg args 2) (arg args 3) (form.of_bytes b) v in
      writing_typed i run.mode name (unless (key_refusal form rows 4 args) (answered name r (iterator_alone m))) (unless_typed i (key_refusal form rows 4 args) (answered name r (iterator_alone m)) (alone_typed name m r)))
  index_typed index.Update run v args m left = let name = name_of form rows (codes "update") in
      free_typed None (key_bytes form rows 2 args m) left
      (λ b. writing run.mode name (unless (key_refusal form rows 2 args) (answered name (update (index_kind form rows) run (signed_arg args 0) (name_arg args 1) (form.of_bytes b) v) (no_answer m))))
      (λ b. let r = update (index_kind form rows) run (signed_arg args 0) (name_arg args 1) (form.of_bytes b) v in
      writing_typed None run.mode name (unless (key_refusal form rows 2 args) (answered name r (no_answer m))) (unless_typed None (key_refusal form rows 2 args) (answered name r (no_answer m)) (none_typed name m r)))
  index_typed index.Remove run v args m left = none_typed (name_of form rows (codes "remove")) m (remove (index_kind form rows) run (signed_arg args 0) v)
  index_typed index.Next run v args m left = let r = next (index_kind form rows) (signed_arg args 0) v in let name = name_of form rows (codes "next") in
      free_typed i (bytes_from 1 8 args m) left (λ b. answered name r (iterator_and_primary (arg32 args 1) m)) (λ b. both_typed name (arg32 args 1) m r)
  index_typed index.Previous run v args m left = let r = previous (index_kind form rows) (signed_arg args 0) v in let name = name_of form rows (codes "previous") in
      free_typed i (bytes_from 1 8 args m) left (λ b. answered name r (iterator_and_primary (arg32 args 1) m)) (λ b. both_typed name (arg32 args 1) m r)
  index_typed index.FindPrimary run v args m left = let r = find_primary form rows (table_arg args) (arg args (after_key form rows 3)) v in
      free_typed i (key_bytes form rows 3 args m) left (λ b. unless (key_refusal form rows 3 args) (shows_key form rows (arg32 args 3) m r))
      (λ b. unless_typed i (key_refusal form rows 3 args) (shows_key form rows (arg32 args 3) m r) (word_fits r.0.0))
  index_typed index.FindSecondary run v args m left = let at = arg32 args (after_key form rows 3) in
      two_free i (key_bytes form rows 3 args m) (bytes_from (after_key form rows 3) 8 args m) left
      (λ x y. unless (key_refusal form rows 3 args) (shows_primary form rows at m (find_secondary form rows (table_arg args) (form.of_bytes x) v)))
      (λ x y. let r = find_secondary form rows (table_arg args) (form.of_bytes x) v in unless_typed i (key_refusal form rows 3 args) (shows_primary form rows at m r) (word_fits r.0.0))
  index_typed index.LowerBound run v args m left = bound_typed (lowerbound form rows) v args m left
  index_typed index.UpperBound run v args m left = bound_typed (upperbound form rows) v args m left
  index_typed index.End run v args m left = word_fits (end (index_kind form rows) (table_arg args) v).0

-- ---- all calls

abbrev pub result_of : Intrinsic → Option ValueKind
result_of (group.Sys c) = sys_result c
result_of (group.Row c) = row_result c
result_of (group.Index64 c) = index_result c
result_of (group.Index128 c) = index_result c
result_of (group.Index256 c) = index_result c

-- in the order of the table of imports
pub results-listed : map (λ c. result_of c.1) intrinsics ≡ map (λ t. t.1) types
results-listed = refl

pub intrinsic_typed : (c : Intrinsic) (s : Seen) (args : List ℕ) (m : LinearMemory) (left : ℕ) → IsReplyOf (result_of c) (intrinsic (Some c) s args m left).reply
intrinsic_typed (group.Sys c) s args m left = mapped_typed (sys_result c) (with_sys s) _ (sys_typed s.packed c (sys_of s) args m left)
intrinsic_typed (group.Row c) s args m left = mapped_typed (row_result c) (with_rows s) _ (row_typed c s.run (rows_of s) args m left)
intrinsic_typed (group.Index64 c) s args m left = mapped_typed (index_result c) (with_index64 s) _ (index_typed key64 rows64 c s.run (index64_of s) args m left)
intrinsic_typed (group.Index128 c) s args m left = mapped_typed (index_result c) (with_index128 s) _ (index_typed key128 rows128 c s.run (index128_of s) args m left)
intrinsic_typed (group.Index256 c) s args m left = mapped_typed (index_result c) (with_index256 s) _ (index_typed key256 rows256 c s.run (index256_of s) args m left)

-- ---- all calls by their numbers

of_found : (found : Option (List ℕ × Intrinsic)) (r : Option ValueKind) (s : Seen) (args : List ℕ) (m : LinearMemory) (left : ℕ) →
    option_map (λ c. result_of c.1) found ≡ Some r → IsReplyOf r (intrinsic (option_map (λ c. c.1) found) s args m left).reply
of_found None r s args m left e = absurd (subst (λ o. T (is_none o)) e tt)
of_found (Some c) r s args m left e =
    subst (λ x. IsReplyOf x (intrinsic (Some c.1) s args m left).reply) (ap (λ o. unwrap_or o (result_of c.1)) e) (intrinsic_typed c.1 s args m left)

pub typed_by_number : (number : ℕ) (params : List ValueKind) (r : Option ValueKind) (s : Seen) (args : List ℕ) (m : LinearMemory) (left : ℕ) →
    type_at number ≡ Some (params, r) → IsReplyOf r (intrinsic (intrinsic_at number) s args m left).reply
typed_by_number number params r s args m left e =
    of_found (slice_get intrinsics number) r s args m left
    (sym (slice_get-map (λ c. result_of c.1) intrinsics number) ∙ ap (λ l. slice_get l number) results-listed ∙ slice_get-map (λ t. t.1) types number ∙ ap (option_map (λ t. t.1)) e)
