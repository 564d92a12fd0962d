-- The calls on the rows of a secondary index, for keys of 64, 128 and 256 bits. A row stands by its key and then its primary key.
use Rattle.std.specs.Prelude.{ℕ, ◌+◌, ◌==◌, ℤ, Bool, false, List, ◌++◌, take, drop, codes, Option, None, Some, option_map, if◌then◌else◌}
use Rattle.std.specs.declared.cmp.Ordering.{Ordering}
use Rattle.std.specs.Int.{w64, w128, to_le_bytes, from_le_bytes}
use Rattle.std.specs.Ordering.{nat_cmp, ordering_then, eq_by_cmp, is_gt, is_ge}
use Rattle.ante_undo.specs.Entries.{first_where}
use Rattle.ante_pack.specs.declared.names.Name.{Name}
use Rattle.ante_pack.specs.declared.names.TableKey.{TableKey}
use Rattle.ante_pack.specs.declared.names.Key256.{Key256}
use Rattle.ante_pack.specs.KeyOrder.{key256_order}
use Rattle.ante_types.specs.declared.context.RunContext.{RunContext}
use Rattle.ante_types.specs.declared.failure.Failure.{Failure}
use Rattle.ante_types.specs.declared.failure.Failure.TheVariants as failure
use Rattle.ante_types.specs.World.{World}
use Rattle.ante_secidx.specs.Index.{index_of}
use Rattle.ante_store.specs.declared.change.Change.{Change}
use Rattle.ante_store.specs.declared.change.Change.TheVariants as change
use Rattle.ante_wmem.specs.Linear.{LinearMemory}
use Rattle.ante_wmem.specs.HostCalls.{Reply, Outcome, value}
use Rattle.ante_calls.specs.declared.calls.IndexCall.{IndexCall}
use Rattle.ante_calls.specs.declared.calls.IndexCall.TheVariants as calls
use Rattle.ante_calls.specs.Calls.{arg, arg32, signed_arg, name_arg, bytes_from, replies, reading, writing, unless, word}
use Rattle.ante_calls.specs.Kinds.{Kind}
use Rattle.ante_calls.specs.PrimaryCalls.{table_arg, gives}
use Rattle.ante_calls.specs.Rows.{look_for, end, next, previous, store, update, remove}
use Rattle.ante_calls.specs.RowReplies.{answered, iterator_alone, no_answer, iterator_and_primary, with_bytes, with_primary}
use Rattle.ante_calls.specs.Views.{RowView}

-- ---- keys

-- how keys of a width are ordered, and how they stand in memory
pub record KeyForm (K : Type 0) : Type 0 where
  pub order : K → K → Ordering
  pub size : ℕ
  pub bytes : K → List ℕ
  pub of_bytes : List ℕ → K
  -- an argument follows the key's address, the count of its words, which must be this one
  pub words : Option ℕ
  -- the names of the calls begin so
  pub prefix : List ℕ

abbrev pub key64 : KeyForm ℕ
key64 = record { order = nat_cmp; size = 8; bytes = to_le_bytes w64; of_bytes = from_le_bytes w64; words = None; prefix = codes "db_idx64_" }

abbrev pub key128 : KeyForm ℕ
key128 = record { order = nat_cmp; size = 16; bytes = to_le_bytes w128; of_bytes = from_le_bytes w128; words = None; prefix = codes "db_idx128_" }

-- two words of 16 bytes
abbrev pub key256 : KeyForm Key256
key256 = record {
  order = key256_order;
  size = 32;
  bytes = λ key. to_le_bytes w128 key.first ++ to_le_bytes w128 key.second;
  of_bytes = λ bytes. record { first = from_le_bytes w128 (take 16 bytes); second = from_le_bytes w128 (drop 16 bytes) };
  words = Some 2;
  prefix = codes "db_idx256_";
}

-- ---- rows

-- where the rows of a table stand in the state, in the order of keys and then of primary keys, each with its payer; and the changes of them
pub record IndexRows (K : Type 0) : Type 0 where
  pub rows : TableKey → World → List ((K × ℕ) × Name)
  pub storing : TableKey → ℕ → Name → K → Change
  pub updating : TableKey → ℕ → Name → K → Change
  pub removing : TableKey → ℕ → Change

abbrev pub rows64 : IndexRows ℕ
rows64 = record {
  rows = λ table w. index_of table w.index64;
  storing = λ table primary payer key. change.StoreIndex64 table key primary payer;
  updating = λ table primary payer key. change.UpdateIndex64 table key primary payer;
  removing = λ table primary. change.RemoveIndex64 table primary;
}

abbrev pub rows128 : IndexRows ℕ
rows128 = record {
  rows = λ table w. index_of table w.index128;
  storing = λ table primary payer key. change.StoreIndex128 table key primary payer;
  updating = λ table primary payer key. change.UpdateIndex128 table key primary payer;
  removing = λ table primary. change.RemoveIndex128 table primary;
}

abbrev pub rows256 : IndexRows Key256
rows256 = record {
  rows = λ table w. index_of table w.index256;
  storing = λ table primary payer key. change.StoreIndex256 table key primary payer;
  updating = λ table primary payer key. change.UpdateIndex256 table key primary payer;
  removing = λ table primary. change.RemoveIndex256 table primary;
}

module _ {K : Type 0} (form : KeyForm K) (index : IndexRows K) where
  abbrev pub entry_with : TableKey → ℕ → World → Option ((K × ℕ) × Name)
  entry_with key primary w = first_where (λ place. place.1 == primary) (index.rows key w)

  -- each row is billed the same, whatever its key
  abbrev pub index_kind : Kind (K × ℕ) Name K
  index_kind = record {
    rows = index.rows;
    order = λ a b. ordering_then (form.order a.0 b.0) (nat_cmp a.1 b.1);
    primary = λ place. place.1;
    row = λ key primary w. option_map (λ e. e.1) (entry_with key primary w);
    place = λ key primary w. option_map (λ e. e.0) (entry_with key primary w);
    payer = λ payer. payer;
    grows = λ payer key. false;
    storing = index.storing;
    updating = index.updating;
    removing = index.removing;
  }

  -- ---- what the calls answer

  abbrev pub first_place : (K × ℕ → Bool) → List ((K × ℕ) × Name) → Option (K × ℕ)
  first_place test rows = option_map (λ e. e.0) (first_where test rows)

  -- the row with this primary key
  abbrev pub find_primary : TableKey → ℕ → RowView → (ℤ × Option (K × ℕ)) × RowView
  find_primary key primary v = look_for index_kind key (first_place (λ place. place.1 == primary)) v

  -- the first row with this key
  abbrev pub find_secondary : TableKey → K → RowView → (ℤ × Option (K × ℕ)) × RowView
  find_secondary key secondary v = look_for index_kind key (first_place (λ place. eq_by_cmp form.order place.0 secondary)) v

  -- the first row whose key is at least this one
  abbrev pub lowerbound : TableKey → K → RowView → (ℤ × Option (K × ℕ)) × RowView
  lowerbound key secondary v = look_for index_kind key (first_place (λ place. is_ge (form.order place.0 secondary))) v

  -- the first row whose key is greater
  abbrev pub upperbound : TableKey → K → RowView → (ℤ × Option (K × ℕ)) × RowView
  upperbound key secondary v = look_for index_kind key (first_place (λ place. is_gt (form.order place.0 secondary))) v

  -- ---- arguments

  -- the bytes of the key whose address is the k-th argument
  abbrev pub key_bytes : (k : ℕ) → List ℕ → LinearMemory → Option (List ℕ)
  key_bytes k args m = bytes_from k form.size args m

  abbrev pub wrong_words : Option ℕ → (count : ℕ) → Option Failure
  wrong_words None count = None
  wrong_words (Some words) count = if count == words then None else Some (failure.KeyLength count)

  -- the count of words behind the key's address
  abbrev pub key_refusal : (k : ℕ) → List ℕ → Option Failure
  key_refusal k args = wrong_words form.words (arg32 args (k + 1))

  abbrev pub after_words : Option ℕ → (k : ℕ) → ℕ
  after_words None k = k + 1
  after_words (Some words) k = k + 2

  -- the place of the argument behind the key
  abbrev pub after_key : (k : ℕ) → ℕ
  after_key k = after_words form.words k

  abbrev pub name_of : List ℕ → List ℕ
  name_of call = form.prefix ++ call

  -- ---- the calls; KEY stands for the key's address, with the count of words where there is one

  -- db_idxW_store(scope, table, payer, id, KEY)
  abbrev pub idx_store : RunContext → RowView → List ℕ → LinearMemory → (left : ℕ) → Outcome RowView Failure
  idx_store run v args m left = reading (key_bytes 4 args m) left (λ bytes. replies (writing run.mode (name_of (codes "store")) (unless (key_refusal 4 args)
      (answered (name_of (codes "store"))
      (store index_kind run (name_arg args 0) (name_arg args 1) (name_arg args 2) (arg args 3) (form.of_bytes bytes) v) (iterator_alone m)))) left)

  -- db_idxW_update(it, payer, KEY)
  abbrev pub idx_update : RunContext → RowView → List ℕ → LinearMemory → (left : ℕ) → Outcome RowView Failure
  idx_update run v args m left = reading (key_bytes 2 args m) left (λ bytes. replies (writing run.mode (name_of (codes "update")) (unless (key_refusal 2 args)
      (answered (name_of (codes "update")) (update index_kind run (signed_arg args 0) (name_arg args 1) (form.of_bytes bytes) v) (no_answer m)))) left)

  -- db_idxW_remove(it)
  abbrev pub idx_remove : RunContext → RowView → List ℕ → LinearMemory → (left : ℕ) → Outcome RowView Failure
  idx_remove run v args m left = replies (answered (name_of (codes "remove")) (remove index_kind run (signed_arg args 0) v) (no_answer m)) left

  -- db_idxW_next(it, primary)
  abbrev pub idx_next : RowView → List ℕ → LinearMemory → (left : ℕ) → Outcome RowView Failure
  idx_next v args m left = reading (bytes_from 1 8 args m) left (λ bytes.
      replies (answered (name_of (codes "next")) (next index_kind (signed_arg args 0) v) (iterator_and_primary (arg32 args 1) m)) left)

  -- db_idxW_previous(it, primary)
  abbrev pub idx_previous : RowView → List ℕ → LinearMemory → (left : ℕ) → Outcome RowView Failure
  idx_previous v args m left = reading (bytes_from 1 8 args m) left (λ bytes.
      replies (answered (name_of (codes "previous")) (previous index_kind (signed_arg args 0) v) (iterator_and_primary (arg32 args 1) m)) left)

  abbrev pub key_found : Option (K × ℕ) → Option (List ℕ)
  key_found found = option_map (λ place. form.bytes place.0) found

  abbrev pub primary_found : Option (K × ℕ) → Option ℕ
  primary_found found = option_map (λ place. place.1) found

  -- db_idxW_find_primary(code, scope, table, KEY, primary): writes the key that is found
  abbrev pub shows_key : (at : ℕ) → LinearMemory → (ℤ × Option (K × ℕ)) × RowView → Reply RowView Failure
  shows_key at m r = value (word r.0.0) r.1 (with_bytes (key_found r.0.1) at m)

  abbrev pub idx_find_primary : RowView → List ℕ → LinearMemory → (left : ℕ) → Outcome RowView Failure
  idx_find_primary v args m left = reading (key_bytes 3 args m) left (λ bytes. replies (unless (key_refusal 3 args)
      (shows_key (arg32 args 3) m (find_primary (table_arg args) (arg args (after_key 3)) v))) left)

  -- db_idxW_find_secondary(code, scope, table, KEY, primary): writes the primary key that is found
  abbrev pub shows_primary : (at : ℕ) → LinearMemory → (ℤ × Option (K × ℕ)) × RowView → Reply RowView Failure
  shows_primary at m r = value (word r.0.0) r.1 (with_primary (primary_found r.0.1) at m)

  abbrev pub idx_find_secondary : RowView → List ℕ → LinearMemory → (left : ℕ) → Outcome RowView Failure
  idx_find_secondary v args m left = reading (key_bytes 3 args m) left (λ bytes. reading (bytes_from (after_key 3) 8 args m) left (λ others.
      replies (unless (key_refusal 3 args)
      (shows_primary (arg32 args (after_key 3)) m (find_secondary (table_arg args) (form.of_bytes bytes) v))) left))

  -- db_idxW_lowerbound and db_idxW_upperbound(code, scope, table, KEY, primary): write first the key that is found and then the primary key
  abbrev pub shows_both : (key_at primary_at : ℕ) → LinearMemory → (ℤ × Option (K × ℕ)) × RowView → Reply RowView Failure
  shows_both key_at primary_at m r = value (word r.0.0) r.1 (with_primary (primary_found r.0.1) primary_at (with_bytes (key_found r.0.1) key_at m))

  abbrev pub idx_bound : (TableKey → K → RowView → (ℤ × Option (K × ℕ)) × RowView) → RowView → List ℕ → LinearMemory → (left : ℕ) → Outcome RowView Failure
  idx_bound bound v args m left = reading (key_bytes 3 args m) left (λ bytes. reading (bytes_from (after_key 3) 8 args m) left (λ others.
      replies (unless (key_refusal 3 args)
      (shows_both (arg32 args 3) (arg32 args (after_key 3)) m (bound (table_arg args) (form.of_bytes bytes) v))) left))

  -- db_idxW_end(code, scope, table)
  abbrev pub idx_end : RowView → List ℕ → LinearMemory → (left : ℕ) → Outcome RowView Failure
  idx_end v args m left = gives m left (end index_kind (table_arg args) v)

  -- ---- all of them

  abbrev pub index_call : IndexCall → RunContext → RowView → List ℕ → LinearMemory → (left : ℕ) → Outcome RowView Failure
  index_call calls.Store run v args m left = idx_store run v args m left
  index_call calls.Update run v args m left = idx_update run v args m left
  index_call calls.Remove run v args m left = idx_remove run v args m left
  index_call calls.Next run v args m left = idx_next v args m left
  index_call calls.Previous run v args m left = idx_previous v args m left
  index_call calls.FindPrimary run v args m left = idx_find_primary v args m left
  index_call calls.FindSecondary run v args m left = idx_find_secondary v args m left
  index_call calls.LowerBound run v args m left = idx_bound lowerbound v args m left
  index_call calls.UpperBound run v args m left = idx_bound upperbound v args m left
  index_call calls.End run v args m left = idx_end v args m left
