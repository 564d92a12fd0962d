-- How the entries of the state are packed in its digest, each key first, field by field.
use Rattle.std.specs.Prelude.{ℕ, ◌%◌, ◌^◌, Bool, List, ◌++◌, length, if◌then◌else◌}
use Rattle.std.specs.Int.{w64, w128, to_le_bytes, cast_unsigned}
use Rattle.std.specs.List.{flat_map}
use Rattle.ante_pack.specs.declared.names.Name.{Name}
use Rattle.ante_pack.specs.declared.names.TableKey.{TableKey}
use Rattle.ante_pack.specs.declared.names.Key256.{Key256}
use Rattle.ante_pack.specs.declared.authority.Level.{Level}
use Rattle.ante_pack.specs.declared.authority.Authority.{Authority}
use Rattle.ante_pack.specs.Forms.{varuint}
use Rattle.ante_pack.specs.Packed.{u8, u16, u32, u64, name, digest, level, key_weight, level_weight, wait_weight}
use Rattle.ante_state.specs.declared.tables.RowKey.{RowKey}
use Rattle.ante_state.specs.declared.tables.TableRow.{TableRow}
use Rattle.ante_state.specs.declared.tables.PrimaryRow.{PrimaryRow}
use Rattle.ante_state.specs.declared.tables.IndexKey.{IndexKey}
use Rattle.ante_state.specs.declared.objects.AccountRow.{AccountRow}
use Rattle.ante_state.specs.declared.objects.PermissionRow.{PermissionRow}
use Rattle.ante_state.specs.declared.objects.LinkKey.{LinkKey}
use Rattle.ante_state.specs.declared.objects.RecentKey.{RecentKey}
use Rattle.ante_ram.specs.declared.parts.Share.{Share}

-- a count, past 4,294,967,295 its remainder by 2^32, and then the items
abbrev pub counted : {A : Type 0} → (A → List ℕ) → List A → List ℕ
counted packed items = varuint.spell (length items % 2 ^ 32) ++ flat_map packed items

-- a length, past 4,294,967,295 its remainder by 2^32, and then the bytes
abbrev pub sized : List ℕ → List ℕ
sized bytes = varuint.spell (length bytes % 2 ^ 32) ++ bytes

abbrev pub flag : Bool → ℕ
flag b = if b then 1 else 0

abbrev pub packed_table_key : TableKey → List ℕ
packed_table_key key = name.spell key.code ++ name.spell key.scope ++ name.spell key.table

abbrev pub packed_authority : Authority → List ℕ
packed_authority a = u32.spell a.threshold ++ counted key_weight.spell a.keys ++ counted level_weight.spell a.accounts ++ counted wait_weight.spell a.waits

abbrev pub packed_account : Name × AccountRow → List ℕ
packed_account e = name.spell e.0 ++ name.spell e.1.payer ++ u8.spell (flag e.1.privileged) ++ sized e.1.code ++ sized e.1.abi

abbrev pub packed_permission : Level × PermissionRow → List ℕ
packed_permission e = level.spell e.0 ++ name.spell e.1.parent ++ packed_authority e.1.authority

-- account, contract, action, and the permission that is asked for
abbrev pub packed_link : LinkKey × Name → List ℕ
packed_link e = name.spell e.0.account ++ name.spell e.0.code ++ name.spell e.0.action ++ name.spell e.1

-- the quota as 64 bits in two's complement
abbrev pub packed_share : Name × Share → List ℕ
packed_share e = name.spell e.0 ++ u64.spell e.1.used ++ u64.spell (cast_unsigned w64 e.1.quota)

abbrev pub packed_recent : RecentKey × Unit {0} → List ℕ
packed_recent e = u32.spell e.0.expiration ++ digest.spell e.0.id

abbrev pub packed_reference : ℕ × List ℕ → List ℕ
packed_reference e = u16.spell e.0 ++ digest.spell e.1

abbrev pub packed_table : TableKey × TableRow → List ℕ
packed_table e = packed_table_key e.0 ++ name.spell e.1.payer ++ u32.spell e.1.count

abbrev pub packed_row : RowKey × PrimaryRow → List ℕ
packed_row e = packed_table_key e.0.table ++ u64.spell e.0.primary ++ name.spell e.1.payer ++ sized e.1.bytes

-- a row of a secondary index, by how its key is packed
abbrev pub packed_index_row : {K : Type 0} → (K → List ℕ) → IndexKey K × Name → List ℕ
packed_index_row packed e = packed_table_key e.0.table ++ packed e.0.key ++ u64.spell e.0.primary ++ name.spell e.1

abbrev pub packed_key128 : ℕ → List ℕ
packed_key128 key = to_le_bytes w128 key

-- the first word first
abbrev pub packed_key256 : Key256 → List ℕ
packed_key256 key = packed_key128 key.first ++ packed_key128 key.second
