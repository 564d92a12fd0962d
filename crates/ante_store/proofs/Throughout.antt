-- What holds of each world in the stack of a store, and of the usage that each session began with.
use Rattle.std.proofs.Common.{◌≡◌, ℕ, zero, suc, ◌-◌, List, [], ◌∷◌, map, length, slice_index_or, Option, Some, None, IfSome, option_map, refl, sym, ap, ◌∙◌, arith}
use Rattle.std.specs.List.{AllByRecursion}
use Rattle.std.specs.FinMap.Entries.{find}
use Rattle.std.proofs.lemmas.List.{length-map}
use Rattle.std.proofs.lemmas.Slice.Zip.{seconds-zip}
use Rattle.ante_undo.specs.Stack.{Stack, Shelf, under_top}
use Rattle.ante_sessions.specs.Seen.{map_shelf, map_stack, Throughout}
use Rattle.ante_sessions.specs.Zipped.{zip_stacks, Alike}
use Rattle.ante_pack.specs.declared.names.Name.{Name}
use Rattle.ante_state.specs.Orders.{name_order}
use Rattle.ante_types.specs.World.{World, used}
use Rattle.ante_rows.specs.declared.rows.RowsMap.{RowsMap}
use Rattle.ante_secidx.specs.declared.indexes.IndexesMap.{IndexesMap}
use Rattle.ante_objects.specs.declared.objects.ObjectsMap.{ObjectsMap}
use Rattle.ante_ram.specs.declared.parts.Share.{Share}
use Rattle.ante_ram.specs.Usage.{used_of}
use Rattle.ante_store.specs.declared.parts.Maps.{Maps}
use Rattle.ante_store.specs.Bills.{quotas_of}
use Rattle.ante_store.specs.Later.{later, later_shelf}
use Rattle.ante_store.specs.Shown.{shown_maps}
use Rattle.ante_store.specs.Worlds.{world_of, IsBilled, IsWorld}
use Rattle.ante_store.proofs.Quotas.{sorted_quotas}

is_world : (m : Maps) → IsBilled m → IsWorld (world_of m)
is_world m is = record {
  accounts = is.kept.objects.accounts;
  permissions = is.kept.objects.permissions;
  links = is.kept.objects.links;
  quotas = sorted_quotas name_order m.usage is.shares;
  recent = is.kept.objects.recent;
  references = is.kept.objects.references;
  tables = is.kept.rows.tables;
  rows = is.kept.rows.rows;
  index64 = is.kept.rows.indexes.index64;
  index128 = is.kept.rows.indexes.index128;
  index256 = is.kept.rows.indexes.index256;
  small = omega (arith, is.total, is.small);
  counted = is.kept.rows.counted;
  some = is.kept.rows.some;
}

all_worlds : (ms : List Maps) → AllByRecursion IsBilled ms → AllByRecursion IsWorld (map world_of ms)
all_worlds [] h = tt
all_worlds (m ∷ ms) h = (is_world m h.0, all_worlds ms h.1)

pub worlds_hold : (s : Stack Maps) → Throughout IsBilled s → Throughout IsWorld (later (map_stack world_of s))
worlds_hold s h = record { under = all_worlds s.under h.under; top = is_world s.top h.top; shelf = on_shelf s.shelf h.shelf }
  where
    on_shelf : (shelf : Option (Shelf Maps)) → IfSome shelf (λ shelf. AllByRecursion IsBilled shelf.maps) → IfSome (option_map later_shelf (option_map (map_shelf world_of) shelf)) (λ shelf. AllByRecursion IsWorld shelf.maps)
    on_shelf None h = h
    on_shelf (Some shelf) h = all_worlds shelf.maps h

-- ---- what the newest session began with

module _ {M N : Type 0} (f : M → N) where
  index_seen : (xs : List M) (n : ℕ) (d : M) → slice_index_or (map f xs) n (f d) ≡ f (slice_index_or xs n d)
  index_seen [] n d = refl
  index_seen (x ∷ xs) zero d = refl
  index_seen (x ∷ xs) (suc n) d = index_seen xs n d

  under_seen : (s : Stack M) → under_top (map_stack f s) ≡ f (under_top s)
  under_seen s = ap (λ n. slice_index_or (map f s.under) (n - 1) (f s.top)) (length-map s.under f) ∙ index_seen s.under (length s.under - 1) s.top

all_at : {M : Type 0} (P : M → Type 0) (xs : List M) (n : ℕ) (d : M) → AllByRecursion P xs → P d → P (slice_index_or xs n d)
all_at P [] n d h p = p
all_at P (x ∷ xs) zero d h p = h.0
all_at P (x ∷ xs) (suc n) d h p = all_at P xs n d h.1 p

-- usage is in the same sessions as the worlds
pub same_sessions : (a : Stack ((RowsMap × IndexesMap) × ObjectsMap)) (b : Stack (List (Name × Share))) → Alike a b → length b.under ≡ length (later (map_stack world_of (map_stack shown_maps (zip_stacks a b)))).under
same_sessions a b h =
    let pairs = (zip_stacks a b).under in
    ap length (sym (seconds-zip a.under b.under (sym h.under))) ∙ length-map pairs (λ m. m.1) ∙ sym (length-map pairs shown_maps) ∙ sym (length-map (map shown_maps pairs) world_of)

-- usage is that of the parts
usage_under : (a : Stack ((RowsMap × IndexesMap) × ObjectsMap)) (b : Stack (List (Name × Share))) → Alike a b → under_top b ≡ (under_top (map_stack shown_maps (zip_stacks a b))).usage
usage_under a b h =
    let second : under_top (map_stack (λ m. m.1) (zip_stacks a b)) ≡ under_top b = ap (λ maps. slice_index_or maps (length maps - 1) b.top) (seconds-zip a.under b.under (sym h.under)) in
    sym second ∙ under_seen (λ m. m.1) (zip_stacks a b) ∙ sym (ap (λ m. m.usage) (under_seen shown_maps (zip_stacks a b)))

-- it is what the world is billed, and its quotas are the world's
pub used_under : (a : Stack ((RowsMap × IndexesMap) × ObjectsMap)) (b : Stack (List (Name × Share))) → Alike a b → Throughout IsBilled (map_stack shown_maps (zip_stacks a b)) →
    (account : Name) → used_of (find name_order account (under_top b)) ≡ used (under_top (later (map_stack world_of (map_stack shown_maps (zip_stacks a b))))) account
used_under a b h all account =
    let s = map_stack shown_maps (zip_stacks a b) in
    let is = all_at IsBilled s.under (length s.under - 1) s.top all.under all.top in
    ap (λ m. used_of (find name_order account m)) (usage_under a b h) ∙ sym (is.billed account) ∙ ap (λ w. used w account) (sym (under_seen world_of s))

pub quotas_under : (a : Stack ((RowsMap × IndexesMap) × ObjectsMap)) (b : Stack (List (Name × Share))) → Alike a b →
    quotas_of (under_top b) ≡ (under_top (later (map_stack world_of (map_stack shown_maps (zip_stacks a b))))).quotas
quotas_under a b h = ap quotas_of (usage_under a b h) ∙ ap (λ w. w.quotas) (sym (under_seen world_of (map_stack shown_maps (zip_stacks a b))))
