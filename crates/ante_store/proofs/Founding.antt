-- The changes that build genesis put each entry after all that stand there.
use Rattle.std.proofs.Common.{◌≡◌, ℕ, ◌+◌, ◌<◌, ◌&&◌, Bool, true, false, T, List, [], ◌∷◌, ◌++◌, length, take, drop, slice_index_or, Some, refl, sym, ap, subst, ◌∙◌, append_assoc, arith, Ordering, Less}
use Rattle.std.specs.Ordering.{ordering_reverse, ordering_then}
use Rattle.std.specs.Cmp.{IsTotalOrder}
use Rattle.std.specs.List.{flat_map, AllByRecursion}
use Rattle.std.specs.FinMap.Entries.{is_sorted, below_all, by_order}
use Rattle.std.proofs.lemmas.List.{take-append-drop, map-append}
use Rattle.std.proofs.lemmas.Grind.{flat_map-append}
use Rattle.std.proofs.lemmas.Cmp.{tied_itself}
use Rattle.ante_undo.specs.Entries.{with_entry}
use Rattle.ante_undo.proofs.Entries.{both, first, second, less}
use Rattle.ante_undo.proofs.Lists.{all_append}
use Rattle.ante_pack.specs.declared.names.Name.{Name}
use Rattle.ante_pack.specs.declared.authority.Level.{Level}
use Rattle.ante_pack.specs.Names.{number_of, name_number}
use Rattle.ante_state.specs.Orders.{name_order, level_order}
use Rattle.ante_state.specs.declared.objects.AccountRow.{AccountRow}
use Rattle.ante_types.specs.declared.chain.GenesisAccount.{GenesisAccount}
use Rattle.ante_store.specs.declared.change.Change.TheVariants as change
use Rattle.ante_store.specs.Changes.{after}
use Rattle.ante_store.specs.Applied.{IsMade}
use Rattle.ante_types.specs.GenesisWorld.{owner, active, no_name, account_of, permission_of, permissions_of, accounts_of, world_with}
use Rattle.ante_store.specs.Genesis.{joined, Rises, Shows}
use Rattle.ante_store.specs.declared.parts.Maps.{Maps}
use Rattle.ante_store.specs.Shown.{no_maps}
use Rattle.ante_store.specs.Worlds.{world_of, IsBilled}
use Rattle.ante_store.proofs.KeyOrders.{names_total, levels_total}
use Rattle.ante_store.proofs.Rebilled.{take_next}

module _ {K V : Type 0} (cmp : K → K → Ordering) where
  -- each of these keys is below the key
  abbrev pub AreBelow : K → List (K × V) → Type 0
  AreBelow k es = AllByRecursion (λ e. cmp e.0 k ≡ Less) es

  last_above : (x : K) (es : List (K × V)) (y : K × V) → T (below_all cmp x (es ++ y ∷ [])) → cmp x y.0 ≡ Less
  last_above x [] y h = less _ (first _ _ h)
  last_above x (e ∷ es) y h = last_above x es y (second _ _ h)

  -- the last key of a sorted map is above all others
  all_below : (es : List (K × V)) (y : K × V) → T (is_sorted cmp (es ++ y ∷ [])) → AreBelow y.0 es
  all_below [] y h = tt
  all_below (e ∷ es) y h = (last_above e.0 es y (first _ _ h), all_below es y (second _ _ h))

  front_below : (x : K) (es fs : List (K × V)) → T (below_all cmp x (es ++ fs)) → T (below_all cmp x es)
  front_below x [] fs h = tt
  front_below x (e ∷ es) fs h = both _ _ (first _ _ h) (front_below x es fs (second _ _ h))

  front_sorted : (es fs : List (K × V)) → T (is_sorted cmp (es ++ fs)) → T (is_sorted cmp es)
  front_sorted [] fs h = tt
  front_sorted (e ∷ es) fs h = both _ _ (front_below e.0 es fs (first _ _ h)) (front_sorted es fs (second _ _ h))

  module _ (o : IsTotalOrder cmp) where
    -- an entry above all others is put at the end
    put_last : (k : K) (v : V) (es : List (K × V)) → AreBelow k es → with_entry cmp k v es ≡ es ++ (k, v) ∷ []
    put_last k v [] h = refl
    put_last k v (e ∷ es) h =
        ap (λ r. by_order r ((k, v) ∷ e ∷ es) ((k, v) ∷ es) (e ∷ with_entry cmp k v es)) (o.antisymm k e.0 ∙ ap ordering_reverse h.0)
        ∙ ap (λ (t : List (K × V)). e ∷ t) (put_last k v es h.1)

-- the permissions of accounts below another are below its permissions
permissions_below : (accounts : List GenesisAccount) (k p : Name) → AreBelow name_order k (accounts_of accounts) → AreBelow level_order (record { actor = k; permission = p }) (flat_map permissions_of accounts)
permissions_below [] k p h = tt
permissions_below (a ∷ accounts) k p h =
    let here : (q : Name) → level_order (record { actor = a.name; permission = q }) (record { actor = k; permission = p }) ≡ Less = λ q. ap (λ r. ordering_then r (name_order q p)) h.0 in
    (here active, (here owner, permissions_below accounts k p h.1))

-- one more account above all others, by the three changes
pub one_joined : (accounts : List GenesisAccount) (a : GenesisAccount) → AreBelow name_order a.name (accounts_of accounts) → joined a (world_with accounts) ≡ world_with (accounts ++ a ∷ [])
unfolding name_number number_of
one_joined accounts a below =
    let before = flat_map permissions_of accounts in
    let lower = permission_of a.name active owner a.active in
    let upper = permission_of a.name owner no_name a.owner in
    let names = put_last name_order names_total a.name (account_of a).1 (accounts_of accounts) below ∙ sym (map-append account_of accounts (a ∷ [])) in
    let between : level_order lower.0 upper.0 ≡ Less = ap (λ r. ordering_then r (name_order active owner)) (tied_itself names_total a.name) in
    let levels =
    ap (with_entry level_order upper.0 upper.1) (put_last level_order levels_total lower.0 lower.1 before (permissions_below accounts a.name active below))
    ∙ put_last level_order levels_total upper.0 upper.1 (before ++ lower ∷ []) (all_append _ before (lower ∷ []) (permissions_below accounts a.name owner below) (between, tt))
    ∙ append_assoc before (lower ∷ []) (upper ∷ [])
    ∙ sym (flat_map-append permissions_of accounts (a ∷ [])) in
    λ i. record (world_with accounts) { accounts = names i; permissions = levels i }

-- the next account is above those before it
pub next_above : (accounts : List GenesisAccount) (i : ℕ) (d : GenesisAccount) → i < length accounts → Rises accounts → AreBelow name_order (slice_index_or accounts i d).name (accounts_of (take i accounts))
next_above accounts i d lt rises =
    let a = slice_index_or accounts i d in
    let front : T (is_sorted name_order (accounts_of (take (i + 1) accounts))) =
    front_sorted name_order (accounts_of (take (i + 1) accounts)) (accounts_of (drop (i + 1) accounts))
    (subst (λ (t : List (Name × AccountRow)). T (is_sorted name_order t)) (sym (ap accounts_of (take-append-drop (i + 1) accounts)) ∙ map-append account_of (take (i + 1) accounts) (drop (i + 1) accounts)) rises) in
    all_below name_order (accounts_of (take i accounts)) (account_of a)
    (subst (λ (t : List (Name × AccountRow)). T (is_sorted name_order t)) (ap accounts_of (take_next accounts i d lt) ∙ map-append account_of (take i accounts) (a ∷ [])) front)

-- one turn of the loop over the accounts
pub next_shown : (accounts : List GenesisAccount) (i : ℕ) (d : GenesisAccount) (m m2 : Maps) → i < length accounts → Rises accounts → Shows (take i accounts) m → world_of m2 ≡ joined (slice_index_or accounts i d) (world_of m) → IsBilled m2 → Shows (take (i + 1) accounts) m2
next_shown accounts i d m m2 lt rises shows world billed = record {
  world = world ∙ ap (joined (slice_index_or accounts i d)) shows.world ∙ one_joined (take i accounts) (slice_index_or accounts i d) (next_above accounts i d lt rises) ∙ ap world_with (sym (take_next accounts i d lt));
  billed = billed;
}

pub empty_shown : Shows [] no_maps
empty_shown = record {
  world = refl;
  billed = record {
    kept = record {
      objects = record { accounts = tt; permissions = tt; links = tt; recent = tt; references = tt };
      rows = record {
        tables = tt;
        rows = tt;
        indexes = record { index64 = tt; index128 = tt; index256 = tt };
        counted = λ table. refl;
        some = λ table. tt;
      };
    };
    shares = tt;
    billed = λ account. refl;
    total = refl;
    small = omega arith;
  };
}

-- the three changes, one after another
pub all_joined : (a : GenesisAccount) (row : AccountRow) (lower upper : Level) (m m1 m2 m3 : Maps) → row ≡ (account_of a).1 → lower ≡ record { actor = a.name; permission = active } → upper ≡ record { actor = a.name; permission = owner } → IsMade (change.SetAccount a.name row) m m1
    → IsMade (change.SetPermission lower (Some (record { parent = owner; authority = a.active }))) m1 m2 → IsMade (change.SetPermission upper (Some (record { parent = no_name; authority = a.owner }))) m2 m3 → world_of m3 ≡ joined a (world_of m)
all_joined a row lower upper m m1 m2 m3 is lower_is upper_is first second third =
    third.world
    ∙ ap (λ level. after (change.SetPermission level (Some (record { parent = no_name; authority = a.owner }))) (world_of m2)) upper_is
    ∙ ap (after (change.SetPermission (record { actor = a.name; permission = owner }) (Some (record { parent = no_name; authority = a.owner }))))
    (second.world
    ∙ ap (λ level. after (change.SetPermission level (Some (record { parent = owner; authority = a.active }))) (world_of m1)) lower_is
    ∙ ap (after (change.SetPermission (record { actor = a.name; permission = active }) (Some (record { parent = owner; authority = a.active }))))
    (first.world ∙ ap (λ row. after (change.SetAccount a.name row) (world_of m)) is))
