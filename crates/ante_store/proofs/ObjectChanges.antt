-- Where the changes of the chain's own objects lead.
use Rattle.std.proofs.Common.{ℕ, Bool, cond, List, [], Option, Some, None, refl, arith}
use Rattle.std.specs.Ordering.{nat_cmp}
use Rattle.std.specs.FinMap.Entries.{find}
use Rattle.std.proofs.lemmas.Cmp.{nat_cmp_total}
use Rattle.ante_undo.specs.Entries.{changed}
use Rattle.ante_undo.proofs.Entries.{sorted_changed}
use Rattle.ante_pack.specs.declared.names.Name.{Name}
use Rattle.ante_pack.specs.declared.authority.Level.{Level}
use Rattle.ante_state.specs.Orders.{name_order, level_order, link_order, recent_order}
use Rattle.ante_state.specs.declared.objects.AccountRow.{AccountRow}
use Rattle.ante_state.specs.declared.objects.PermissionRow.{PermissionRow}
use Rattle.ante_state.specs.declared.objects.LinkKey.{LinkKey}
use Rattle.ante_types.specs.World.{account_bills, permission_bills, link_bills}
use Rattle.ante_objects.specs.Objects.{with_accounts, with_permissions, with_links, with_recent, with_references}
use Rattle.ante_store.specs.declared.change.Change.TheVariants as change
use Rattle.ante_store.specs.Bills.{bills_at}
use Rattle.ante_store.specs.declared.parts.Maps.{Maps}
use Rattle.ante_store.specs.Worlds.{world_of, IsBilled}
use Rattle.ante_store.specs.Applied.{in_objects}
use Rattle.ante_store.proofs.Billed.{weighs, entry_rebills, entry_within}
use Rattle.ante_store.proofs.KeyOrders.{names_total, names_exact, levels_total, levels_exact, links_total, links_exact, recent_total}
use Rattle.ante_store.proofs.Made.{Leads}

pub account_leads : (name : Name) (row : AccountRow) (old : Maps) → IsBilled old →
    Leads (change.SetAccount name row) (bills_at account_bills name (find name_order name old.objects.accounts)) (account_bills (name, row)) old
    (in_objects (with_accounts (changed name_order old.objects.accounts name (Some row))) old)
account_leads name row old is =
    let x : Maps = in_objects (with_accounts (changed name_order old.objects.accounts name (Some row))) old in
    record {
      placed = refl;
      room = refl;
      usage = refl;
      world = refl;
      rebills = λ part. omega (arith, weighs part (world_of old), weighs part (world_of x), entry_rebills name_order names_total names_exact account_bills part old.objects.accounts name (Some row) is.kept.objects.accounts);
      within = λ part. omega (arith, weighs part (world_of old), entry_within name_order names_total names_exact account_bills part old.objects.accounts name);
      kept = record {
        objects = record {
          accounts = sorted_changed name_order names_total old.objects.accounts name (Some row) is.kept.objects.accounts;
          permissions = is.kept.objects.permissions;
          links = is.kept.objects.links;
          recent = is.kept.objects.recent;
          references = is.kept.objects.references;
        };
        rows = is.kept.rows;
      };
    }

pub permission_leads : (level : Level) (row : Option PermissionRow) (old : Maps) → IsBilled old →
    Leads (change.SetPermission level row) (bills_at permission_bills level (find level_order level old.objects.permissions)) (bills_at permission_bills level row) old
    (in_objects (with_permissions (changed level_order old.objects.permissions level row)) old)
permission_leads level row old is =
    let x : Maps = in_objects (with_permissions (changed level_order old.objects.permissions level row)) old in
    record {
      placed = refl;
      room = refl;
      usage = refl;
      world = refl;
      rebills = λ part. omega (arith, weighs part (world_of old), weighs part (world_of x), entry_rebills level_order levels_total levels_exact permission_bills part old.objects.permissions level row is.kept.objects.permissions);
      within = λ part. omega (arith, weighs part (world_of old), entry_within level_order levels_total levels_exact permission_bills part old.objects.permissions level);
      kept = record {
        objects = record {
          accounts = is.kept.objects.accounts;
          permissions = sorted_changed level_order levels_total old.objects.permissions level row is.kept.objects.permissions;
          links = is.kept.objects.links;
          recent = is.kept.objects.recent;
          references = is.kept.objects.references;
        };
        rows = is.kept.rows;
      };
    }

pub link_leads : (key : LinkKey) (requirement : Option Name) (old : Maps) → IsBilled old →
    Leads (change.SetLink key.account key.code key.action requirement) (bills_at link_bills key (find link_order key old.objects.links)) (bills_at link_bills key requirement) old
    (in_objects (with_links (changed link_order old.objects.links key requirement)) old)
link_leads key requirement old is =
    let x : Maps = in_objects (with_links (changed link_order old.objects.links key requirement)) old in
    record {
      placed = refl;
      room = refl;
      usage = refl;
      world = refl;
      rebills = λ part. omega (arith, weighs part (world_of old), weighs part (world_of x), entry_rebills link_order links_total links_exact link_bills part old.objects.links key requirement is.kept.objects.links);
      within = λ part. omega (arith, weighs part (world_of old), entry_within link_order links_total links_exact link_bills part old.objects.links key);
      kept = record {
        objects = record {
          accounts = is.kept.objects.accounts;
          permissions = is.kept.objects.permissions;
          links = sorted_changed link_order links_total old.objects.links key requirement is.kept.objects.links;
          recent = is.kept.objects.recent;
          references = is.kept.objects.references;
        };
        rows = is.kept.rows;
      };
    }

pub recent_leads : (expiration : ℕ) (id : List ℕ) (there : Bool) (old : Maps) → IsBilled old →
    Leads (change.SetRecent expiration id there) [] [] old
    (in_objects (with_recent (changed recent_order old.objects.recent (record { expiration = expiration; id = id }) (cond there (Some tt) None))) old)
recent_leads expiration id there old is = record {
  placed = refl;
  room = refl;
  usage = refl;
  world = refl;
  rebills = λ part. refl;
  within = λ part. omega arith;
  kept = record {
    objects = record {
      accounts = is.kept.objects.accounts;
      permissions = is.kept.objects.permissions;
      links = is.kept.objects.links;
      recent = sorted_changed recent_order recent_total old.objects.recent (record { expiration = expiration; id = id }) (cond there (Some tt) None) is.kept.objects.recent;
      references = is.kept.objects.references;
    };
    rows = is.kept.rows;
  };
}

pub reference_leads : (low : ℕ) (id : List ℕ) (old : Maps) → IsBilled old →
    Leads (change.SetReference low id) [] [] old
    (in_objects (with_references (changed nat_cmp old.objects.references low (Some id))) old)
reference_leads low id old is = record {
  placed = refl;
  room = refl;
  usage = refl;
  world = refl;
  rebills = λ part. refl;
  within = λ part. omega arith;
  kept = record {
    objects = record {
      accounts = is.kept.objects.accounts;
      permissions = is.kept.objects.permissions;
      links = is.kept.objects.links;
      recent = is.kept.objects.recent;
      references = sorted_changed nat_cmp nat_cmp_total old.objects.references low (Some id) is.kept.objects.references;
    };
    rows = is.kept.rows;
  };
}
