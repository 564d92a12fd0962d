-- Queries and their answers.
use Rattle.std.specs.Prelude.{[], ◌∷◌, codes}
use Rattle.serde_json.specs.Data.{Data}
use Rattle.ante_json_text.specs.Values.{number_value, hex_value, name_value, object_value}
use Rattle.ante_views.specs.declared.queries.ViewQuery.{ViewQuery}
use Rattle.ante_views.specs.declared.queries.ViewQuery.TheVariants as queries
use Rattle.ante_views.specs.declared.answers.PermissionView.{PermissionView}
use Rattle.ante_views.specs.declared.answers.ScopeView.{ScopeView}

-- queries that the state answers, and not the chain
abbrev pub AsksState : ViewQuery → Type 0
AsksState queries.Info = ⊥
AsksState (queries.Block block) = ⊥
AsksState (queries.Account name) = Unit {0}
AsksState (queries.Rows code scope table lower upper limit reverse) = Unit {0}
AsksState (queries.Scopes code table lower limit) = Unit {0}

unfoldable pub permission_value : PermissionView → Data
permission_value p = object_value (
    (codes "packed_auth", hex_value p.packed_auth)
    ∷ (codes "parent", name_value p.parent)
    ∷ (codes "perm_name", name_value p.perm_name)
    ∷ [])

unfoldable pub scope_value : ScopeView → Data
scope_value s = object_value (
    (codes "code", name_value s.code)
    ∷ (codes "count", number_value s.count)
    ∷ (codes "payer", name_value s.payer)
    ∷ (codes "scope", name_value s.scope)
    ∷ (codes "table", name_value s.table)
    ∷ [])
