-- A row found by its primary key stands in its table's list.
use Rattle.std.proofs.Common.{◌≡◌, ℕ, ◌==◌, true, false, cond, [], ◌∷◌, Some, option_map, refl, ap, ◌∙◌, Less, Equal, Greater, is_eq}
use Rattle.std.specs.Ordering.{nat_cmp, ordering_then}
use Rattle.std.specs.Cmp.{unsigned_tied}
use Rattle.ante_undo.specs.Entries.{first_where}
use Rattle.ante_pack.specs.declared.names.TableKey.{TableKey}
use Rattle.ante_state.specs.Orders.{table_order}
use Rattle.ante_secidx.specs.Index.{Rows, index_of, index_row, key_and_payer, listed_key}

module _ {K : Type 0} where
  pub row_listed : (t : TableKey) (p : ℕ) (m : Rows K) → option_map key_and_payer (index_row t p m) ≡ option_map listed_key (first_where (λ pair. pair.1 == p) (index_of t m))
  row_listed t p [] = refl
  row_listed t p (e ∷ es) =
      let rest = row_listed t p es in
      elim (table_order e.0.table t) as (λ r. option_map key_and_payer (cond (is_eq (ordering_then r (nat_cmp e.0.primary p))) (Some e) (index_row t p es)) ≡ option_map listed_key (first_where (λ pair. pair.1 == p) (cond (is_eq r) (((e.0.key, e.0.primary), e.1) ∷ index_of t es) (index_of t es)))) [
        | Less ↦ rest
        | Equal ↦ ap (λ b. option_map key_and_payer (cond b (Some e) (index_row t p es))) (unsigned_tied e.0.primary p) ∙ (elim (e.0.primary == p) as (λ b. option_map key_and_payer (cond b (Some e) (index_row t p es)) ≡ option_map listed_key (cond b (Some ((e.0.key, e.0.primary), e.1)) (first_where (λ pair. pair.1 == p) (index_of t es)))) [
          | true ↦ refl
          | false ↦ rest
        ])
        | Greater ↦ rest
      ]
