-- The place of the row that a table's list has with a primary key, and who pays for it.
use Rattle.std.proofs.Common.{◌≡◌, ℕ, ◌==◌, true, false, true≢false, cond, List, [], ◌∷◌, Option, Some, None, is_some, option_map, refl, ap, arith}
use Rattle.ante_undo.specs.Entries.{first_where}
use Rattle.ante_pack.specs.declared.names.Name.{Name}
use Rattle.ante_secidx.specs.Index.{listed_key}

is_same : (n p : ℕ) → (n == p) ≡ true → p ≡ n
is_same n p h = grind arith

module _ {K : Type 0} where
  abbrev key_or : K → Option (K × Name) → K
  key_or k None = k
  key_or k (Some row) = row.0

  pub found_place : (p : ℕ) (m : List ((K × ℕ) × Name)) (row : K × Name) → Some row ≡ option_map listed_key (first_where (λ pair. pair.1 == p) m) →
      Some (row.0, p) ≡ option_map (λ e. e.0) (first_where (λ pair. pair.1 == p) m)
  found_place p [] row h = absurd (true≢false (ap is_some h))
  found_place p (e ∷ es) row h =
      elim (e.0.1 == p) as (λ b. (e.0.1 == p) ≡ b → Some row ≡ option_map listed_key (cond b (Some e) (first_where (λ pair. pair.1 == p) es)) → Some (row.0, p) ≡ option_map (λ e. e.0) (cond b (Some e) (first_where (λ pair. pair.1 == p) es))) [
        | true ↦ λ is q. let key : row.0 ≡ e.0.0 = ap (key_or row.0) q in λ i. Some (key i, is_same e.0.1 p is i)
        | false ↦ λ is q. found_place p es row q
      ] refl h

  payer_of : (o : Option ((K × ℕ) × Name)) (row : K × Name) → Some row ≡ option_map listed_key o → Some row.1 ≡ option_map (λ e. e.1) o
  payer_of None row h = absurd (true≢false (ap is_some h))
  payer_of (Some e) row h = ap (option_map (λ r. r.1)) h

  -- and who pays for it
  pub found_payer : (p : ℕ) (m : List ((K × ℕ) × Name)) (row : K × Name) → Some row ≡ option_map listed_key (first_where (λ pair. pair.1 == p) m) →
      Some row.1 ≡ option_map (λ e. e.1) (first_where (λ pair. pair.1 == p) m)
  found_payer p m row h = payer_of (first_where (λ pair. pair.1 == p) m) row h
