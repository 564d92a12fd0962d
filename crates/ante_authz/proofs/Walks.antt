-- A walk from key to key that comes to a goal comes there within as many steps as there are keys to step from.
use Rattle.std.proofs.Common.{◌≡◌, ℕ, zero, suc, ◌<◌, ◌≤◌, ◌⊎◌, inl, inr, Bool, true, false, ◌||◌, true≢false, if◌then◌else◌, List, [], ◌∷◌, length, Option, Some, None, refl, sym, ap, subst, ◌∙◌, arith}
use Rattle.std.specs.List.{list_any}

pub either_true : (a b : Bool) → (a || b) ≡ true → (a ≡ true) ⊎ (b ≡ true)
either_true true b h = inl refl
either_true false b h = inr h

pub right_true : (a b : Bool) → b ≡ true → (a || b) ≡ true
right_true true b h = refl
right_true false b h = h

module _ {K : Type 0} where
  abbrev pub Onward : Option K → (K → Type 0) → Type 0
  Onward None G = ⊥
  Onward (Some p) G = G p

  pub onward : (o : Option K) (G H : K → Type 0) → ((p : K) → G p → H p) → Onward o G → Onward o H
  onward None G H go h = h
  onward (Some p) G H go h = go p h

  pub onward_either : (o : Option K) (G H : K → Type 0) (C : Type 0) → ((p : K) → G p → H p ⊎ C) → Onward o G → Onward o H ⊎ C
  onward_either None G H C go h = absurd h
  onward_either (Some p) G H C go h = go p h

module _ {K : Type 0} (same : K → K → Bool) where
  abbrev pub without : K → List K → List K
  without x [] = []
  without x (k ∷ ks) = if same k x then without x ks else (k ∷ without x ks)

  loose : (x y : K) (keys : List K) → list_any (same y) (without x keys) ≡ true → list_any (same y) keys ≡ true
  loose x y [] h = h
  loose x y (k ∷ ks) h = on (loose x y ks) (same k x) h
    where
      on : (list_any (same y) (without x ks) ≡ true → list_any (same y) ks ≡ true) → (b : Bool) → list_any (same y) (if b then without x ks else (k ∷ without x ks)) ≡ true → list_any (same y) (k ∷ ks) ≡ true
      on rest true g = right_true (same y k) _ (rest g)
      on rest false g = ends (either_true (same y k) _ g)
        where
          ends : (same y k ≡ true) ⊎ (list_any (same y) (without x ks) ≡ true) → list_any (same y) (k ∷ ks) ≡ true
          ends (inl e) = ap (λ b. b || list_any (same y) ks) e
          ends (inr e) = right_true (same y k) _ (rest e)

  no_longer : (x : K) (keys : List K) → length (without x keys) ≤ length keys
  no_longer x [] = omega arith
  no_longer x (k ∷ ks) = on (no_longer x ks) (same k x)
    where
      on : length (without x ks) ≤ length ks → (b : Bool) → length (if b then without x ks else (k ∷ without x ks)) ≤ suc (length ks)
      on rest true = omega arith
      on rest false = omega arith

  -- keys that are the same are one
  module _ (exact : (a b : K) → same a b ≡ true → a ≡ b) (itself : (a : K) → same a a ≡ true) where
    kept : (x y : K) (keys : List K) → same y x ≡ false → list_any (same y) keys ≡ true → list_any (same y) (without x keys) ≡ true
    kept x y [] apart h = h
    kept x y (k ∷ ks) apart h = on (kept x y ks apart) (same k x) refl (either_true (same y k) (list_any (same y) ks) h)
      where
        on : (list_any (same y) ks ≡ true → list_any (same y) (without x ks) ≡ true) → (b : Bool) → same k x ≡ b → (same y k ≡ true) ⊎ (list_any (same y) ks ≡ true) → list_any (same y) (if b then without x ks else (k ∷ without x ks)) ≡ true
        on rest true e (inl g) = absurd (true≢false (sym e ∙ ap (λ z. same z x) (sym (exact y k g)) ∙ apart))
        on rest true e (inr g) = rest g
        on rest false e (inl g) = ap (λ b. b || list_any (same y) (without x ks)) g
        on rest false e (inr g) = right_true (same y k) _ (rest g)

    shorter : (x : K) (keys : List K) → list_any (same x) keys ≡ true → length (without x keys) < length keys
    shorter x [] h = absurd (true≢false (sym h))
    shorter x (k ∷ ks) h = on (shorter x ks) (same k x) refl (either_true (same x k) _ h)
      where
        on : (list_any (same x) ks ≡ true → length (without x ks) < length ks) → (b : Bool) → same k x ≡ b → (same x k ≡ true) ⊎ (list_any (same x) ks ≡ true) → length (if b then without x ks else (k ∷ without x ks)) < suc (length ks)
        on rest true e g = omega (arith, no_longer x ks)
        on rest false e (inl g) = absurd (true≢false (sym (itself x) ∙ ap (λ z. same z x) (exact x k g) ∙ e))
        on rest false e (inr g) = omega (arith, rest g)

    -- the step from a key, and what is looked for
    module _ (step : K → Option K) (hit : K → Bool) where
      -- What is looked for is so many steps away at most, each from one of the keys.
      abbrev pub Comes : List K → (most : ℕ) → K → Type 0
      Comes keys zero x = hit x ≡ true
      Comes keys (suc most) x = (hit x ≡ true) ⊎ ((list_any (same x) keys ≡ true) × Onward (step x) (Comes keys most))

      loosened : (x : K) (keys : List K) (most : ℕ) (y : K) → Comes (without x keys) most y → Comes keys most y
      loosened x keys zero y h = h
      loosened x keys (suc most) y (inl h) = inl h
      loosened x keys (suc most) y (inr h) = inr (loose x y keys h.0, onward (step y) _ _ (loosened x keys most) h.1)

      -- a walk does without the key, or comes to it
      split : (x : K) (keys : List K) (most : ℕ) (y : K) → Comes keys most y → Comes (without x keys) most y ⊎ ((j : ℕ) × (j ≤ most) × Comes keys j x)
      split x keys zero y h = inl h
      split x keys (suc most) y (inl h) = inl (inl h)
      split x keys (suc most) y (inr h) = on (same y x) refl (onward_either (step y) _ _ _ (split x keys most) h.1)
        where
          on : (b : Bool) → same y x ≡ b → Onward (step y) (Comes (without x keys) most) ⊎ ((j : ℕ) × (j ≤ most) × Comes keys j x) → Comes (without x keys) (suc most) y ⊎ ((j : ℕ) × (j ≤ suc most) × Comes keys j x)
          on true e g = inr (suc most, omega arith, subst (Comes keys (suc most)) (exact y x e) (inr h))
          on false e (inl g) = inl (inr (kept x y keys e h.0, g))
          on false e (inr g) = inr (g.0, omega (arith, g.1), g.2)

      abbrev pub Settles : ℕ → Type 0
      Settles most = (keys : List K) → length keys ≤ most → (steps : ℕ) (x : K) → Comes keys steps x → Comes keys most x

      one_more : (most : ℕ) → Settles most → (keys : List K) → length keys ≤ suc most → (bound steps : ℕ) → steps ≤ bound → (x : K) → Comes keys steps x → Comes keys (suc most) x
      one_more most less keys le bound zero within x h = inl h
      one_more most less keys le bound (suc steps) within x (inl h) = inl h
      one_more most less keys le zero (suc steps) within x (inr h) = absurd (omega (arith, within))
      one_more most less keys le (suc bound) (suc steps) within x (inr h) = on (one_more most less keys le bound) (onward_either (step x) _ _ _ (split x keys steps) h.1)
        where
          on : ((j : ℕ) → j ≤ bound → (x : K) → Comes keys j x → Comes keys (suc most) x) → Onward (step x) (Comes (without x keys) steps) ⊎ ((j : ℕ) × (j ≤ steps) × Comes keys j x) → Comes keys (suc most) x
          on again (inl g) = inr (h.0, onward (step x) _ _ (λ p c. loosened x keys most p (less (without x keys) (omega (arith, shorter x keys h.0)) steps p c)) g)
          on again (inr g) = again g.0 (omega (arith, g.1)) x g.2

      -- as many steps as there are keys are enough
      pub settled : (most : ℕ) → Settles most
      settled zero [] le zero x h = h
      settled zero [] le (suc steps) x (inl h) = h
      settled zero [] le (suc steps) x (inr h) = absurd (true≢false (sym h.0))
      settled zero (k ∷ ks) le steps x h = absurd (omega (arith, le))
      settled (suc most) keys le steps x h = one_more most (settled most) keys le steps steps (omega arith) x h
