-- A walk from key to key that marks a key now and then, to find out where it goes round: what it has seen, and what follows.
use Rattle.std.proofs.Common.{◌≡◌, ℕ, zero, suc, ◌+◌, ◌≤◌, ◌⊎◌, inl, inr, Bool, true, false, ◌||◌, true≢false, List, length, Option, Some, None, refl, sym, ap, ◌∙◌, arith}
use Rattle.std.specs.List.{list_any}
use Rattle.ante_authz.proofs.Walks.{Onward, Comes, settled, either_true, right_true}

module _ {K : Type 0} where
  abbrev pub if_onward : Option K → (K → Bool) → Bool
  if_onward None go = false
  if_onward (Some p) go = go p

  if_more : (o : Option K) (go more : K → Bool) → ((p : K) → go p ≡ true → more p ≡ true) → if_onward o go ≡ true → if_onward o more ≡ true
  if_more None go more h g = g
  if_more (Some p) go more h g = h p g

module _ {K : Type 0} (step : K → Option K) (hit : K → Bool) where
  -- what is looked for is so many steps away at most
  abbrev pub within : (most : ℕ) → K → Bool
  within zero x = hit x
  within (suc most) x = hit x || if_onward (step x) (within most)

  more : (a b : ℕ) (x : K) → a ≤ b → within a x ≡ true → within b x ≡ true
  more zero zero x le h = h
  more zero (suc b) x le h = ap (λ z. z || if_onward (step x) (within b)) h
  more (suc a) zero x le h = absurd (omega (arith, le))
  more (suc a) (suc b) x le h = on (λ p g. more a b p (omega (arith, le)) g) (either_true _ _ h)
    where
      on : ((p : K) → within a p ≡ true → within b p ≡ true) → (hit x ≡ true) ⊎ (if_onward (step x) (within a) ≡ true) → within (suc b) x ≡ true
      on rest (inl g) = ap (λ z. z || if_onward (step x) (within b)) g
      on rest (inr g) = right_true _ _ (if_more (step x) _ _ rest g)

  less : (a b : ℕ) (x : K) → a ≤ b → within b x ≡ false → within a x ≡ false
  less a b x le h = on (within a x) refl
    where
      on : (r : Bool) → within a x ≡ r → r ≡ false
      on true e = absurd (true≢false (sym (more a b x le e) ∙ h))
      on false e = refl

  onward_from : (n : ℕ) (x y : K) → hit x ≡ false → step x ≡ Some y → within (suc n) x ≡ within n y
  onward_from n x y miss is = ap (λ z. z || if_onward (step x) (within n)) miss ∙ ap (λ o. if_onward o (within n)) is

  -- from `first` the walk has come to `here` after so many steps, and past `mark`; before `here` nothing was hit
  pub record Walked (first mark here : K) (steps : ℕ) : Type 0 where
    pub led : (n : ℕ) → within (n + steps) first ≡ within n here
    pub since : ℕ
    pub marked : (n : ℕ) → within (n + since) mark ≡ within n here
    pub unseen : hit mark ≡ true → hit here ≡ true

  pub begun : (first : K) → Walked first first first 0
  begun first = record { led = λ n. ap (λ k. within k first) (omega arith); since = 0; marked = λ n. ap (λ k. within k first) (omega arith); unseen = λ h. h }

  pub missed : (first mark here : K) (steps : ℕ) → Walked first mark here steps → hit here ≡ false → hit mark ≡ false
  missed first mark here steps w miss = on (hit mark) refl
    where
      on : (r : Bool) → hit mark ≡ r → r ≡ false
      on true e = absurd (true≢false (sym (w.unseen e) ∙ miss))
      on false e = refl

  pub stepped : (first mark here next : K) (steps after : ℕ) → after ≡ steps + 1 → Walked first mark here steps → hit here ≡ false → step here ≡ Some next → Walked first mark next after
  stepped first mark here next steps after e w miss is = record {
    led = λ n. ap (λ k. within k first) (omega (arith, e)) ∙ w.led (suc n) ∙ onward_from n here next miss is;
    since = suc w.since;
    marked = λ n. ap (λ k. within k mark) (omega arith) ∙ w.marked (suc n) ∙ onward_from n here next miss is;
    unseen = λ h. absurd (true≢false (sym h ∙ missed first mark here steps w miss));
  }

  pub marking : (first mark here : K) (steps : ℕ) → Walked first mark here steps → Walked first here here steps
  marking first mark here steps w = record { led = w.led; since = 0; marked = λ n. ap (λ k. within k here) (omega arith); unseen = λ h. h }

  -- what isn't reached from here isn't reached at all
  pub never : (first mark here : K) (steps : ℕ) → Walked first mark here steps → ((n : ℕ) → within n here ≡ false) → (most : ℕ) → within most first ≡ false
  never first mark here steps w nowhere most = less most (most + steps) first (omega arith) (w.led most ∙ nowhere most)

  pub ended : (here : K) → hit here ≡ false → step here ≡ None → (n : ℕ) → within n here ≡ false
  ended here miss is zero = miss
  ended here miss is (suc n) = ap (λ z. z || if_onward (step here) (within n)) miss ∙ ap (λ o. if_onward o (within n)) is

  far : (mark : K) (round : ℕ) → hit mark ≡ false → ((n : ℕ) → within (n + suc round) mark ≡ within n mark) → (n : ℕ) → (m : ℕ) × (n ≤ m) × (within m mark ≡ false)
  far mark round miss again zero = (0, omega arith, miss)
  far mark round miss again (suc n) = let f = far mark round miss again n in (f.0 + suc round, omega (arith, f.1), again f.0 ∙ f.2)

  -- a walk that comes back to its mark goes round, and hits nothing
  pub rounded : (mark : K) (round : ℕ) → hit mark ≡ false → ((n : ℕ) → within (n + suc round) mark ≡ within n mark) → (n : ℕ) → within n mark ≡ false
  rounded mark round miss again n = let f = far mark round miss again n in less n f.0 mark f.1 f.2

  pub went_round : (first mark here next : K) (steps : ℕ) → Walked first mark here steps → hit here ≡ false → step here ≡ Some next → next ≡ mark → (most : ℕ) → within most first ≡ false
  went_round first mark here next steps w miss is back =
      let on = stepped first mark here next steps (steps + 1) refl w miss is in
      let unhit = missed first mark here steps w miss in
      never first mark next (steps + 1) on (λ n. ap (within n) back ∙ rounded mark w.since unhit (λ n. ap (λ k. within k mark) (omega arith) ∙ w.marked (suc n) ∙ onward_from n here next miss is ∙ ap (within n) back) n)

  module _ (same : K → K → Bool) (exact : (a b : K) → same a b ≡ true → a ≡ b) (itself : (a : K) → same a a ≡ true) (keys : List K) (known : (x y : K) → step x ≡ Some y → list_any (same x) keys ≡ true) where
    comes : (most : ℕ) (x : K) → within most x ≡ true → Comes same exact itself step hit keys most x
    comes zero x h = h
    comes (suc most) x h = on (comes most) (either_true _ _ h)
      where
        by : ((y : K) → within most y ≡ true → Comes same exact itself step hit keys most y) → (o : Option K) → step x ≡ o → if_onward o (within most) ≡ true → (list_any (same x) keys ≡ true) × Onward o (Comes same exact itself step hit keys most)
        by rest None e g = absurd (true≢false (sym g))
        by rest (Some y) e g = (known x y e, rest y g)

        on : ((y : K) → within most y ≡ true → Comes same exact itself step hit keys most y) → (hit x ≡ true) ⊎ (if_onward (step x) (within most) ≡ true) → Comes same exact itself step hit keys (suc most) x
        on rest (inl g) = inl g
        on rest (inr g) = inr (by rest (step x) refl g)

    goes : (most : ℕ) (x : K) → Comes same exact itself step hit keys most x → within most x ≡ true
    goes zero x h = h
    goes (suc most) x (inl h) = ap (λ z. z || if_onward (step x) (within most)) h
    goes (suc most) x (inr h) = right_true _ _ (by (goes most) (step x) h.1)
      where
        by : ((y : K) → Comes same exact itself step hit keys most y → within most y ≡ true) → (o : Option K) → Onward o (Comes same exact itself step hit keys most) → if_onward o (within most) ≡ true
        by rest None g = absurd g
        by rest (Some y) g = rest y g

    enough : (most : ℕ) (x : K) → within most x ≡ true → within (length keys) x ≡ true
    enough most x h = goes (length keys) x (settled same exact itself step hit (length keys) keys (omega arith) most x (comes most x h))

    -- a hit, after however many steps, is one that is near
    pub arrived : (first mark here : K) (steps : ℕ) → Walked first mark here steps → hit here ≡ true → within (length keys) first ≡ true
    arrived first mark here steps w h = enough steps first (ap (λ k. within k first) (omega arith) ∙ w.led 0 ∙ h)

    -- after as many steps as there are keys nothing is hit that isn't hit now
    pub exhausted : (first mark here : K) (steps : ℕ) → length keys ≤ steps → Walked first mark here steps → hit here ≡ within (length keys) first
    exhausted first mark here steps le w = on (hit here) refl
      where
        on : (r : Bool) → hit here ≡ r → r ≡ within (length keys) first
        on true e = sym (arrived first mark here steps w e)
        on false e = sym (less (length keys) steps first le (ap (λ k. within k first) (omega arith) ∙ w.led 0 ∙ e))
