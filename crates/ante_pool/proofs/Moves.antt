-- The steps, as the table asks for them.
use Rattle.std.proofs.Common.{◌≡◌, ℕ, ◌+◌, ◌-◌, ◌%◌, ◌^◌, ◌<◌, ◌≤◌, false, ◌==◌, List, [], ◌∷◌, slice_index, slice_set, None, Some, subst, sym, ap, refl, ◌∙◌, arith, mod-eq_of_lt}
use mathlib.Core.Option.{some, none, some-injective}
use lib.ListN.{get_elem?}
use prog.Atomic.{either}
use Rattle.atomic_table.specs.Table.{State, Me, Act, keeps, step, Allows, Splits, Joins, Valid, Final, Seen, homes_after, carried_after}
use Rattle.ante_pool.specs.declared.words.Known.{Known}
use Rattle.ante_pool.specs.Seats.{whole_share, kept_half, new_half, joined, spent, after_claim, after_look, after_ring}
use Rattle.ante_pool.specs.Standing.{Kept, Standing, Drew, Saw, Rang, claimed, looked, ringing}
use Rattle.ante_pool.specs.Pools.{IsTruth}
use Rattle.ante_pool.proofs.Totals.{set_at}
use Rattle.ante_pool.proofs.Steps.{draws, small, once_of, all_drawn, looks, rings_at, splits, merges, truth_silent, truth_rung}

-- what a step owes where the table's words are these
abbrev Goes : ℕ → State (Unit {0}) Known → ℕ → Me (Unit {0}) Known → ℕ → (ℕ → ℕ) → (ℕ → Me (Unit {0}) Known → Type 0) → List ℕ → Type 0
Goes jobs s id me i f then words = (w : Known) × (a : Act (Unit {0})) × Valid s.homes me.1 a
    × Standing jobs (record { words = slice_set words i (f (slice_index words i)); homes = homes_after s.homes me.1 a; views = slice_set s.views id w })
    × then (slice_index words i) (w, carried_after me.1 a)

pub may_draw : (jobs slots id : ℕ) (me : Me (Unit {0}) Known) → 0 < me.0.share → me.0.ended ≡ false → Allows (Standing jobs) slots id me 0 (λ n. (n + 1) % 2 ^ 64) (Drew (step slots 0 1 0 none) me)
may_draw jobs slots id me part going s h _ at _ =
    let w : Known = after_claim me.0 (claimed me.0.jobs h.0) in
    let kept : Kept jobs (h.0 + 1) h.1 (slice_set s.views id w) = draws jobs h.0 h.1 s.views id me.0 h.3 at part going in
    let fits : (h.0 + 1) % 2 ^ 64 ≡ h.0 + 1 = mod-eq_of_lt (small jobs h.0 h.1 s.views h.3) in
    subst (Goes jobs s id me 0 (λ n. (n + 1) % 2 ^ 64) (Drew (step slots 0 1 0 none) me)) (sym h.2) (
      w,
      keeps,
      tt,
      (h.0 + 1, h.1, ap (λ n. n ∷ h.1 ∷ []) fits, kept),
      (
        refl,
        once_of jobs (h.0 + 1) h.1 (slice_set s.views id w) id w kept (set_at s.views id me.0 w at),
        all_drawn jobs h.0 h.1 s.views id me.0 h.3 at,
      ),
    )

pub may_look : (jobs slots id : ℕ) (me : Me (Unit {0}) Known) → 0 < me.0.share → Allows (Standing jobs) slots id me 1 (λ n. n) (Saw (step slots 1 0 0 none) me)
may_look jobs slots id me part s h _ at _ =
    let w : Known = after_look me.0 (looked h.1) in
    let kept : Kept jobs h.0 h.1 (slice_set s.views id w) = looks jobs h.0 h.1 s.views id me.0 h.3 at part in
    subst (Goes jobs s id me 1 (λ n. n) (Saw (step slots 1 0 0 none) me)) (sym h.2) (
      w,
      keeps,
      tt,
      (h.0, h.1, refl, kept),
      (refl, (h.3.each id me.0 at).moments, once_of jobs h.0 h.1 (slice_set s.views id w) id w kept (set_at s.views id me.0 w at)),
    )

pub may_ring : (jobs slots id moment : ℕ) (me : Me (Unit {0}) Known) → 0 < me.0.share
    → Allows (Standing jobs) slots id me 1 (λ n. either (n == 0) (moment + 1) n) (Rang (step slots 1 0 (moment + 1) none) me)
may_ring jobs slots id moment me part s h _ at _ =
    let same : moment + 1 - 1 ≡ moment = omega arith in
    subst (Goes jobs s id me 1 (λ n. either (n == 0) (moment + 1) n) (Rang (step slots 1 0 (moment + 1) none) me)) (sym h.2) (
      after_ring me.0 moment (ringing h.1),
      keeps,
      tt,
      (h.0, either (h.1 == 0) (moment + 1) h.1, refl, rings_at jobs h.0 h.1 moment s.views id me.0 h.3 at part),
      (ap (λ n. (after_ring me.0 n (ringing h.1), me.1)) (sym same), (h.3.each id me.0 at).moments),
    )

pub may_split : (jobs id : ℕ) (v : Known) → 2 ≤ v.share → Splits (Standing jobs) id v (kept_half v) (new_half v)
may_split jobs id v part s h at = (h.0, h.1, h.2, splits jobs h.0 h.1 s.views id v h.3 at part)

pub may_join : (jobs id : ℕ) (v : Known) (other : ℕ) (w : Known) → 0 < v.share → Joins (Standing jobs) id v other w (joined v w) spent
may_join jobs id v other w part s h at apart at' = (h.0, h.1, h.2, merges jobs h.0 h.1 s.views id v other w h.3 at apart at' part)

-- the last state, with the words that were read
last : (jobs id drawn bell : ℕ) (v : Known) (words : List ℕ) (xs : List (Unit {0})) → Final (Seen (Standing jobs) id v) words xs
    → get_elem? words 0 ≡ some drawn → get_elem? words 1 ≡ some bell → (views : List Known) × Kept jobs drawn bell views × (get_elem? views id ≡ some v)
last jobs id drawn bell v words xs end first second =
    let h = end.1.0 in
    let same : words ≡ h.0 ∷ h.1 ∷ [] = sym end.2 ∙ h.2 in
    let d : h.0 ≡ drawn = some-injective h.0 drawn (sym (ap (λ (l : List ℕ). get_elem? l 0) same) ∙ first) in
    let b : h.1 ≡ bell = some-injective h.1 bell (sym (ap (λ (l : List ℕ). get_elem? l 1) same) ∙ second) in
    (end.0.views, subst (λ n. Kept jobs drawn n end.0.views) b (subst (λ n. Kept jobs n h.1 end.0.views) d h.3), end.1.1)

pub ends_silent : (jobs id drawn bell : ℕ) (v : Known) (words : List ℕ) (xs : List (Unit {0})) → Final (Seen (Standing jobs) id v) words xs
    → get_elem? words 0 ≡ some drawn → get_elem? words 1 ≡ some bell → (jobs' : ℕ) → jobs ≡ jobs' → (v' : Known) → v ≡ v' → v'.share ≡ whole_share
    → bell ≡ 0 → IsTruth jobs' v' (record { drawn = drawn; rung = None })
ends_silent jobs id drawn bell v words xs end first second jobs' same v' seat part is =
    let l = last jobs id drawn bell v words xs end first second in
    let t : IsTruth jobs v (record { drawn = drawn; rung = None }) = truth_silent jobs drawn bell l.0 id v l.1 l.2 (ap (λ (u : Known). u.share) seat ∙ part) is in
    subst (λ u. IsTruth jobs' u (record { drawn = drawn; rung = None })) seat (subst (λ n. IsTruth n v (record { drawn = drawn; rung = None })) same t)

pub ends_rung : (jobs id drawn bell : ℕ) (v : Known) (words : List ℕ) (xs : List (Unit {0})) → Final (Seen (Standing jobs) id v) words xs
    → get_elem? words 0 ≡ some drawn → get_elem? words 1 ≡ some bell → (jobs' : ℕ) → jobs ≡ jobs' → (v' : Known) → v ≡ v' → v'.share ≡ whole_share
    → 0 < bell → IsTruth jobs' v' (record { drawn = drawn; rung = Some (bell - 1) })
ends_rung jobs id drawn bell v words xs end first second jobs' same v' seat part is =
    let l = last jobs id drawn bell v words xs end first second in
    let t : IsTruth jobs v (record { drawn = drawn; rung = Some (bell - 1) }) = truth_rung jobs drawn bell l.0 id v l.1 l.2 (ap (λ (u : Known). u.share) seat ∙ part) is in
    subst (λ u. IsTruth jobs' u (record { drawn = drawn; rung = Some (bell - 1) })) seat (subst (λ n. IsTruth n v (record { drawn = drawn; rung = Some (bell - 1) })) same t)
