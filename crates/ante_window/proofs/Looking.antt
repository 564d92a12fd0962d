-- What looks at a reader's stop add up to.
use Rattle.std.proofs.Common.{◌≡◌, ℕ, ◌≤◌, ◌⊎◌, Bool, true, false, ◌||◌, nat_eq, List, [], ◌∷◌, ◌++◌, Option, Some, None, IfSome, Result, Ok, Err, subst, sym, ap, refl, ◌∙◌, ⊎_elim, true≢false, append_assoc, append-nil, arith}
use Rattle.std.proofs.lemmas.Bool.Decides.{nat_tests}
use Rattle.ante_base.specs.Stops.{Looks}
use Rattle.ante_port.specs.declared.ReadEnd.{ReadEnd}
use Rattle.ante_port.specs.declared.ReadEnd.TheVariants.{Done as Replied, Cut}
use Rattle.ante_port.specs.Reading.{ReadsTo}
use Rattle.ante_pool.specs.declared.words.Known.{Known}
use Rattle.ante_window.specs.declared.pool_stop.PoolStop.{PoolStop}
use Rattle.ante_window.specs.Watching.{LooksAt, has, IsLate, Watches}
use Rattle.ante_window.specs.Stops.{IsSameStop, StopLooks}
use Rattle.ante_window.specs.Reads.{IsAnswer}

has_either : (b c d : Bool) → (c ≡ true → d ≡ true) → (b || c) ≡ true → (b || d) ≡ true
has_either true c d h e = refl
has_either false c d h e = h e

pub has_left : (at : ℕ) (xs ys : List ℕ) → has at xs ≡ true → has at (xs ++ ys) ≡ true
has_left at [] ys e = absurd (true≢false (sym e))
has_left at (x ∷ xs) ys e = has_either (nat_eq x at) (has at xs) (has at (xs ++ ys)) (has_left at xs ys) e

pub has_last : (at : ℕ) (xs : List ℕ) → has at (xs ++ at ∷ []) ≡ true
has_last at [] = grind (arith, nat_tests)
has_last at (x ∷ xs) = by (nat_eq x at) (has_last at xs)
  where
    by : (b : Bool) → has at (xs ++ at ∷ []) ≡ true → (b || has at (xs ++ at ∷ [])) ≡ true
    by true h = refl
    by false h = h

pub watch_none : (told : ℕ → Type 0) (deadline : ℕ) (v : Known) → Watches told deadline v v
watch_none told deadline v = record { jobs = refl; share = refl; numbers = refl; moments = ([], sym (append-nil v.moments)); won = (λ h. h) }

pub watch_then : (told : ℕ → Type 0) (deadline : ℕ) (u v w : Known) → Watches told deadline u v → Watches told deadline v w → Watches told deadline u w
watch_then told deadline u v w a b = record {
  jobs = b.jobs ∙ a.jobs;
  share = b.share ∙ a.share;
  numbers = b.numbers ∙ a.numbers;
  moments = (a.moments.0 ++ b.moments.0, b.moments.1 ∙ ap (λ ms. ms ++ b.moments.0) a.moments.1 ∙ append_assoc u.moments a.moments.0 b.moments.0);
  won = (λ h. b.won (a.won h));
}

won_late : (told : ℕ → Type 0) (deadline at : ℕ) (a b : Option ℕ) → (b ≡ a) ⊎ ((b ≡ Some at) × told at × (deadline ≤ at)) → IfSome a (IsLate told deadline) → IfSome b (IsLate told deadline)
won_late told deadline at a b h k = ⊎_elim (λ e. subst (λ o. IfSome o (IsLate told deadline)) (sym e) k) (λ t. subst (λ o. IfSome o (IsLate told deadline)) (sym t.0) (t.1, t.2)) h

pub watch_one : (told : ℕ → Type 0) (deadline : ℕ) (v : Known) (answer : Option ℕ) (w : Known) → LooksAt told deadline v answer w → Watches told deadline v w × (w.ended ≡ v.ended)
watch_one told deadline v None w h = (subst (Watches told deadline v) (sym h.0) (watch_none told deadline v), ap (λ (u : Known). u.ended) h.0)
watch_one told deadline v (Some at) w h = (
  record {
    jobs = ap (λ (u : Known). u.jobs) h.0;
    share = ap (λ (u : Known). u.share) h.0;
    numbers = ap (λ (u : Known). u.numbers) h.0;
    moments = (at ∷ [], ap (λ (u : Known). u.moments) h.0);
    won = won_late told deadline at v.won w.won h.1;
  },
  ap (λ (u : Known). u.ended) h.0,
)

-- What a stop was before and after some looks
abbrev pub Watched : {C : Type 0} → (told : C → ℕ → Type 0) → PoolStop C → PoolStop C → Type 0
Watched told a b = IsSameStop a b × Watches (told a.clock.now) a.deadline a.seat.known b.seat.known × (b.seat.known.ended ≡ a.seat.known.ended)

module _ {C : Type 0} (told : C → ℕ → Type 0) where
  same_none : (a : PoolStop C) → Watched told a a
  same_none a = ((refl, refl, refl), watch_none (told a.clock.now) a.deadline a.seat.known, refl)

  same_then : (a b c : PoolStop C) → Watched told a b → Watched told b c → Watched told a c
  same_then a b c h k =
      let clock : b.clock.now ≡ a.clock.now = h.0.1 in
      let deadline : b.deadline ≡ a.deadline = h.0.2 in
      let w : Watches (told a.clock.now) a.deadline b.seat.known c.seat.known =
      subst (λ n. Watches (told a.clock.now) n b.seat.known c.seat.known) deadline (subst (λ x. Watches (told x) b.deadline b.seat.known c.seat.known) clock k.1) in
      ((k.0.0 ∙ h.0.0, k.0.1 ∙ clock, k.0.2 ∙ deadline), watch_then (told a.clock.now) a.deadline a.seat.known b.seat.known c.seat.known h.1 w, k.2 ∙ h.2)

  one_look : (a : PoolStop C) (answer : Option ℕ) (b : PoolStop C) → StopLooks told a answer b → Watched told a b
  one_look a answer b h = let w = watch_one (told a.clock.now) a.deadline a.seat.known answer b.seat.known h.1 in (h.0, w.0, w.1)

  pub watch_all : (answers : List (Option ℕ)) (a b : PoolStop C) → Looks (StopLooks told) a answers b → Watched told a b
  watch_all [] a b h = subst (Watched told a) (sym h) (same_none a)
  watch_all (x ∷ xs) a b h = same_then a h.0 b (one_look a x h.0 h.1) (watch_all xs h.0 b h.2)

  last_seen : (before : List (Option ℕ)) (at : ℕ) (a b : PoolStop C) → Looks (StopLooks told) a (before ++ Some at ∷ []) b → has at b.seat.known.moments ≡ true
  last_seen [] at a b h =
      let there : has at h.0.seat.known.moments ≡ true = ap (λ (u : Known). has at u.moments) h.1.1.0 ∙ has_last at a.seat.known.moments in
      subst (λ (s : PoolStop C). has at s.seat.known.moments ≡ true) (sym h.2) there
  last_seen (x ∷ xs) at a b h = last_seen xs at h.0 b h.2

  pub answered : {R E : Type 0} (reply : R) (a b : PoolStop C) (end : Result (ReadEnd R) E) → ReadsTo reply (StopLooks told) a b end → IsAnswer reply b.seat.known.moments end
  answered reply a b (Ok (Replied r)) h = h.2
  answered reply a b (Ok (Cut at)) h = last_seen h.2.0 at a b (subst (λ answers. Looks (StopLooks told) a answers b) h.2.1 h.1)
  answered reply a b (Err e) h = tt
