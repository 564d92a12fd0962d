-- What each step makes of the rule, on plain words and lists.
use Rattle.std.proofs.Common.{◌≡◌, ℕ, ◌+◌, ◌-◌, ◌/◌, ◌<◌, ◌≤◌, min, Bool, true, false, true≢false, ◌||◌, cond, ◌==◌, nat_lt, nat_eq, List, [], ◌∷◌, ◌++◌, set, All, Option, Some, None, is_some, IfSome, ⊎_elim, subst, sym, ap, refl, ◌∙◌, arith}
use mathlib.Core.Option.{some}
use lib.ListN.{get_elem?}
use Rattle.std.proofs.Math.Nat.{min-eq_left}
use Rattle.std.proofs.lemmas.Bool.{ltb-true, ltb-false}
use Rattle.std.proofs.lemmas.Bool.Decides.{nat_tests}
use Rattle.std.proofs.lemmas.List.Elements.{All-nil, All-push, All-append, All-weaker}
use Rattle.std.proofs.lemmas.Option.{IfSome_then}
use Rattle.std.specs.Option.{option_or}
use Rattle.atomic_table.proofs.Lists.{at_set, at_snoc, set_else}
use Rattle.ante_pool.specs.declared.words.Known.{Known}
use Rattle.ante_pool.specs.declared.Looked.TheVariants.{Running, Rung}
use Rattle.ante_pool.specs.declared.Ringing.TheVariants.{Won, Lost}
use Rattle.ante_pool.specs.Seats.{whole_share, kept_half, new_half, joined, spent, after_claim, after_look, after_ring, times, IsOnce, AllBelow}
use Rattle.ante_pool.specs.Standing.{total, below, ended_share, wins, rings, Fits, Kept, claimed, looked, ringing}
use Rattle.ante_pool.specs.Pools.{IsTruth}
use Rattle.ante_pool.proofs.Totals.{total_set, total_push, total_at, total_two, total_alone, times_append}

-- One seat makes a step, in which its share stays
moved : (jobs drawn bell drawn' bell' : ℕ) (views : List Known) (id : ℕ) (v w : Known) → Kept jobs drawn bell views → get_elem? views id ≡ some v → w.share ≡ v.share
    → ((x : ℕ) → times x w.numbers + below x (min drawn jobs) ≡ times x v.numbers + below x (min drawn' jobs))
    → ((t : ℕ) → t + ended_share v ≡ total ended_share views + ended_share w → drawn' ≤ jobs + t)
    → wins w + rings bell ≡ wins v + rings bell'
    → ((u : Known) → Fits jobs drawn bell u → Fits jobs drawn' bell' u) → Fits jobs drawn' bell' w → Kept jobs drawn' bell' (set views id w)
moved jobs drawn bell drawn' bell' views id v w kept at share numbers bound won fits mine = record {
  few = kept.few;
  shares = (let t = total_set (λ u. u.share) views id v w at in let s = kept.shares in omega arith);
  numbers = (λ x. let t = total_set (λ u. times x u.numbers) views id v w at in let s = kept.numbers x in let n = numbers x in omega arith);
  bound = bound (total ended_share (set views id w)) (total_set ended_share views id v w at);
  winners = (let t = total_set wins views id v w at in let s = kept.winners in omega arith);
  each = (λ j u e. ⊎_elim (λ t. subst (Fits jobs drawn' bell') t.1 mine) (λ t. fits u (kept.each j u t.1)) (at_set views id j w u e));
}

bit : (b : Bool) → (cond b 1 0) ≤ 1
bit true = omega arith
bit false = omega arith

-- no seat has a number twice
pub once_of : (jobs drawn bell : ℕ) (views : List Known) (id : ℕ) (v : Known) → Kept jobs drawn bell views → get_elem? views id ≡ some v → IsOnce v.numbers
once_of jobs drawn bell views id v kept at x =
    let t = total_at (λ u. times x u.numbers) views id v at in let n = kept.numbers x in let b = bit (nat_lt x (min drawn jobs)) in omega arith

-- a seat's numbers are below the first word
pub all_drawn : (jobs drawn bell : ℕ) (views : List Known) (id : ℕ) (v : Known) → Kept jobs drawn bell views → get_elem? views id ≡ some v → AllBelow drawn v.numbers
all_drawn jobs drawn bell views id v kept at x le =
    let t = total_at (λ u. times x u.numbers) views id v at in let n = kept.numbers x in let b = none_below x (min drawn jobs) (omega arith) in omega arith
  where
    none_below : (x n : ℕ) → n ≤ x → below x n ≡ 0
    none_below x n le = grind (arith, nat_tests)

-- The first word

later : (jobs drawn bell : ℕ) (v : Known) → Fits jobs drawn bell v → Fits jobs (drawn + 1) bell v
later jobs drawn bell v f = record { spent = f.spent; same = f.same; ended = (λ e. let le = f.ended e in omega arith); moments = f.moments; won = f.won }

next_below : (x drawn jobs : ℕ) → drawn < jobs → cond (drawn == x) 1 0 + below x (min drawn jobs) ≡ below x (min (drawn + 1) jobs)
next_below x drawn jobs lt =
    let a : min drawn jobs ≡ drawn = min-eq_left (omega arith) in let b : min (drawn + 1) jobs ≡ drawn + 1 = min-eq_left (omega arith) in
    let c : cond (drawn == x) 1 0 + below x drawn ≡ below x (drawn + 1) = grind (arith, nat_tests) in
    ap (λ n. cond (drawn == x) 1 0 + below x n) a ∙ c ∙ ap (below x) (sym b)

draws_by : (jobs drawn bell : ℕ) (views : List Known) (id : ℕ) (v : Known) → Kept jobs drawn bell views → get_elem? views id ≡ some v → 0 < v.share → v.ended ≡ false
    → (b : Bool) → nat_lt drawn jobs ≡ b → Kept jobs (drawn + 1) bell (set views id (after_claim v (cond b (Some drawn) None)))
draws_by jobs drawn bell views id v kept at part going true is =
    let lt = ltb-true drawn jobs is in let f = later jobs drawn bell v (kept.each id v at) in
    moved jobs drawn bell (drawn + 1) bell views id v (record v { numbers = v.numbers ++ drawn ∷ [] }) kept at refl
    (λ x. let t = times_append x v.numbers (drawn ∷ []) in let n = next_below x drawn jobs lt in omega arith)
    (λ t e. omega arith) refl (later jobs drawn bell)
    (record { spent = (λ none. absurd (omega arith)); same = f.same; ended = f.ended; moments = f.moments; won = f.won })
draws_by jobs drawn bell views id v kept at part going false is =
    let le = ltb-false drawn jobs is in let f = later jobs drawn bell v (kept.each id v at) in
    let a : min drawn jobs ≡ min (drawn + 1) jobs = omega arith in
    let z : ended_share v ≡ 0 = ap (λ (b : Bool). cond b v.share 0) going in
    moved jobs drawn bell (drawn + 1) bell views id v (record v { ended = true }) kept at refl
    (λ x. ap (λ n. times x v.numbers + below x n) a)
    (λ t e. let b = kept.bound in omega arith) refl (later jobs drawn bell)
    (record { spent = (λ none. absurd (omega arith)); same = f.same; ended = (λ e. omega arith); moments = f.moments; won = f.won })

pub draws : (jobs drawn bell : ℕ) (views : List Known) (id : ℕ) (v : Known) → Kept jobs drawn bell views → get_elem? views id ≡ some v → 0 < v.share → v.ended ≡ false
    → Kept jobs (drawn + 1) bell (set views id (after_claim v (claimed v.jobs drawn)))
draws jobs drawn bell views id v kept at part going =
    let same : jobs ≡ v.jobs = sym ((kept.each id v at).same part) in
    subst (λ n. Kept jobs (drawn + 1) bell (set views id (after_claim v (claimed n drawn)))) same (draws_by jobs drawn bell views id v kept at part going (nat_lt drawn jobs) refl)

-- the first word is so small that it doesn't wrap
pub small : (jobs drawn bell : ℕ) (views : List Known) → Kept jobs drawn bell views → drawn + 1 < 18446744073709551616
small jobs drawn bell views kept =
    let t = total_ended views in let s = kept.shares in let b = kept.bound in let f = kept.few in omega arith
  where
    ended_le : (b : Bool) (s : ℕ) → cond b s 0 ≤ s
    ended_le true s = omega arith
    ended_le false s = omega arith

    total_ended : (vs : List Known) → total ended_share vs ≤ total (λ v. v.share) vs
    total_ended [] = omega arith
    total_ended (u ∷ us) = let a = ended_le u.ended u.share in let t = total_ended us in omega arith

-- The second word

looks_by : (jobs drawn bell : ℕ) (views : List Known) (id : ℕ) (v : Known) → Kept jobs drawn bell views → get_elem? views id ≡ some v → 0 < v.share
    → (b : Bool) → nat_eq bell 0 ≡ b → Kept jobs drawn bell (set views id (after_look v (cond b Running (Rung (bell - 1)))))
looks_by jobs drawn bell views id v kept at part true is =
    moved jobs drawn bell drawn bell views id v v kept at refl (λ x. refl) (λ t e. let b = kept.bound in omega arith) refl (λ u f. f) (kept.each id v at)
looks_by jobs drawn bell views id v kept at part false is =
    let f = kept.each id v at in let m : bell ≡ bell - 1 + 1 = grind (arith, nat_tests) in
    moved jobs drawn bell drawn bell views id v (record v { moments = v.moments ++ (bell - 1) ∷ [] }) kept at refl (λ x. refl) (λ t e. let b = kept.bound in omega arith) refl (λ u g. g)
    (record { spent = (λ none. absurd (omega arith)); same = f.same; ended = f.ended; moments = All-push (λ n. bell ≡ n + 1) v.moments (bell - 1) f.moments m; won = f.won })

pub looks : (jobs drawn bell : ℕ) (views : List Known) (id : ℕ) (v : Known) → Kept jobs drawn bell views → get_elem? views id ≡ some v → 0 < v.share
    → Kept jobs drawn bell (set views id (after_look v (looked bell)))
looks jobs drawn bell views id v kept at part = looks_by jobs drawn bell views id v kept at part (nat_eq bell 0) refl

-- where the bell isn't rung, what holds of a seat holds too once it is
silent : (jobs drawn bell bell' : ℕ) → bell ≡ 0 → (u : Known) → Fits jobs drawn bell u → Fits jobs drawn bell' u
silent jobs drawn bell bell' none u f = record {
  spent = f.spent;
  same = f.same;
  ended = f.ended;
  moments = All-weaker (λ m. bell ≡ m + 1) (λ m. bell' ≡ m + 1) (λ m e. absurd (omega arith)) u.moments f.moments;
  won = IfSome_then u.won f.won (λ m e. absurd (omega arith));
}

rung_by : (bell : ℕ) → bell ≡ 0 → rings bell ≡ 0
rung_by bell e = ap rings e

next_rings : (moment : ℕ) → rings (moment + 1) ≡ 1
next_rings moment = grind (arith, nat_tests)

rings_by : (jobs drawn bell moment : ℕ) (views : List Known) (id : ℕ) (v : Known) → Kept jobs drawn bell views → get_elem? views id ≡ some v → 0 < v.share
    → (b : Bool) → nat_eq bell 0 ≡ b → Kept jobs drawn (cond b (moment + 1) bell) (set views id (after_ring v moment (cond b Won (Lost (bell - 1)))))
rings_by jobs drawn bell moment views id v kept at part true is =
    let none : bell ≡ 0 = grind (arith, nat_tests) in let f = silent jobs drawn bell (moment + 1) none v (kept.each id v at) in
    moved jobs drawn bell drawn (moment + 1) views id v (record v { moments = v.moments ++ moment ∷ []; won = Some moment }) kept at refl (λ x. refl) (λ t e. let b = kept.bound in omega arith)
    (let a = rung_by bell none in let b = next_rings moment in let t = total_at wins views id v at in let k = kept.winners in omega arith)
    (silent jobs drawn bell (moment + 1) none)
    (record { spent = (λ none'. absurd (omega arith)); same = f.same; ended = f.ended; moments = All-push (λ n. moment + 1 ≡ n + 1) v.moments moment f.moments refl; won = refl })
rings_by jobs drawn bell moment views id v kept at part false is = looks_by jobs drawn bell views id v kept at part false is

pub rings_at : (jobs drawn bell moment : ℕ) (views : List Known) (id : ℕ) (v : Known) → Kept jobs drawn bell views → get_elem? views id ≡ some v → 0 < v.share
    → Kept jobs drawn (cond (nat_eq bell 0) (moment + 1) bell) (set views id (after_ring v moment (ringing bell)))
rings_at jobs drawn bell moment views id v kept at part = rings_by jobs drawn bell moment views id v kept at part (nat_eq bell 0) refl

-- Seats

halves_ended : (b : Bool) (share half : ℕ) → half ≤ share → cond b (share - half) 0 + cond b half 0 ≡ cond b share 0
halves_ended true share half le = omega arith
halves_ended false share half le = refl

pub splits : (jobs drawn bell : ℕ) (views : List Known) (id : ℕ) (v : Known) → Kept jobs drawn bell views → get_elem? views id ≡ some v → 2 ≤ v.share
    → Kept jobs drawn bell (set views id (kept_half v) ++ new_half v ∷ [])
splits jobs drawn bell views id v kept at part =
    let f = kept.each id v at in
    let sum : (g : Known → ℕ) → total g (set views id (kept_half v) ++ new_half v ∷ []) + g v ≡ total g views + g (kept_half v) + g (new_half v) =
    λ g. let s = total_set g views id v (kept_half v) at in let p = total_push g (set views id (kept_half v)) (new_half v) in omega arith in
    let mine : Fits jobs drawn bell (kept_half v) = record { spent = (λ none. absurd (omega arith)); same = (λ some_part. f.same (omega arith)); ended = f.ended; moments = f.moments; won = f.won } in
    let other : Fits jobs drawn bell (new_half v) = record { spent = (λ none. absurd (omega arith)); same = (λ some_part. f.same (omega arith)); ended = f.ended; moments = f.moments; won = tt } in
    record {
      few = kept.few;
      shares = (let t = sum (λ u. u.share) in let s = kept.shares in omega arith);
      numbers = (λ x. let t = sum (λ u. times x u.numbers) in let s = kept.numbers x in omega arith);
      bound = (let t = sum ended_share in let h = halves_ended v.ended v.share (v.share / 2) (omega arith) in let b = kept.bound in omega arith);
      winners = (let t = sum wins in let s = kept.winners in omega arith);
      each = (λ j u e. ⊎_elim
          (λ old. ⊎_elim (λ t. subst (Fits jobs drawn bell) t.1 mine) (λ t. kept.each j u t.1) (at_set views id j (kept_half v) u old))
          (λ new. subst (Fits jobs drawn bell) new other)
          (at_snoc (set views id (kept_half v)) (new_half v) u j e));
    }

ended_joined : (b c : Bool) (m n : ℕ) → cond b m 0 + cond c n 0 ≤ cond (b || c) (m + n) 0
ended_joined true true m n = omega arith
ended_joined true false m n = omega arith
ended_joined false true m n = omega arith
ended_joined false false m n = omega arith

ended_either : (jobs drawn : ℕ) (b c : Bool) → (b ≡ true → jobs ≤ drawn) → (c ≡ true → jobs ≤ drawn) → (b || c) ≡ true → jobs ≤ drawn
ended_either jobs drawn true c h k e = h refl
ended_either jobs drawn false c h k e = k e

won_joined : (a b : Option ℕ) → cond (is_some a) 1 0 + cond (is_some b) 1 0 ≤ 1 → cond (is_some (option_or a b)) 1 0 ≡ cond (is_some a) 1 0 + cond (is_some b) 1 0
won_joined None b le = omega arith
won_joined (Some m) None le = omega arith
won_joined (Some m) (Some n) le = absurd (omega arith)

won_either : (P : ℕ → Type 0) (a b : Option ℕ) → IfSome a P → IfSome b P → IfSome (option_or a b) P
won_either P None b h k = k
won_either P (Some m) b h k = h

pub merges : (jobs drawn bell : ℕ) (views : List Known) (id : ℕ) (v : Known) (other : ℕ) (w : Known) → Kept jobs drawn bell views → get_elem? views id ≡ some v → ¬ (other ≡ id)
    → get_elem? (set views id (joined v w)) other ≡ some w → 0 < v.share → Kept jobs drawn bell (set (set views id (joined v w)) other spent)
merges jobs drawn bell views id v other w kept at apart at' part =
    let there : get_elem? views other ≡ some w = sym (set_else views id other (joined v w) apart) ∙ at' in
    let f = kept.each id v at in let g = kept.each other w there in
    let sum : (h : Known → ℕ) → total h (set (set views id (joined v w)) other spent) + h v + h w ≡ total h views + h (joined v w) + h spent =
    λ h. let s = total_set h views id v (joined v w) at in let p = total_set h (set views id (joined v w)) other w spent at' in omega arith in
    let mine : Fits jobs drawn bell (joined v w) = record {
      spent = (λ none. absurd (omega arith));
      same = (λ some_part. f.same part);
      ended = ended_either jobs drawn v.ended w.ended f.ended g.ended;
      moments = All-append (λ m. bell ≡ m + 1) v.moments w.moments f.moments g.moments;
      won = won_either (λ m. bell ≡ m + 1) v.won w.won f.won g.won;
    } in
    let empty : Fits jobs drawn bell spent = record {
      spent = (λ none. (refl, refl, refl));
      same = (λ some_part. absurd (omega arith));
      ended = (λ e. absurd (true≢false (sym e)));
      moments = All-nil (λ m. bell ≡ m + 1);
      won = tt;
    } in
    record {
      few = kept.few;
      shares = (let t = sum (λ u. u.share) in let s = kept.shares in omega arith);
      numbers = (λ x. let t = sum (λ u. times x u.numbers) in let a = times_append x v.numbers w.numbers in let s = kept.numbers x in omega arith);
      bound = (let t = sum ended_share in let h = ended_joined v.ended w.ended v.share w.share in let b = kept.bound in omega arith);
      winners = (
          let two = total_two wins views id other v w at there apart in let b = bell_bit bell in let k = kept.winners in
          let t = sum wins in let h = won_joined v.won w.won (omega arith) in omega arith);
      each = (λ j u e. ⊎_elim
          (λ t. subst (Fits jobs drawn bell) t.1 empty)
          (λ t. ⊎_elim (λ s. subst (Fits jobs drawn bell) s.1 mine) (λ s. kept.each j u s.1) (at_set views id j (joined v w) u t.1))
          (at_set (set views id (joined v w)) other j spent u e));
    }
  where
    by : (b : Bool) → cond b 0 1 ≤ 1
    by true = omega arith
    by false = omega arith

    bell_bit : (n : ℕ) → rings n ≤ 1
    bell_bit n = by (nat_eq n 0)

-- The end

won_none : (o : Option ℕ) → ◌≡◌ {A = ℕ} (cond (is_some o) 1 0) 0 → None ≡ o
won_none None e = refl
won_none (Some m) e = absurd (omega arith)

won_some : (bell : ℕ) (o : Option ℕ) → ◌≡◌ {A = ℕ} (cond (is_some o) 1 0) 1 → IfSome o (λ m. bell ≡ m + 1) → Some (bell - 1) ≡ o
won_some bell None e h = absurd (omega arith)
won_some bell (Some m) e h = ap Some (omega arith)

truth : (jobs drawn bell : ℕ) (views : List Known) (id : ℕ) (v : Known) → Kept jobs drawn bell views → get_elem? views id ≡ some v → v.share ≡ whole_share
    → (rung : Option ℕ) → rung ≡ v.won → All (λ m. rung ≡ Some m) v.moments → IsTruth jobs v (record { drawn = drawn; rung = rung })
truth jobs drawn bell views id v kept at part rung won moments = record {
  numbers = (λ x. sym (total_alone (λ u. u.share) (λ u. times x u.numbers) views id v at (part ∙ sym kept.shares)
      (λ j u e none. ap (times x) ((kept.each j u e).spent none).0)) ∙ kept.numbers x);
  ended = (kept.each id v at).ended;
  rung = won;
  moments = moments;
}

-- the seat with the whole share has won where the bell was rung
winner : (jobs drawn bell : ℕ) (views : List Known) (id : ℕ) (v : Known) → Kept jobs drawn bell views → get_elem? views id ≡ some v → v.share ≡ whole_share → wins v ≡ rings bell
winner jobs drawn bell views id v kept at part =
    sym (total_alone (λ u. u.share) wins views id v at (part ∙ sym kept.shares) (λ j u e none. ap (λ (o : Option ℕ). cond (is_some o) 1 0) ((kept.each j u e).spent none).2)) ∙ kept.winners

pub truth_silent : (jobs drawn bell : ℕ) (views : List Known) (id : ℕ) (v : Known) → Kept jobs drawn bell views → get_elem? views id ≡ some v → v.share ≡ whole_share
    → bell ≡ 0 → IsTruth jobs v (record { drawn = drawn; rung = None })
truth_silent jobs drawn bell views id v kept at part is =
    let f = kept.each id v at in
    truth jobs drawn bell views id v kept at part None (won_none v.won (winner jobs drawn bell views id v kept at part ∙ ap rings is))
    (All-weaker (λ m. bell ≡ m + 1) (λ m. None ≡ Some m) (λ m e. absurd (omega arith)) v.moments f.moments)

pub truth_rung : (jobs drawn bell : ℕ) (views : List Known) (id : ℕ) (v : Known) → Kept jobs drawn bell views → get_elem? views id ≡ some v → v.share ≡ whole_share
    → 0 < bell → IsTruth jobs v (record { drawn = drawn; rung = Some (bell - 1) })
truth_rung jobs drawn bell views id v kept at part is =
    let f = kept.each id v at in let one : rings bell ≡ 1 = grind (arith, nat_tests) in
    truth jobs drawn bell views id v kept at part (Some (bell - 1)) (won_some bell v.won (winner jobs drawn bell views id v kept at part ∙ one) f.won)
    (All-weaker (λ m. bell ≡ m + 1) (λ m. Some (bell - 1) ≡ Some m) (λ m e. ap Some (omega arith)) v.moments f.moments)
