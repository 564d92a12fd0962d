-- What becomes of the window core's done list while it runs a schedule.
use Rattle.std.proofs.Common.{◌≡◌, ◌≢◌, ℕ, ◌+◌, ◌<◌, Bool, true, false, true≢false, ◌||◌, nat_eq, cond, List, [], ◌∷◌, ◌++◌, map, length, slice_get, Option, Some, None, IfSome, subst, sym, ap, refl, ◌∙◌, arith}
use Rattle.std.specs.List.{AllByRecursion}
use Rattle.std.proofs.lemmas.Bool.Decides.{nat_tests}
use Rattle.std.proofs.lemmas.Option.{none-some, same_Some}
use Rattle.ante_core.specs.declared.DoneJob.{DoneJob}
use Rattle.ante_core.specs.declared.window.Held.{Held}
use Rattle.ante_core.specs.Machine.{held_by, without}
use Rattle.ante_core.specs.Sound.{ApartBy}
use Rattle.ante_core.proofs.Lists.{all-push, all-both, all-without, all-held, all-other_readers, apart-push, apart-without}
use Rattle.ante_core.proofs.Hands.{held_by-reader}
use Rattle.ante_pool.specs.Seats.{times}
use Rattle.ante_pool.specs.Standing.{below}
use Rattle.ante_window.specs.declared.outcome.Outcome.{Outcome}
use Rattle.ante_window.specs.declared.outcome.Outcome.TheVariants as outcome
use Rattle.ante_window.specs.declared.schedule.Left.{Left}
use Rattle.ante_window.specs.declared.schedule.Left.TheVariants.{Finished, Starved, Cut}
use Rattle.ante_window.specs.declared.schedule.Turn.{Turn}
use Rattle.ante_window.specs.Schedule.{left_by, last_from, has_turn}
use Rattle.ante_window.specs.InCore.{times_done}
use Rattle.ante_window.proofs.Closing.{below_some}

pub same_number : (x y : ℕ) → nat_eq x y ≡ true → x ≡ y
same_number x y e = grind (arith, nat_tests)

pub self_eq : (x : ℕ) → nat_eq x x ≡ true
self_eq x = grind (arith, nat_tests)

pub or_tail : (a b : Bool) → (a || b) ≡ false → b ≡ false
or_tail true b e = absurd (true≢false e)
or_tail false b e = e

pub or_head : (a b : Bool) → (a || b) ≡ false → a ≡ false
or_head true b e = absurd (true≢false e)
or_head false b e = refl

-- the jobs of a done list, and of the jobs in hand
abbrev pub done_jobs : {R : Type 0} → List (DoneJob R) → List ℕ
done_jobs done = map (λ (d : DoneJob _). d.job) done

abbrev pub held_jobs : {J : Type 0} → List (Held J) → List ℕ
held_jobs held = map (λ (h : Held _). h.job) held

-- the turn ended as its job's outcome says
abbrev pub Tells : {R : Type 0} → List (Outcome R) → Turn → Type 0
Tells outcomes t = (o : Outcome _) × (slice_get outcomes t.job ≡ Some o) × (t.left ≡ left_by o)

-- the job in hand is the one of its reader's last turn
abbrev pub IsOfLast : {J : Type 0} → List Turn → Held J → Type 0
IsOfLast turns h = (u : Turn) × (last_from None h.reader turns ≡ Some u) × (u.job ≡ h.job)

-- The last turn of a reader
pub last_in : (P : Turn → Type 0) (found : Option Turn) (x : ℕ) (ts : List Turn) (u : Turn) → IfSome found P → AllByRecursion P ts → last_from found x ts ≡ Some u → P u
last_in P found x [] u f a e = subst (λ o. IfSome o P) e f
last_in P found x (t ∷ ts) u f a e = last_in P (cond (nat_eq t.reader x) (Some t) found) x ts u (by (nat_eq t.reader x)) a.1 e
  where
    by : (b : Bool) → IfSome (cond b (Some t) found) P
    by true = a.0
    by false = f

last_snoc : (found : Option Turn) (x : ℕ) (ts : List Turn) (t : Turn) → last_from found x (ts ++ t ∷ []) ≡ cond (nat_eq t.reader x) (Some t) (last_from found x ts)
last_snoc found x [] t = refl
last_snoc found x (u ∷ us) t = last_snoc (cond (nat_eq u.reader x) (Some u) found) x us t

last_none : (found : Option Turn) (x : ℕ) (ts : List Turn) → has_turn x ts ≡ false → last_from found x ts ≡ found
last_none found x [] e = refl
last_none found x (u ∷ us) e =
    ap (λ b. last_from (cond b (Some u) found) x us) (or_head (nat_eq u.reader x) (has_turn x us) e) ∙ last_none found x us (or_tail (nat_eq u.reader x) (has_turn x us) e)

pub last_end : (found : Option Turn) (pre : List Turn) (t : Turn) (ts : List Turn) → has_turn t.reader ts ≡ false → last_from found t.reader (pre ++ t ∷ ts) ≡ Some t
last_end found [] t ts e = ap (λ b. last_from (cond b (Some t) found) t.reader ts) (self_eq t.reader) ∙ last_none (Some t) t.reader ts e
last_end found (u ∷ us) t ts e = last_end (cond (nat_eq u.reader t.reader) (Some u) found) us t ts e

-- a reader's last turn stays when another reader has one
last_other : {J : Type 0} (turns : List Turn) (t : Turn) (h : Held J) → IsOfLast turns h → h.reader ≢ t.reader → IsOfLast (turns ++ t ∷ []) h
last_other turns t h mine ne = (mine.0, last_snoc None h.reader turns t ∙ by (nat_eq t.reader h.reader) refl, mine.2)
  where
    by : (b : Bool) → nat_eq t.reader h.reader ≡ b → cond b (Some t) (last_from None h.reader turns) ≡ Some mine.0
    by true is = absurd (ne (sym (same_number t.reader h.reader is)))
    by false is = mine.1

-- How often a job is in hand or done
module _ {J : Type 0} where
  times_without : (x r : ℕ) (hs : List (Held J)) (h : Held J) → held_by r hs ≡ Some h → times x (held_jobs hs) ≡ times x (held_jobs (without r hs)) + times x (h.job ∷ [])
  times_without x r [] h e = absurd (none-some h e)
  times_without x r (k ∷ hs) h e = by (nat_eq k.reader r) e (times_without x r hs h)
    where
      by : (b : Bool) → cond b (Some k) (held_by r hs) ≡ Some h → (held_by r hs ≡ Some h → times x (held_jobs hs) ≡ times x (held_jobs (without r hs)) + times x (h.job ∷ []))
          → times x (held_jobs (k ∷ hs)) ≡ times x (held_jobs (cond b hs (k ∷ without r hs))) + times x (h.job ∷ [])
      by true here again = let same : times x (k.job ∷ []) ≡ times x (h.job ∷ []) = ap (λ (m : Held J). times x (m.job ∷ [])) (same_Some k h here) in omega arith
      by false here again = let t = again here in omega arith

  times_held : (x : ℕ) (hs : List (Held J)) (h : Held J) → times x (held_jobs (hs ++ h ∷ [])) ≡ times x (held_jobs hs) + times x (h.job ∷ [])
  times_held x [] h = omega arith
  times_held x (k ∷ hs) h = let t = times_held x hs h in omega arith

times_more : {R : Type 0} (x : ℕ) (ds : List (DoneJob R)) (d : DoneJob R) → times x (done_jobs (ds ++ d ∷ [])) ≡ times x (done_jobs ds) + times x (d.job ∷ [])
times_more x [] d = omega arith
times_more x (e ∷ ds) d = let t = times_more x ds d in omega arith

next_below : (x n : ℕ) → times x (n ∷ []) + below x n ≡ below x (n + 1)
next_below x n = let c : cond (nat_eq n x) 1 0 + below x n ≡ below x (n + 1) = grind (arith, nat_tests) in omega arith

no_below : (x : ℕ) → below x 0 ≡ 0
no_below x = grind (arith, nat_tests)

-- an outcome and the end of its turn
abbrev pub times_left : Left → ℕ
times_left Finished = 1
times_left Starved = 0
times_left Cut = 0

times_left_by : {R : Type 0} (o : Outcome R) → times_done (Some o) ≡ times_left (left_by o)
times_left_by (outcome.Done r) = refl
times_left_by (outcome.Back at) = refl
times_left_by outcome.OutOfMemory = refl

pub reply_of : {R : Type 0} (o : Option (Outcome R)) → times_done o ≡ 1 → (r : R) × (o ≡ Some (outcome.Done r))
reply_of None e = absurd (omega arith)
reply_of (Some (outcome.Done r)) e = (r, refl)
reply_of (Some (outcome.Back at)) e = absurd (omega arith)
reply_of (Some outcome.OutOfMemory) e = absurd (omega arith)

pub times_of_turn : {R : Type 0} (outcomes : List (Outcome R)) (t : Turn) → Tells outcomes t → (l : Left) → t.left ≡ l → times_done (slice_get outcomes t.job) ≡ times_left l
times_of_turn outcomes t tells l is = ap times_done tells.1 ∙ times_left_by tells.0 ∙ ap times_left (sym tells.2 ∙ is)

module _ {J R : Type 0} (answer : J → R) (jobs : List J) (outcomes : List (Outcome R)) where
  -- the entry of the done list is as the job's outcome says
  abbrev pub IsEntry : DoneJob R → Type 0
  IsEntry d = (slice_get outcomes d.job ≡ Some (outcome.Done d.reply)) × (d.position ≡ 0)

  -- What is in hand after these turns began, and what is done: each job that comes to a reply is in one of the two once, as soon as its
  -- turn has begun
  pub record Hands (turns : List Turn) (done : List (DoneJob R)) (held : List (Held J)) : Type 0 where
    pub apart : ApartBy (λ (h : Held J). h.reader) held
    pub mine : AllByRecursion (IsOfLast turns) held
    pub values : AllByRecursion (λ (h : Held J). slice_get jobs h.job ≡ Some h.frame) held
    pub each : AllByRecursion IsEntry done
    pub once : (j : ℕ) → times_done (slice_get outcomes j) ≡ 1 → times j (done_jobs done) + times j (held_jobs held) ≡ below j (length turns)

  pub hands_free : Hands [] [] []
  hands_free = record { apart = tt; mine = tt; values = tt; each = tt; once = (λ j one. let b = no_below j in omega arith) }

  -- a turn begins
  pub hands_claim : (turns : List Turn) (t : Turn) (done : List (DoneJob R)) (held : List (Held J)) (value : J) → Hands turns done held → held_by t.reader held ≡ None
      → t.job ≡ length turns → slice_get jobs (length turns) ≡ Some value → length (turns ++ t ∷ []) ≡ length turns + 1
      → Hands (turns ++ t ∷ []) done (held ++ record { reader = t.reader; job = length turns; frame = value } ∷ [])
  hands_claim turns t done held value hands free at there long =
      let h : Held J = record { reader = t.reader; job = length turns; frame = value } in
      let others : AllByRecursion (λ (k : Held J). k.reader ≢ t.reader) held = all-other_readers t.reader held free in record {
        apart = apart-push (λ (k : Held J). k.reader) held h hands.apart others;
        mine = all-push (IsOfLast (turns ++ t ∷ [])) held h (all-both (IsOfLast turns) (λ (k : Held J). k.reader ≢ t.reader) (IsOfLast (turns ++ t ∷ [])) held (λ k m ne. last_other turns t k m ne) hands.mine others)
            (t, last_end None turns t [] refl, at);
        values = all-push (λ (k : Held J). slice_get jobs k.job ≡ Some k.frame) held h hands.values there;
        each = hands.each;
        once = (λ j one. let o = hands.once j one in let p = times_held j held h in let q = next_below j (length turns) in let r : below j (length (turns ++ t ∷ [])) ≡ below j (length turns + 1) = ap (below j) long in omega arith);
      }

  -- a job in hand is finished
  pub hands_finish : (turns : List Turn) (done : List (DoneJob R)) (held : List (Held J)) (r : ℕ) (h : Held J) → Hands turns done held → held_by r held ≡ Some h
      → slice_get outcomes h.job ≡ Some (outcome.Done (answer h.frame)) → Hands turns (done ++ record { job = h.job; position = 0; reply = answer h.frame } ∷ []) (without r held)
  hands_finish turns done held r h hands here is = record {
    apart = apart-without (λ (k : Held J). k.reader) r held hands.apart;
    mine = all-without (IsOfLast turns) r held hands.mine;
    values = all-without (λ (k : Held J). slice_get jobs k.job ≡ Some k.frame) r held hands.values;
    each = all-push IsEntry done (record { job = h.job; position = 0; reply = answer h.frame }) hands.each (is, refl);
    once = (λ j one. let o = hands.once j one in let p = times_more j done (record { job = h.job; position = 0; reply = answer h.frame }) in let q = times_without j r held h here in omega arith);
  }

  -- a job in hand is taken away
  pub hands_drop : (turns : List Turn) (done : List (DoneJob R)) (held : List (Held J)) (r : ℕ) (h : Held J) → Hands turns done held → held_by r held ≡ Some h
      → times_done (slice_get outcomes h.job) ≡ 0 → Hands turns done (without r held)
  hands_drop turns done held r h hands here idle = record {
    apart = apart-without (λ (k : Held J). k.reader) r held hands.apart;
    mine = all-without (IsOfLast turns) r held hands.mine;
    values = all-without (λ (k : Held J). slice_get jobs k.job ≡ Some k.frame) r held hands.values;
    each = hands.each;
    once = (λ j one. let o = hands.once j one in let q = times_without j r held h here in let z = another j one (nat_eq h.job j) refl in omega arith);
  }
    where
      another : (j : ℕ) → times_done (slice_get outcomes j) ≡ 1 → (b : Bool) → nat_eq h.job j ≡ b → times j (h.job ∷ []) ≡ 0
      another j one true is = let e : times_done (slice_get outcomes h.job) ≡ times_done (slice_get outcomes j) = ap (λ k. times_done (slice_get outcomes k)) (same_number h.job j is) in absurd (omega arith)
      another j one false is = let e : ◌≡◌ {A = ℕ} (cond (nat_eq h.job j) 1 0) 0 = ap (λ b. cond b 1 0) is in omega arith

  -- the job in hand of a reader whose last turn this is
  pub job_of_turn : (turns : List Turn) (done : List (DoneJob R)) (held : List (Held J)) (t : Turn) (h : Held J) → Hands turns done held → held_by t.reader held ≡ Some h
      → last_from None t.reader turns ≡ Some t → t.job ≡ h.job
  job_of_turn turns done held t h hands here last =
      let mine : IsOfLast turns h = all-held (IsOfLast turns) t.reader held h hands.mine here in
      ap (λ (u : Turn). u.job) (same_Some t mine.0 (sym last ∙ ap (λ r. last_from None r turns) (sym (held_by-reader t.reader held h here)) ∙ mine.1)) ∙ mine.2

  -- what it gives, where the turn finished it
  pub finishes : (turns : List Turn) (done : List (DoneJob R)) (held : List (Held J)) (t : Turn) (h : Held J) → Hands turns done held → held_by t.reader held ≡ Some h
      → last_from None t.reader turns ≡ Some t → Tells outcomes t → t.left ≡ Finished
      → ((job : ℕ) (value : J) (r : R) → slice_get jobs job ≡ Some value → slice_get outcomes job ≡ Some (outcome.Done r) → r ≡ answer value) → slice_get outcomes h.job ≡ Some (outcome.Done (answer h.frame))
  finishes turns done held t h hands here last tells is replies =
      let same : t.job ≡ h.job = job_of_turn turns done held t h hands here last in
      let got = reply_of (slice_get outcomes t.job) (times_of_turn outcomes t tells Finished is) in
      let there : slice_get outcomes h.job ≡ Some (outcome.Done got.0) = ap (slice_get outcomes) (sym same) ∙ got.1 in
      there ∙ ap (λ r. Some (outcome.Done r)) (replies h.job h.frame got.0 (all-held (λ (k : Held J). slice_get jobs k.job ≡ Some k.frame) t.reader held h hands.values here) there)

  -- no other job is done
  not_done : (j : ℕ) → times_done (slice_get outcomes j) ≡ 0 → (done : List (DoneJob R)) → AllByRecursion IsEntry done → times j (done_jobs done) ≡ 0
  not_done j idle [] each = refl
  not_done j idle (d ∷ ds) each = by (nat_eq d.job j) refl (not_done j idle ds each.1)
    where
      by : (b : Bool) → nat_eq d.job j ≡ b → times j (done_jobs ds) ≡ 0 → cond b 1 0 + times j (done_jobs ds) ≡ 0
      by true is rest = let e : times_done (slice_get outcomes j) ≡ 1 = ap (λ k. times_done (slice_get outcomes k)) (sym (same_number d.job j is)) ∙ ap times_done each.0.0 in absurd (omega arith)
      by false is rest = omega arith

  -- once no job is in hand, each that comes to a reply is done once, and no other
  pub all_done : (turns : List Turn) (done : List (DoneJob R)) → Hands turns done [] → ((j : ℕ) → times_done (slice_get outcomes j) ≡ 1 → j < length turns) → (j : ℕ) → times j (done_jobs done) ≡ times_done (slice_get outcomes j)
  all_done turns done hands began j = by (slice_get outcomes j) refl
    where
      gone : (o : Option (Outcome R)) → slice_get outcomes j ≡ o → times_done o ≡ 0 → times j (done_jobs done) ≡ times_done o
      gone o is idle = not_done j (ap times_done is ∙ idle) done hands.each ∙ sym idle

      by : (o : Option (Outcome R)) → slice_get outcomes j ≡ o → times j (done_jobs done) ≡ times_done o
      by None is = gone None is refl
      by (Some (outcome.Back at)) is = gone (Some (outcome.Back at)) is refl
      by (Some outcome.OutOfMemory) is = gone (Some outcome.OutOfMemory) is refl
      by (Some (outcome.Done r)) is = let one = ap times_done is in let o = hands.once j one in let b = below_some j (length turns) (began j one) in omega arith
