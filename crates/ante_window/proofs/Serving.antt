-- The window core runs a schedule.
use Rattle.std.proofs.Common.{◌≡◌, ◌≢◌, ℕ, zero, suc, ◌+◌, ◌<◌, ◌≤◌, ◌⊎◌, inl, inr, ⊎_elim, Bool, true, false, true≢false, ◌||◌, nat_eq, cond, List, [], ◌∷◌, ◌++◌, length, slice_get, slice_index_or, nat_lt, Option, Some, None, is_some, is_none, nat_le, append_assoc, append-nil, length-append, option_map, option_and_then, unwrap_or, IsSome, IfSome, subst, sym, ap, refl, ◌∙◌, arith}
use Rattle.std.specs.List.{AllByRecursion, flat_map, range_with_len}
use Rattle.std.proofs.lemmas.Bool.Decides.{nat_tests}
use Rattle.ante_core.specs.declared.DoneJob.{DoneJob}
use Rattle.ante_core.specs.declared.window.Held.{Held}
use Rattle.ante_core.specs.Runs.{after_event}
use Rattle.ante_core.specs.Machine.{State, WindowState, held_by, without, core_step, with_drawn, with_window, stands_if, next_held, after_piece, with_window_and_done}
use Rattle.ante_core.specs.declared.Piece.TheVariants.{Ready}
use Rattle.std.proofs.lemmas.Option.{none-some, same_Some, slice_get_within, get_or_from_slice_get}
use Rattle.ante_core.specs.Sound.{ApartBy}
use Rattle.ante_core.proofs.Lists.{all-push, all-weaken}
use Rattle.ante_window.specs.declared.outcome.Bell.{Bell}
use Rattle.ante_window.specs.declared.schedule.Left.{Left}
use Rattle.ante_window.specs.declared.schedule.Left.TheVariants.{Finished, Starved, Cut}
use Rattle.ante_window.specs.declared.schedule.Turn.{Turn}
use Rattle.ante_window.specs.declared.schedule.WindowEvent.{WindowEvent}
use Rattle.ante_window.specs.declared.schedule.WindowEvent.TheVariants as event
use Rattle.ante_window.specs.Schedule.{left_by, turns_from, last_from, ended_as, ended, cut_as, cut, has_turn, ended_unless, last_ended, ended_of, claims, ring, schedule}
use Rattle.ante_window.specs.InCore.{meaning, in_core, begun_over, RunsIn, after_window, times_done, Leaves}
use Rattle.ante_window.proofs.Finishing.{same_number, self_eq, or_tail, or_head, Tells, last_in, last_end, times_left, reply_of, times_of_turn, Hands, hands_free, hands_claim, hands_finish, hands_drop, job_of_turn, finishes, all_done}
use Rattle.ante_window.specs.declared.outcome.Outcome.{Outcome}
use Rattle.ante_window.specs.declared.outcome.Outcome.TheVariants as outcome
use Rattle.ante_window.specs.declared.outcome.Entry.{Entry}
use Rattle.ante_window.specs.Watching.{IsLate}
use Rattle.ante_window.specs.Reads.{TellsOutcome, IsBack, IsLastIn}
use Rattle.ante_window.specs.Fates.{nobody, entries_from}
use Rattle.ante_window.specs.Windows.{IsFate, IsWindow, moment_of}
use Rattle.std.proofs.lemmas.Bool.{ltb-true, ltb-false}

-- the turn was cut
abbrev pub IsCut : Left → Type 0
IsCut Finished = ⊥
IsCut Starved = ⊥
IsCut Cut = Unit {0}

-- a turn that was cut is its reader's last
abbrev pub CutsAreLast : List Turn → Type 0
CutsAreLast [] = Unit {0}
CutsAreLast (t ∷ ts) = (IsCut t.left → has_turn t.reader ts ≡ false) × CutsAreLast ts

-- whether a turn of the reader was cut
abbrev is_cut : Left → Bool
is_cut Finished = false
is_cut Starved = false
is_cut Cut = true

abbrev has_cut : ℕ → List Turn → Bool
has_cut x [] = false
has_cut x (t ∷ ts) = cond (nat_eq t.reader x) (is_cut t.left) false || has_cut x ts

-- whether the reader holds a job
abbrev holds : {J : Type 0} → ℕ → List (Held J) → Bool
holds x held = is_some (held_by x held)

some_there : {X : Type 0} (o : Option X) → is_some o ≡ true → (x : X) × (o ≡ Some x)
some_there None e = absurd (true≢false (sym e))
some_there (Some x) e = (x, refl)

none_there : {X : Type 0} (o : Option X) → is_some o ≡ false → is_none o ≡ true
none_there None e = refl
none_there (Some x) e = absurd (true≢false e)

-- The jobs in hand
module _ {J : Type 0} where
  held_snoc : (x : ℕ) (hs : List (Held J)) (h : Held J) → holds x (hs ++ h ∷ []) ≡ (holds x hs || nat_eq h.reader x)
  held_snoc x [] h = by (nat_eq h.reader x)
    where
      by : (b : Bool) → is_some (cond b (Some h) None) ≡ (false || b)
      by true = refl
      by false = refl
  held_snoc x (k ∷ hs) h = by (nat_eq k.reader x) (held_snoc x hs h)
    where
      by : (b : Bool) → holds x (hs ++ h ∷ []) ≡ (holds x hs || nat_eq h.reader x)
          → is_some (cond b (Some k) (held_by x (hs ++ h ∷ []))) ≡ (is_some (cond b (Some k) (held_by x hs)) || nat_eq h.reader x)
      by true e = refl
      by false e = e

  without_other : (r x : ℕ) (hs : List (Held J)) → nat_eq r x ≡ false → holds x (without r hs) ≡ holds x hs
  without_other r x [] ne = refl
  without_other r x (k ∷ hs) ne = by (nat_eq k.reader r) refl (nat_eq k.reader x) refl (without_other r x hs ne)
    where
      by : (b : Bool) → nat_eq k.reader r ≡ b → (c : Bool) → nat_eq k.reader x ≡ c → holds x (without r hs) ≡ holds x hs → holds x (cond b hs (k ∷ without r hs)) ≡ is_some (cond c (Some k) (held_by x hs))
      by true e true f h = let p = same_number k.reader r e in let q = same_number k.reader x f in absurd (true≢false (sym (self_eq x) ∙ ap (λ n. nat_eq n x) (sym q ∙ p) ∙ ne))
      by true e false f h = refl
      by false e true f h = ap (λ b. is_some (cond b (Some k) (held_by x (without r hs)))) f
      by false e false f h = ap (λ b. is_some (cond b (Some k) (held_by x (without r hs)))) f ∙ h

  others_none : (r : ℕ) (hs : List (Held J)) → AllByRecursion (λ (h : Held J). h.reader ≢ r) hs → holds r hs ≡ false
  others_none r [] h = refl
  others_none r (k ∷ hs) h = by (nat_eq k.reader r) refl (others_none r hs h.1)
    where
      by : (b : Bool) → nat_eq k.reader r ≡ b → holds r hs ≡ false → is_some (cond b (Some k) (held_by r hs)) ≡ false
      by true e i = absurd (h.0 (same_number k.reader r e))
      by false e i = i

  without_self : (r : ℕ) (hs : List (Held J)) → ApartBy (λ (h : Held J). h.reader) hs → holds r (without r hs) ≡ false
  without_self r [] a = refl
  without_self r (k ∷ hs) a = by (nat_eq k.reader r) refl (without_self r hs a.1)
    where
      by : (b : Bool) → nat_eq k.reader r ≡ b → holds r (without r hs) ≡ false → holds r (cond b hs (k ∷ without r hs)) ≡ false
      by true e i = others_none r hs (swap (same_number k.reader r e) hs a.0)
        where
          swap : k.reader ≡ r → (ks : List (Held J)) → AllByRecursion (λ (h : Held J). k.reader ≢ h.reader) ks → AllByRecursion (λ (h : Held J). h.reader ≢ r) ks
          swap p [] s = tt
          swap p (m ∷ ms) s = ((λ same. s.0 (p ∙ sym same)), swap p ms s.1)
      by false e i = ap (λ b. is_some (cond b (Some k) (held_by r (without r hs)))) e ∙ i

  no_holder : (hs : List (Held J)) → ((x : ℕ) → holds x hs ≡ false) → hs ≡ []
  no_holder [] h = refl
  no_holder (k ∷ hs) h = absurd (true≢false (sym (ap (λ b. is_some (cond b (Some k) (held_by k.reader hs))) (self_eq k.reader)) ∙ h k.reader))

none_is : {X : Type 0} (o : Option X) → is_some o ≡ false → o ≡ None
none_is None e = refl
none_is (Some x) e = absurd (true≢false e)

turn_snoc : (x : ℕ) (ts : List Turn) (t : Turn) → has_turn x (ts ++ t ∷ []) ≡ (has_turn x ts || nat_eq t.reader x)
turn_snoc x [] t = by (nat_eq t.reader x)
  where
    by : (b : Bool) → (b || false) ≡ (false || b)
    by true = refl
    by false = refl
turn_snoc x (u ∷ ts) t = by (nat_eq u.reader x) (turn_snoc x ts t)
  where
    by : (b : Bool) → has_turn x (ts ++ t ∷ []) ≡ (has_turn x ts || nat_eq t.reader x) → (b || has_turn x (ts ++ t ∷ [])) ≡ ((b || has_turn x ts) || nat_eq t.reader x)
    by true e = refl
    by false e = e

turn_later : (x : ℕ) (ts us : List Turn) → has_turn x us ≡ true → has_turn x (ts ++ us) ≡ true
turn_later x [] us e = e
turn_later x (t ∷ ts) us e = by (nat_eq t.reader x) (turn_later x ts us e)
  where
    by : (b : Bool) → has_turn x (ts ++ us) ≡ true → (b || has_turn x (ts ++ us)) ≡ true
    by true h = refl
    by false h = h

last_some : (found : Option Turn) (x : ℕ) (ts : List Turn) → is_some (last_from found x ts) ≡ (is_some found || has_turn x ts)
last_some found x [] = by (is_some found)
  where
    by : (b : Bool) → b ≡ (b || false)
    by true = refl
    by false = refl
last_some found x (t ∷ ts) = by (nat_eq t.reader x) (is_some found) (last_some (Some t) x ts) (last_some found x ts)
  where
    by : (b c : Bool) → is_some (last_from (Some t) x ts) ≡ true → is_some (last_from found x ts) ≡ (is_some found || has_turn x ts)
        → is_some (last_from (cond b (Some t) found) x ts) ≡ (is_some found || (b || has_turn x ts))
    by true c h i = h ∙ or_true (is_some found)
      where
        or_true : (d : Bool) → true ≡ (d || true)
        or_true true = refl
        or_true false = refl
    by false c h i = i

-- the last turn of a reader that has another wasn't cut
last_uncut : (found : Option Turn) (x : ℕ) (before ts : List Turn) → CutsAreLast (before ++ ts) → has_turn x ts ≡ true → (u : Turn) → last_from found x before ≡ Some u
    → (found ≡ Some u) ⊎ ((u.reader ≡ x) × (IsCut u.left → ⊥))
last_uncut found x [] ts cuts later u e = inl e
last_uncut found x (b ∷ bs) ts cuts later u e = by (last_uncut (Some b) x bs ts cuts.1 later u) (last_uncut found x bs ts cuts.1 later u) (nat_eq b.reader x) refl e
  where
    by : (last_from (Some b) x bs ≡ Some u → (Some b ≡ Some u) ⊎ ((u.reader ≡ x) × (IsCut u.left → ⊥))) → (last_from found x bs ≡ Some u → (found ≡ Some u) ⊎ ((u.reader ≡ x) × (IsCut u.left → ⊥))) → (c : Bool) → nat_eq b.reader x ≡ c → last_from (cond c (Some b) found) x bs ≡ Some u → (found ≡ Some u) ⊎ ((u.reader ≡ x) × (IsCut u.left → ⊥))
    by one other true is f =
        let p = same_number b.reader x is in
        let mine : (u : Turn) → b ≡ u → (u.reader ≡ x) × (IsCut u.left → ⊥) =
        λ v q. subst (λ (w : Turn). (w.reader ≡ x) × (IsCut w.left → ⊥)) q (p, (λ cut_it. true≢false (sym (turn_later x bs ts later) ∙ ap (λ m. has_turn m (bs ++ ts)) (sym p) ∙ cuts.0 cut_it))) in
        ⊎_elim (λ same. inr (mine u (same_Some b u same))) (λ r. inr r) (one f)
    by one other false is f = other f

or_true : (c : Bool) → (c || true) ≡ true
or_true true = refl
or_true false = refl

or_false : (c : Bool) → c ≡ (c || false)
or_false true = refl
or_false false = refl

cut_is : (l : Left) → is_cut l ≡ true → IsCut l
cut_is Finished e = true≢false (sym e)
cut_is Starved e = true≢false (sym e)
cut_is Cut e = tt

le_test : (a b : ℕ) → a ≤ b → nat_le a b ≡ true
le_test a b le = grind (arith, nat_tests)

cut_snoc : (x : ℕ) (ts : List Turn) (t : Turn) → has_cut x (ts ++ t ∷ []) ≡ (has_cut x ts || cond (nat_eq t.reader x) (is_cut t.left) false)
cut_snoc x [] t = sym (or_false (cond (nat_eq t.reader x) (is_cut t.left) false))
cut_snoc x (u ∷ ts) t = by (cond (nat_eq u.reader x) (is_cut u.left) false) (cut_snoc x ts t)
  where
    by : (b : Bool) → has_cut x (ts ++ t ∷ []) ≡ (has_cut x ts || cond (nat_eq t.reader x) (is_cut t.left) false)
        → (b || has_cut x (ts ++ t ∷ [])) ≡ ((b || has_cut x ts) || cond (nat_eq t.reader x) (is_cut t.left) false)
    by true e = refl
    by false e = e

cut_none : (x : ℕ) (ts : List Turn) → has_turn x ts ≡ false → has_cut x ts ≡ false
cut_none x [] e = refl
cut_none x (t ∷ ts) e = ap (λ b. cond b (is_cut t.left) false || has_cut x ts) (or_head (nat_eq t.reader x) (has_turn x ts) e) ∙ cut_none x ts (or_tail (nat_eq t.reader x) (has_turn x ts) e)

no_cuts : (ts : List Turn) → ((x : ℕ) → has_cut x ts ≡ false) → flat_map cut ts ≡ []
no_cuts [] h = refl
no_cuts (t ∷ ts) h = ap (λ l. l ++ flat_map cut ts) (by t.left (sym (ap (λ b. cond b (is_cut t.left) false) (self_eq t.reader)) ∙ or_head (cond (nat_eq t.reader t.reader) (is_cut t.left) false) (has_cut t.reader ts) (h t.reader)))
    ∙ no_cuts ts (λ x. or_tail (cond (nat_eq t.reader x) (is_cut t.left) false) (has_cut x ts) (h x))
  where
    by : (l : Left) → is_cut l ≡ false → cut_as t.reader t.job l ≡ []
    by Finished e = refl
    by Starved e = refl
    by Cut e = absurd (true≢false e)

-- each of the events has a row in the state that those before it leave, and what they all leave is such
abbrev pub RunsTo : {S J R : Type 0} → (S → J → R) → (State S J J R → Type 0) → State S J J R → List WindowEvent → Type 0
RunsTo answer Ends s [] = Ends s
RunsTo answer Ends s (e ∷ es) = IsSome (core_step (meaning answer) s (in_core e).0) × RunsTo answer Ends (after_event (meaning answer) s (in_core e)) es

pub runs_in : {S J R : Type 0} (answer : S → J → R) (Ends : State S J J R → Type 0) (s : State S J J R) (es : List WindowEvent) → RunsTo answer Ends s es → RunsIn answer s es
runs_in answer Ends s [] h = tt
runs_in answer Ends s (e ∷ es) h = (h.0, runs_in answer Ends (after_event (meaning answer) s (in_core e)) es h.1)

pub runs_end : {S J R : Type 0} (answer : S → J → R) (Ends : State S J J R → Type 0) (s : State S J J R) (es : List WindowEvent) → RunsTo answer Ends s es → Ends (after_window answer s es)
runs_end answer Ends s [] h = h
runs_end answer Ends s (e ∷ es) h = runs_end answer Ends (after_event (meaning answer) s (in_core e)) es h.1

-- the turns are of the jobs from this one on, each once
abbrev pub InRow : ℕ → List Turn → Type 0
InRow job [] = Unit {0}
InRow job (t ∷ ts) = (t.job ≡ job) × InRow (job + 1) ts

module _ {S J R : Type 0} (answer : S → J → R) (world : S) (jobs : List J) (deadline : ℕ) (listed : List ℕ) (n : ℕ) (outcomes : List (Outcome R)) (Ends : State S J J R → Type 0)
    (room : (drawn : ℕ) → drawn < n → (value : J) × (slice_get listed drawn ≡ Some drawn) × (slice_get jobs drawn ≡ Some value))
    (replies : (job : ℕ) (value : J) (r : R) → slice_get jobs job ≡ Some value → slice_get outcomes job ≡ Some (outcome.Done r) → r ≡ answer world value) where
  abbrev in_hand : ℕ → Option ℕ → List (Held J) → WindowState J
  in_hand drawn rung held = record { deadline = deadline; listed = listed; drawn = drawn; rung = rung; held = held }

  abbrev at : List (DoneJob R) → ℕ → Option ℕ → List (Held J) → State S J J R
  at done drawn rung held = record { world = world; position = 0; jobs = jobs; done = done; window = Some (in_hand drawn rung held) }

  abbrev Runs : State S J J R → List WindowEvent → Type 0
  Runs s es = RunsTo answer Ends s es

  abbrev Has : List Turn → List (DoneJob R) → List (Held J) → Type 0
  Has turns done held = Hands (answer world) jobs outcomes turns done held

  goes : (s t : State S J J R) (es : List WindowEvent) (o : Option (State S J J R)) → o ≡ Some t → Runs t es → IsSome o × Runs (unwrap_or o s) es
  goes s t es o e h = subst (λ p. IsSome p × Runs (unwrap_or p s) es) (sym e) (refl, h)

  advances : (done : List (DoneJob R)) (drawn : ℕ) (rung : Option ℕ) (held : List (Held J)) (r job : ℕ) (h : Held J) → held_by r held ≡ Some h
      → core_step (meaning answer) (at done drawn rung held) (in_core (event.Finish r job)).0 ≡ Some (at (done ++ record { job = h.job; position = 0; reply = answer world h.frame } ∷ []) drawn rung (without r held))
  advances done drawn rung held r job h e =
      ap (λ o. option_map (with_window_and_done (at done drawn rung held)) (option_map (λ (k : Held J). after_piece r 0 (in_hand drawn rung held, done) k (Ready (answer world k.frame))) o)) e

  -- the job of a turn that isn't finished leaves its reader's hands
  drops : (turns : List Turn) (done : List (DoneJob R)) (held : List (Held J)) (t : Turn) (h : Held J) → Has turns done held → held_by t.reader held ≡ Some h → last_from None t.reader turns ≡ Some t → Tells outcomes t
      → (l : Left) → t.left ≡ l → times_left l ≡ 0 → Has turns done (without t.reader held)
  drops turns done held t h hands here last tells l is idle =
      hands_drop (answer world) jobs outcomes turns done held t.reader h hands here
      (ap (λ k. times_done (slice_get outcomes k)) (sym (job_of_turn (answer world) jobs outcomes turns done held t h hands here last)) ∙ times_of_turn outcomes t tells l is ∙ idle)

  -- a reader's turn, its last so far, ends before the bell
  end_turn : (turns : List Turn) (done : List (DoneJob R)) (drawn : ℕ) (rung : Option ℕ) (held : List (Held J)) (t : Turn) → Has turns done held → last_from None t.reader turns ≡ Some t → Tells outcomes t
      → holds t.reader held ≡ true → (IsCut t.left → ⊥) → (es : List WindowEvent)
      → ((done' : List (DoneJob R)) → Has turns done' (without t.reader held) → Runs (at done' drawn rung (without t.reader held)) es) → Runs (at done drawn rung held) (ended t ++ es)
  end_turn turns done drawn rung held t hands last tells there uncut es k =
      let h = some_there (held_by t.reader held) there in by h.0 h.1 t.left refl uncut
    where
      by : (h : Held J) → held_by t.reader held ≡ Some h → (l : Left) → t.left ≡ l → (IsCut l → ⊥) → Runs (at done drawn rung held) (ended_as t.reader t.job l ++ es)
      by h here Finished is u =
          goes (at done drawn rung held) (at (done ++ record { job = h.job; position = 0; reply = answer world h.frame } ∷ []) drawn rung (without t.reader held)) es
          (core_step (meaning answer) (at done drawn rung held) (in_core (event.Finish t.reader t.job)).0) (advances done drawn rung held t.reader t.job h here)
          (k (done ++ record { job = h.job; position = 0; reply = answer world h.frame } ∷ [])
          (hands_finish (answer world) jobs outcomes turns done held t.reader h hands here (finishes (answer world) jobs outcomes turns done held t h hands here last tells is replies)))
      by h here Starved is u =
          (subst IsSome (sym (advances done drawn rung held t.reader t.job h here)) refl, k done (drops turns done held t h hands here last tells Starved is refl))
      by h here Cut is u = absurd (u tt)

  -- a reader without a job claims the next
  claim_turn : (done : List (DoneJob R)) (drawn : ℕ) (held : List (Held J)) (r job : ℕ) → holds r held ≡ false → drawn < n → (es : List WindowEvent)
      → ((value : J) → slice_get jobs drawn ≡ Some value → Runs (at done (drawn + 1) None (held ++ record { reader = r; job = drawn; frame = value } ∷ [])) es) → Runs (at done drawn None held) (event.Claim r job ∷ es)
  claim_turn done drawn held r job free lt es k =
      let place = room drawn lt in
      let h : Held J = record { reader = r; job = drawn; frame = place.0 } in
      let next : next_held (meaning answer) world jobs r (in_hand drawn None held) ≡ Some h =
      ap (λ o. option_and_then (λ i. option_map (λ value. record { reader = r; job = i; frame = value }) (slice_get jobs i)) o) place.1
      ∙ ap (λ o. option_map (λ value. record { reader = r; job = drawn; frame = value }) o) place.2 in
      let row : core_step (meaning answer) (at done drawn None held) (in_core (event.Claim r job)).0 ≡ Some (at done (drawn + 1) None (held ++ h ∷ [])) =
      ap (λ b. option_map (with_window (at done drawn None held)) (stands_if b (unwrap_or (option_map (with_drawn (in_hand drawn None held)) (next_held (meaning answer) world jobs r (in_hand drawn None held))) (in_hand drawn None held)))) (none_there (held_by r held) free)
      ∙ ap (λ o. Some (with_window (at done drawn None held) (unwrap_or (option_map (with_drawn (in_hand drawn None held)) o) (in_hand drawn None held)))) next in
      goes (at done drawn None held) (at done (drawn + 1) None (held ++ h ∷ [])) es (core_step (meaning answer) (at done drawn None held) (in_core (event.Claim r job)).0) row (k place.0 place.2)

  next_free : (before : List Turn) (t : Turn) (held : List (Held J)) → ((x : ℕ) → nat_eq t.reader x ≡ false → holds x held ≡ has_turn x before)
      → (h : Held J) → h.reader ≡ t.reader → (x : ℕ) → holds x (held ++ h ∷ []) ≡ has_turn x (before ++ t ∷ [])
  next_free before t held same h is x = held_snoc x held h ∙ ap (λ r. holds x held || nat_eq r x) is ∙ by (nat_eq t.reader x) refl ∙ sym (turn_snoc x before t)
    where
      or_true : (c : Bool) → (c || true) ≡ true
      or_true true = refl
      or_true false = refl

      by : (b : Bool) → nat_eq t.reader x ≡ b → (holds x held || b) ≡ (has_turn x before || b)
      by true e = or_true (holds x held) ∙ sym (or_true (has_turn x before))
      by false e = ap (λ c. c || false) (same x e)

  -- The claims of these turns, after those before
  claims_run : (before ts : List Turn) → CutsAreLast (before ++ ts) → InRow (length before) ts → AllByRecursion (Tells outcomes) before → AllByRecursion (Tells outcomes) ts → length before + length ts ≤ n
      → (done : List (DoneJob R)) (held : List (Held J)) → ((x : ℕ) → holds x held ≡ has_turn x before) → Has before done held → (es : List WindowEvent)
      → ((done' : List (DoneJob R)) (held' : List (Held J)) → ((x : ℕ) → holds x held' ≡ has_turn x (before ++ ts)) → Has (before ++ ts) done' held' → Runs (at done' (length before + length ts) None held') es)
      → Runs (at done (length before) None held) (claims before ts ++ es)
  claims_run before [] cuts row told tell few done held same hands es k =
      subst (λ d. Runs (at done d None held) es) (omega arith)
      (k done held (λ x. same x ∙ ap (has_turn x) (sym (append-nil before))) (subst (λ ts. Has ts done held) (sym (append-nil before)) hands))
  claims_run before (t ∷ ts) cuts row told tell few done held same hands es k =
      subst (Runs (at done (length before) None held)) (sym (append_assoc (ended_of t.reader before) (event.Claim t.reader t.job ∷ claims (before ++ t ∷ []) ts) es))
      (by (λ done' held' same' hands'. claims_run (before ++ t ∷ []) ts (subst CutsAreLast (sym whole) cuts) (subst (λ j. InRow j ts) (sym long) row.1) (all-push (Tells outcomes) before t told tell.0) tell.1
      (omega (arith, long, few)) done' held' same' hands' es
      (λ done'' held'' same'' hands''. subst (λ d. Runs (at done'' d None held'') es) (omega (arith, long)) (k done'' held'' (λ x. same'' x ∙ ap (has_turn x) whole) (subst (λ us. Has us done'' held'') whole hands''))))
      (last_from None t.reader before) refl)
    where
      others : List WindowEvent
      others = claims (before ++ t ∷ []) ts ++ es

      long : length (before ++ t ∷ []) ≡ length before + 1
      long = length-append before (t ∷ [])

      whole : (before ++ t ∷ []) ++ ts ≡ before ++ t ∷ ts
      whole = append_assoc before (t ∷ []) ts

      claimed : ((done' : List (DoneJob R)) (held' : List (Held J)) → ((x : ℕ) → holds x held' ≡ has_turn x (before ++ t ∷ [])) → Has (before ++ t ∷ []) done' held' → Runs (at done' (length (before ++ t ∷ [])) None held') (claims (before ++ t ∷ []) ts ++ es))
          → (done' : List (DoneJob R)) (held' : List (Held J)) → holds t.reader held' ≡ false → ((x : ℕ) → nat_eq t.reader x ≡ false → holds x held' ≡ has_turn x before) → Has before done' held'
          → Runs (at done' (length before) None held') (event.Claim t.reader t.job ∷ others)
      claimed again done' held' free same' hands' = claim_turn done' (length before) held' t.reader t.job free (omega arith) others
          (λ value there. subst (λ d. Runs (at done' d None (held' ++ record { reader = t.reader; job = length before; frame = value } ∷ [])) others) long
          (again done' (held' ++ record { reader = t.reader; job = length before; frame = value } ∷ []) (next_free before t held' same' (record { reader = t.reader; job = length before; frame = value }) refl)
          (hands_claim (answer world) jobs outcomes before t done' held' value hands' (none_is (held_by t.reader held') free) row.0 there long)))

      by : ((done' : List (DoneJob R)) (held' : List (Held J)) → ((x : ℕ) → holds x held' ≡ has_turn x (before ++ t ∷ [])) → Has (before ++ t ∷ []) done' held' → Runs (at done' (length (before ++ t ∷ [])) None held') (claims (before ++ t ∷ []) ts ++ es))
          → (o : Option Turn) → last_from None t.reader before ≡ o → Runs (at done (length before) None held) (unwrap_or (option_map ended o) [] ++ event.Claim t.reader t.job ∷ others)
      by again None is = claimed again done held (same t.reader ∙ sym (last_some None t.reader before) ∙ ap (λ o. is_some o) is) (λ x ne. same x) hands
      by again (Some u) is =
          let u_is = last_uncut None t.reader before (t ∷ ts) cuts (ap (λ b. b || has_turn t.reader ts) (self_eq t.reader)) u is in
          let good : (u.reader ≡ t.reader) × (IsCut u.left → ⊥) = ⊎_elim (λ no. absurd (none-some u no)) (λ g. g) u_is in
          let there : holds t.reader held ≡ true = same t.reader ∙ sym (last_some None t.reader before) ∙ ap (λ o. is_some o) is in
          end_turn before done (length before) None held u hands (subst (λ r. last_from None r before ≡ Some u) (sym good.0) is) (last_in (Tells outcomes) None t.reader before u tt told is)
          (subst (λ r. holds r held ≡ true) (sym good.0) there) good.1 (event.Claim t.reader t.job ∷ others)
          (λ done' hands'. claimed again done' (without u.reader held)
          (subst (λ r. holds r (without u.reader held) ≡ false) good.0 (without_self u.reader held hands.apart))
          (λ x ne. without_other u.reader x held (subst (λ r. nat_eq r x ≡ false) (sym good.0) ne) ∙ same x) hands')

  -- What ends each reader's last turn, of the later turns: of those before, the turns that were cut are still in hand
  ends_run : (pre ts all : List Turn) → pre ++ ts ≡ all → CutsAreLast ts → AllByRecursion (Tells outcomes) ts → ((x : ℕ) → has_cut x pre ≡ true → has_turn x ts ≡ false) → (done : List (DoneJob R)) (drawn : ℕ) (held : List (Held J))
      → ((x : ℕ) → holds x held ≡ (has_turn x ts || has_cut x pre)) → Has all done held → (es : List WindowEvent)
      → ((done' : List (DoneJob R)) (held' : List (Held J)) → ((x : ℕ) → holds x held' ≡ has_cut x (pre ++ ts)) → Has all done' held' → Runs (at done' drawn None held') es)
      → Runs (at done drawn None held) (last_ended ts ++ es)
  ends_run pre [] all all_is cuts tell later done drawn held same hands es k = k done held (λ x. same x ∙ ap (has_cut x) (sym (append-nil pre))) hands
  ends_run pre (t ∷ ts) all all_is cuts tell later done drawn held same hands es k =
      subst (Runs (at done drawn None held)) (sym (append_assoc (ended_unless (has_turn t.reader ts) t) (last_ended ts) es))
      (by (λ done' held' same' hands'. ends_run (pre ++ t ∷ []) ts all (whole ∙ all_is) cuts.1 tell.1 later' done' drawn held' same' hands' es (λ done'' held'' same'' hands''. k done'' held'' (λ x. same'' x ∙ ap (has_cut x) whole) hands''))
      (has_turn t.reader ts) refl t.left refl)
    where
      whole : (pre ++ t ∷ []) ++ ts ≡ pre ++ t ∷ ts
      whole = append_assoc pre (t ∷ []) ts

      cut_here : ℕ → Bool
      cut_here x = cond (nat_eq t.reader x) (is_cut t.left) false

      snoc : (x : ℕ) → has_cut x (pre ++ t ∷ []) ≡ (has_cut x pre || cut_here x)
      snoc x = cut_snoc x pre t

      later' : (x : ℕ) → has_cut x (pre ++ t ∷ []) ≡ true → has_turn x ts ≡ false
      later' x e = go (has_cut x pre) refl (nat_eq t.reader x) refl (is_cut t.left) refl (sym (snoc x) ∙ e)
        where
          go : (a : Bool) → has_cut x pre ≡ a → (b : Bool) → nat_eq t.reader x ≡ b → (c : Bool) → is_cut t.left ≡ c → (a || cond b c false) ≡ true → has_turn x ts ≡ false
          go true p b q c r f = or_tail (nat_eq t.reader x) (has_turn x ts) (later x p)
          go false p true q true r f = subst (λ m. has_turn m ts ≡ false) (same_number t.reader x q) (cuts.0 (cut_is t.left r))
          go false p true q false r f = absurd (true≢false (sym f))
          go false p false q c r f = absurd (true≢false (sym f))

      -- nothing ends here
      stays : (has_turn t.reader ts ≡ true) ⊎ (is_cut t.left ≡ true) → (x : ℕ) → holds x held ≡ (has_turn x ts || has_cut x (pre ++ t ∷ []))
      stays why x = same x ∙ go (nat_eq t.reader x) refl (has_turn x ts) refl (has_cut x pre) (is_cut t.left) refl ∙ ap (λ b. has_turn x ts || b) (sym (snoc x))
        where
          go : (a : Bool) → nat_eq t.reader x ≡ a → (b : Bool) → has_turn x ts ≡ b → (c d : Bool) → is_cut t.left ≡ d → ((a || b) || c) ≡ (b || (c || cond a d false))
          go false p true q c d r = refl
          go false p false q c d r = or_false c
          go true p true q c d r = refl
          go true p false q c true r = sym (or_true c)
          go true p false q c false r = absurd (⊎_elim
              (λ more. true≢false (sym more ∙ ap (λ m. has_turn m ts) (same_number t.reader x p) ∙ q)) (λ cut_it. true≢false (sym cut_it ∙ r)) why)

      there : holds t.reader held ≡ true
      there = same t.reader ∙ ap (λ b. (b || has_turn t.reader ts) || has_cut t.reader pre) (self_eq t.reader)

      gone : has_turn t.reader ts ≡ false → is_cut t.left ≡ false → (x : ℕ) → holds x (without t.reader held) ≡ (has_turn x ts || has_cut x (pre ++ t ∷ []))
      gone is uncut x = go (nat_eq t.reader x) refl (has_cut x pre) refl ∙ ap (λ b. has_turn x ts || b) (sym (snoc x))
        where
          go : (a : Bool) → nat_eq t.reader x ≡ a → (c : Bool) → has_cut x pre ≡ c → holds x (without t.reader held) ≡ (has_turn x ts || (c || cond a (is_cut t.left) false))
          go true p true q = absurd (true≢false (sym (ap (λ b. b || has_turn x ts) p) ∙ later x q))
          go true p false q = subst (λ m. holds m (without t.reader held) ≡ (has_turn m ts || is_cut t.left)) (same_number t.reader x p)
              (without_self t.reader held hands.apart ∙ sym (ap (λ b. b || is_cut t.left) is ∙ uncut))
          go false p c q = without_other t.reader x held p ∙ same x ∙ ap (λ b. (b || has_turn x ts) || has_cut x pre) p ∙ ap (λ b. has_turn x ts || b) (q ∙ or_false c)

      ended_here : ((done' : List (DoneJob R)) (held' : List (Held J)) → ((x : ℕ) → holds x held' ≡ (has_turn x ts || has_cut x (pre ++ t ∷ []))) → Has all done' held' → Runs (at done' drawn None held') (last_ended ts ++ es))
          → has_turn t.reader ts ≡ false → (IsCut t.left → ⊥) → is_cut t.left ≡ false → Runs (at done drawn None held) (ended t ++ (last_ended ts ++ es))
      ended_here again is uncut not_cut = end_turn all done drawn None held t hands (subst (λ us. last_from None t.reader us ≡ Some t) all_is (last_end None pre t ts is)) tell.0 there uncut (last_ended ts ++ es)
          (λ done' hands'. again done' (without t.reader held) (gone is not_cut) hands')

      by : ((done' : List (DoneJob R)) (held' : List (Held J)) → ((x : ℕ) → holds x held' ≡ (has_turn x ts || has_cut x (pre ++ t ∷ []))) → Has all done' held' → Runs (at done' drawn None held') (last_ended ts ++ es))
          → (b : Bool) → has_turn t.reader ts ≡ b → (l : Left) → t.left ≡ l → Runs (at done drawn None held) (ended_unless b t ++ (last_ended ts ++ es))
      by again true is l left_is = again done held (stays (inl is)) hands
      by again false is Cut left_is =
          subst (λ l. Runs (at done drawn None held) (ended_as t.reader t.job l ++ (last_ended ts ++ es))) (sym left_is)
          (again done held (stays (inr (ap is_cut left_is))) hands)
      by again false is Finished left_is = ended_here again is (λ c. subst IsCut left_is c) (ap is_cut left_is)
      by again false is Starved left_is = ended_here again is (λ c. subst IsCut left_is c) (ap is_cut left_is)

  -- the window's end, by what stands then
  module _ (all : List Turn) (over : (done : List (DoneJob R)) → Has all done [] → Ends (record { world = world; position = 0; jobs = jobs; done = done; window = None })) where
    closes : (done : List (DoneJob R)) (drawn : ℕ) (rung : Option ℕ) (held : List (Held J)) → Has all done held → ((x : ℕ) → holds x held ≡ false) → Runs (at done drawn rung held) (event.Close ∷ [])
    closes done drawn rung held hands none_left =
        subst (λ hs. Has all done hs → Runs (at done drawn rung hs) (event.Close ∷ [])) (sym (no_holder held none_left)) (λ hands'. (refl, over done hands')) hands

    -- The cuts of these turns, once the bell was rung, and the window's end
    cuts_run : (pre ts : List Turn) → pre ++ ts ≡ all → CutsAreLast ts → AllByRecursion (Tells outcomes) ts → (done : List (DoneJob R)) (drawn m : ℕ) (held : List (Held J)) → ((x : ℕ) → holds x held ≡ has_cut x ts) → Has all done held
        → Runs (at done drawn (Some m) held) (flat_map cut ts ++ event.Close ∷ [])
    cuts_run pre [] all_is cuts tell done drawn m held same hands = closes done drawn (Some m) held hands same
    cuts_run pre (t ∷ ts) all_is cuts tell done drawn m held same hands =
        subst (Runs (at done drawn (Some m) held)) (sym (append_assoc (cut t) (flat_map cut ts) (event.Close ∷ [])))
        (by (λ held' same' hands'. cuts_run (pre ++ t ∷ []) ts (append_assoc pre (t ∷ []) ts ∙ all_is) cuts.1 tell.1 done drawn m held' same' hands') t.left refl)
      where
        passed : is_cut t.left ≡ false → (x : ℕ) → holds x held ≡ has_cut x ts
        passed e x = same x ∙ go (nat_eq t.reader x)
          where
            go : (a : Bool) → (cond a (is_cut t.left) false || has_cut x ts) ≡ has_cut x ts
            go true = ap (λ b. b || has_cut x ts) e
            go false = refl

        there : is_cut t.left ≡ true → holds t.reader held ≡ true
        there e = same t.reader ∙ ap (λ b. cond b (is_cut t.left) false || has_cut t.reader ts) (self_eq t.reader) ∙ ap (λ b. b || has_cut t.reader ts) e

        gone : IsCut t.left → (x : ℕ) → holds x (without t.reader held) ≡ has_cut x ts
        gone c x = go (nat_eq t.reader x) refl
          where
            go : (a : Bool) → nat_eq t.reader x ≡ a → holds x (without t.reader held) ≡ has_cut x ts
            go true p = subst (λ k. holds k (without t.reader held) ≡ has_cut k ts) (same_number t.reader x p) (without_self t.reader held hands.apart ∙ sym (cut_none t.reader ts (cuts.0 c)))
            go false p = without_other t.reader x held p ∙ same x ∙ ap (λ b. cond b (is_cut t.left) false || has_cut x ts) p

        by : ((held' : List (Held J)) → ((x : ℕ) → holds x held' ≡ has_cut x ts) → Has all done held' → Runs (at done drawn (Some m) held') (flat_map cut ts ++ event.Close ∷ [])) → (l : Left) → t.left ≡ l
            → Runs (at done drawn (Some m) held) (cut_as t.reader t.job l ++ (flat_map cut ts ++ event.Close ∷ []))
        by again Finished is = again held (passed (ap is_cut is)) hands
        by again Starved is = again held (passed (ap is_cut is)) hands
        by again Cut is =
            let c : IsCut t.left = subst IsCut (sym is) tt in
            let h = some_there (held_by t.reader held) (there (ap is_cut is)) in
            let last = subst (λ us. last_from None t.reader us ≡ Some t) all_is (last_end None pre t ts (cuts.0 c)) in
            goes (at done drawn (Some m) held) (at done drawn (Some m) (without t.reader held)) (flat_map cut ts ++ event.Close ∷ []) (core_step (meaning answer) (at done drawn (Some m) held) (in_core (event.Cut t.reader t.job)).0)
            (ap (λ b. option_map (with_window (at done drawn (Some m) held)) (stands_if b (in_hand drawn (Some m) (without t.reader held)))) (there (ap is_cut is)))
            (again (without t.reader held) (gone c) (drops all done held t h.0 hands h.1 last tell.0 Cut is refl))

    rest_runs : (b : Option Bell) → CutsAreLast all → AllByRecursion (Tells outcomes) all → (b ≡ None → (x : ℕ) → has_cut x all ≡ false) → IfSome b (λ (c : Bell). deadline ≤ c.moment) → (done : List (DoneJob R)) (drawn : ℕ) (held : List (Held J)) → ((x : ℕ) → holds x held ≡ has_cut x all) → Has all done held
        → Runs (at done drawn None held) (ring b ++ (flat_map cut all ++ event.Close ∷ []))
    rest_runs None cuts tell quiet after done drawn held same hands =
        subst (λ l. Runs (at done drawn None held) (l ++ event.Close ∷ [])) (sym (no_cuts all (quiet refl))) (closes done drawn None held hands (λ x. same x ∙ quiet refl x))
    rest_runs (Some b) cuts tell quiet after done drawn held same hands =
        goes (at done drawn None held) (at done drawn (Some b.moment) held) (flat_map cut all ++ event.Close ∷ []) (core_step (meaning answer) (at done drawn None held) (in_core (event.Ring b.reader b.moment)).0)
        (ap (λ c. option_map (with_window (at done drawn None held)) (stands_if c (in_hand drawn (Some b.moment) held))) (le_test deadline b.moment after))
        (cuts_run [] all refl cuts tell done drawn b.moment held same hands)

    -- A schedule runs: the turns that were cut are their readers' last, and none was where the bell wasn't rung
    pub schedule_runs : (bell : Option Bell) → CutsAreLast all → InRow 0 all → AllByRecursion (Tells outcomes) all → length all ≤ n → (bell ≡ None → (x : ℕ) → has_cut x all ≡ false) → IfSome bell (λ (b : Bell). deadline ≤ b.moment)
        → Runs (at [] 0 None []) (schedule all bell)
    schedule_runs bell cuts row tell few silent late =
        subst (Runs (at [] 0 None [])) (sym (append_assoc ((claims [] all ++ last_ended all) ++ ring bell) (flat_map cut all) (event.Close ∷ []) ∙ append_assoc (claims [] all ++ last_ended all) (ring bell) (flat_map cut all ++ event.Close ∷ [])
        ∙ append_assoc (claims [] all) (last_ended all) (ring bell ++ (flat_map cut all ++ event.Close ∷ []))))
        (claims_run [] all cuts row tt tell (omega arith) [] [] (λ x. refl) (hands_free (answer world) jobs outcomes) (last_ended all ++ (ring bell ++ (flat_map cut all ++ event.Close ∷ [])))
        (λ done held same hands. ends_run [] all all refl cuts tell (λ x e. absurd (true≢false (sym e))) done (0 + length all) held (λ x. same x ∙ or_false (has_turn x all)) hands (ring bell ++ (flat_map cut all ++ event.Close ∷ []))
        (λ done' held' same' hands'. rest_runs bell cuts tell silent late done' (0 + length all) held' same' hands')))

-- From a window's lists to its turns
module _ {R : Type 0} where
  no_turn : (o bound job : ℕ) (os : List ℕ) (xs : List (Outcome R)) → bound < job → AllByRecursion (λ (f : Entry R). f.reader ≡ o → f.job ≤ bound) (entries_from job os xs) → has_turn o (turns_from job os xs) ≡ false
  no_turn o bound job [] xs lt h = refl
  no_turn o bound job (p ∷ os) [] lt h = refl
  no_turn o bound job (p ∷ os) (x ∷ xs) lt h = by (nat_eq p nobody) (nat_eq p o) refl (no_turn o bound (job + 1) os xs (omega arith) h.1)
    where
      by : (b c : Bool) → nat_eq p o ≡ c → has_turn o (turns_from (job + 1) os xs) ≡ false → has_turn o (cond b [] (record { reader = p; job = job; left = left_by x } ∷ []) ++ turns_from (job + 1) os xs) ≡ false
      by true c is e = e
      by false true is e = let le = h.0 (same_number p o is) in absurd (omega arith)
      by false false is e = ap (λ d. d || has_turn o (turns_from (job + 1) os xs)) is ∙ e

  back_of : (x : Outcome R) → IsCut (left_by x) → IsBack x
  back_of (outcome.Done r) c = c
  back_of (outcome.Back moment) c = c
  back_of outcome.OutOfMemory c = c

  cuts_last : (workers job : ℕ) (os : List ℕ) (xs : List (Outcome R)) → AllByRecursion (λ (e : Entry R). e.reader ≢ nobody → e.reader < workers) (entries_from job os xs)
      → AllByRecursion (λ (e : Entry R). e.reader < workers → IsBack e.outcome → IsLastIn (entries_from job os xs) e) (entries_from job os xs) → CutsAreLast (turns_from job os xs)
  cuts_last workers job [] xs own h = tt
  cuts_last workers job (p ∷ os) [] own h = tt
  cuts_last workers job (p ∷ os) (x ∷ xs) own h =
      by (nat_eq p nobody) refl (cuts_last workers (job + 1) os xs own.1
      (all-weaken (λ (e : Entry R). e.reader < workers → IsBack e.outcome → IsLastIn (entries_from job (p ∷ os) (x ∷ xs)) e) (λ (e : Entry R). e.reader < workers → IsBack e.outcome → IsLastIn (entries_from (job + 1) os xs) e)
      (entries_from (job + 1) os xs) (λ e f lt back. (f lt back).1) h.1))
    where
      by : (b : Bool) → nat_eq p nobody ≡ b → CutsAreLast (turns_from (job + 1) os xs) → CutsAreLast (cond b [] (record { reader = p; job = job; left = left_by x } ∷ []) ++ turns_from (job + 1) os xs)
      by true is c = c
      by false is c =
          let mine : p < workers = own.0 (λ same. true≢false (sym (self_eq p) ∙ ap (nat_eq p) same ∙ is)) in
          ((λ cut_it. no_turn p job (job + 1) os xs (omega arith) ((h.0 mine (back_of x cut_it)).1)), c)

  few_turns : (job : ℕ) (os : List ℕ) (xs : List (Outcome R)) → length (turns_from job os xs) ≤ length os
  few_turns job [] xs = omega arith
  few_turns job (p ∷ os) [] = omega arith
  few_turns job (p ∷ os) (x ∷ xs) = by (nat_eq p nobody) (few_turns (job + 1) os xs)
    where
      by : (b : Bool) → length (turns_from (job + 1) os xs) ≤ length os → length (cond b [] (record { reader = p; job = job; left = left_by x } ∷ []) ++ turns_from (job + 1) os xs) ≤ suc (length os)
      by true le = omega arith
      by false le = omega arith

  uncut_all : (job : ℕ) (os : List ℕ) (xs : List (Outcome R)) → AllByRecursion (λ (e : Entry R). IsBack e.outcome → ⊥) (entries_from job os xs) → (x : ℕ) → has_cut x (turns_from job os xs) ≡ false
  uncut_all job [] xs h x = refl
  uncut_all job (p ∷ os) [] h x = refl
  uncut_all job (p ∷ os) (o ∷ xs) h x = by (nat_eq p nobody) (left_by o) refl (uncut_all (job + 1) os xs h.1 x)
    where
      by : (b : Bool) (l : Left) → left_by o ≡ l → has_cut x (turns_from (job + 1) os xs) ≡ false → has_cut x (cond b [] (record { reader = p; job = job; left = l } ∷ []) ++ turns_from (job + 1) os xs) ≡ false
      by true l is e = e
      by false Finished is e = go (nat_eq p x)
        where
          go : (c : Bool) → (cond c false false || has_cut x (turns_from (job + 1) os xs)) ≡ false
          go true = e
          go false = e
      by false Starved is e = go (nat_eq p x)
        where
          go : (c : Bool) → (cond c false false || has_cut x (turns_from (job + 1) os xs)) ≡ false
          go true = e
          go false = e
      by false Cut is e = absurd (h.0 (back_of o (subst IsCut (sym is) tt)))

-- The turns of a window's jobs, of which so many were claimed
module _ {J R : Type 0} (answer : J → R) (jobs : List J) (rung : Option ℕ) (workers claimed : ℕ) (few : workers ≤ 16) where
  abbrev Fates : List (Entry R) → Type 0
  Fates es = AllByRecursion (IsFate answer jobs rung workers claimed) es

  has_owner : (e : Entry R) → IsFate answer jobs rung workers claimed e → e.job < claimed → nat_eq e.reader nobody ≡ false
  has_owner e fate lt = by (nat_eq e.reader nobody) refl
    where
      by : (b : Bool) → nat_eq e.reader nobody ≡ b → b ≡ false
      by true is = let same = same_number e.reader nobody is in let mine = fate.owned lt in absurd (omega arith)
      by false is = refl

  no_turns : (job : ℕ) (os : List ℕ) (xs : List (Outcome R)) → Fates (entries_from job os xs) → claimed ≤ job → turns_from job os xs ≡ []
  no_turns job [] xs fates le = refl
  no_turns job (p ∷ os) [] fates le = refl
  no_turns job (p ∷ os) (x ∷ xs) fates le =
      ap (λ b. cond b [] (record { reader = p; job = job; left = left_by x } ∷ []) ++ turns_from (job + 1) os xs) (ap (λ q. nat_eq q nobody) (fates.0.unclaimed le).0 ∙ self_eq nobody)
      ∙ no_turns (job + 1) os xs fates.1 (omega arith)

  pub in_row : (job : ℕ) (os : List ℕ) (xs : List (Outcome R)) → Fates (entries_from job os xs) → InRow job (turns_from job os xs)
  in_row job [] xs fates = tt
  in_row job (p ∷ os) [] fates = tt
  in_row job (p ∷ os) (x ∷ xs) fates = by (nat_lt job claimed) refl (in_row (job + 1) os xs fates.1)
    where
      by : (b : Bool) → nat_lt job claimed ≡ b → InRow (job + 1) (turns_from (job + 1) os xs) → InRow job (turns_from job (p ∷ os) (x ∷ xs))
      by true is row = subst (λ b. InRow job (cond b [] (record { reader = p; job = job; left = left_by x } ∷ []) ++ turns_from (job + 1) os xs)) (sym (has_owner (record { job = job; reader = p; outcome = x }) fates.0 (ltb-true job claimed is))) (refl, row)
      by false is row = subst (InRow job) (sym (no_turns job (p ∷ os) (x ∷ xs) fates (ltb-false job claimed is))) tt

  pub long_turns : (job k : ℕ) (os : List ℕ) (xs : List (Outcome R)) → Fates (entries_from job os xs) → k < length os → k < length xs → job + k < claimed → k < length (turns_from job os xs)
  long_turns job k [] xs fates lo lx lt = absurd (omega arith)
  long_turns job k (p ∷ os) [] fates lo lx lt = absurd (omega arith)
  long_turns job k (p ∷ os) (x ∷ xs) fates lo lx lt =
      subst (λ b. k < length (cond b [] (record { reader = p; job = job; left = left_by x } ∷ []) ++ turns_from (job + 1) os xs)) (sym (has_owner (record { job = job; reader = p; outcome = x }) fates.0 (omega arith))) (by k lo lx lt (λ m a b c. long_turns (job + 1) m os xs fates.1 a b c))
    where
      by : (m : ℕ) → m < suc (length os) → m < suc (length xs) → job + m < claimed → ((i : ℕ) → i < length os → i < length xs → (job + 1) + i < claimed → i < length (turns_from (job + 1) os xs)) → m < suc (length (turns_from (job + 1) os xs))
      by zero a b c again = omega arith
      by (suc i) a b c again = let l = again i (omega arith) (omega arith) (omega arith) in omega arith

  pub claimed_done : (job k : ℕ) (os : List ℕ) (xs : List (Outcome R)) (r : R) → Fates (entries_from job os xs) → k < length os → slice_get xs k ≡ Some (outcome.Done r) → job + k < claimed
  claimed_done job k [] xs r fates lo is = absurd (omega arith)
  claimed_done job k (p ∷ os) [] r fates lo is = absurd (none-some (outcome.Done r) is)
  claimed_done job zero (p ∷ os) (x ∷ xs) r fates lo is = by (nat_lt job claimed) refl
    where
      by : (b : Bool) → nat_lt job claimed ≡ b → job + 0 < claimed
      by true test = let lt = ltb-true job claimed test in omega arith
      by false test = absurd (subst IsBack (same_Some x (outcome.Done r) is) (fates.0.unclaimed (ltb-false job claimed test)).1)
  claimed_done job (suc k) (p ∷ os) (x ∷ xs) r fates lo is = let l = claimed_done (job + 1) k os xs r fates.1 (omega arith) is in omega arith

  pub told_at : (job k : ℕ) (os : List ℕ) (xs : List (Outcome R)) (r : R) → Fates (entries_from job os xs) → k < length os → slice_get xs k ≡ Some (outcome.Done r) → (d : J) → r ≡ answer (slice_index_or jobs (job + k) d)
  told_at job k [] xs r fates lo is d = absurd (omega arith)
  told_at job k (p ∷ os) [] r fates lo is d = absurd (none-some (outcome.Done r) is)
  told_at job zero (p ∷ os) (x ∷ xs) r fates lo is d =
      subst (λ i. r ≡ answer (slice_index_or jobs i d)) (omega arith) (subst (TellsOutcome (answer (slice_index_or jobs job d)) rung) (same_Some x (outcome.Done r) is) (fates.0.told d))
  told_at job (suc k) (p ∷ os) (x ∷ xs) r fates lo is d = subst (λ i. r ≡ answer (slice_index_or jobs i d)) (omega arith) (told_at (job + 1) k os xs r fates.1 (omega arith) is d)

tell_all : {R : Type 0} (outcomes : List (Outcome R)) (job : ℕ) (os : List ℕ) (xs : List (Outcome R)) → ((i : ℕ) → slice_get outcomes (job + i) ≡ slice_get xs i) → AllByRecursion (Tells outcomes) (turns_from job os xs)
tell_all outcomes job [] xs same = tt
tell_all outcomes job (p ∷ os) [] same = tt
tell_all outcomes job (p ∷ os) (x ∷ xs) same = by (nat_eq p nobody) (tell_all outcomes (job + 1) os xs (λ i. subst (λ k. slice_get outcomes k ≡ slice_get xs i) (omega arith) (same (suc i))))
  where
    by : (b : Bool) → AllByRecursion (Tells outcomes) (turns_from (job + 1) os xs) → AllByRecursion (Tells outcomes) (cond b [] (record { reader = p; job = job; left = left_by x } ∷ []) ++ turns_from (job + 1) os xs)
    by true later = later
    by false later = ((x, subst (λ k. slice_get outcomes k ≡ Some x) (omega arith) (same 0), refl), later)

there : {J : Type 0} (xs : List J) (i : ℕ) → i < length xs → (x : J) × (slice_get xs i ≡ Some x)
there [] i lt = absurd (omega arith)
there (x ∷ xs) zero lt = (x, refl)
there (x ∷ xs) (suc i) lt = there xs i (omega arith)

listed_there : (a n i : ℕ) → i < n → slice_get (range_with_len a n) i ≡ Some (a + i)
listed_there a zero i lt = absurd (omega arith)
listed_there a (suc n) zero lt = ap Some (omega arith)
listed_there a (suc n) (suc i) lt = listed_there (a + 1) n i (omega arith) ∙ ap Some (omega arith)

module _ {S J R : Type 0} (answer : S → J → R) (state : S) (told : ℕ → Type 0) (deadline workers : ℕ) (outcomes : List (Outcome R)) (owners : List ℕ) (list : List WindowEvent) where
  -- where the bell wasn't rung, no job came Back
  quiet : (jobs : List J) (claimed : ℕ) (rung : Option ℕ) → rung ≡ None → J → (es : List (Entry R)) → AllByRecursion (IsFate (answer state) jobs rung workers claimed) es → AllByRecursion (λ (e : Entry R). IsBack e.outcome → ⊥) es
  quiet jobs claimed rung none d [] h = tt
  quiet jobs claimed rung none d (e ∷ es) h = ((λ back. by e.outcome (h.0.told d) back), quiet jobs claimed rung none d es h.1)
    where
      by : (o : Outcome R) → TellsOutcome (answer state (slice_index_or jobs e.job d)) rung o → IsBack o → ⊥
      by (outcome.Done r) t back = back
      by (outcome.Back moment) t back = none-some moment (sym none ∙ t)
      by outcome.OutOfMemory t back = back

  own_all : (jobs : List J) (claimed : ℕ) (rung : Option ℕ) (es : List (Entry R)) → AllByRecursion (IsFate (answer state) jobs rung workers claimed) es → AllByRecursion (λ (e : Entry R). e.reader ≢ nobody → e.reader < workers) es
  own_all jobs claimed rung [] h = tt
  own_all jobs claimed rung (e ∷ es) h = ((λ some_one. by (nat_lt e.job claimed) refl some_one), own_all jobs claimed rung es h.1)
    where
      by : (b : Bool) → nat_lt e.job claimed ≡ b → e.reader ≢ nobody → e.reader < workers
      by true is ne = h.0.owned (ltb-true e.job claimed is)
      by false is ne = absurd (ne (h.0.unclaimed (ltb-false e.job claimed is)).0)

  late_as : (bell : Option Bell) → IfSome bell (λ (b : Bell). (b.reader < workers) × IsLate told deadline b.moment) → IfSome bell (λ (b : Bell). deadline ≤ b.moment)
  late_as None h = tt
  late_as (Some b) h = h.1.1

  silent_cuts : (jobs : List J) (w : IsWindow (answer state) jobs told deadline workers outcomes owners list) → w.bell ≡ None → (x : ℕ) → has_cut x (turns_from 0 owners outcomes) ≡ false
  silent_cuts [] w none x = empty owners w.owned
    where
      empty : (os : List ℕ) → length os ≡ 0 → has_cut x (turns_from 0 os outcomes) ≡ false
      empty [] e = refl
      empty (p ∷ os) e = absurd (omega arith)
  silent_cuts (j ∷ js) w none x = uncut_all 0 owners outcomes (quiet (j ∷ js) w.claimed (moment_of w.bell) (ap moment_of none) j (entries_from 0 owners outcomes) w.each) x

  -- the window core runs the events, and the jobs whose outcome is Done are done
  served : (jobs : List J) → IsWindow (answer state) jobs told deadline workers outcomes owners list → workers ≤ 16 → RunsTo answer (Leaves outcomes (begun_over state jobs deadline)) (begun_over state jobs deadline) list
  served jobs w few =
      let turns = turns_from 0 owners outcomes in
      let long : length owners ≡ length outcomes = w.owned ∙ sym w.ended in
      let within : (k : ℕ) (o : Outcome R) → slice_get outcomes k ≡ Some o → k < length owners = λ k o is. let lt = slice_get_within outcomes k o is in omega arith in
      let replies : (job : ℕ) (value : J) (r : R) → slice_get jobs job ≡ Some value → slice_get outcomes job ≡ Some (outcome.Done r) → r ≡ answer state value =
      λ job value r at_job is. subst (λ i. r ≡ answer state (slice_index_or jobs i value)) (omega arith) (told_at (answer state) jobs (moment_of w.bell) workers w.claimed few 0 job owners outcomes r w.each (within job (outcome.Done r) is) is value)
      ∙ ap (answer state) (get_or_from_slice_get jobs job value value at_job) in
      let began : (j : ℕ) → times_done (slice_get outcomes j) ≡ 1 → j < length turns =
      λ j one. let r = reply_of (slice_get outcomes j) one in let lt = within j (outcome.Done r.0) r.1 in
      long_turns (answer state) jobs (moment_of w.bell) workers w.claimed few 0 j owners outcomes w.each lt (omega arith) (claimed_done (answer state) jobs (moment_of w.bell) workers w.claimed few 0 j owners outcomes r.0 w.each lt r.1) in
      subst (RunsTo answer (Leaves outcomes (begun_over state jobs deadline)) (begun_over state jobs deadline)) (sym w.events)
      (schedule_runs answer state jobs deadline (range_with_len 0 (length jobs)) (length jobs) outcomes (Leaves outcomes (begun_over state jobs deadline))
      (λ drawn lt. let v = there jobs drawn lt in (v.0, listed_there 0 (length jobs) drawn lt ∙ ap Some (omega arith), v.1))
      replies turns
      (λ done hands. record { more = done; is = refl; each = hands.each; once = all_done (answer state) jobs outcomes turns done hands began })
      w.bell
      (cuts_last workers 0 owners outcomes (own_all jobs w.claimed (moment_of w.bell) (entries_from 0 owners outcomes) w.each) w.backs)
      (in_row (answer state) jobs (moment_of w.bell) workers w.claimed few 0 owners outcomes w.each)
      (tell_all outcomes 0 owners outcomes (λ i. ap (slice_get outcomes) (omega arith)))
      (let f = few_turns 0 owners outcomes in let o = w.owned in omega arith) (silent_cuts jobs w) (late_as w.bell w.late))

  pub window_runs : (jobs : List J) → IsWindow (answer state) jobs told deadline workers outcomes owners list → workers ≤ 16 → RunsIn answer (begun_over state jobs deadline) list
  window_runs jobs w few = runs_in answer (Leaves outcomes (begun_over state jobs deadline)) (begun_over state jobs deadline) list (served jobs w few)

  pub window_leaves : (jobs : List J) → IsWindow (answer state) jobs told deadline workers outcomes owners list → workers ≤ 16
      → Leaves outcomes (begun_over state jobs deadline) (after_window answer (begun_over state jobs deadline) list)
  window_leaves jobs w few = runs_end answer (Leaves outcomes (begun_over state jobs deadline)) (begun_over state jobs deadline) list (served jobs w few)
