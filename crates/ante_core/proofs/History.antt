-- What is true after any list of events.
use Rattle.std.proofs.Common.{◌≡◌, ℕ, ◌+◌, ◌≤◌, inl, inr, Bool, true, false, List, [], ◌∷◌, ◌++◌, length, take, slice_get, Some, None, option_map, option_and_then, unwrap_or, refl, sym, ap, subst, ◌∙◌, append_assoc, append-nil, take_at, length-append, arith}
use Rattle.std.specs.List.{AllByRecursion}
use Rattle.std.proofs.lemmas.List.{take-append-le}
use Rattle.std.proofs.lemmas.Option.{none-some, same_Some}
use Rattle.ante_core.specs.declared.Event.{Event}
use Rattle.ante_core.specs.declared.Event.TheVariants.{Take, Claim, Advance}
use Rattle.ante_core.specs.declared.DoneJob.{DoneJob}
use Rattle.ante_core.specs.declared.window.Held.{Held}
use Rattle.ante_core.specs.Machine.{Meaning, State, WindowState, start, held_by, core_step}
use Rattle.ante_core.specs.Sound.{IsReached, IsSoundWindow, IsSound}
use Rattle.ante_core.specs.Runs.{after_event, run, writes_by, writes_of, world_after, Alone, job_of}
use Rattle.ante_core.specs.Law.{HandsOut, StaysInHand, IsTaken, IsClaimed, IsServed}
use Rattle.ante_core.proofs.Lists.{all-push, all-both, all-held, slice_get-push}
use Rattle.ante_core.proofs.Hands.{one_reader}
use Rattle.ante_core.proofs.Kept.{start-sound, step-sound, core_starved-sound, if_some-at}
use Rattle.ante_core.proofs.Facts.{TakesJob, FinishesJob, KeepsJob, ClaimsJob, Facts, facts}

module _ {W X J F R : Type 0} (m : Meaning W X J F R) where
  pub world_after-append : (world : W) (xs ys : List X) → world_after m world (xs ++ ys) ≡ world_after m (world_after m world xs) ys
  world_after-append world [] ys = refl
  world_after-append world (x ∷ xs) ys = world_after-append (m.applied world x) xs ys

module _ {A W X J F R : Type 0} (m : Meaning W X J F R) where
  pub run-append : (s : State W J F R) (es rest : List (Event A W X J F R × Bool)) → run m s (es ++ rest) ≡ run m (run m s es) rest
  run-append s [] rest = refl
  run-append s (e ∷ es) rest = run-append (after_event m s e) es rest

  pub writes_of-push : (s : State W J F R) (es : List (Event A W X J F R × Bool)) (e : Event A W X J F R × Bool) → writes_of m s (es ++ e ∷ []) ≡ writes_of m s es ++ writes_by m (run m s es) e
  writes_of-push s [] e = append-nil (writes_by m s e)
  writes_of-push s (x ∷ es) e =
      ap (λ (ws : List X). writes_by m s x ++ ws) (writes_of-push (after_event m s x) es e) ∙ sym (append_assoc (writes_by m s x) (writes_of m (after_event m s x) es) (writes_by m (run m (after_event m s x) es) e))

  pub after-sound : (s : State W J F R) (e : Event A W X J F R × Bool) → IsSound m s → IsSound m (after_event m s e)
  after-sound s (event, true) sound = core_starved-sound m s event sound
  after-sound s (event, false) sound =
      (elim (core_step m s event) as (λ o. core_step m s event ≡ o → IsSound m (unwrap_or o s)) [
        | None ↦ λ _. sound
        | Some new ↦ λ is. step-sound m s event new sound is
      ]) refl

  pub run-sound : (s : State W J F R) (es : List (Event A W X J F R × Bool)) → IsSound m s → IsSound m (run m s es)
  run-sound s [] sound = sound
  run-sound s (e ∷ es) sound = run-sound (after_event m s e) es (after-sound s e sound)

  -- one more event while the job stays in hand
  pub stays-push : (reader job : ℕ) (s : State W J F R) (es : List (Event A W X J F R × Bool)) (e : Event A W X J F R × Bool) → StaysInHand m reader job s es → writes_by m (run m s es) e ≡ [] → ((other : ℕ) → HandsOut m (run m s es) e other job → ⊥) → job_of (after_event m (run m s es) e) reader ≡ Some job → StaysInHand m reader job s (es ++ e ∷ [])
  stays-push reader job s [] e stays no_write kept held = (stays, no_write, kept, held)
  stays-push reader job s (x ∷ es) e stays no_write kept held =
      (stays.0, stays.1, stays.2, stays-push reader job (after_event m s x) es e stays.3 no_write kept held)

-- the held job behind a reader's number of it
pub record InHand {W J F R : Type 0} (s : State W J F R) (reader job : ℕ) : Type 0 where
  pub window : WindowState F
  pub is_window : s.window ≡ Some window
  pub held : Held F
  pub is_held : held_by reader window.held ≡ Some held
  pub is_job : held.job ≡ job

pub in_hand : {W J F R : Type 0} (s : State W J F R) (reader job : ℕ) → job_of s reader ≡ Some job → InHand s reader job
in_hand s reader job e =
    (elim s.window as (λ o. s.window ≡ o → option_map (λ h. h.job) (option_and_then (λ w. held_by reader w.held) o) ≡ Some job → InHand s reader job) [
      | None ↦ λ _ e. absurd (none-some job e)
      | Some w ↦ λ is e. (elim (held_by reader w.held) as (λ o. held_by reader w.held ≡ o → option_map (λ h. h.job) o ≡ Some job → InHand s reader job) [
        | None ↦ λ _ e. absurd (none-some job e)
        | Some h ↦ λ held e. record { window = w; is_window = is; held = h; is_held = held; is_job = same_Some h.job job e }
      ]) refl e
    ]) refl e

-- in a sound state a job is in one reader's hands
pub in_one_hand : {W X J F R : Type 0} (m : Meaning W X J F R) (s : State W J F R) (reader other job : ℕ) → IsSound m s → job_of s reader ≡ Some job → job_of s other ≡ Some job → reader ≡ other
in_one_hand m s reader other job sound mine theirs =
    let a = in_hand s reader job mine in
    let b = in_hand s other job theirs in
    let w : IsSoundWindow m s.world s.jobs s.done a.window = if_some-at s.window (IsSoundWindow m s.world s.jobs s.done) a.window a.is_window sound.window in
    let same : b.window ≡ a.window = same_Some b.window a.window (sym b.is_window ∙ a.is_window) in
    one_reader reader other (a.window).held a.held b.held w.distinct a.is_held (subst (λ (w : WindowState _). held_by other w.held ≡ Some b.held) same b.is_held) (a.is_job ∙ sym b.is_job)

module _ {A W X J F R : Type 0} (m : Meaning W X J F R) (world : W) where
  -- a job that was taken, with the number of writes before it
  pub record WasTaken (events : List (Event A W X J F R × Bool)) (job : ℕ) (value : J) : Type 0 where
    pub taken : IsTaken m world events job value
    pub before : length (writes_of m (start world) taken.before) ≤ length (writes_of m (start world) events)

  -- What is true after these events.
  pub record History (events : List (Event A W X J F R × Bool)) : Type 0 where
    pub sound : IsSound m (run m (start world) events)
    pub is_world : (run m (start world) events).world ≡ world_after m world (writes_of m (start world) events)
    pub is_position : (run m (start world) events).position ≡ length (writes_of m (start world) events)
    pub taken : (job : ℕ) (value : J) → slice_get (run m (start world) events).jobs job ≡ Some value → WasTaken events job value
    pub claimed : (reader job : ℕ) → job_of (run m (start world) events) reader ≡ Some job → IsClaimed m world events reader job
    pub served : AllByRecursion (IsServed m world events) (run m (start world) events).done

-- a split of the events, with one more at their end
split-push : {E : Type 0} (events before rest : List E) (x e : E) → events ≡ before ++ x ∷ rest → events ++ e ∷ [] ≡ before ++ x ∷ (rest ++ e ∷ [])
split-push events before rest x e split = ap (λ (l : List _). l ++ e ∷ []) split ∙ append_assoc before (x ∷ rest) (e ∷ [])

module _ {A W X J F R : Type 0} (m : Meaning W X J F R) (world : W) (past : List (Event A W X J F R × Bool)) (e : Event A W X J F R × Bool) where
  -- the state and the writes before the event, and the writes that it makes
  abbrev before : State W J F R
  before = run m (start world) past

  abbrev made : List X
  made = writes_of m (start world) past

  abbrev makes : List X
  makes = writes_by m before e

  is_run : run m (start world) (past ++ e ∷ []) ≡ after_event m before e
  is_run = run-append m (start world) past (e ∷ [])

  are_writes : writes_of m (start world) (past ++ e ∷ []) ≡ made ++ makes
  are_writes = writes_of-push m (start world) past e

  more_writes : length (writes_of m (start world) (past ++ e ∷ [])) ≡ length made + length makes
  more_writes = ap (λ (l : List X). length l) are_writes ∙ length-append made makes

  taken-push : (job : ℕ) (value : J) → WasTaken m world past job value → WasTaken m world (past ++ e ∷ []) job value
  taken-push job value was =
      let t = was.taken in
      record {
        taken = record {
          before = t.before;
          rest = t.rest ++ e ∷ [];
          split = split-push past t.before t.rest (Take value, false) e t.split;
          number = t.number;
          takes = t.takes;
        };
        before = omega (arith, was.before, more_writes);
      }

  -- the event takes the job
  takes-now : (t : TakesJob m before e (after_event m before e)) → WasTaken m world (past ++ e ∷ []) (length before.jobs) t.value
  takes-now t = record {
    taken = record {
      before = past;
      rest = [];
      split = ap (λ (x : Event A W X J F R × Bool). past ++ x ∷ []) t.is;
      number = refl;
      takes = subst (λ (x : Event A W X J F R × Bool). (run m (start world) (past ++ x ∷ [])).jobs ≡ before.jobs ++ t.value ∷ []) t.is (ap (λ (s : State W J F R). s.jobs) is_run ∙ t.jobs);
    };
    before = omega (arith, more_writes);
  }

  module _ (h : History m world past) (f : Facts m before e (after_event m before e) makes) where
    next-sound : IsSound m (after_event m before e)
    next-sound = after-sound m before e h.sound

    next-world : (after_event m before e).world ≡ world_after m world (made ++ makes)
    next-world = f.world ∙ ap (λ (w : W). world_after m w makes) h.is_world ∙ sym (world_after-append m world made makes)

    next-position : (after_event m before e).position ≡ length (made ++ makes)
    next-position = omega (arith, f.position, h.is_position, length-append made makes)

    next-taken : (job : ℕ) (value : J) → slice_get (after_event m before e).jobs job ≡ Some value → WasTaken m world (past ++ e ∷ []) job value
    next-taken job value at = elim f.jobs [
      | inl same ↦ taken-push job value (h.taken job value (subst (λ (l : List J). slice_get l job ≡ Some value) same at))
      | inr t ↦ elim (slice_get-push before.jobs t.value value job (subst (λ (l : List J). slice_get l job ≡ Some value) t.jobs at)) [
        | inl found ↦ taken-push job value (h.taken job value found)
        | inr last ↦ subst (λ (k : ℕ). WasTaken m world (past ++ e ∷ []) k value) (sym last.0) (subst (WasTaken m world (past ++ e ∷ []) (length before.jobs)) last.1 (takes-now t))
      ]
    ]

    -- the event leaves the job in the reader's hands, and hands it to nobody
    keeps-now : (reader job : ℕ) → KeepsJob before makes reader job → job_of (after_event m before e) reader ≡ Some job → IsClaimed m world (past ++ e ∷ []) reader job
    keeps-now reader job keeps held =
        let c = h.claimed reader job keeps.held in
        let first : List (Event A W X J F R × Bool) = c.before ++ (Claim reader, false) ∷ [] in
        let whole : past ≡ first ++ c.between = c.split ∙ sym (append_assoc c.before ((Claim reader, false) ∷ []) c.between) in
        let there : before ≡ run m (run m (start world) first) c.between = ap (λ (l : List (Event A W X J F R × Bool)). run m (start world) l) whole ∙ run-append m (start world) first c.between in
        let P : State W J F R → Type 0 = λ s. (writes_by m s e ≡ []) × ((other : ℕ) → HandsOut m s e other job → ⊥) × (job_of (after_event m s e) reader ≡ Some job) in
        let here : P before = (keeps.no_write, (λ other hands. let same : reader ≡ other = in_one_hand m (after_event m before e) reader other job next-sound held hands.1 in absurd (none-some job (sym hands.0 ∙ subst (λ (r : ℕ). job_of before r ≡ Some job) same keeps.held))), held) in
        let moved : P (run m (run m (start world) first) c.between) = subst P there here in
        record {
          before = c.before;
          between = c.between ++ e ∷ [];
          split = split-push past c.before c.between (Claim reader, false) e c.split;
          handed = c.handed;
          stays = stays-push m reader job (run m (start world) first) c.between e c.stays moved.0 moved.1 moved.2;
        }

    -- the event is the reader's claim
    claims-now : (reader job : ℕ) → ClaimsJob m before e reader → job_of (after_event m before e) reader ≡ Some job → IsClaimed m world (past ++ e ∷ []) reader job
    claims-now reader job claims held =
        let here : job_of (after_event {A = A} m before (Claim reader, false)) reader ≡ Some job = subst (λ (x : Event A W X J F R × Bool). job_of (after_event m before x) reader ≡ Some job) claims.is held in
        record {
          before = past;
          between = [];
          split = ap (λ (x : Event A W X J F R × Bool). past ++ x ∷ []) claims.is;
          handed = (claims.free, here);
          stays = subst (λ (s : State W J F R). job_of s reader ≡ Some job) (sym (run-append m (start world) past ((Claim reader, false) ∷ []))) here;
        }

    next-claimed : (reader job : ℕ) → job_of (after_event m before e) reader ≡ Some job → IsClaimed m world (past ++ e ∷ []) reader job
    next-claimed reader job held = elim (f.hands reader job held) [ inl keeps ↦ keeps-now reader job keeps held | inr claims ↦ claims-now reader job claims held ]

    -- a job that was done before
    served-push : (d : DoneJob R) → d.position ≤ before.position → IsServed m world past d → IsServed m world (past ++ e ∷ []) d
    unfolding taken-push
    served-push d at was =
        let within : d.position ≤ length made = omega (arith, at, h.is_position) in
        let same : take d.position (writes_of m (start world) (past ++ e ∷ [])) ≡ take d.position made = ap (λ (l : List X). take d.position l) are_writes ∙ take-append-le d.position made makes within in
        let t : WasTaken m world (past ++ e ∷ []) d.job was.value = taken-push d.job was.value (record { taken = was.taken; before = omega (arith, was.since_taken, within) }) in
        record {
          value = was.value;
          reply = subst (λ (l : List X). Alone m (world_after m world l) was.value d.reply) (sym same) was.reply;
          taken = t.taken;
          since_taken = was.since_taken;
          past = was.past;
          reader = was.reader;
          rest = was.rest ++ e ∷ [];
          split = split-push past was.past was.rest (Advance was.reader, false) e was.split;
          finished = was.finished;
        }

    -- the job that the event finishes
    served-now : (t : FinishesJob m before e (after_event m before e)) → IsServed m world (past ++ e ∷ []) (record { job = (t.held).job; position = before.position; reply = t.reply })
    unfolding taken-push
    served-now t =
        let w : IsSoundWindow m before.world before.jobs before.done t.window = if_some-at before.window (IsSoundWindow m before.world before.jobs before.done) t.window t.is_window (h.sound).window in
        let r : IsReached m before.world before.jobs t.held = all-held (IsReached m before.world before.jobs) t.reader (t.window).held t.held w.frames t.is_held in
        let whole : take before.position (writes_of m (start world) (past ++ e ∷ [])) ≡ made = ap (λ (l : List X). take before.position l) are_writes ∙ take_at made makes before.position (sym h.is_position) in
        let is_world : before.world ≡ world_after m world (take before.position (writes_of m (start world) (past ++ e ∷ []))) = h.is_world ∙ ap (world_after m world) (sym whole) in
        let was = h.taken (t.held).job r.value r.is_value in
        let kept : WasTaken m world (past ++ e ∷ []) (t.held).job r.value = taken-push (t.held).job r.value was in
        let holds : job_of before t.reader ≡ Some (t.held).job = rw (t.is_window, t.is_held) refl in
        record {
          value = r.value;
          reply = subst (λ (w : W). Alone m w r.value t.reply) is_world (record { pieces = r.pieces; frame = (t.held).frame; reached = r.reached; ends = t.ends });
          taken = kept.taken;
          since_taken = omega (arith, was.before, h.is_position);
          past = past;
          reader = t.reader;
          rest = [];
          split = ap (λ (x : Event A W X J F R × Bool). past ++ x ∷ []) t.is;
          finished = record {
            claimed = h.claimed t.reader (t.held).job holds;
            finishes = subst (λ (x : Event A W X J F R × Bool). (run m (start world) (past ++ x ∷ [])).done ≡ before.done ++ (record { job = (t.held).job; position = before.position; reply = t.reply }) ∷ []) t.is (ap (λ (s : State W J F R). s.done) is_run ∙ t.done);
            position = h.is_position;
          };
        }

    next-served : AllByRecursion (IsServed m world (past ++ e ∷ [])) (after_event m before e).done
    next-served =
        let olds : AllByRecursion (IsServed m world (past ++ e ∷ [])) before.done = all-both (λ d. d.position ≤ before.position) (IsServed m world past) (IsServed m world (past ++ e ∷ [])) before.done served-push (h.sound).done_before h.served in
        elim f.done [
          | inl same ↦ subst (AllByRecursion (IsServed m world (past ++ e ∷ []))) (sym same) olds
          | inr t ↦ subst (AllByRecursion (IsServed m world (past ++ e ∷ []))) (sym t.done) (all-push (IsServed m world (past ++ e ∷ [])) before.done (record { job = (t.held).job; position = before.position; reply = t.reply }) olds (served-now t))
        ]

    history-push : History m world (past ++ e ∷ [])
    history-push = record {
      sound = subst (IsSound m) (sym is_run) next-sound;
      is_world = ap (λ (s : State W J F R). s.world) is_run ∙ next-world ∙ ap (world_after m world) (sym are_writes);
      is_position = ap (λ (s : State W J F R). s.position) is_run ∙ next-position ∙ ap (λ (l : List X). length l) (sym are_writes);
      taken = λ job value at. next-taken job value (subst (λ (s : State W J F R). slice_get s.jobs job ≡ Some value) is_run at);
      claimed = λ reader job held. next-claimed reader job (subst (λ (s : State W J F R). job_of s reader ≡ Some job) is_run held);
      served = subst (λ (s : State W J F R). AllByRecursion (IsServed m world (past ++ e ∷ [])) s.done) (sym is_run) next-served;
    }

module _ {A W X J F R : Type 0} (m : Meaning W X J F R) (world : W) where
  history-start : History {A = A} m world []
  history-start = record {
    sound = start-sound m world;
    is_world = refl;
    is_position = refl;
    taken = λ job value at. absurd (none-some value at);
    claimed = λ reader job held. absurd (none-some job held);
    served = tt;
  }

  history-append : (past rest : List (Event A W X J F R × Bool)) → History m world past → History m world (past ++ rest)
  history-append past [] h = subst (History m world) (sym (append-nil past)) h
  history-append past (e ∷ rest) h =
      let f = facts m (run m (start world) past) e h.sound in
      subst (History m world) (append_assoc past (e ∷ []) rest) (history-append (past ++ e ∷ []) rest (history-push m world past e h f))

  pub history : (events : List (Event A W X J F R × Bool)) → History m world events
  history events = history-append [] events history-start
