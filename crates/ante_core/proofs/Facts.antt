-- What one event changes.
use Rattle.std.proofs.Common.{◌≡◌, ℕ, ◌+◌, ◌⊎◌, inl, inr, Bool, true, false, cond, ◌&&◌, List, [], ◌∷◌, ◌++◌, length, Some, None, is_none, is_some, unwrap_or, option_map, option_and_then, nat_lt, nat_le, refl, sym, ap, subst, ◌∙◌, true≢false, add-zero}
use Rattle.std.proofs.lemmas.Option.{none-some, same_Some, cond_some}
use Rattle.std.proofs.lemmas.Bool.{and_parts}
use Rattle.ante_core.specs.declared.Piece.TheVariants.{More, Ready}
use Rattle.ante_core.specs.declared.Event.{Event}
use Rattle.ante_core.specs.declared.Event.TheVariants.{Take, Apply, Begin, Claim, Look, Ring, Advance, Cut, Close}
use Rattle.ante_core.specs.declared.window.Held.{Held}
use Rattle.ante_core.specs.Machine.{Meaning, State, WindowState, most_jobs, held_by, with_window, with_window_and_done, in_window, take_row, apply_row, begin_row, next_held, with_drawn, claim_row, look_row, ring_row, taken_from, after_piece, advance_row, cut_row, is_empty, close_row, starved_advance, waiting_jobs, core_step, core_starved}
use Rattle.ante_core.specs.Sound.{IsSoundWindow, IsSound}
use Rattle.ante_core.specs.Runs.{after_event, write_of, writes_by, world_after, job_of}
use Rattle.ante_core.proofs.Rows.{chained, in_window-some, next_held-some, advance_row-some}
use Rattle.ante_core.proofs.Hands.{job_in, job_in-without, job_in-with_frame, job_in-push}
use Rattle.ante_core.proofs.Kept.{if_some-at}

module _ {W J F R : Type 0} (s : State W J F R) where
  -- a reader that holds a job after the event held it before, and the event makes no write
  pub record KeepsJob {X : Type 0} (writes : List X) (reader job : ℕ) : Type 0 where
    pub held : job_of s reader ≡ Some job
    pub no_write : writes ≡ []

  no_window-free : (reader job : ℕ) → is_none s.window ≡ true → job_of s reader ≡ Some job → ⊥
  no_window-free reader job none held =
      (elim s.window as (λ o. is_none o ≡ true → option_map (λ h. h.job) (option_and_then (λ w. held_by reader w.held) o) ≡ Some job → ⊥) [
        | None ↦ λ _ held. none-some job held
        | Some w ↦ λ e _. true≢false (sym e)
      ]) none held

module _ {A W X J F R : Type 0} (m : Meaning W X J F R) (s : State W J F R) where
  -- the event takes a job
  pub record TakesJob (e : Event A W X J F R × Bool) (new : State W J F R) : Type 0 where
    pub value : J
    pub is : e ≡ (Take value, false)
    pub jobs : new.jobs ≡ s.jobs ++ value ∷ []

  -- the event finishes a job
  pub record FinishesJob (e : Event A W X J F R × Bool) (new : State W J F R) : Type 0 where
    pub reader : ℕ
    pub is : e ≡ (Advance reader, false)
    pub window : WindowState F
    pub is_window : s.window ≡ Some window
    pub held : Held F
    pub is_held : held_by reader window.held ≡ Some held
    pub reply : R
    pub ends : m.advanced s.world held.frame ≡ Ready reply
    pub done : new.done ≡ s.done ++ (record { job = held.job; position = s.position; reply = reply }) ∷ []

  -- or it has just claimed it
  pub record ClaimsJob (e : Event A W X J F R × Bool) (reader : ℕ) : Type 0 where
    pub is : e ≡ (Claim reader, false)
    pub free : job_of s reader ≡ None

  -- What the event changes, whose writes are these and whose new state this.
  pub record Facts (e : Event A W X J F R × Bool) (new : State W J F R) (writes : List X) : Type 0 where
    pub world : new.world ≡ world_after m s.world writes
    pub position : new.position ≡ s.position + length writes
    pub jobs : (new.jobs ≡ s.jobs) ⊎ TakesJob e new
    pub done : (new.done ≡ s.done) ⊎ FinishesJob e new
    pub hands : (reader job : ℕ) → job_of new reader ≡ Some job → KeepsJob s writes reader job ⊎ ClaimsJob e reader

module _ {A W X J F R : Type 0} (m : Meaning W X J F R) where
  -- an event that changes nothing
  facts-same : (s : State W J F R) (e : Event A W X J F R × Bool) → Facts {A = A} m s e s []
  facts-same s e = record {
    world = refl;
    position = sym (add-zero s.position);
    jobs = inl refl;
    done = inl refl;
    hands = λ reader job held. inl (record { held = held; no_write = refl });
  }

  -- an event that changes the window alone, and gives no job to a reader
  facts-window : (s : State W J F R) (e : Event A W X J F R × Bool) (was becomes : WindowState F) → s.window ≡ Some was → ((reader job : ℕ) → job_in becomes.held reader ≡ Some job → job_in was.held reader ≡ Some job) → Facts {A = A} m s e (with_window s becomes) []
  facts-window s e was becomes is keeps = record {
    world = refl;
    position = sym (add-zero s.position);
    jobs = inl refl;
    done = inl refl;
    hands = λ reader job held. inl (record { held = rw is (keeps reader job held); no_write = refl });
  }

module _ {W X J F R : Type 0} (A : Type 0) (m : Meaning W X J F R) where
  take-facts : (s : State W J F R) (job : J) (new : State W J F R) → take_row s job ≡ Some new → Facts {A = A} m s (Take job, false) new []
  take-facts s job new e =
      let p = cond_some (is_none s.window && nat_lt (length s.jobs) most_jobs) (record s { jobs = s.jobs ++ job ∷ [] }) new e in
      subst (λ (new : State W J F R). Facts {A = A} m s (Take job, false) new []) p.1 (record {
        world = refl;
        position = sym (add-zero s.position);
        jobs = inr (record { value = job; is = refl; jobs = refl });
        done = inl refl;
        hands = λ reader job held. inl (record { held = held; no_write = refl });
      })

  apply-facts : (s : State W J F R) (write : X) (new : State W J F R) → apply_row m s write ≡ Some new → Facts {A = A} m s (Apply write, false) new (write ∷ [])
  apply-facts s write new e =
      let p = cond_some (is_none s.window && nat_lt s.position 9223372036854775808) (record s { world = m.applied s.world write; position = s.position + 1 }) new e in
      let tests = and_parts (is_none s.window) (nat_lt s.position 9223372036854775808) p.0 in
      subst (λ (new : State W J F R). Facts {A = A} m s (Apply write, false) new (write ∷ [])) p.1 (record {
        world = refl;
        position = refl;
        jobs = inl refl;
        done = inl refl;
        hands = λ reader job held. absurd (no_window-free s reader job tests.0 held);
      })

  begin-facts : (s : State W J F R) (deadline : ℕ) (new : State W J F R) → begin_row s deadline ≡ Some new → Facts {A = A} m s (Begin deadline, false) new []
  begin-facts s deadline new e =
      let p = cond_some (is_none s.window) (with_window s (record { deadline = deadline; listed = waiting_jobs s; drawn = 0; rung = None; held = [] })) new e in
      subst (λ (new : State W J F R). Facts {A = A} m s (Begin deadline, false) new []) p.1 (record {
        world = refl;
        position = sym (add-zero s.position);
        jobs = inl refl;
        done = inl refl;
        hands = λ reader job held. absurd (none-some job held);
      })

  claim-facts : (s : State W J F R) (reader : ℕ) (new : State W J F R) → in_window s (claim_row m s.world s.jobs reader) ≡ Some new → Facts {A = A} m s (Claim reader, false) new []
  claim-facts s reader new e =
      let i = in_window-some s (claim_row m s.world s.jobs reader) new e in
      let w = i.was in
      let p = cond_some (is_none (held_by reader w.held)) (unwrap_or (option_map (with_drawn w) (next_held m s.world s.jobs reader w)) w) i.becomes i.stands in
      subst (λ (new : State W J F R). Facts {A = A} m s (Claim reader, false) new []) (ap (with_window s) p.1 ∙ i.is_new)
      ((elim (next_held m s.world s.jobs reader w) as (λ o. next_held m s.world s.jobs reader w ≡ o → Facts {A = A} m s (Claim reader, false) (with_window s (unwrap_or (option_map (with_drawn w) o) w)) []) [
        | None ↦ λ _. facts-window m s (Claim reader, false) w w i.is_window (λ _ _ held. held)
        | Some h ↦ λ next. record {
          world = refl;
          position = sym (add-zero s.position);
          jobs = inl refl;
          done = inl refl;
          hands = λ other job held. elim (job_in-push other job w.held h held) [
            | inl before ↦ inl (record { held = rw i.is_window before; no_write = refl })
            | inr new ↦
                let n = next_held-some m s.world s.jobs reader w h next in
                let mine : reader ≡ other = ap (λ (k : Held F). k.reader) n.is ∙ new.1 in
                inr (record { is = ap (λ (k : ℕ). (Claim k, false)) mine; free = rw i.is_window new.0 })
          ];
        }
      ]) refl)

  advance-facts : (s : State W J F R) (reader : ℕ) (new : State W J F R) → IsSound m s → advance_row m s reader ≡ Some new → Facts {A = A} m s (Advance reader, false) new []
  advance-facts s reader new sound e =
      let a = advance_row-some m s reader new e in
      let w = a.was in
      let h = a.held in
      let was : IsSoundWindow m s.world s.jobs s.done w = if_some-at s.window (IsSoundWindow m s.world s.jobs s.done) w a.is_window sound.window in
      subst (λ (new : State W J F R). Facts {A = A} m s (Advance reader, false) new []) a.is_new
      ((elim (m.advanced s.world h.frame) as (λ piece. m.advanced s.world h.frame ≡ piece → Facts {A = A} m s (Advance reader, false) (with_window_and_done s (after_piece reader s.position (w, s.done) h piece)) []) [
        | More frame ↦ λ piece. record {
          world = refl;
          position = sym (add-zero s.position);
          jobs = inl refl;
          done = inl refl;
          hands = λ other job held. inl (record { held = rw a.is_window (sym (job_in-with_frame reader other frame w.held) ∙ held); no_write = refl });
        }
        | Ready reply ↦ λ piece. record {
          world = refl;
          position = sym (add-zero s.position);
          jobs = inl refl;
          done = inr (record { reader = reader; is = refl; window = w; is_window = a.is_window; held = h; is_held = a.is_held; reply = reply; ends = piece; done = refl });
          hands = λ other job held. inl (record { held = rw a.is_window (job_in-without reader other job w.held was.readers held); no_write = refl });
        }
      ]) refl)

  cut-facts : (s : State W J F R) (reader : ℕ) (new : State W J F R) → IsSound m s → in_window s (cut_row reader) ≡ Some new → Facts {A = A} m s (Cut reader, false) new []
  cut-facts s reader new sound e =
      let i = in_window-some s (cut_row reader) new e in
      let w = i.was in
      let was : IsSoundWindow m s.world s.jobs s.done w = if_some-at s.window (IsSoundWindow m s.world s.jobs s.done) w i.is_window sound.window in
      let p = cond_some (is_some w.rung && is_some (held_by reader w.held)) (taken_from reader w) i.becomes i.stands in
      subst (λ (new : State W J F R). Facts {A = A} m s (Cut reader, false) new []) (ap (with_window s) p.1 ∙ i.is_new)
      (facts-window m s (Cut reader, false) w (taken_from reader w) i.is_window (λ other job held. job_in-without reader other job w.held was.readers held))

  ring-facts : (s : State W J F R) (reader moment : ℕ) (new : State W J F R) → in_window s (ring_row moment) ≡ Some new → Facts {A = A} m s (Ring reader moment, false) new []
  ring-facts s reader moment new e =
      let i = in_window-some s (ring_row moment) new e in
      let w = i.was in
      let p = cond_some (nat_le w.deadline moment) (record w { rung = Some (unwrap_or w.rung moment) }) i.becomes i.stands in
      subst (λ (new : State W J F R). Facts {A = A} m s (Ring reader moment, false) new []) (ap (with_window s) p.1 ∙ i.is_new)
      (facts-window m s (Ring reader moment, false) w (record w { rung = Some (unwrap_or w.rung moment) }) i.is_window (λ _ _ held. held))

  look-facts : (s : State W J F R) (reader : ℕ) (new : State W J F R) → in_window s look_row ≡ Some new → Facts {A = A} m s (Look reader, false) new []
  look-facts s reader new e =
      let i = in_window-some s look_row new e in
      subst (λ (new : State W J F R). Facts {A = A} m s (Look reader, false) new []) (ap (with_window s) (same_Some i.was i.becomes i.stands) ∙ i.is_new)
      (facts-window m s (Look reader, false) i.was i.was i.is_window (λ _ _ held. held))

  close-facts : (s : State W J F R) (new : State W J F R) → core_step {A = A} m s Close ≡ Some new → Facts {A = A} m s (Close, false) new []
  close-facts s new e =
      let c = chained (close_row s) s.window new e in
      let p = cond_some (is_empty (c.value).held) (record s { window = None }) new c.gives in
      subst (λ (new : State W J F R). Facts {A = A} m s (Close, false) new []) p.1 (record {
        world = refl;
        position = sym (add-zero s.position);
        jobs = inl refl;
        done = inl refl;
        hands = λ reader job held. absurd (none-some job held);
      })

  starved_advance-facts : (s : State W J F R) (reader : ℕ) → IsSound m s → Facts {A = A} m s (Advance reader, true) (starved_advance s reader) []
  starved_advance-facts s reader sound = record {
    world = refl;
    position = sym (add-zero s.position);
    jobs = inl refl;
    done = inl refl;
    hands = λ other job held. inl (record {
      held = (elim s.window as (λ o. s.window ≡ o → option_map (λ h. h.job) (option_and_then (λ w. held_by other w.held) (option_map (taken_from reader) o)) ≡ Some job → option_map (λ h. h.job) (option_and_then (λ w. held_by other w.held) o) ≡ Some job) [
        | None ↦ λ _ held. held
        | Some w ↦ λ is held. job_in-without reader other job w.held (if_some-at s.window (IsSoundWindow m s.world s.jobs s.done) w is sound.window).readers held
      ]) refl held;
      no_write = refl;
    });
  }

module _ {A W X J F R : Type 0} (m : Meaning W X J F R) where
  step-facts : (s : State W J F R) (event : Event A W X J F R) (new : State W J F R) → IsSound m s → core_step m s event ≡ Some new → Facts {A = A} m s (event, false) new (write_of event)
  step-facts s (Take job) new sound e = take-facts A m s job new e
  step-facts s (Apply write) new sound e = apply-facts A m s write new e
  step-facts s (Begin deadline) new sound e = begin-facts A m s deadline new e
  step-facts s (Claim reader) new sound e = claim-facts A m s reader new e
  step-facts s (Look reader) new sound e = look-facts A m s reader new e
  step-facts s (Ring reader moment) new sound e = ring-facts A m s reader moment new e
  step-facts s (Advance reader) new sound e = advance-facts A m s reader new sound e
  step-facts s (Cut reader) new sound e = cut-facts A m s reader new sound e
  step-facts s Close new sound e = close-facts A m s new e

  starved-facts : (s : State W J F R) (event : Event A W X J F R) → IsSound m s → Facts {A = A} m s (event, true) (core_starved s event) []
  starved-facts s (Take job) sound = facts-same m s (Take job, true)
  starved-facts s (Apply write) sound = facts-same m s (Apply write, true)
  starved-facts s (Begin deadline) sound = facts-same m s (Begin deadline, true)
  starved-facts s (Claim reader) sound = facts-same m s (Claim reader, true)
  starved-facts s (Look reader) sound = facts-same m s (Look reader, true)
  starved-facts s (Ring reader moment) sound = facts-same m s (Ring reader moment, true)
  starved-facts s (Advance reader) sound = starved_advance-facts A m s reader sound
  starved-facts s (Cut reader) sound = facts-same m s (Cut reader, true)
  starved-facts s Close sound = facts-same m s (Close, true)

  starved_writes : (s : State W J F R) (event : Event A W X J F R) → writes_by m s (event, true) ≡ []
  starved_writes s event =
      elim (is_some (core_step m s event)) as (λ b. cond (b && false) (write_of event) [] ≡ []) [ true ↦ refl | false ↦ refl ]

  pub facts : (s : State W J F R) (e : Event A W X J F R × Bool) → IsSound m s → Facts {A = A} m s e (after_event m s e) (writes_by m s e)
  facts s (event, true) sound =
      subst (Facts {A = A} m s (event, true) (core_starved s event)) (sym (starved_writes s event)) (starved-facts s event sound)
  facts s (event, false) sound =
      (elim (core_step m s event) as (λ o. core_step m s event ≡ o → Facts {A = A} m s (event, false) (unwrap_or o s) (cond (is_some o && true) (write_of event) [])) [
        | None ↦ λ _. facts-same m s (event, false)
        | Some new ↦ λ is. step-facts s event new sound is
      ]) refl
