-- Each row of the table keeps soundness.
use Rattle.std.proofs.Common.{◌≡◌, ◌≢◌, ℕ, zero, suc, ◌+◌, ◌<◌, ◌≤◌, true, false, ◌&&◌, List, [], ◌∷◌, ◌++◌, length, Option, Some, None, IfSome, IsNone, is_none, is_some, unwrap_or, option_map, nat_lt, nat_le, Result, Ok, Err, refl, sym, ap, subst, ◌∙◌, ltb-true, leb-true, true≢false, length-append, arith}
use Rattle.std.proofs.lemmas.Option.{none-some, same_Some, cond_some}
use Rattle.std.proofs.lemmas.Bool.{and_parts}
use Rattle.ante_core.specs.declared.Piece.TheVariants.{More, Ready}
use Rattle.ante_core.specs.declared.Event.{Event}
use Rattle.ante_core.specs.declared.Event.TheVariants.{Take, Apply, Begin, Claim, Look, Ring, Advance, Cut, Close}
use Rattle.ante_core.specs.declared.StepError.{StepError}
use Rattle.ante_core.specs.declared.StepError.TheVariants.{OutOfMemory, NotNow}
use Rattle.ante_core.specs.declared.DoneJob.{DoneJob}
use Rattle.ante_core.specs.declared.window.Held.{Held}
use Rattle.ante_core.specs.Answers.{Answers, wants_memory}
use Rattle.ante_core.specs.Machine.{Meaning, State, WindowState, most_jobs, start, held_by, without, with_frame, is_done, waiting_jobs, with_window, with_window_and_done, in_window, take_row, apply_row, begin_row, next_held, with_drawn, claim_row, look_row, ring_row, taken_from, after_piece, advance_row, cut_row, is_empty, close_row, starved_advance, core_step, core_starved}
use Rattle.ante_core.specs.Sound.{IsReached, IsDrawn, IsSoundWindow, IsSound, held_in}
use Rattle.ante_core.specs.Runs.{after_event}
use Rattle.ante_core.proofs.Lists.{all-push, all-weaken, all-both, apart-push, all-without, apart-without, all-held, all-with_frame, all-with_any_frame, apart-with_frame, all-other_readers, apart-others, is_done-push, all-other_jobs, waiting-taken, waiting-undone, waiting-ascending}
use Rattle.ante_core.proofs.Pieces.{frame_after-more}
use Rattle.ante_core.proofs.Rows.{chained, in_window-some, IsNext, next_held-some, advance_row-some}

-- what holds of a window that isn't there
pub if_no_window : {A : Type 0} (o : Option A) (P : A → Type 0) → is_none o ≡ true → IfSome o P
if_no_window None P e = tt
if_no_window (Some x) P e = absurd (true≢false (sym e))

pub if_some-at : {A : Type 0} (o : Option A) (P : A → Type 0) (x : A) → o ≡ Some x → IfSome o P → P x
if_some-at None P x e h = absurd (none-some x e)
if_some-at (Some y) P x e h = subst P (same_Some y x e) h

module _ {W X J F R : Type 0} (m : Meaning W X J F R) where
  pub start-sound : (world : W) → IsSound m (start {W = W} {J = J} {F = F} {R = R} world)
  start-sound world = record { numbered = omega arith; window = tt; free = λ _. refl; done_taken = tt; done_distinct = tt; done_before = tt }

  -- Take
  take-sound : (s : State W J F R) (job : J) (new : State W J F R) → IsSound m s → take_row s job ≡ Some new → IsSound m new
  take-sound s job new sound e =
      let p = cond_some (is_none s.window && nat_lt (length s.jobs) most_jobs) (record s { jobs = s.jobs ++ job ∷ [] }) new e in
      let tests = and_parts (is_none s.window) (nat_lt (length s.jobs) most_jobs) p.0 in
      let few : length s.jobs < most_jobs = ltb-true (length s.jobs) most_jobs tests.1 in
      let more : length (s.jobs ++ job ∷ []) ≡ length s.jobs + 1 = length-append s.jobs (job ∷ []) in
      subst (IsSound m) p.1 (record {
        numbered = omega (arith, few, more);
        window = if_no_window s.window (IsSoundWindow m s.world (s.jobs ++ job ∷ []) s.done) tests.0;
        free = sound.free;
        done_taken = all-weaken (λ d. d.job < length s.jobs) (λ d. d.job < length (s.jobs ++ job ∷ [])) s.done (λ d below. omega (arith, below, more)) sound.done_taken;
        done_distinct = sound.done_distinct;
        done_before = sound.done_before;
      })

  -- Apply
  apply-sound : (s : State W J F R) (write : X) (new : State W J F R) → IsSound m s → apply_row m s write ≡ Some new → IsSound m new
  apply-sound s write new sound e =
      let p = cond_some (is_none s.window && nat_lt s.position 9223372036854775808) (record s { world = m.applied s.world write; position = s.position + 1 }) new e in
      let tests = and_parts (is_none s.window) (nat_lt s.position 9223372036854775808) p.0 in
      subst (IsSound m) p.1 (record {
        numbered = sound.numbered;
        window = if_no_window s.window (IsSoundWindow m (m.applied s.world write) s.jobs s.done) tests.0;
        free = sound.free;
        done_taken = sound.done_taken;
        done_distinct = sound.done_distinct;
        done_before = all-weaken (λ d. d.position ≤ s.position) (λ d. d.position ≤ s.position + 1) s.done (λ d before. omega (arith, before)) sound.done_before;
      })

  -- Begin
  begin-sound : (s : State W J F R) (deadline : ℕ) (new : State W J F R) → IsSound m s → begin_row s deadline ≡ Some new → IsSound m new
  begin-sound s deadline new sound e =
      let p = cond_some (is_none s.window) (with_window s (record { deadline = deadline; listed = waiting_jobs s; drawn = 0; rung = None; held = [] })) new e in
      subst (IsSound m) p.1 (record {
        numbered = sound.numbered;
        window = record {
          ascending = waiting-ascending s.done (length s.jobs);
          taken = waiting-taken s.done (length s.jobs);
          undrawn = λ place job _ at. waiting-undone s.done (length s.jobs) place job at;
          rung = tt;
          frames = tt;
          readers = tt;
          distinct = tt;
          drawn = tt;
          undone = tt;
        };
        free = λ e. absurd (true≢false e);
        done_taken = sound.done_taken;
        done_distinct = sound.done_distinct;
        done_before = sound.done_before;
      })

  -- a row that changes the window alone
  in_window-sound : (s : State W J F R) (row : WindowState F → Option (WindowState F)) (new : State W J F R) → IsSound m s → in_window s row ≡ Some new → ((was becomes : WindowState F) → IsSoundWindow m s.world s.jobs s.done was → row was ≡ Some becomes → IsSoundWindow m s.world s.jobs s.done becomes) → IsSound m new
  in_window-sound s row new sound e kept =
      let i = in_window-some s row new e in
      let was : IsSoundWindow m s.world s.jobs s.done i.was = if_some-at s.window (IsSoundWindow m s.world s.jobs s.done) i.was i.is_window sound.window in
      subst (IsSound m) i.is_new (record {
        numbered = sound.numbered;
        window = kept i.was i.becomes was i.stands;
        free = λ e. absurd (true≢false e);
        done_taken = sound.done_taken;
        done_distinct = sound.done_distinct;
        done_before = sound.done_before;
      })

  module _ (world : W) (jobs : List J) (done : List (DoneJob R)) where
    abbrev Sound : WindowState F → Type 0
    Sound w = IsSoundWindow m world jobs done w

    ring-sound : (moment : ℕ) (was becomes : WindowState F) → Sound was → ring_row moment was ≡ Some becomes → Sound becomes
    ring-sound moment was becomes w e =
        let p = cond_some (nat_le was.deadline moment) (record was { rung = Some (unwrap_or was.rung moment) }) becomes e in
        let late : was.deadline ≤ moment = leb-true was.deadline moment p.0 in
        let rung : was.deadline ≤ unwrap_or was.rung moment =
        (elim was.rung as (λ o. IfSome o (λ k. was.deadline ≤ k) → was.deadline ≤ unwrap_or o moment) [ None ↦ λ _. late | Some k ↦ λ at. at ]) w.rung in
        subst Sound p.1 (record {
          ascending = w.ascending;
          taken = w.taken;
          undrawn = w.undrawn;
          rung = rung;
          frames = w.frames;
          readers = w.readers;
          distinct = w.distinct;
          drawn = w.drawn;
          undone = w.undone;
        })

    taken_from-sound : (reader : ℕ) (w : WindowState F) → Sound w → Sound (taken_from reader w)
    taken_from-sound reader w h = record {
      ascending = h.ascending;
      taken = h.taken;
      undrawn = h.undrawn;
      rung = h.rung;
      frames = all-without (IsReached m world jobs) reader w.held h.frames;
      readers = apart-without (λ h. h.reader) reader w.held h.readers;
      distinct = apart-without (λ h. h.job) reader w.held h.distinct;
      drawn = all-without (λ h. IsDrawn w.listed w.drawn h.job) reader w.held h.drawn;
      undone = all-without (λ h. is_done done h.job ≡ false) reader w.held h.undone;
    }

    cut-sound : (reader : ℕ) (was becomes : WindowState F) → Sound was → cut_row reader was ≡ Some becomes → Sound becomes
    cut-sound reader was becomes w e =
        let p = cond_some (is_some was.rung && is_some (held_by reader was.held)) (taken_from reader was) becomes e in
        subst Sound p.1 (taken_from-sound reader was w)

    drawn-sound : (reader : ℕ) (w : WindowState F) (h : Held F) → Sound w → held_by reader w.held ≡ None → IsNext m world jobs reader w h → Sound (with_drawn w h)
    drawn-sound reader w h sound free next =
        let draws : ℕ → Held F → Type 0 = λ n y. IsDrawn w.listed n y.job in
        let first : Held F = record { reader = reader; job = next.job; frame = m.begun world next.value } in
        subst (λ (h : Held F). Sound (with_drawn w h)) next.is (record {
          ascending = sound.ascending;
          taken = sound.taken;
          undrawn = λ place job below at. sound.undrawn place job (omega (arith, below)) at;
          rung = sound.rung;
          frames = all-push (IsReached m world jobs) w.held first sound.frames (record { value = next.value; is_value = next.is_value; pieces = zero; reached = refl });
          readers = apart-push (λ h. h.reader) w.held first sound.readers (all-other_readers reader w.held free);
          distinct = apart-push (λ h. h.job) w.held first sound.distinct (all-weaken (draws w.drawn) (λ y. y.job ≢ next.job) w.held (λ y at same. absurd (omega (arith, same, sound.ascending at.place w.drawn y.job next.job at.below at.stands next.listed))) sound.drawn);
          drawn = all-push (draws (w.drawn + 1)) w.held first (all-weaken (draws w.drawn) (draws (w.drawn + 1)) w.held (λ y at. record { place = at.place; below = omega (arith, at.below); stands = at.stands }) sound.drawn) (record { place = w.drawn; below = omega arith; stands = next.listed });
          undone = all-push (λ h. is_done done h.job ≡ false) w.held first sound.undone (sound.undrawn w.drawn next.job (omega arith) next.listed);
        })

    claim-sound : (reader : ℕ) (was becomes : WindowState F) → Sound was → claim_row m world jobs reader was ≡ Some becomes → Sound becomes
    claim-sound reader was becomes w e =
        let p = cond_some (is_none (held_by reader was.held)) (unwrap_or (option_map (with_drawn was) (next_held m world jobs reader was)) was) becomes e in
        let free : held_by reader was.held ≡ None =
        (elim (held_by reader was.held) as (λ o. is_none o ≡ true → o ≡ None) [ None ↦ λ _. refl | Some h ↦ λ e. absurd (true≢false (sym e)) ]) p.0 in
        (elim (next_held m world jobs reader was) as (λ o. next_held m world jobs reader was ≡ o → unwrap_or (option_map (with_drawn was) o) was ≡ becomes → Sound becomes) [
          | None ↦ λ _ same. subst Sound same w
          | Some h ↦ λ next is. subst Sound is (drawn-sound reader was h w free (next_held-some m world jobs reader was h next))
        ]) refl p.1

    -- a piece that gives a frame
    more-sound : (reader : ℕ) (w : WindowState F) (h : Held F) (frame : F) → Sound w → held_by reader w.held ≡ Some h → m.advanced world h.frame ≡ More frame → Sound (record w { held = with_frame reader frame w.held })
    more-sound reader w h frame sound held piece =
        let r : IsReached m world jobs h = all-held (IsReached m world jobs) reader w.held h sound.frames held in
        record {
          ascending = sound.ascending;
          taken = sound.taken;
          undrawn = sound.undrawn;
          rung = sound.rung;
          frames = all-with_frame (IsReached m world jobs) reader frame w.held h sound.frames held (record { value = r.value; is_value = r.is_value; pieces = suc r.pieces; reached = frame_after-more m world r.pieces (m.begun world r.value) h.frame frame r.reached piece });
          readers = apart-with_frame (λ h. h.reader) reader frame w.held (λ _. refl) sound.readers;
          distinct = apart-with_frame (λ h. h.job) reader frame w.held (λ _. refl) sound.distinct;
          drawn = all-with_any_frame (λ h. IsDrawn w.listed w.drawn h.job) reader frame w.held (λ _ at. at) sound.drawn;
          undone = all-with_any_frame (λ h. is_done done h.job ≡ false) reader frame w.held (λ _ e. e) sound.undone;
        }

    -- a piece that gives the reply
    ready-sound : (reader : ℕ) (w : WindowState F) (h : Held F) (d : DoneJob R) → d.job ≡ h.job → Sound w → held_by reader w.held ≡ Some h → IsSoundWindow m world jobs (done ++ d ∷ []) (taken_from reader w)
    ready-sound reader w h d same sound held =
        let left : Sound (taken_from reader w) = taken_from-sound reader w sound in
        let at : IsDrawn w.listed w.drawn h.job = all-held (λ h. IsDrawn w.listed w.drawn h.job) reader w.held h sound.drawn held in
        record {
          ascending = sound.ascending;
          taken = sound.taken;
          undrawn = λ place job below listed. is_done-push done d job (sound.undrawn place job below listed) (λ e. absurd (omega (arith, e, same, sound.ascending at.place place h.job job (omega (arith, at.below, below)) at.stands listed)));
          rung = sound.rung;
          frames = left.frames;
          readers = left.readers;
          distinct = left.distinct;
          drawn = left.drawn;
          undone = all-both (λ y. is_done done y.job ≡ false) (λ y. y.job ≢ h.job) (λ y. is_done (done ++ d ∷ []) y.job ≡ false) (without reader w.held) (λ y undone other. is_done-push done d y.job undone (λ e. other (sym e ∙ same))) left.undone (apart-others (λ h. h.job) reader w.held h sound.distinct held);
        }

  -- Advance
  advance-sound : (s : State W J F R) (reader : ℕ) (new : State W J F R) → IsSound m s → advance_row m s reader ≡ Some new → IsSound m new
  advance-sound s reader new sound e =
      let a = advance_row-some m s reader new e in
      let w = a.was in
      let h = a.held in
      let was : IsSoundWindow m s.world s.jobs s.done w = if_some-at s.window (IsSoundWindow m s.world s.jobs s.done) w a.is_window sound.window in
      subst (IsSound m) a.is_new
      ((elim (m.advanced s.world h.frame) as (λ piece. m.advanced s.world h.frame ≡ piece → IsSound m (with_window_and_done s (after_piece reader s.position (w, s.done) h piece))) [
        | More frame ↦ λ piece. record {
          numbered = sound.numbered;
          window = more-sound s.world s.jobs s.done reader w h frame was a.is_held piece;
          free = λ e. absurd (true≢false e);
          done_taken = sound.done_taken;
          done_distinct = sound.done_distinct;
          done_before = sound.done_before;
        }
        | Ready reply ↦ λ piece.
            let d : DoneJob R = record { job = h.job; position = s.position; reply = reply } in
            let undone : is_done s.done h.job ≡ false = all-held (λ h. is_done s.done h.job ≡ false) reader w.held h was.undone a.is_held in
            let at : IsDrawn w.listed w.drawn h.job = all-held (λ h. IsDrawn w.listed w.drawn h.job) reader w.held h was.drawn a.is_held in
            record {
              numbered = sound.numbered;
              window = ready-sound s.world s.jobs s.done reader w h d refl was a.is_held;
              free = λ e. absurd (true≢false e);
              done_taken = all-push (λ d. d.job < length s.jobs) s.done d sound.done_taken (was.taken at.place h.job at.stands);
              done_distinct = apart-push (λ d. d.job) s.done d sound.done_distinct (all-other_jobs s.done h.job undone);
              done_before = all-push (λ d. d.position ≤ s.position) s.done d sound.done_before (omega arith);
            }
      ]) refl)

  -- Advance whose memory is refused
  starved-sound : (s : State W J F R) (reader : ℕ) → IsSound m s → IsSound m (starved_advance s reader)
  starved-sound s reader sound =
      record {
        numbered = sound.numbered;
        window = (elim s.window as (λ o. IfSome o (IsSoundWindow m s.world s.jobs s.done) → IfSome (option_map (taken_from reader) o) (IsSoundWindow m s.world s.jobs s.done)) [
          | None ↦ λ _. tt
          | Some w ↦ λ h. taken_from-sound s.world s.jobs s.done reader w h
        ]) sound.window;
        free = elim s.window as (λ o. IsNone (option_map (taken_from reader) o) → held_in (option_map (taken_from reader) o) ≡ []) [
          | None ↦ λ _. refl
          | Some w ↦ λ e. absurd (true≢false e)
        ];
        done_taken = sound.done_taken;
        done_distinct = sound.done_distinct;
        done_before = sound.done_before;
      }

  -- Close
  close-sound : (s : State W J F R) (new : State W J F R) → IsSound m s → core_step {A = ⊥} m s Close ≡ Some new → IsSound m new
  close-sound s new sound e =
      let c = chained (close_row s) s.window new e in
      let p = cond_some (is_empty (c.value).held) (record s { window = None }) new c.gives in
      subst (IsSound m) p.1 (record {
        numbered = sound.numbered;
        window = tt;
        free = λ _. refl;
        done_taken = sound.done_taken;
        done_distinct = sound.done_distinct;
        done_before = sound.done_before;
      })

  -- Each row keeps soundness.
  pub step-sound : {A : Type 0} (s : State W J F R) (event : Event A W X J F R) (new : State W J F R) → IsSound m s → core_step m s event ≡ Some new → IsSound m new
  step-sound s (Take job) new sound e = take-sound s job new sound e
  step-sound s (Apply write) new sound e = apply-sound s write new sound e
  step-sound s (Begin deadline) new sound e = begin-sound s deadline new sound e
  step-sound s (Claim reader) new sound e = in_window-sound s (claim_row m s.world s.jobs reader) new sound e (claim-sound s.world s.jobs s.done reader)
  step-sound s (Look reader) new sound e = in_window-sound s look_row new sound e (λ was becomes w same. subst (IsSoundWindow m s.world s.jobs s.done) (same_Some was becomes same) w)
  step-sound s (Ring reader moment) new sound e = in_window-sound s (ring_row moment) new sound e (ring-sound s.world s.jobs s.done moment)
  step-sound s (Advance reader) new sound e = advance-sound s reader new sound e
  step-sound s (Cut reader) new sound e = in_window-sound s (cut_row reader) new sound e (cut-sound s.world s.jobs s.done reader)
  step-sound s Close new sound e = close-sound s new sound e

  -- So does an event whose memory is refused.
  pub core_starved-sound : {A : Type 0} (s : State W J F R) (event : Event A W X J F R) → IsSound m s → IsSound m (core_starved s event)
  core_starved-sound s (Take job) sound = sound
  core_starved-sound s (Apply write) sound = sound
  core_starved-sound s (Begin deadline) sound = sound
  core_starved-sound s (Claim reader) sound = sound
  core_starved-sound s (Look reader) sound = sound
  core_starved-sound s (Ring reader moment) sound = sound
  core_starved-sound s (Advance reader) sound = starved-sound s reader sound
  core_starved-sound s (Cut reader) sound = sound
  core_starved-sound s Close sound = sound

  -- What a step answers leaves a sound state.
  pub answers-sound : {A E : Type 0} (s : State W J F R) (event : Event A W X J F R) (new : State W J F R) (answer : Result E StepError) → IsSound m s → Answers (core_step m s event) (core_starved s event) s new answer → IsSound m new
  answers-sound s event new (Ok _) sound a = step-sound s event new sound a
  answers-sound s event new (Err NotNow) sound a = subst (IsSound m) (sym a.1) sound
  answers-sound s event new (Err OutOfMemory) sound a = subst (IsSound m) (sym a.1) (core_starved-sound s event sound)

  -- What a step answers leaves the state after its event.
  pub answers-after : {A E : Type 0} (s : State W J F R) (event : Event A W X J F R) (new : State W J F R) (answer : Result E StepError) → Answers (core_step m s event) (core_starved s event) s new answer → new ≡ after_event m s (event, wants_memory answer)
  answers-after s event new (Ok _) a = sym (ap (λ o. unwrap_or o s) a)
  answers-after s event new (Err NotNow) a = a.1 ∙ sym (ap (λ o. unwrap_or o s) a.0)
  answers-after s event new (Err OutOfMemory) a = a.1
