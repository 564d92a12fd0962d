-- Pieces of work, one after another.
use Rattle.std.proofs.Common.{◌≡◌, ℕ, zero, suc, Some, None, option_and_then, refl, sym, ap, ◌∙◌}
use Rattle.std.proofs.lemmas.Option.{none-some, same_Some}
use Rattle.ante_core.specs.declared.Piece.TheVariants.{More, Ready}
use Rattle.ante_core.specs.Machine.{Meaning}
use Rattle.ante_core.specs.Sound.{frame_after, next_frame}
use Rattle.ante_core.specs.Runs.{Alone}

module _ {W X J F R : Type 0} (m : Meaning W X J F R) (world : W) where
  -- one more piece
  pub frame_after-more : (pieces : ℕ) (first frame next : F) → frame_after m world first pieces ≡ Some frame → m.advanced world frame ≡ More next → frame_after m world first (suc pieces) ≡ Some next
  frame_after-more zero first frame next reached piece =
      let e : m.advanced world first ≡ More next = ap (m.advanced world) (same_Some first frame reached) ∙ piece in
      rw e refl
  frame_after-more (suc pieces) first frame next reached piece =
      (elim (next_frame (m.advanced world first)) as (λ o. option_and_then (λ f. frame_after m world f pieces) o ≡ Some frame → option_and_then (λ f. frame_after m world f (suc pieces)) o ≡ Some next) [
        | None ↦ λ reached. absurd (none-some frame reached)
        | Some second ↦ λ reached. frame_after-more pieces second frame next reached piece
      ]) reached

  -- the pieces of a job lead to one reply
  pub one_reply : (n k : ℕ) (first frame other : F) (reply answer : R) → frame_after m world first n ≡ Some frame → m.advanced world frame ≡ Ready reply → frame_after m world first k ≡ Some other → m.advanced world other ≡ Ready answer → reply ≡ answer
  one_reply zero zero first frame other reply answer reached ends reaches end =
      let e : frame ≡ other = sym (same_Some first frame reached) ∙ same_Some first other reaches in
      cc
  one_reply zero (suc k) first frame other reply answer reached ends reaches end =
      let e : m.advanced world first ≡ Ready reply = ap (m.advanced world) (same_Some first frame reached) ∙ ends in
      absurd (none-some other (rw e at reaches))
  one_reply (suc n) zero first frame other reply answer reached ends reaches end =
      let e : m.advanced world first ≡ Ready answer = ap (m.advanced world) (same_Some first other reaches) ∙ end in
      absurd (none-some frame (rw e at reached))
  one_reply (suc n) (suc k) first frame other reply answer reached ends reaches end =
      (elim (next_frame (m.advanced world first)) as (λ o. option_and_then (λ f. frame_after m world f n) o ≡ Some frame → option_and_then (λ f. frame_after m world f k) o ≡ Some other → reply ≡ answer) [
        | None ↦ λ reached reaches. absurd (none-some frame reached)
        | Some second ↦ λ reached reaches. one_reply n k second frame other reply answer reached ends reaches end
      ]) reached reaches

  pub alone_once : (job : J) (reply answer : R) → Alone m world job reply → Alone m world job answer → reply ≡ answer
  alone_once job reply answer a b =
      one_reply a.pieces b.pieces (m.begun world job) a.frame b.frame reply answer a.reached a.ends b.reached b.ends
