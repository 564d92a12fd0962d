-- A session taken back.
use Rattle.std.proofs.Common.{◌≡◌, ℕ, zero, suc, slice_index_or, ◌+◌, ◌-◌, ◌<◌, ◌≤◌, Bool, true, false, List, [], ◌∷◌, ◌++◌, length, take, reverse, Option, Some, None, is_some, IsNone, Result, Ok, Err, refl, sym, ap, subst, ◌∙◌, arith, length-append}
use Rattle.std.proofs.lemmas.List.{reverse-append, reverse-reverse}
use Rattle.ante_types.specs.declared.chain.BlockInfo.{BlockInfo}
use Rattle.ante_undo.specs.Stack.{Stack, with_top, with_session, under_top, begun}
use Rattle.ante_port.specs.declared.block.BlockRunError.{BlockRunError}
use Rattle.ante_port.specs.declared.block.BlockRunError.TheVariants.{OutOfMemory, Invalid}
use Rattle.ante_machine.specs.Stacks.{Pending, Runs, Fails, RunsTo}
use Rattle.ante_session_machine.specs.Under.{Parts, parts, without_session, Makes}

module _ {W : Type 0} where
  same_snoc : (xs ys : List W) (x y : W) → xs ++ x ∷ [] ≡ ys ++ y ∷ [] → (xs ≡ ys) × (x ≡ y)
  same_snoc xs ys x y e =
      let h : x ∷ reverse xs ≡ y ∷ reverse ys = sym (reverse-append xs (x ∷ [])) ∙ ap reverse e ∙ reverse-append ys (y ∷ []) in
      let t : reverse xs ≡ reverse ys = cc in
      (sym (reverse-reverse xs) ∙ ap reverse t ∙ reverse-reverse ys, cc)

  -- what undo gives after a session's begin and any change of the top is the old stack
  pub undone_back : (old made new : Stack W) (begun_old : Stack W) → begun_old ≡ begun old → made ≡ with_top made.top begun_old → made ≡ with_top made.top (begun new) → new ≡ old
  undone_back old made new begun_old b m u =
      let e : with_top made.top (begun new) ≡ with_top made.top (begun old) = sym u ∙ m ∙ ap (with_top made.top) b in
      let p = same_snoc new.under old.under new.top old.top (ap (λ s. s.under) e) in
      let r : new.revision ≡ old.revision = let h = ap (λ s. s.revision) e in omega (arith, h) in
      λ i. record { under = p.0 i; top = p.1 i; revision = r i; shelf = (ap (λ s. s.shelf) e) i }

  pub runs_ok : (step : Result W ℕ) (old mid new : Stack W) → mid ≡ begun old → Makes step mid new (Ok tt) → RunsTo step old new (Ok tt)
  runs_ok step old mid new b m = (m.0, record { gives = m.1.0; stands = m.1.1 ∙ ap (with_top m.0) b })

  pub runs_err : (step : Result W ℕ) (old mid made new : Stack W) (e : BlockRunError) → mid ≡ begun old → Makes step mid made (Err e) → made ≡ with_top made.top (begun new) → RunsTo step old new (Err e)
  runs_err step old mid made new OutOfMemory b m u = undone_back old made new mid b m u
  runs_err step old mid made new (Invalid code) b m u = record { gives = m.0; stands = undone_back old made new mid b m.1 u }

  -- a squashed session that changed the top
  pub squashed : (w : W) (s new : Stack W) (m : W) → with_top w (begun s) ≡ with_session m new → new ≡ with_top w s
  squashed w s new m e =
      let p = same_snoc s.under new.under s.top m (ap (λ x. x.under) e) in
      let r : new.revision ≡ s.revision = let h = ap (λ x. x.revision) e in omega (arith, h) in
      λ i. record { under = (sym p.0) i; top = (sym (ap (λ x. x.top) e)) i; revision = r i; shelf = (sym (ap (λ x. x.shelf) e)) i }

  under_same : (u : List W) (k : ℕ) (a b : W) → k < length u → slice_index_or u k a ≡ slice_index_or u k b
  under_same [] k a b lt = absurd (omega arith)
  under_same (x ∷ u) zero a b lt = refl
  under_same (x ∷ u) (suc k) a b lt = under_same u k a b (omega arith)

  -- the stack below the pending block doesn't see its world
  pub without_top : (w : W) (s : Stack W) → 0 < length s.under → without_session (with_top w s) ≡ without_session s
  without_top w s some = λ i. record { under = take (length s.under - 1) s.under; top = (under_same s.under (length s.under - 1) w s.top (omega arith)) i; revision = s.revision - 1; shelf = s.shelf }

  last_suc : (u : List W) (k : ℕ) (d : W) → length u ≡ suc k → take k u ++ slice_index_or u k d ∷ [] ≡ u
  last_suc [] k d e = absurd (omega arith)
  last_suc (x ∷ []) zero d e = refl
  last_suc (x ∷ y ∷ u) zero d e = absurd (omega arith)
  last_suc (x ∷ u) (suc k) d e = ap (λ v. x ∷ v) (last_suc u k d (omega arith))

  -- the finished block's world is one more on that stack
  pub finished : (w : W) (s : Stack W) → 0 < length s.under → 0 < s.revision → with_top w s ≡ with_top w (begun (without_session s))
  finished w s some rev =
      let u : take (length s.under - 1) s.under ++ under_top s ∷ [] ≡ s.under = last_suc s.under (length s.under - 1) s.top (omega arith) in
      let r : s.revision ≡ s.revision - 1 + 1 = omega arith in
      λ i. record { under = (sym u) i; top = w; revision = r i; shelf = s.shelf }

  -- no block is pending
  pub none_by : (chain : List ℕ) (s : Stack W) (o : Option BlockInfo) (n : ℕ) → is_some (parts chain s o n).pending ≡ false → o ≡ None
  none_by chain s None n e = refl
  none_by chain s (Some info) n e = cc
