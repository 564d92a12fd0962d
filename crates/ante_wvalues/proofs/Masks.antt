-- Arguments that are masked to their kinds.
use Rattle.std.proofs.Common.{◌≡◌, ℕ, zero, suc, ◌+◌, ◌-◌, ◌<◌, ◌≤◌, List, [], ◌∷◌, ◌++◌, length, take, drop, set, refl, sym, ap, ◌∙◌, arith, length-drop}
use Rattle.std.specs.Prelude.{slice_index}
use Rattle.std.proofs.lemmas.List.{length-take-le, length-reverse}
use Rattle.std.proofs.Math.Seq.{take-append_seam, drop-append_seam}
use Rattle.ante_wtree.specs.declared.instructions.ValueKind.{ValueKind}
use Rattle.ante_wtree.specs.Types.{mask, masked}
use Rattle.ante_wmeaning.specs.PlainInstructions.{popped}
use Rattle.ante_wmeaning.specs.Execution.{keep, arguments}
use Rattle.ante_wvalues.specs.FrameValues.{FrameValues}
use Rattle.ante_wvalues.proofs.Regions.{view, keep_view, args_view, kept_discard}

masked_length : (kinds : List ValueKind) (ns : List ℕ) → length ns ≡ length kinds → length (masked kinds ns) ≡ length kinds
masked_length [] ns e = refl
masked_length (k ∷ ks) [] e = absurd (omega (arith, e))
masked_length (k ∷ ks) (n ∷ ns) e = ap suc (masked_length ks ns (omega (arith, e)))

-- the list with as many values masked as there are kinds, from a place on
abbrev pub masked_from : List ℕ → (at : ℕ) → List ValueKind → List ℕ
masked_from xs at kinds = take at xs ++ (masked kinds (take (length kinds) (drop at xs)) ++ drop (length kinds) (drop at xs))

one_at : (xs : List ℕ) (at : ℕ) (k : ValueKind) (ks : List ValueKind) (y : ℕ) → at < length xs → y ≡ mask k (slice_index xs at) → masked_from xs at (k ∷ ks) ≡ masked_from (set xs at y) (suc at) ks
one_at [] at k ks y lt e = absurd (omega (arith, lt))
one_at (x ∷ xs) zero k ks y lt e = ap (λ z. z ∷ (masked ks (take (length ks) xs) ++ drop (length ks) xs)) (sym e)
one_at (x ∷ xs) (suc at) k ks y lt e = ap (λ r. x ∷ r) (one_at xs at k ks y (omega (arith, lt)) e)

pub one_masked : (xs : List ℕ) (at next : ℕ) (k : ValueKind) (ks : List ValueKind) (y : ℕ) → at < length xs → y ≡ mask k (slice_index xs at) → next ≡ suc at → masked_from xs at (k ∷ ks) ≡ masked_from (set xs at y) next ks
one_masked xs at next k ks y lt e n = one_at xs at k ks y lt e ∙ ap (λ i. masked_from (set xs at y) i ks) (sym n)

pub none_masked : (xs : List ℕ) (at : ℕ) → at ≤ length xs → masked_from xs at [] ≡ xs
none_masked [] zero le = refl
none_masked [] (suc at) le = absurd (omega (arith, le))
none_masked (x ∷ xs) zero le = refl
none_masked (x ∷ xs) (suc at) le = ap (λ r. x ∷ r) (none_masked xs at (omega (arith, le)))

module _ (xs ys : List ℕ) (base floor : ℕ) (v w : FrameValues) (e : view xs base floor ≡ v) (f : view ys base floor ≡ w) (b : base ≤ floor) (le : floor ≤ length xs) (same : length ys ≡ length xs)
    (kinds : List ValueKind) (lt : length kinds < length v.stack) (y : ys ≡ masked_from xs (length xs - 1 - length kinds) kinds) where
  abbrev first : ℕ
  first = length xs - 1 - length kinds

  old_height : length v.stack ≡ length xs - floor
  old_height = ap (λ z. length z.stack) (sym e) ∙ length-reverse (drop floor xs) ∙ length-drop floor xs

  pub new_height : length w.stack ≡ length v.stack
  new_height = omega (arith, old_height, same, ap (λ z. length z.stack) (sym f) ∙ length-reverse (drop floor ys) ∙ length-drop floor ys)

  front_length : length (take first xs) ≡ first
  front_length = length-take-le first xs (omega arith)

  front : take first ys ≡ take first xs
  front = ap (take first) y ∙ ap (λ n. take n (masked_from xs first kinds)) (sym front_length) ∙ take-append_seam (take first xs) _

  taken_length : length (take (length kinds) (drop first xs)) ≡ length kinds
  taken_length = length-take-le (length kinds) (drop first xs) (omega (arith, length-drop first xs, lt, old_height))

  tail : take (length kinds) (drop first ys) ≡ masked kinds (take (length kinds) (drop first xs))
  tail =
      let m = masked kinds (take (length kinds) (drop first xs)) in
      ap (λ zs. take (length kinds) (drop first zs)) y ∙ ap (λ n. take (length kinds) (drop n (masked_from xs first kinds))) (sym front_length) ∙ ap (take (length kinds)) (drop-append_seam (take first xs) _)
      ∙ ap (λ n. take n (m ++ drop (length kinds) (drop first xs))) (sym (masked_length kinds (take (length kinds) (drop first xs)) taken_length)) ∙ take-append_seam m _

  pub masked_arguments : arguments (length kinds) (popped w.stack) ≡ masked kinds (arguments (length kinds) (popped v.stack))
  masked_arguments =
      let n : length xs - 1 - first ≡ length kinds = omega (arith, lt, old_height) in
      let new = args_view ys base floor w f b (omega (arith, same, le)) (length kinds) (omega (arith, new_height, lt)) in
      let old = args_view xs base floor v e b le (length kinds) lt in
      sym new ∙ ap (λ k. take (k - 1 - (k - 1 - length kinds)) (drop (k - 1 - length kinds) ys)) same ∙ ap (λ k. take k (drop first ys)) n ∙ tail
      ∙ ap (masked kinds) (ap (λ k. take k (drop first xs)) (sym n) ∙ old)

  -- what lies below the arguments
  abbrev left : FrameValues → FrameValues
  left z = record { below = z.below; locals = z.locals; stack = keep (length v.stack - 1 - length kinds) z.stack }

  below_same : left w ≡ left v
  below_same =
      let h = length v.stack - 1 - length kinds in
      let at : first ≡ floor + h = omega (arith, lt, old_height, le) in
      sym (keep_view ys base floor w f b (omega (arith, same, le)) (take first ys) h (ap (λ k. take k ys) at) (omega (arith, new_height, lt)))
      ∙ ap (λ z. view z base floor) front
      ∙ keep_view xs base floor v e b le (take first xs) h (ap (λ k. take k xs) at) (omega (arith, lt))

  pub masked_rest : drop (length kinds) (popped w.stack) ≡ drop (length kinds) (popped v.stack)
  masked_rest =
      sym (kept_discard (length v.stack) (length kinds) w.stack (sym new_height) (omega (arith, new_height, lt))) ∙ ap (λ z. z.stack) below_same
      ∙ kept_discard (length v.stack) (length kinds) v.stack refl lt

  pub masked_frames : (w.below ≡ v.below) × (w.locals ≡ v.locals)
  masked_frames = (ap (λ z. z.below) below_same, ap (λ z. z.locals) below_same)
