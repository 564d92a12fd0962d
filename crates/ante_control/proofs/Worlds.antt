-- Stacks of worlds, and the replays that they hold.
use Rattle.std.proofs.Common.{◌≡◌, ℕ, ◌+◌, ◌-◌, ◌≤◌, List, [], ◌∷◌, ◌++◌, length, take, drop, reverse, None, IfSome, Ok, Err, refl, sym, ap, subst, ◌∙◌, arith, append_assoc, length-append}
use Rattle.std.proofs.lemmas.List.{reverse-append, reverse-reverse, append-nil, take-append-drop, length-drop, length-reverse, length-take-le}
use Rattle.std.proofs.Math.Seq.{drop-append_seam, take-append_seam}
use Rattle.ante_types.specs.declared.chain.Block.{Block}
use Rattle.ante_undo.specs.Stack.{Stack, maps_of, newest, without_newest, IsShelved, IsBroughtBack, IsUnshelved, without_shelf}
use Rattle.ante_machine.specs.Steps.{block_runs, onward}
use Rattle.ante_machine.specs.Stacks.{above}
use Rattle.ante_fork.specs.Tree.{id_of}
use Rattle.ante_control.specs.Chosen.{Play, Failed, named, replay}
use Rattle.ante_control.specs.Tabled.{worlds, Holds}
use Rattle.ante_control.specs.Running.{Grown, IsReplaced}

module _ {W : Type 0} where
  pub worlds_top : (s : Stack W) → worlds s ≡ s.top ∷ reverse s.under
  worlds_top s = reverse-append s.under (s.top ∷ [])

  pub worlds_above : (w : W) (s : Stack W) → worlds (above w s) ≡ w ∷ worlds s
  worlds_above w s = reverse-append (maps_of s) (w ∷ [])

  holds_top_at : (p : Play W) (below : List Block) (w : W) (ws : List W) → Holds p below (w ∷ ws) → replay p below ≡ Ok w
  holds_top_at p [] w ws h = h.0
  holds_top_at p (b ∷ below) w ws h = h.0

  -- the top is the replay of the whole branch
  pub holds_top : (p : Play W) (below : List Block) (s : Stack W) → Holds p below (worlds s) → replay p below ≡ Ok s.top
  holds_top p below s h = holds_top_at p below s.top (reverse s.under) (rw (worlds_top s) at h)

  pub holds_above : (p : Play W) (b : Block) (below : List Block) (w : W) (s : Stack W) → Holds p below (worlds s) → block_runs p.steps p.chain p.judge s.top b ≡ Ok w →
      Holds p (b ∷ below) (worlds (above w s))
  holds_above p b below w s h e =
      rw (worlds_above w s) (ap (onward (λ v. named (id_of b) (block_runs p.steps p.chain p.judge v b))) (holds_top p below s h) ∙ ap (named (id_of b)) e, h)

  pub fails_next : (p : Play W) (b : Block) (below : List Block) (code : ℕ) (s : Stack W) → Holds p below (worlds s) → block_runs p.steps p.chain p.judge s.top b ≡ Err code →
      replay p (b ∷ below) ≡ Err (record { block = id_of b; code = code })
  fails_next p b below code s h e =
      ap (onward (λ v. named (id_of b) (block_runs p.steps p.chain p.judge v b))) (holds_top p below s h) ∙ ap (named (id_of b)) e

  -- a branch fails where a lower part of it does
  pub fails_on : (p : Play W) (up below : List Block) (f : Failed) → replay p below ≡ Err f → replay p (up ++ below) ≡ Err f
  fails_on p [] below f e = e
  fails_on p (b ∷ up) below f e = ap (onward (λ v. named (id_of b) (block_runs p.steps p.chain p.judge v b))) (fails_on p up below f e)

  holds_nothing : (p : Play W) (below : List Block) → Holds p below []
  holds_nothing p [] = tt
  holds_nothing p (b ∷ below) = tt

  pub holds_drop : (p : Play W) (up below : List Block) (ws : List W) → Holds p (up ++ below) ws → Holds p below (drop (length up) ws)
  holds_drop p [] below ws h = h
  holds_drop p (b ∷ up) below [] h = holds_nothing p below
  holds_drop p (b ∷ up) below (w ∷ ws) h = holds_drop p up below ws h.1

  -- ---- stacks that grow, go to the shelf, and come back

  pub grown_none : (s : Stack W) → Grown 0 s s
  grown_none s = record { more = []; count = refl; maps = sym (append-nil (maps_of s)); revision = omega arith; shelf = refl }

  pub grown_above : (w : W) (s : Stack W) → Grown 1 s (above w s)
  grown_above w s = record { more = w ∷ []; count = refl; maps = refl; revision = refl; shelf = refl }

  pub grown_more : (k : ℕ) (a b c : Stack W) → Grown k a b → Grown 1 b c → Grown (k + 1) a c
  grown_more k a b c g h = record {
    more = g.more ++ h.more;
    count = length-append g.more h.more ∙ omega (arith, g.count, h.count);
    maps = h.maps ∙ ap (λ ms. ms ++ h.more) g.maps ∙ append_assoc (maps_of a) g.more h.more;
    revision = omega (arith, g.revision, h.revision);
    shelf = h.shelf ∙ g.shelf;
  }

  reverse_take : (ms : List W) (n : ℕ) → n ≤ length ms → reverse (take (length ms - n) ms) ≡ drop n (reverse ms)
  reverse_take ms n le =
      let front = take (length ms - n) ms in
      let back = drop (length ms - n) ms in
      let many : length (reverse back) ≡ n = length-reverse back ∙ length-drop (length ms - n) ms ∙ omega arith in
      sym (ap (λ xs. drop n (reverse xs)) (sym (take-append-drop (length ms - n) ms)) ∙ ap (drop n) (reverse-append front back)
      ∙ subst (λ k. drop k (reverse back ++ reverse front) ≡ reverse front) many (drop-append_seam (reverse back) (reverse front)))

  -- the worlds below the shelf
  pub worlds_shelved : (r : ℕ) (old new : Stack W) → IsShelved r old new → old.revision - r ≤ length (maps_of old) → worlds new ≡ drop (old.revision - r) (worlds old)
  worlds_shelved r old new is le = ap reverse is.maps ∙ reverse_take (maps_of old) (old.revision - r) le

  same_snoc : (xs ys : List W) (x y : W) → xs ++ x ∷ [] ≡ ys ++ y ∷ [] → (xs ≡ ys) × (x ≡ y)
  same_snoc xs ys x y e =
      let h : x ∷ reverse xs ≡ y ∷ reverse ys = sym (reverse-append xs (x ∷ [])) ∙ ap reverse e ∙ reverse-append ys (y ∷ []) in
      let t : reverse xs ≡ reverse ys = cc in
      (sym (reverse-reverse xs) ∙ ap reverse t ∙ reverse-reverse ys, cc)

  same_stack : (a b : Stack W) → maps_of a ≡ maps_of b → a.revision ≡ b.revision → a.shelf ≡ b.shelf → a ≡ b
  same_stack a b m r s = let e = same_snoc a.under b.under a.top b.top m in λ i. record { under = e.0 i; top = e.1 i; revision = r i; shelf = s i }

  back_again : (r k : ℕ) (old shelved grown new : Stack W) → old.shelf ≡ None → r ≤ old.revision → old.revision - r ≤ length old.under → IsShelved r old shelved → Grown k shelved grown →
      IsBroughtBack (record { revision = r; maps = newest (old.revision - r) (maps_of old) }) grown new → new ≡ old
  back_again r k old shelved grown new none below within is g back =
      let n : ℕ = old.revision - r in
      let len : length (maps_of old) ≡ length old.under + 1 = length-append old.under (old.top ∷ []) in
      let many : length (maps_of grown) ≡ length (maps_of shelved) + k = ap length g.maps ∙ length-append (maps_of shelved) g.more ∙ omega (arith, g.count) in
      let up : grown.revision - r ≡ k = omega (arith, g.revision, is.revision) in
      let front : without_newest (grown.revision - r) (maps_of grown) ≡ maps_of shelved =
      ap (λ j. take (length (maps_of grown) - j) (maps_of grown)) up
      ∙ ap (λ j. take j (maps_of grown)) (omega (arith, many))
      ∙ ap (take (length (maps_of shelved))) g.maps ∙ take-append_seam (maps_of shelved) g.more in
      let maps : maps_of new ≡ maps_of old =
      back.maps ∙ ap (λ ms. ms ++ newest n (maps_of old)) (front ∙ is.maps) ∙ take-append-drop (length (maps_of old) - n) (maps_of old) in
      let count : length (newest n (maps_of old)) ≡ n = length-drop (length (maps_of old) - n) (maps_of old) ∙ omega (arith, len) in
      same_stack new old maps (omega (arith, back.revision, count)) (back.shelf ∙ sym none)

  pub brought_back : (r k : ℕ) (old shelved grown new : Stack W) → old.shelf ≡ None → r ≤ old.revision → old.revision - r ≤ length old.under → IsShelved r old shelved → Grown k shelved grown →
      IsUnshelved grown new → new ≡ old
  brought_back r k old shelved grown new none below within is g back =
      back_again r k old shelved grown new none below within is g (subst (λ o. IfSome o (λ shelf. IsBroughtBack shelf grown new)) (g.shelf ∙ is.shelf) back)

  -- ---- a branch in the place of another

  pub replaced : (r k : ℕ) (old shelved grown : Stack W) → r ≤ old.revision → old.revision - r ≤ length old.under → IsShelved r old shelved → Grown k shelved grown →
      IsReplaced (r + k) old (without_shelf grown)
  replaced r k old shelved grown below within is g =
      let a : length (maps_of shelved) ≡ length (maps_of old) - (old.revision - r) =
      ap length is.maps ∙ length-take-le (length (maps_of old) - (old.revision - r)) (maps_of old) (omega arith) in
      let b : length (maps_of grown) ≡ length (maps_of shelved) + k = ap length g.maps ∙ length-append (maps_of shelved) g.more ∙ omega (arith, g.count) in
      record {
        no_shelf = refl;
        revision = omega (arith, g.revision, is.revision);
        depth = omega (arith, a, b, length-append old.under (old.top ∷ []), length-append grown.under (grown.top ∷ []), g.revision, is.revision);
      }
