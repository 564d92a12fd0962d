-- A list in three parts, as the values of the frames lie in it, and what the operations on the last part make of it.
use Rattle.std.proofs.Common.{◌≡◌, ℕ, suc, ◌+◌, ◌-◌, ◌<◌, ◌≤◌, List, [], ◌∷◌, ◌++◌, length, take, drop, reverse, replicate, set, Some, refl, sym, ap, subst, ◌∙◌, arith, length-append, length-drop, append_assoc, take-take}
use Rattle.std.proofs.lemmas.List.{take-append-drop, drop-take, reverse-reverse, reverse-append, length-reverse, drop-drop, length-take-le, set_split, length-set, append-nil, set-append_left, set-append_right, take_more_set}
use Rattle.std.proofs.Math.Seq.{take-append_seam, drop-append_seam, take-append-add, drop-append-add, drop-length}
use Rattle.ante_wtree.specs.declared.instructions.ValueKind.{ValueKind}
use Rattle.ante_wmeaning.specs.PlainInstructions.{top, popped}
use Rattle.ante_wmeaning.specs.Execution.{keep, unwound, arguments}
use Rattle.ante_wvalues.specs.FrameValues.{FrameValues}

-- ---- lists from their other end

-- a list's front, from the other end
front_reverse : (n : ℕ) (s : List ℕ) → n ≤ length s → drop (length s - n) (reverse s) ≡ reverse (take n s)
front_reverse n s le =
    let split : reverse s ≡ reverse (drop n s) ++ reverse (take n s) = ap reverse (sym (take-append-drop n s)) ∙ reverse-append (take n s) (drop n s) in
    let count : length s - n ≡ length (reverse (drop n s)) = omega (arith, length-reverse (drop n s), length-drop n s) in
    ap (drop (length s - n)) split ∙ ap (λ k. drop k (reverse (drop n s) ++ reverse (take n s))) count ∙ drop-append_seam (reverse (drop n s)) (reverse (take n s))

-- its rest, from the other end
rest_reverse : (n : ℕ) (s : List ℕ) → n ≤ length s → take (length s - n) (reverse s) ≡ reverse (drop n s)
rest_reverse n s le =
    let split : reverse s ≡ reverse (drop n s) ++ reverse (take n s) = ap reverse (sym (take-append-drop n s)) ∙ reverse-append (take n s) (drop n s) in
    let count : length s - n ≡ length (reverse (drop n s)) = omega (arith, length-reverse (drop n s), length-drop n s) in
    ap (take (length s - n)) split ∙ ap (λ k. take k (reverse (drop n s) ++ reverse (take n s))) count ∙ take-append_seam (reverse (drop n s)) (reverse (take n s))

pub keep_is : (n : ℕ) (s : List ℕ) → n ≤ length s → keep n (reverse s) ≡ reverse (take n s)
keep_is n s le = ap (λ k. drop (k - n) (reverse s)) (length-reverse s) ∙ front_reverse n s le

-- the arguments are the last values put on, and the others stay
pub arguments_are : (n : ℕ) (s : List ℕ) → n ≤ length s → arguments n (reverse s) ≡ drop (length s - n) s
arguments_are n s le =
    let e = rest_reverse (length s - n) s (omega arith) in
    let count : n ≡ length s - (length s - n) = omega arith in
    ap (λ k. reverse (take k (reverse s))) count ∙ ap reverse e ∙ reverse-reverse (drop (length s - n) s)

pub others_are : (n : ℕ) (s : List ℕ) → n ≤ length s → reverse (drop n (reverse s)) ≡ take (length s - n) s
others_are n s le =
    let e = front_reverse (length s - n) s (omega arith) in
    let count : n ≡ length s - (length s - n) = omega arith in
    ap (λ k. reverse (drop k (reverse s))) count ∙ ap reverse e ∙ reverse-reverse (take (length s - n) s)

popped_is : (xs : List ℕ) → popped xs ≡ drop 1 xs
popped_is [] = refl
popped_is (x ∷ xs) = refl

top_is : (xs : List ℕ) → 0 < length xs → take 1 xs ≡ top xs ∷ []
top_is [] lt = absurd (omega arith)
top_is (x ∷ xs) lt = refl

-- ---- the three parts

abbrev pub view : List ℕ → (base floor : ℕ) → FrameValues
view xs base floor = record { below = take base xs; locals = take (floor - base) (drop base xs); stack = reverse (drop floor xs) }

pub view_is : (a l s : List ℕ) (base floor : ℕ) → base ≡ length a → floor ≡ length a + length l → view (a ++ (l ++ s)) base floor ≡ record { below = a; locals = l; stack = reverse s }
view_is a l s base floor b f =
    let count : floor - base ≡ length l = omega arith in
    let low : take base (a ++ (l ++ s)) ≡ a = ap (λ k. take k (a ++ (l ++ s))) b ∙ take-append_seam a (l ++ s) in
    let mid : take (floor - base) (drop base (a ++ (l ++ s))) ≡ l =
    ap (λ k. take k (drop base (a ++ (l ++ s)))) count ∙ ap (λ k. take (length l) (drop k (a ++ (l ++ s)))) b ∙ ap (take (length l)) (drop-append_seam a (l ++ s)) ∙ take-append_seam l s in
    let high : drop floor (a ++ (l ++ s)) ≡ s = ap (λ k. drop k (a ++ (l ++ s))) f ∙ drop-append-add a (l ++ s) (length l) ∙ drop-append_seam l s in
    ap (λ x. record { below = x; locals = take (floor - base) (drop base (a ++ (l ++ s))); stack = reverse (drop floor (a ++ (l ++ s))) }) low
    ∙ ap (λ x. record { below = a; locals = x; stack = reverse (drop floor (a ++ (l ++ s))) }) mid
    ∙ ap (λ x. record { below = a; locals = l; stack = reverse x }) high

parts : (xs : List ℕ) (base floor : ℕ) → base ≤ floor → xs ≡ take base xs ++ (take (floor - base) (drop base xs) ++ drop floor xs)
parts xs base floor le =
    let count : base + (floor - base) ≡ floor = omega arith in
    let rest : drop (floor - base) (drop base xs) ≡ drop floor xs = drop-drop (floor - base) base xs ∙ ap (λ k. drop k xs) count in
    sym (ap (λ r. take base xs ++ (take (floor - base) (drop base xs) ++ r)) (sym rest)
    ∙ ap (λ r. take base xs ++ r) (take-append-drop (floor - base) (drop base xs)) ∙ take-append-drop base xs)

module _ (xs : List ℕ) (base floor : ℕ) (b : base ≤ floor) (f : floor ≤ length xs) where
  abbrev a : List ℕ
  a = take base xs

  abbrev l : List ℕ
  l = take (floor - base) (drop base xs)

  abbrev s : List ℕ
  s = drop floor xs

  split : xs ≡ a ++ (l ++ s)
  split = parts xs base floor b

  a_length : length a ≡ base
  a_length = let le : base ≤ length xs = omega (arith, b, f) in length-take-le base xs le

  l_length : length l ≡ floor - base
  l_length = let le : floor - base ≤ length (drop base xs) = omega (arith, b, f, length-drop base xs) in length-take-le (floor - base) (drop base xs) le

  s_length : length s ≡ length xs - floor
  s_length = length-drop floor xs

  -- another list in the same places
  same_places : (ys l' s' : List ℕ) → ys ≡ a ++ (l' ++ s') → length l' ≡ length l → view ys base floor ≡ record { below = a; locals = l'; stack = reverse s' }
  same_places ys l' s' e n =
      let f' : floor ≡ length a + length l' = omega (arith, b, n, a_length, l_length) in
      ap (λ z. view z base floor) e ∙ view_is a l' s' base floor (sym a_length) f'

  front : (h : ℕ) → take (floor + h) xs ≡ a ++ (l ++ take h s)
  front h =
      let count : floor + h ≡ length a + (length l + h) = omega (arith, b, a_length, l_length) in
      ap (take (floor + h)) split ∙ ap (λ k. take k (a ++ (l ++ s))) count ∙ take-append-add a (l ++ s) (length l + h) ∙ ap (λ r. a ++ r) (take-append-add l s h)

  pub keep_at : (h : ℕ) → h ≤ length s → view (take (floor + h) xs) base floor ≡ record { below = a; locals = l; stack = keep h (reverse s) }
  keep_at h le = same_places (take (floor + h) xs) l (take h s) (front h) refl ∙ ap (λ r. record { below = a; locals = l; stack = r }) (sym (keep_is h s le))

  set_in : (at x : ℕ) → set xs (base + at) x ≡ a ++ set (l ++ s) at x
  set_in at x =
      let count : base + at - base ≡ at = omega arith in
      ap (λ z. set z (base + at) x) split ∙ set-append_right a (l ++ s) base (base + at) x a_length (omega arith) ∙ ap (λ k. a ++ set (l ++ s) k x) count

  pub local_at : (at x : ℕ) → at < floor - base → view (set xs (base + at) x) base floor ≡ record { below = a; locals = set l at x; stack = reverse s }
  local_at at x lt =
      let lt' : at < length l = omega (arith, lt, l_length) in
      same_places (set xs (base + at) x) (set l at x) s (set_in at x ∙ ap (λ r. a ++ r) (set-append_left l s at x lt')) (length-set l at x)

  popped_front : 0 < length s → popped (reverse s) ≡ reverse (take (length s - 1) s)
  popped_front lt =
      let one : 1 ≡ length s - (length s - 1) = omega arith in
      popped_is (reverse s) ∙ ap (λ k. drop k (reverse s)) one ∙ front_reverse (length s - 1) s (omega arith)

  pub last_at : (x : ℕ) → 0 < length s → view (set xs (length xs - 1) x) base floor ≡ record { below = a; locals = l; stack = x ∷ popped (reverse s) }
  last_at x lt =
      let n = length s - 1 in
      let at : length xs - 1 ≡ base + (length l + n) = omega (arith, b, f, lt, l_length, s_length) in
      let lt' : n < length s = omega arith in
      let end : suc n ≡ length s = omega arith in
      let tail : set s n x ≡ take n s ++ x ∷ [] = set_split s n x lt' ∙ ap (λ r. take n s ++ x ∷ r) (ap (λ k. drop k s) end ∙ drop-length s) in
      let count : length l + n - length l ≡ n = omega arith in
      let e : set xs (length xs - 1) x ≡ a ++ (l ++ (take n s ++ x ∷ [])) =
      ap (λ k. set xs k x) at ∙ set_in (length l + n) x ∙ ap (λ r. a ++ r) (set-append_right l s (length l) (length l + n) x refl (omega arith) ∙ ap (λ k. l ++ set s k x) count ∙ ap (λ r. l ++ r) tail) in
      same_places (set xs (length xs - 1) x) l (take n s ++ x ∷ []) e refl
      ∙ ap (λ r. record { below = a; locals = l; stack = r }) (reverse-append (take n s) (x ∷ []) ∙ ap (λ r. x ∷ r) (sym (popped_front lt)))

  pub unwound_at : (kind : ValueKind) (h x : ℕ) → h < length s → x ≡ top (reverse s) →
      view (take (floor + h + 1) (set xs (floor + h) x)) base floor ≡ record { below = a; locals = l; stack = unwound (Some kind) h (reverse s) }
  unwound_at kind h x lt e =
      let at : floor + h < length xs = omega (arith, f, lt, s_length) in
      let n = length s - 1 in
      let some : 0 < length (reverse s) = omega (arith, length-reverse s) in
      let le : h ≤ length (take n s) = omega (arith, length-take-le n s (omega arith)) in
      let le' : h ≤ n = omega arith in
      let kept : keep h (drop 1 (reverse s)) ≡ reverse (take h s) =
      ap (keep h) (sym (popped_is (reverse s)) ∙ popped_front (omega arith)) ∙ keep_is h (take n s) le ∙ ap reverse (take-take h n s le') in
      let list : take (floor + h + 1) (set xs (floor + h) x) ≡ a ++ (l ++ (take h s ++ x ∷ [])) =
      take_more_set xs (floor + h) x at ∙ ap (λ r. r ++ x ∷ []) (front h) ∙ append_assoc a (l ++ take h s) (x ∷ []) ∙ ap (λ r. a ++ r) (append_assoc l (take h s) (x ∷ [])) in
      same_places _ l (take h s ++ x ∷ []) list refl
      ∙ ap (λ r. record { below = a; locals = l; stack = r })
      (reverse-append (take h s) (x ∷ []) ∙ ap (λ r. r ∷ reverse (take h s)) e ∙ ap (λ r. r ++ reverse (take h s)) (sym (top_is (reverse s) some)) ∙ ap (λ r. take 1 (reverse s) ++ r) (sym kept))

  pub entered_at : (ys : List ℕ) (params zeros : ℕ) → ys ≡ xs ++ replicate zeros 0 → params ≤ length s →
      view ys (length xs - params) (length ys) ≡ record { below = a ++ (l ++ reverse (drop params (reverse s))); locals = arguments params (reverse s) ++ replicate zeros 0; stack = [] }
  entered_at ys params zeros e le =
      let n = length s - params in
      let front = take n s in
      let args = drop n s in
      let whole : ys ≡ (a ++ (l ++ front)) ++ ((args ++ replicate zeros 0) ++ []) =
      e ∙ ap (λ r. r ++ replicate zeros 0) (split ∙ ap (λ r. a ++ (l ++ r)) (sym (take-append-drop n s))
      ∙ ap (λ r. a ++ r) (sym (append_assoc l front args)) ∙ sym (append_assoc a (l ++ front) args))
      ∙ append_assoc (a ++ (l ++ front)) args (replicate zeros 0) ∙ ap (λ r. (a ++ (l ++ front)) ++ r) (sym (append-nil (args ++ replicate zeros 0))) in
      let count : length front ≡ n = length-take-le n s (omega arith) in
      let la : length (a ++ (l ++ front)) ≡ length a + (length l + length front) = length-append a (l ++ front) ∙ ap (λ k. length a + k) (length-append l front) in
      let start : length xs - params ≡ length (a ++ (l ++ front)) = omega (arith, la, count, a_length, l_length, s_length, b, f, le) in
      let len : length ys ≡ length (a ++ (l ++ front)) + (length (args ++ replicate zeros 0) + 0) = ap length whole ∙ length-append (a ++ (l ++ front)) ((args ++ replicate zeros 0) ++ []) ∙ ap (λ k. length (a ++ (l ++ front)) + k) (length-append (args ++ replicate zeros 0) []) in
      let stop : length ys ≡ length (a ++ (l ++ front)) + length (args ++ replicate zeros 0) = omega (arith, len) in
      ap (λ z. view z (length xs - params) (length ys)) whole
      ∙ view_is (a ++ (l ++ front)) (args ++ replicate zeros 0) [] (length xs - params) (length ys) start stop
      ∙ ap (λ r. record { below = a ++ (l ++ r); locals = args ++ replicate zeros 0; stack = [] }) (sym (others_are params s le))
      ∙ ap (λ r. record { below = a ++ (l ++ reverse (drop params (reverse s))); locals = r ++ replicate zeros 0; stack = [] }) (sym (arguments_are params s le))

  pub args_at : (count : ℕ) → count < length s →
      take (length xs - 1 - (length xs - 1 - count)) (drop (length xs - 1 - count) xs) ≡ arguments count (popped (reverse s))
  args_at count lt =
      let k = length s - 1 - count in
      let n = length s - 1 in
      let one : length xs - 1 - (length xs - 1 - count) ≡ count = omega (arith, lt, s_length) in
      let two : length xs - 1 - count ≡ floor + k = omega (arith, lt, s_length, f) in
      let size : length (take n s) ≡ n = length-take-le n s (omega arith) in
      let three : length (take n s) - count ≡ k = omega (arith, size) in
      let four : k + count ≡ n = omega (arith, lt) in
      let le : count ≤ length (take n s) = omega (arith, size, lt) in
      ap (λ j. take j (drop (length xs - 1 - count) xs)) one ∙ ap (λ j. take count (drop j xs)) two ∙ ap (take count) (sym (drop-drop k floor xs))
      ∙ sym (drop-take k count s) ∙ ap (λ j. drop k (take j s)) four
      ∙ sym (ap (arguments count) (popped_front (omega arith)) ∙ arguments_are count (take n s) le ∙ ap (λ j. drop j (take n s)) three)

-- ---- the same, of the values that contracts see

module _ (xs : List ℕ) (base floor : ℕ) (v : FrameValues) (e : view xs base floor ≡ v) (b : base ≤ floor) (f : floor ≤ length xs) where
  height_is : length v.stack ≡ length (drop floor xs)
  height_is = ap (λ w. length w.stack) (sym e) ∙ length-reverse (drop floor xs)

  pub locals_count : length v.locals ≡ floor - base
  locals_count = ap (λ w. length w.locals) (sym e) ∙ l_length xs base floor b f

  pub keep_view : (ys : List ℕ) (h : ℕ) → ys ≡ take (floor + h) xs → h ≤ length v.stack → view ys base floor ≡ record { below = v.below; locals = v.locals; stack = keep h v.stack }
  keep_view ys h y le =
      ap (λ z. view z base floor) y
      ∙ subst (λ w. view (take (floor + h) xs) base floor ≡ record { below = w.below; locals = w.locals; stack = keep h w.stack }) e (keep_at xs base floor b f h (omega (arith, le, height_is)))

  pub local_view : (at x : ℕ) → at < floor - base → view (set xs (base + at) x) base floor ≡ record { below = v.below; locals = set v.locals at x; stack = v.stack }
  local_view at x lt =
      subst (λ w. view (set xs (base + at) x) base floor ≡ record { below = w.below; locals = set w.locals at x; stack = w.stack }) e (local_at xs base floor b f at x lt)

  pub last_view : (x : ℕ) → 0 < length v.stack → view (set xs (length xs - 1) x) base floor ≡ record { below = v.below; locals = v.locals; stack = x ∷ popped v.stack }
  last_view x lt =
      subst (λ w. view (set xs (length xs - 1) x) base floor ≡ record { below = w.below; locals = w.locals; stack = x ∷ popped w.stack }) e (last_at xs base floor b f x (omega (arith, lt, height_is)))

  pub unwound_view : (ys : List ℕ) (kind : ValueKind) (h x : ℕ) → ys ≡ take (floor + h + 1) (set xs (floor + h) x) → h < length v.stack → x ≡ top v.stack →
      view ys base floor ≡ record { below = v.below; locals = v.locals; stack = unwound (Some kind) h v.stack }
  unwound_view ys kind h x y lt t =
      ap (λ z. view z base floor) y
      ∙ subst (λ w. view (take (floor + h + 1) (set xs (floor + h) x)) base floor ≡ record { below = w.below; locals = w.locals; stack = unwound (Some kind) h w.stack }) e
      (unwound_at xs base floor b f kind h x (omega (arith, lt, height_is)) (t ∙ ap (λ w. top w.stack) (sym e)))

  pub entered_view : (ys : List ℕ) (params zeros : ℕ) → ys ≡ xs ++ replicate zeros 0 → params ≤ length v.stack →
      view ys (length xs - params) (length ys) ≡ record { below = v.below ++ (v.locals ++ reverse (drop params v.stack)); locals = arguments params v.stack ++ replicate zeros 0; stack = [] }
  entered_view ys params zeros y le =
      subst (λ w. view ys (length xs - params) (length ys) ≡ record { below = w.below ++ (w.locals ++ reverse (drop params w.stack)); locals = arguments params w.stack ++ replicate zeros 0; stack = [] }) e
      (entered_at xs base floor b f ys params zeros y (omega (arith, le, height_is)))

  pub args_view : (count : ℕ) → count < length v.stack →
      take (length xs - 1 - (length xs - 1 - count)) (drop (length xs - 1 - count) xs) ≡ arguments count (popped v.stack)
  args_view count lt = args_at xs base floor b f count (omega (arith, lt, height_is)) ∙ ap (λ w. arguments count (popped w.stack)) e

pub kept_discard : (h count : ℕ) (stack : List ℕ) → h ≡ length stack → count < length stack → keep (h - 1 - count) stack ≡ drop count (popped stack)
kept_discard h count stack e lt =
    let n : length stack - (h - 1 - count) ≡ 1 + count = omega (arith, e, lt) in
    ap (λ k. drop k stack) n ∙ sym (ap (drop count) (popped_is stack) ∙ drop-drop count 1 stack)

pub kept_answer : (h count : ℕ) (stack : List ℕ) → h ≡ length stack → count < length stack → popped (keep (h - count) stack) ≡ drop count (popped stack)
kept_answer h count stack e lt =
    let n : length stack - (h - count) ≡ count = omega (arith, e, lt) in
    let m : count + 1 ≡ 1 + count = omega arith in
    ap (λ k. popped (drop k stack)) n ∙ popped_is (drop count stack) ∙ drop-drop 1 count stack ∙ ap (λ k. drop k stack) m
    ∙ sym (ap (drop count) (popped_is stack) ∙ drop-drop count 1 stack)
