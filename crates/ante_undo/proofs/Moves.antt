-- Entries and logs that are taken back one by one, or let go.
use Rattle.std.proofs.Common.{◌≡◌, ℕ, ◌+◌, ◌-◌, ◌<◌, ◌≤◌, true, false, cond, T, List, [], ◌∷◌, ◌++◌, length, get_or, set, is_eq, append_assoc, Option, refl, sym, ap, subst, ◌∙◌, Ordering, arith}
use Rattle.std.specs.Ordering.{eq_by_cmp}
use Rattle.std.specs.Cmp.{IsTotalOrder, tied_itself}
use Rattle.std.specs.List.Sorted.{IsStrictlySortedBy}
use Rattle.std.specs.Map.{keys_of}
use Rattle.std.specs.FinMap.{IsAntisymmetric}
use Rattle.ante_undo.specs.declared.slots.Slot.{Slot}
use Rattle.ante_undo.specs.Entries.{changed}
use Rattle.ante_undo.specs.Slots.{live, value_at, mentions_at, Sets, Unnames}
use Rattle.ante_undo.specs.Logs.{one_if, named_in, taken_back, Stays, IsMoved, named_in_all, taken_back_all, maps_under, maps_over, IsTurned, AreMoved, Releases}
use Rattle.ante_undo.proofs.Entries.{equal}
use Rattle.ante_undo.proofs.Live.{values_set, mentions_set, tidy_set, find_live, sorted_live, same_live, live_changed, changed_back}
use Rattle.ante_undo.proofs.Back.{named_append, named_append_all, total_append, back_append, back_append_all, length_append, under_last, over_last}

module _ {X : Type 0} where
  pub last_is : (last : List X) (x c : X) → last ≡ x ∷ [] → c ≡ get_or last (length last - 1) c → c ≡ x
  last_is last x c one is = is ∙ ap (λ l. get_or l (length l - 1) c) one

  pub last_set : (last : List X) (x c : X) → last ≡ x ∷ [] → set last (length last - 1) c ≡ c ∷ []
  last_set last x c one = ap (λ l. set l (length l - 1) c) one

module _ {K : Type 0} {cmp : K → K → Ordering} (exact : IsAntisymmetric cmp) where
  same_at : {X : Type 0} (f : K → X) (k q : K) → cond (eq_by_cmp cmp k q) (f k) (f q) ≡ f q
  same_at f k q =
      elim (eq_by_cmp cmp k q) as (λ b. eq_by_cmp cmp k q ≡ b → cond b (f k) (f q) ≡ f q) [
        | true ↦ λ t. ap f (exact k q (equal _ (subst T (sym t) tt)))
        | false ↦ λ t. refl
      ] refl

module _ {K V : Type 0} {cmp : K → K → Ordering} (o : IsTotalOrder cmp) where
  -- the last entry's key is named
  pub named_last : (front : List (K × Option V)) (c : K × Option V) → 0 < named_in cmp c.0 (front ++ c ∷ [])
  named_last front c =
      let parts = named_append cmp c.0 front (c ∷ []) in
      let one : one_if (eq_by_cmp cmp c.0 c.0) ≡ 1 = ap (λ r. one_if (is_eq r)) (tied_itself o c.0) in
      omega arith

  module _ (exact : IsAntisymmetric cmp) (es fs : List (K × Slot V)) (s : IsStrictlySortedBy cmp (keys_of es)) (t : IsStrictlySortedBy cmp (keys_of fs)) where
    pub moved_entry : (front to : List (K × Option V)) (c : K × Option V) → Sets cmp c.0 c.1 (mentions_at cmp c.0 es) es fs → IsMoved cmp es (front ++ c ∷ []) to fs front (to ++ (c.0, value_at cmp c.0 es) ∷ [])
    moved_entry front to c sets =
        let became : live fs ≡ changed cmp (live es) c.0 c.1 = live_changed cmp o exact es fs c.0 c.1 s t (values_set cmp c.0 c.1 (mentions_at cmp c.0 es) es fs sets) in
        record {
          stays = record {
            mentions = λ q. mentions_set cmp c.0 c.1 (mentions_at cmp c.0 es) es fs sets q ∙ same_at exact (λ x. mentions_at cmp x es) c.0 q;
            tidy = tidy_set cmp c.0 c.1 (mentions_at cmp c.0 es) es fs sets;
          };
          from_back = ap (λ m. taken_back cmp m front) became ∙ sym (back_append cmp (live es) front (c ∷ []));
          to_back = back_append cmp (live fs) to ((c.0, value_at cmp c.0 es) ∷ [])
              ∙ ap (λ m. taken_back cmp (changed cmp m c.0 (value_at cmp c.0 es)) to) became
              ∙ ap (λ v. taken_back cmp (changed cmp (changed cmp (live es) c.0 c.1) c.0 v) to) (sym (find_live cmp o c.0 es s))
              ∙ ap (λ m. taken_back cmp m to) (changed_back cmp o exact (live es) c.0 c.1 (sorted_live cmp o es s));
          named = λ q. let front_parts = named_append cmp q front (c ∷ []) in let to_parts = named_append cmp q to ((c.0, value_at cmp c.0 es) ∷ []) in omega arith;
          lengths = let front_parts = length_append front (c ∷ []) in let to_parts = length_append to ((c.0, value_at cmp c.0 es) ∷ []) in omega arith;
        }

    -- the map stays where a mention is let go
    pub forgotten_live : (k : K) → Unnames cmp k (value_at cmp k es) es fs → live fs ≡ live es
    forgotten_live k sets = same_live cmp o exact fs es t s (λ q. values_set cmp k (value_at cmp k es) (mentions_at cmp k es - 1) es fs sets q ∙ same_at exact (λ x. value_at cmp x es) k q)

    -- an entry of a log is taken back, and its mention let go
    pub back_entry : (front : List (K × Option V)) (c : K × Option V) → Unnames cmp c.0 c.1 es fs → taken_back cmp (live fs) front ≡ taken_back cmp (live es) (front ++ c ∷ [])
    back_entry front c sets =
        ap (λ m. taken_back cmp m front) (live_changed cmp o exact es fs c.0 c.1 s t (values_set cmp c.0 c.1 (mentions_at cmp c.0 es - 1) es fs sets))
        ∙ sym (back_append cmp (live es) front (c ∷ []))

    module _ (k : K) (v : Option V) (sets : Unnames cmp k v es fs) where
      pub forgotten : 0 < mentions_at cmp k es → Releases cmp es fs (λ q. one_if (eq_by_cmp cmp k q)) (λ q. 0)
      forgotten named = record {
        mentions = λ q. ap (λ n. n + one_if (eq_by_cmp cmp k q)) (mentions_set cmp k v (mentions_at cmp k es - 1) es fs sets q) ∙ by_test q;
        tidy = tidy_set cmp k v (mentions_at cmp k es - 1) es fs sets;
      }
        where
          by_test : (q : K) → cond (eq_by_cmp cmp k q) (mentions_at cmp k es - 1) (mentions_at cmp q es) + one_if (eq_by_cmp cmp k q) ≡ mentions_at cmp q es + 0
          by_test q =
              elim (eq_by_cmp cmp k q) as (λ b. eq_by_cmp cmp k q ≡ b → cond b (mentions_at cmp k es - 1) (mentions_at cmp q es) + one_if b ≡ mentions_at cmp q es + 0) [
                | true ↦ λ e. let less : mentions_at cmp k es - 1 + 1 ≡ mentions_at cmp k es + 0 = omega arith in less ∙ ap (λ x. mentions_at cmp x es + 0) (exact k q (equal _ (subst T (sym e) tt)))
                | false ↦ λ e. omega arith
              ] refl

module _ {K V : Type 0} {cmp : K → K → Ordering} where
  pub stays_again : {a b c : List (K × Slot V)} → Stays cmp a b → Stays cmp b c → Stays cmp a c
  stays_again p q = record { mentions = λ k. q.mentions k ∙ p.mentions k; tidy = λ h. q.tidy (p.tidy h) }

  pub nothing_moved : (es : List (K × Slot V)) (from to : List (K × Option V)) → IsMoved cmp es from to es from to
  nothing_moved es from to = record {
    stays = record { mentions = λ k. refl; tidy = λ h. h };
    from_back = refl;
    to_back = refl;
    named = λ k. refl;
    lengths = refl;
  }

  pub moved_again : {a b c : List (K × Slot V)} {f f' f'' t t' t'' : List (K × Option V)} → IsMoved cmp a f t b f' t' → IsMoved cmp b f' t' c f'' t'' → IsMoved cmp a f t c f'' t''
  moved_again p q = record {
    stays = stays_again p.stays q.stays;
    from_back = q.from_back ∙ p.from_back;
    to_back = q.to_back ∙ p.to_back;
    named = λ k. q.named k ∙ p.named k;
    lengths = q.lengths ∙ p.lengths;
  }

  pub all_moved : {es fs : List (K × Slot V)} {log left turned : List (K × Option V)} → left ≡ [] → IsMoved cmp es log [] fs left turned → IsTurned cmp es log fs turned
  all_moved {es = es} {fs = fs} {log = log} {turned = turned} none p =
      let m : IsMoved cmp es log [] fs [] turned = subst (λ l. IsMoved cmp es log [] fs l turned) none p in
      record {
        stays = m.stays;
        back = m.from_back;
        forth = sym m.to_back;
        named = λ k. let n = m.named k in omega arith;
        lengths = let n = m.lengths in omega arith;
      }

pub nothing_left : {X : Type 0} (xs : List X) → length xs ≡ 0 → xs ≡ []
nothing_left [] e = refl
nothing_left (x ∷ xs) e = absurd (omega arith)

pub named_first : {K V : Type 0} {cmp : K → K → Ordering} → IsTotalOrder cmp → (c : K × Option V) (log : List (K × Option V)) → 0 < named_in cmp c.0 (c ∷ log)
named_first {cmp = cmp} o c log = let one : one_if (eq_by_cmp cmp c.0 c.0) ≡ 1 = ap (λ r. one_if (is_eq r)) (tied_itself o c.0) in omega arith

module _ {K V : Type 0} {cmp : K → K → Ordering} where
  pub none_released : (es : List (K × Slot V)) (before : K → ℕ) → Releases cmp es es before before
  none_released es before = record { mentions = λ q. refl; tidy = λ h. h }

  pub released_again : {old es fs : List (K × Slot V)} {before left gone rest : K → ℕ} → Releases cmp old es before left → Releases cmp es fs gone (λ q. 0) → ((q : K) → left q ≡ gone q + rest q) → Releases cmp old fs before rest
  released_again {old = old} {es = es} {fs = fs} {before = before} {left = left} {gone = gone} {rest = rest} p r split = record {
    mentions = λ q.
        let counted : mentions_at cmp q es + before q ≡ mentions_at cmp q old + left q = p.mentions q in
        let less : mentions_at cmp q fs + gone q ≡ mentions_at cmp q es + 0 = r.mentions q in
        let parts : left q ≡ gone q + rest q = split q in
        omega arith;
    tidy = λ h. r.tidy (p.tidy h);
  }

  pub all_released : {old es : List (K × Slot V)} {before left : K → ℕ} → Releases cmp old es before left → ((q : K) → left q ≡ 0) → Releases cmp old es before (λ q. 0)
  all_released {old = old} p none = record { mentions = λ q. p.mentions q ∙ ap (λ n. mentions_at cmp q old + n) (none q); tidy = p.tidy }

  -- what is left is still counted
  pub left_named : {old es : List (K × Slot V)} {before left : K → ℕ} → Releases cmp old es before left → (q : K) → before q ≤ mentions_at cmp q old → left q ≤ mentions_at cmp q es
  left_named {old = old} {es = es} {before = before} {left = left} p q within = let counted : mentions_at cmp q es + before q ≡ mentions_at cmp q old + left q = p.mentions q in omega arith

  pub first_left : IsTotalOrder cmp → {old es : List (K × Slot V)} {before : K → ℕ} {left rest : List (K × Option V)} {c : K × Option V} → left ≡ c ∷ rest → Releases cmp old es before (λ q. named_in cmp q left) → before c.0 ≤ mentions_at cmp c.0 old → 0 < mentions_at cmp c.0 es
  first_left o {left = left} {rest = rest} {c = c} is p within =
      let some = subst (λ l. 0 < named_in cmp c.0 l) (sym is) (named_first o c rest) in
      let named : named_in cmp c.0 left ≤ mentions_at cmp c.0 _ = left_named p c.0 within in
      omega arith

  pub last_left : IsTotalOrder cmp → {old es : List (K × Slot V)} {before : K → ℕ} {left : List (K × Option V)} (front : List (K × Option V)) (c : K × Option V) → left ≡ front ++ c ∷ [] → Releases cmp old es before (λ q. named_in cmp q left) → before c.0 ≤ mentions_at cmp c.0 old → 0 < mentions_at cmp c.0 es
  last_left o {left = left} front c is p within =
      let some = subst (λ l. 0 < named_in cmp c.0 l) (sym is) (named_last o front c) in
      let named : named_in cmp c.0 left ≤ mentions_at cmp c.0 _ = left_named p c.0 within in
      omega arith

  -- a session that is taken back is moved to the other list
  pub moved_session : {es fs : List (K × Slot V)} {log log' : List (K × Option V)} (rest to : List (List (K × Option V))) → IsTurned cmp es log fs log' → AreMoved cmp es (rest ++ log ∷ []) to fs rest (to ++ log' ∷ [])
  moved_session {es = es} {fs = fs} {log = log} {log' = log'} rest to t = record {
    stays = t.stays;
    forth = ap (λ ms. maps_under cmp (live fs) rest ++ live fs ∷ ms) (over_last cmp (live fs) to log' ∙ ap (λ m. m ∷ maps_over cmp m to) (sym t.forth))
        ∙ sym (append_assoc (maps_under cmp (live fs) rest) (live fs ∷ []) (live es ∷ maps_over cmp (live es) to))
        ∙ ap (λ m. (maps_under cmp m rest ++ m ∷ []) ++ live es ∷ maps_over cmp (live es) to) t.back
        ∙ ap (λ ms. ms ++ live es ∷ maps_over cmp (live es) to) (sym (under_last cmp (live es) rest log));
    back = ap (λ ms. ms ++ live fs ∷ maps_over cmp (live fs) rest) (under_last cmp (live fs) to log' ∙ ap (λ m. maps_under cmp m to ++ m ∷ []) (sym t.forth))
        ∙ append_assoc (maps_under cmp (live es) to) (live es ∷ []) (live fs ∷ maps_over cmp (live fs) rest)
        ∙ ap (λ m. maps_under cmp (live es) to ++ live es ∷ m ∷ maps_over cmp m rest) t.back
        ∙ ap (λ ms. maps_under cmp (live es) to ++ live es ∷ ms) (sym (over_last cmp (live es) rest log));
    named = λ q. let from = named_append_all cmp q rest (log ∷ []) in let onto = named_append_all cmp q to (log' ∷ []) in let same = t.named q in omega arith;
    totals = let from = total_append rest (log ∷ []) in let onto = total_append to (log' ∷ []) in let same = t.lengths in omega arith;
    lengths = let from = length_append rest (log ∷ []) in let onto = length_append to (log' ∷ []) in omega arith;
  }

  pub no_session_moved : (es : List (K × Slot V)) (from to : List (List (K × Option V))) → AreMoved cmp es from to es from to
  no_session_moved es from to = record { stays = record { mentions = λ k. refl; tidy = λ h. h }; forth = refl; back = refl; named = λ k. refl; totals = refl; lengths = refl }

  pub sessions_moved_again : {a b c : List (K × Slot V)} {f f' f'' t t' t'' : List (List (K × Option V))} → AreMoved cmp a f t b f' t' → AreMoved cmp b f' t' c f'' t'' → AreMoved cmp a f t c f'' t''
  sessions_moved_again p q = record {
    stays = stays_again p.stays q.stays;
    forth = q.forth ∙ p.forth;
    back = q.back ∙ p.back;
    named = λ k. q.named k ∙ p.named k;
    totals = q.totals ∙ p.totals;
    lengths = q.lengths ∙ p.lengths;
  }

  pub moved_named : {es fs : List (K × Slot V)} {f t f' t' : List (List (K × Option V))} → AreMoved cmp es f t fs f' t' → ((q : K) → named_in_all cmp q f + named_in_all cmp q t ≤ mentions_at cmp q es) → (q : K) → named_in_all cmp q f' + named_in_all cmp q t' ≤ mentions_at cmp q fs
  moved_named p within q =
      let before = within q in
      let same = p.named q in
      let mentions = p.stays.mentions q in
      omega arith

module _ {K V : Type 0} (cmp : K → K → Ordering) where
  pub split_last : (q : K) {logs : List (List (K × Option V))} (rest : List (List (K × Option V))) (log : List (K × Option V)) → logs ≡ rest ++ log ∷ [] → named_in_all cmp q logs ≡ named_in cmp q log + named_in_all cmp q rest
  split_last q rest log is =
      let split = ap (named_in_all cmp q) is in
      let parts = named_append_all cmp q rest (log ∷ []) in
      omega arith

  pub split_entry : (q : K) {log : List (K × Option V)} (front : List (K × Option V)) (c : K × Option V) → log ≡ front ++ c ∷ [] → named_in cmp q log ≡ one_if (eq_by_cmp cmp c.0 q) + named_in cmp q front
  split_entry q front c is =
      let split = ap (named_in cmp q) is in
      let parts = named_append cmp q front (c ∷ []) in
      omega arith

  pub last_named : (es : List (K × Slot V)) {logs : List (List (K × Option V))} (rest : List (List (K × Option V))) (log : List (K × Option V)) → logs ≡ rest ++ log ∷ [] → (q : K) → named_in_all cmp q logs ≤ mentions_at cmp q es → named_in cmp q log ≤ mentions_at cmp q es
  last_named es rest log is q within = let split = split_last q rest log is in omega arith

  pub back_last : (m : List (K × V)) {n : List (K × V)} {logs : List (List (K × Option V))} (rest : List (List (K × Option V))) (log : List (K × Option V)) → logs ≡ rest ++ log ∷ [] → n ≡ taken_back cmp m log → taken_back_all cmp n rest ≡ taken_back_all cmp m logs
  back_last m rest log is became = ap (λ n. taken_back_all cmp n rest) became ∙ sym (back_append_all cmp m rest (log ∷ [])) ∙ ap (taken_back_all cmp m) (sym is)
