-- The first and the last value among slots, and on one side of a key.
use Rattle.std.proofs.Common.{◌≡◌, Bool, true, false, cond, not, ◌&&◌, ◌||◌, true≢false, List, [], ◌∷◌, ◌++◌, Option, Some, None, refl, sym, ap, ◌∙◌, Ordering, Less, Equal, Greater, is_lt, is_gt}
use Rattle.std.specs.List.{filter, list_any}
use Rattle.std.specs.Option.{option_or}
use Rattle.std.specs.Ordering.{ordering_reverse, is_le, is_ge, eq_by_cmp}
use Rattle.std.specs.Cmp.{IsTotalOrder}
use Rattle.std.specs.FinMap.Entries.{find}
use Rattle.ante_undo.specs.declared.slots.Slot.{Slot}
use Rattle.ante_undo.specs.Entries.{first_where, last_where, first_entry, last_entry, entry_from, entry_after, entry_before, entry_up_to}
use Rattle.ante_undo.specs.Slots.{with_value, live}
use Rattle.ante_undo.specs.Logs.{taken_back}
use Rattle.ante_undo.proofs.Entries.{find_changed}

module _ {K V : Type 0} where
  live_append : (xs ys : List (K × Slot V)) → live (xs ++ ys) ≡ live xs ++ live ys
  live_append [] ys = refl
  live_append (e ∷ xs) ys =
      let rest = live_append xs ys in
      elim e.1.value as (λ v. with_value e.0 v (live (xs ++ ys)) ≡ with_value e.0 v (live xs) ++ live ys) [ None ↦ rest | Some v ↦ ap (λ m. (e.0, v) ∷ m) rest ]

  last_added : (m : List (K × V)) (e : K × V) → last_entry (m ++ e ∷ []) ≡ Some e
  last_added [] e = refl
  last_added (f ∷ m) e = ap (λ o. option_or o (Some f)) (last_added m e)

  -- a first slot with a value is the first entry, and one with none may be left out
  pub first_here : (slots rest : List (K × Slot V)) (k : K) (s : Slot V) (v : V) → slots ≡ (k, s) ∷ rest → s.value ≡ Some v → first_entry (live slots) ≡ Some (k, v)
  first_here slots rest k s v is held = ap (λ l. first_entry (live l)) is ∙ ap (λ o. first_entry (with_value k o (live rest))) held

  pub first_later : (slots rest : List (K × Slot V)) (k : K) (s : Slot V) → slots ≡ (k, s) ∷ rest → s.value ≡ None → first_entry (live slots) ≡ first_entry (live rest)
  first_later slots rest k s is held = ap (λ l. first_entry (live l)) is ∙ ap (λ o. first_entry (with_value k o (live rest))) held

  pub last_here : (slots rest : List (K × Slot V)) (k : K) (s : Slot V) (v : V) → slots ≡ rest ++ (k, s) ∷ [] → s.value ≡ Some v → last_entry (live slots) ≡ Some (k, v)
  last_here slots rest k s v is held = ap (λ l. last_entry (live l)) is ∙ ap last_entry (live_append rest ((k, s) ∷ [])) ∙ ap (λ o. last_entry (live rest ++ with_value k o [])) held ∙ last_added (live rest) (k, v)

  pub last_earlier : (slots rest : List (K × Slot V)) (k : K) (s : Slot V) → slots ≡ rest ++ (k, s) ∷ [] → s.value ≡ None → last_entry (live slots) ≡ last_entry (live rest)
  last_earlier slots rest k s is held = ap (λ l. last_entry (live l)) is ∙ ap last_entry (live_append rest ((k, s) ∷ [])) ∙ ap (λ o. last_entry (live rest ++ with_value k o [])) held ∙ ap last_entry (nil (live rest))
    where
      nil : (m : List (K × V)) → m ++ [] ≡ m
      nil [] = refl
      nil (e ∷ m) = ap (λ rest. e ∷ rest) (nil m)

  module _ (p q : K → Bool) (same : (x : K) → p x ≡ q x) where
    -- the first entry of those slots whose keys pass a test
    pub first_passed : (es : List (K × Slot V)) → first_entry (live (filter (λ e. p e.0) es)) ≡ first_where q (live es)
    first_passed [] = refl
    first_passed (e ∷ es) =
        let rest = first_passed es in
        elim (p e.0) as (λ b. p e.0 ≡ b → first_entry (live (cond b (e ∷ filter (λ e. p e.0) es) (filter (λ e. p e.0) es))) ≡ first_where q (with_value e.0 e.1.value (live es))) [
          | true ↦ λ t. passes e.1.value (sym (same e.0) ∙ t) rest
          | false ↦ λ t. fails e.1.value (sym (same e.0) ∙ t) rest
        ] refl
      where
        passes : (v : Option V) → q e.0 ≡ true → first_entry (live (filter (λ e. p e.0) es)) ≡ first_where q (live es) → first_entry (with_value e.0 v (live (filter (λ e. p e.0) es))) ≡ first_where q (with_value e.0 v (live es))
        passes None t rest = rest
        passes (Some v) t rest = ap (λ b. cond b (Some (e.0, v)) (first_where q (live es))) (sym t)

        fails : (v : Option V) → q e.0 ≡ false → first_entry (live (filter (λ e. p e.0) es)) ≡ first_where q (live es) → first_entry (live (filter (λ e. p e.0) es)) ≡ first_where q (with_value e.0 v (live es))
        fails None t rest = rest
        fails (Some v) t rest = rest ∙ ap (λ b. cond b (Some (e.0, v)) (first_where q (live es))) (sym t)

    pub last_passed : (es : List (K × Slot V)) → last_entry (live (filter (λ e. p e.0) es)) ≡ last_where q (live es)
    last_passed [] = refl
    last_passed (e ∷ es) =
        let rest = last_passed es in
        elim (p e.0) as (λ b. p e.0 ≡ b → last_entry (live (cond b (e ∷ filter (λ e. p e.0) es) (filter (λ e. p e.0) es))) ≡ last_where q (with_value e.0 e.1.value (live es))) [
          | true ↦ λ t. passes e.1.value (sym (same e.0) ∙ t) rest
          | false ↦ λ t. fails e.1.value (sym (same e.0) ∙ t) rest
        ] refl
      where
        or_none : (o : Option (K × V)) → option_or o None ≡ o
        or_none None = refl
        or_none (Some x) = refl

        passes : (v : Option V) → q e.0 ≡ true → last_entry (live (filter (λ e. p e.0) es)) ≡ last_where q (live es) → last_entry (with_value e.0 v (live (filter (λ e. p e.0) es))) ≡ last_where q (with_value e.0 v (live es))
        passes None t rest = rest
        passes (Some v) t rest = ap (λ o. option_or o (Some (e.0, v))) rest ∙ ap (λ b. option_or (last_where q (live es)) (cond b (Some (e.0, v)) None)) (sym t)

        fails : (v : Option V) → q e.0 ≡ false → last_entry (live (filter (λ e. p e.0) es)) ≡ last_where q (live es) → last_entry (live (filter (λ e. p e.0) es)) ≡ last_where q (with_value e.0 v (live es))
        fails None t rest = rest
        fails (Some v) t rest = rest ∙ sym (or_none (last_where q (live es))) ∙ ap (λ b. option_or (last_where q (live es)) (cond b (Some (e.0, v)) None)) (sym t)

  first_of_all : (m : List (K × V)) → first_where (λ x. true) m ≡ first_entry m
  first_of_all [] = refl
  first_of_all (e ∷ m) = refl

  last_of_all : (m : List (K × V)) → last_where (λ x. true) m ≡ last_entry m
  last_of_all [] = refl
  last_of_all (e ∷ m) = ap (λ o. option_or o (Some e)) (last_of_all m)

  pub first_all : (es : List (K × Slot V)) → first_entry (live (filter (λ e. true && not false) es)) ≡ first_entry (live es)
  first_all es = first_passed (λ x. true && not false) (λ x. true) (λ x. refl) es ∙ first_of_all (live es)

  pub last_all : (es : List (K × Slot V)) → last_entry (live (filter (λ e. true && not false) es)) ≡ last_entry (live es)
  last_all es = last_passed (λ x. true && not false) (λ x. true) (λ x. refl) es ∙ last_of_all (live es)

from_side : (r : Ordering) → (is_le r && not false) ≡ is_ge (ordering_reverse r)
from_side Less = refl
from_side Equal = refl
from_side Greater = refl

after_side : (r : Ordering) → (is_lt r && not false) ≡ is_gt (ordering_reverse r)
after_side Less = refl
after_side Equal = refl
after_side Greater = refl

before_side : (r : Ordering) → (true && not (is_le r)) ≡ is_lt (ordering_reverse r)
before_side Less = refl
before_side Equal = refl
before_side Greater = refl

up_to_side : (r : Ordering) → (true && not (is_lt r)) ≡ is_le (ordering_reverse r)
up_to_side Less = refl
up_to_side Equal = refl
up_to_side Greater = refl

module _ {K V : Type 0} (cmp : K → K → Ordering) (o : IsTotalOrder cmp) where
  pub entry_from_slots : (key : K) (es : List (K × Slot V)) → first_entry (live (filter (λ e. is_le (cmp key e.0) && not false) es)) ≡ entry_from cmp key (live es)
  entry_from_slots key es = first_passed (λ x. is_le (cmp key x) && not false) (λ x. is_ge (cmp x key)) (λ x. from_side (cmp key x) ∙ ap is_ge (sym (o.antisymm x key))) es

  pub entry_after_slots : (key : K) (es : List (K × Slot V)) → first_entry (live (filter (λ e. is_lt (cmp key e.0) && not false) es)) ≡ entry_after cmp key (live es)
  entry_after_slots key es = first_passed (λ x. is_lt (cmp key x) && not false) (λ x. is_gt (cmp x key)) (λ x. after_side (cmp key x) ∙ ap is_gt (sym (o.antisymm x key))) es

  pub entry_before_slots : (key : K) (es : List (K × Slot V)) → last_entry (live (filter (λ e. true && not (is_le (cmp key e.0))) es)) ≡ entry_before cmp key (live es)
  entry_before_slots key es = last_passed (λ x. true && not (is_le (cmp key x))) (λ x. is_lt (cmp x key)) (λ x. before_side (cmp key x) ∙ ap is_lt (sym (o.antisymm x key))) es

  pub entry_up_to_slots : (key : K) (es : List (K × Slot V)) → last_entry (live (filter (λ e. true && not (is_lt (cmp key e.0))) es)) ≡ entry_up_to cmp key (live es)
  entry_up_to_slots key es = last_passed (λ x. true && not (is_lt (cmp key x))) (λ x. is_le (cmp x key)) (λ x. up_to_side (cmp key x) ∙ ap is_le (sym (o.antisymm x key))) es

  -- what taking an entry back leaves at a key
  pub found_back : (q : K) (m : List (K × V)) (c : K × Option V) (log : List (K × Option V)) → find cmp q (taken_back cmp m (c ∷ log)) ≡ cond (eq_by_cmp cmp q c.0) c.1 (find cmp q (taken_back cmp m log))
  found_back q m c log = find_changed cmp o (taken_back cmp m log) c.0 c.1 q

  -- a key that a log doesn't name has the same value once it is taken back
  pub unnamed_back : (key : K) (m : List (K × V)) (log : List (K × Option V)) → not (list_any (λ c. eq_by_cmp cmp key c.0) log) ≡ true → find cmp key (taken_back cmp m log) ≡ find cmp key m
  unnamed_back key m [] h = refl
  unnamed_back key m (c ∷ log) h =
      let apart = neither (eq_by_cmp cmp key c.0) (list_any (λ c. eq_by_cmp cmp key c.0) log) h in
      found_back key m c log ∙ ap (λ b. cond b c.1 (find cmp key (taken_back cmp m log))) apart.0 ∙ unnamed_back key m log apart.1
    where
      neither : (a b : Bool) → not (a || b) ≡ true → (a ≡ false) × (not b ≡ true)
      neither true b h = absurd (true≢false (sym h))
      neither false b h = (refl, h)
