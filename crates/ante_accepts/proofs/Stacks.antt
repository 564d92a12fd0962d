-- What each instruction makes of what is known of the operands is what its type says.
use Rattle.std.proofs.Common.{◌≡◌, ◌↔◌, ℕ, Bool, true, false, List, [], ◌∷◌, All, Option, None, Some, slice_get, refl, sym, ap, subst, ◌∙◌}
use Rattle.std.specs.Bool.{Decides}
use Rattle.std.specs.List.{list_all}
use Rattle.std.specs.Option.{option_and_then}
use Rattle.std.proofs.lemmas.Bool.Decides.{Decides-and, Decides-by_and, not_from_Decides}
use Rattle.ante_wtree.specs.declared.instructions.ValueKind.{ValueKind}
use Rattle.ante_wtree.specs.declared.instructions.ValueKind.TheVariants.{I32, I64}
use Rattle.ante_wtree.specs.declared.modules.FuncType.{FuncType}
use Rattle.ante_wtree.specs.Types.{kinds_of, same_kind}
use Rattle.ante_wvalid.specs.declared.operand_types.OperandTypes.{OperandTypes}
use Rattle.ante_wvalid.specs.Typing.{InstrType, Fixed, Drops, Selects, Unbounded, Untyped, Operands, onto, Pops, Pushes, Turns, Then, With, Where, Anything, Dropped, Selected, Moves, Leaves, LeavesIf, LeavesAmong, Calls, CallsAt}
use Rattle.ante_wvalid.specs.OperandStacks.{MatchesKind, Matches, Admits, Carries, Joins}
use Rattle.ante_wvalid.proofs.Carrying.{Step, Two, Found, Empty, then_no, then_yes, with_none, with_some, where_no, where_yes, pushing_first, pushing_last, pushing_more, drops_yes, drops_no, forgets, selects, selects_not, two_none, two_one, two_apart, two_yes}
use Rattle.ante_accepts.specs.Sequences.{only_if, same_label, is_label, may_be, joined, known, anything, popped, popped_of, pop_kind, pop_all, push, push_all, admits_of, turn, drop_any, select_two, select, move, leave, leave_if, leave_among, call, call_at}

-- ---- kinds

pub same_kind_decides : (j k : ValueKind) → Decides (same_kind j k) (j ≡ k)
same_kind_decides I32 I32 = (λ t. refl, λ e. refl)
same_kind_decides I32 I64 = (λ t. cc, λ e. cc)
same_kind_decides I64 I32 = (λ t. cc, λ e. cc)
same_kind_decides I64 I64 = (λ t. refl, λ e. refl)

same_label_decides : (j k : Option ValueKind) → Decides (same_label j k) (j ≡ k)
same_label_decides None None = (λ t. refl, λ e. refl)
same_label_decides None (Some k) = (λ t. cc, λ e. cc)
same_label_decides (Some j) None = (λ t. cc, λ e. cc)
same_label_decides (Some j) (Some k) = let d = same_kind_decides j k in (λ t. ap Some (d.0 t), λ e. d.1 cc)

is_label_decides : (label : Option ValueKind) (found : Option (Option ValueKind)) → Decides (is_label label found) (found ≡ Some label)
is_label_decides label None = (λ t. cc, λ e. cc)
is_label_decides label (Some found) = let d = same_label_decides found label in (λ t. ap Some (d.0 t), λ e. d.1 cc)

may_be_decides : (k : Option ValueKind) (kind : ValueKind) → Decides (may_be k kind) (MatchesKind k kind)
may_be_decides None kind = (λ t. tt, λ m. refl)
may_be_decides (Some k) kind = same_kind_decides kind k

-- ---- steps

-- the new set of stacks, or that no stack is let pass
abbrev pub Carried : Step → OperandTypes → Option OperandTypes → Type 0
Carried P old None = Carries P false old old
Carried P old (Some new) = Carries P true old new

pub then_carried : (P Q : Step) (old : OperandTypes) (f : Option OperandTypes) (g : OperandTypes → Option OperandTypes) → Carried P old f → ((new : OperandTypes) → Carried Q new (g new)) →
    Carried (Then P Q) old (option_and_then g f)
then_carried P Q old None g p q = then_no P Q false old old old p refl
then_carried P Q old (Some b) g p q = by (g b) (q b)
  where
    by : (o : Option OperandTypes) → Carried Q b o → Carried (Then P Q) old o
    by None h = then_yes P Q true false old b old p refl h
    by (Some d) h = then_yes P Q true true old b d p refl h

pub with_carried : {A : Type 0} (found : Option A) (P : A → Step) (old : OperandTypes) (g : A → Option OperandTypes) → ((x : A) → Carried (P x) old (g x)) →
    Carried (With found P) old (option_and_then g found)
with_carried None P old g h = with_none None P old old refl
with_carried (Some x) P old g h = by (g x) (h x)
  where
    by : (o : Option OperandTypes) → Carried (P x) old o → Carried (With (Some x) P) old o
    by None k = with_some (Some x) x P false old old refl k
    by (Some d) k = with_some (Some x) x P true old d refl k

pub where_carried : (b : Bool) (A : Type 0) → Decides b A → (P : Step) (old : OperandTypes) (f : Option OperandTypes) → Carried P old f → Carried (Where A P) old (only_if b f)
where_carried true A d P old None k = where_yes A P false old old (d.0 refl) k
where_carried true A d P old (Some new) k = where_yes A P true old new (d.0 refl) k
where_carried false A d P old f k = where_no A P old old (not_from_Decides false d refl)

same_carried : (P Q : Step) → ((s t : Operands) → P s t ↔ Q s t) → (old : OperandTypes) (f : Option OperandTypes) → Carried P old f → Carried Q old f
same_carried P Q iff old None h = λ s t o q. h s t o ((iff s t).1 q)
same_carried P Q iff old (Some new) h = λ t. record {
  to = λ r. (h t).to (r.0, r.1, (iff r.0 t).1 r.2);
  from = λ o. let q = (h t).from o in (q.0, q.1, (iff q.0 t).0 q.2);
}

abbrev Equal : Step
Equal s t = s ≡ t

pub stays : (o : OperandTypes) → Carried Equal o (Some o)
stays o = λ t. record { to = λ r. subst (Admits o) r.2 r.1; from = λ a. (t, a, refl) }

-- ---- popping and pushing

pops_known : (k : ValueKind) (kinds : List (Option ValueKind)) (b : Bool) → Carried (Pops (k ∷ [])) (known kinds b) (pop_kind k (known kinds b))
pops_known k [] false = λ s t o p. let e : k ∷ t ≡ [] = sym p ∙ o in cc
pops_known k [] true = λ t. record { to = λ r. tt; from = λ o. (k ∷ t, tt, refl) }
pops_known k (x ∷ xs) b = by (may_be x k) (may_be_decides x k)
  where
    by : (y : Bool) → Decides y (MatchesKind x k) → Carried (Pops (k ∷ [])) (known (x ∷ xs) b) (only_if y (Some (known xs b)))
    by true d = λ t. record {
      to = λ r. (subst (Matches (x ∷ xs) b) r.2 r.1).1;
      from = λ o. (k ∷ t, (d.0 refl, o), refl);
    }
    by false d = λ s t o p. not_from_Decides false d refl (subst (Matches (x ∷ xs) b) p o).0

pops_kind : (k : ValueKind) (o : OperandTypes) → Carried (Pops (k ∷ [])) o (pop_kind k o)
pops_kind k o = pops_known k o.kinds o.bottomless

pops_all : (kinds : List ValueKind) (o : OperandTypes) → Carried (Pops kinds) o (pop_all kinds o)
pops_all [] o = stays o
pops_all (k ∷ kinds) o =
    same_carried (Then (Pops kinds) (Pops (k ∷ []))) (Pops (k ∷ kinds)) (λ s t. (λ r. r.1 ∙ ap (onto kinds) r.2, λ e. (k ∷ t, e, refl))) o (pop_all (k ∷ kinds) o)
    (then_carried (Pops kinds) (Pops (k ∷ [])) o (pop_all kinds o) (pop_kind k) (pops_all kinds o) (pops_kind k))

pushes_one : (k : ValueKind) (o : OperandTypes) → Carries (Pushes (k ∷ [])) true o (push (Some k) o)
pushes_one k o = pushing_last (k ∷ []) [] o (push (Some k) o) refl (pushing_more (k ∷ []) (k ∷ []) [] k o o (push (Some k) o) refl (pushing_first (k ∷ []) o) refl refl)

pub pushes_all : (kinds : List ValueKind) (o : OperandTypes) → Carries (Pushes kinds) true o (push_all kinds o)
pushes_all [] o = λ t. record { to = λ r. subst (Admits o) (sym r.2) r.1; from = λ a. (t, a, refl) }
pushes_all (k ∷ kinds) o =
    same_carried (Then (Pushes (k ∷ [])) (Pushes kinds)) (Pushes (k ∷ kinds)) (λ s t. (λ r. r.2 ∙ ap (onto kinds) r.1, λ e. (k ∷ s, refl, e))) o (Some (push_all (k ∷ kinds) o))
    (then_yes (Pushes (k ∷ [])) (Pushes kinds) true true o (push (Some k) o) (push_all kinds (push (Some k) o)) (pushes_one k o) refl (pushes_all kinds (push (Some k) o)))

pub turns : (takes gives : List ValueKind) (o : OperandTypes) → Carried (Turns takes gives) o (turn takes gives o)
turns takes gives o = then_carried (Pops takes) (Pushes gives) o (pop_all takes o) (λ rest. Some (push_all gives rest)) (pops_all takes o) (pushes_all gives)

-- ---- any kind

abbrev Popped : OperandTypes → Option (Option ValueKind × OperandTypes) → Type 0
Popped old None = Empty old
Popped old (Some p) = Found p.0 old p.1

popped_known : (kinds : List (Option ValueKind)) (b : Bool) → Popped (known kinds b) (popped_of kinds b)
popped_known [] false = λ k s o. cc
popped_known [] true = λ k s. record { to = λ o. (tt, tt); from = λ o. tt }
popped_known (x ∷ xs) b = λ k s. record { to = λ o. o; from = λ o. o }

popped_is : (o : OperandTypes) → Popped o (popped o)
popped_is o = popped_known o.kinds o.bottomless

drops : (o : OperandTypes) → Carried Dropped o (drop_any o)
drops o = by (popped o) (popped_is o)
  where
    by : (f : Option (Option ValueKind × OperandTypes)) → Popped o f → Carried Dropped o (option_and_then (λ p. Some p.1) f)
    by None h = drops_no o o h
    by (Some p) h = drops_yes p.0 o p.1 h

joined_is : (one two : Option ValueKind) → Joins one two (joined one two)
joined_is None two = λ k. record { to = λ r. r.1; from = λ m. (tt, m) }
joined_is (Some j) None = λ k. record { to = λ r. r.0; from = λ m. (m, tt) }
joined_is (Some j) (Some k) = by (same_kind j k) (same_kind_decides j k)
  where
    by : (y : Bool) → Decides y (j ≡ k) → Joins (Some j) (Some k) (only_if y (Some (Some j)))
    by true d = λ x. record { to = λ r. r.0; from = λ m. (m, m ∙ d.0 refl) }
    by false d = λ x a b. not_from_Decides false d refl (sym a ∙ b)

two_carried : (o : OperandTypes) → Carried Two o (select_two o)
two_carried o = by (popped o) (popped_is o)
  where
    by_kind : (two one : Option ValueKind × OperandTypes) → Found two.0 o two.1 → Found one.0 two.1 one.1 → (f : Option (Option ValueKind)) → Joins one.0 two.0 f →
        Carried Two o (option_and_then (λ both. Some (push both one.1)) f)
    by_kind two one h k None j = two_apart two.0 one.0 o two.1 one.1 o h k j
    by_kind two one h k (Some both) j = two_yes two.0 one.0 both o two.1 one.1 (push both one.1) h k j refl refl

    by_second : (two : Option ValueKind × OperandTypes) → Found two.0 o two.1 → (f : Option (Option ValueKind × OperandTypes)) → Popped two.1 f →
        Carried Two o (option_and_then (λ one. option_and_then (λ both. Some (push both one.1)) (joined one.0 two.0)) f)
    by_second two h None k = two_one two.0 o two.1 o h k
    by_second two h (Some one) k = by_kind two one h k (joined one.0 two.0) (joined_is one.0 two.0)

    by : (f : Option (Option ValueKind × OperandTypes)) → Popped o f →
        Carried Two o (option_and_then (λ two. option_and_then (λ one. option_and_then (λ both. Some (push both one.1)) (joined one.0 two.0)) (popped two.1)) f)
    by None h = two_none o o h
    by (Some two) h = by_second two h (popped two.1) (popped_is two.1)

selected : (o : OperandTypes) → Carried Selected o (select o)
selected o = by (pop_kind I32 o) (pops_kind I32 o)
  where
    by_two : (b : OperandTypes) → Carries (Pops (I32 ∷ [])) true o b → (f : Option OperandTypes) → Carried Two b f → Carried Selected o f
    by_two b h None k = selects true false o b o h refl k
    by_two b h (Some d) k = selects true true o b d h refl k

    by : (f : Option OperandTypes) → Carried (Pops (I32 ∷ [])) o f → Carried Selected o (option_and_then select_two f)
    by None h = selects_not false o o o h refl
    by (Some b) h = by_two b h (select_two b) (two_carried b)

-- ---- instructions

pub moves : (t : InstrType) (o : OperandTypes) → Carried (Moves t) o (move t o)
moves (Fixed takes gives) o = turns takes gives o
moves Drops o = drops o
moves Selects o = selected o
moves Unbounded o = forgets o anything refl refl
moves Untyped o = λ s t a p. p

pub leaves : (label : Option ValueKind) (o : OperandTypes) → Carried (Leaves label) o (leave label o)
leaves label o = then_carried (Pops (kinds_of label)) Anything o (pop_all (kinds_of label) o) (λ rest. Some anything) (pops_all (kinds_of label) o) (λ rest. forgets rest anything refl refl)

pub leaves_if : (label : Option ValueKind) (o : OperandTypes) → Carried (LeavesIf label) o (leave_if label o)
leaves_if label o =
    then_carried (Pops (I32 ∷ [])) (Turns (kinds_of label) (kinds_of label)) o (pop_kind I32 o) (turn (kinds_of label) (kinds_of label)) (pops_kind I32 o) (turns (kinds_of label) (kinds_of label))

pub leaves_among : (labels : List (Option ValueKind)) (targets : List ℕ) (label : Option ValueKind) (o : OperandTypes) → Carried (LeavesAmong labels targets label) o (leave_among labels targets label o)
leaves_among labels targets label o =
    where_carried (list_all (λ k. is_label label (slice_get labels k)) targets) (All (λ k. slice_get labels k ≡ Some label) targets)
    (Decides-by_and (λ k. is_label label (slice_get labels k)) (λ k. slice_get labels k ≡ Some label) (list_all (λ k. is_label label (slice_get labels k)))
    (λ k. is_label_decides label (slice_get labels k)) refl (λ k ks. refl) targets)
    (Then (Pops (I32 ∷ [])) (Leaves label)) o (option_and_then (leave label) (pop_kind I32 o))
    (then_carried (Pops (I32 ∷ [])) (Leaves label) o (pop_kind I32 o) (leave label) (pops_kind I32 o) (leaves label))

pub calls_at : (t : FuncType) (o : OperandTypes) → Carried (CallsAt t) o (call_at t o)
calls_at t o = then_carried (Pops (I32 ∷ [])) (Calls t) o (pop_kind I32 o) (call t) (pops_kind I32 o) (turns t.params t.results)

-- ---- the end

pub admits_decides : (kinds : List (Option ValueKind)) (b : Bool) (stack : Operands) → Decides (admits_of kinds b stack) (Matches kinds b stack)
admits_decides [] true stack = (λ t. tt, λ m. refl)
admits_decides [] false [] = (λ t. refl, λ m. refl)
admits_decides [] false (k ∷ stack) = (λ t. cc, λ m. cc)
admits_decides (x ∷ kinds) b [] = (λ t. cc, λ m. absurd m)
admits_decides (x ∷ kinds) b (k ∷ stack) = Decides-and (may_be x k) (admits_of kinds b stack) (may_be_decides x k) (admits_decides kinds b stack)
