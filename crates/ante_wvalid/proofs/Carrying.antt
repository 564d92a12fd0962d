-- What is known is carried along.
use Rattle.std.proofs.Common.{◌≡◌, ◌↔◌, Bool, true, false, List, [], ◌∷◌, ◌++◌, length, Option, None, Some, Result, Ok, Err, IfOk, All, arith, refl, sym, ap, subst, ◌∙◌}
use Rattle.std.proofs.lemmas.List.Elements.{All-head, All-tail, All-cons}
use Rattle.ante_wtree.specs.declared.instructions.ValueKind.{ValueKind}
use Rattle.ante_wtree.specs.declared.instructions.ValueKind.TheVariants.{I32}
use Rattle.ante_wvalid.specs.declared.operand_types.OperandTypes.{OperandTypes}
use Rattle.ante_wvalid.specs.Typing.{Operands, onto, Pops, Pushes, Turns, Then, With, Where, Anything, Dropped, Selected}
use Rattle.ante_wvalid.specs.OperandStacks.{Same, MatchesKind, Matches, Admits, Carries}

abbrev pub Step : Type 1
Step = Operands → Operands → Type 0

pub stopped : (P : Step) (y : Bool) (old new : OperandTypes) → Carries P y old new → y ≡ false → (s t : Operands) → Admits old s → P s t → ⊥
stopped P false old new h e = h
stopped P true old new h e = λ s t o p. cc

pub carried : (P : Step) (y : Bool) (old new : OperandTypes) → Carries P y old new → y ≡ true → (t : Operands) → Same ((s : Operands) × Admits old s × P s t) (Admits new t)
carried P true old new h e = h
carried P false old new h e = λ t. cc

pub then_no : (P Q : Step) (y : Bool) (a b d : OperandTypes) → Carries P y a b → y ≡ false → Carries (Then P Q) false a d
then_no P Q y a b d h e = λ s t o r. stopped P y a b h e s r.0 o r.1

pub then_yes : (P Q : Step) (y z : Bool) (a b d : OperandTypes) → Carries P y a b → y ≡ true → Carries Q z b d → Carries (Then P Q) z a d
then_yes P Q y true a b d h e k = λ t. record {
  to = λ r. (k t).to (r.2.0, (carried P y a b h e r.2.0).to (r.0, r.1, r.2.1), r.2.2);
  from = λ o. let q = (k t).from o in let p = (carried P y a b h e q.0).from q.1 in (p.0, p.1, (q.0, p.2, q.2));
}
then_yes P Q y false a b d h e k = λ s t o r. k r.0 t ((carried P y a b h e r.0).to (s, o, r.1)) r.2

pub with_none : {A : Type 0} (found : Option A) (P : A → Step) (a b : OperandTypes) → found ≡ None → Carries (With found P) false a b
with_none found P a b e = λ s t o r. let n : None ≡ Some r.0 = sym e ∙ r.1 in cc

some_is : {A : Type 0} {x y : A} → Some x ≡ Some y → x ≡ y
some_is h = cc

pub with_some : {A : Type 0} (found : Option A) (x : A) (P : A → Step) (y : Bool) (a b : OperandTypes) → found ≡ Some x → Carries (P x) y a b → Carries (With found P) y a b
with_some found x P true a b e h = λ t. record {
  to = λ r. (h t).to (r.0, r.1, subst (λ z. P z r.0 t) (some_is (sym r.2.1 ∙ e)) r.2.2);
  from = λ o. let q = (h t).from o in (q.0, q.1, (x, e, q.2));
}
with_some found x P false a b e h = λ s t o r. h s t o (subst (λ z. P z s t) (some_is (sym r.1 ∙ e)) r.2)

pub where_no : (A : Type 0) (P : Step) (a b : OperandTypes) → (A → ⊥) → Carries (Where A P) false a b
where_no A P a b n = λ s t o r. n r.0

pub where_yes : (A : Type 0) (P : Step) (y : Bool) (a b : OperandTypes) → A → Carries P y a b → Carries (Where A P) y a b
where_yes A P true a b h k = λ t. record {
  to = λ r. (k t).to (r.0, r.1, r.2.1);
  from = λ o. let q = (k t).from o in (q.0, q.1, (h, q.2));
}
where_yes A P false a b h k = λ s t o r. k s t o r.1

-- ---- popping and pushing several

pub onto-last : (xs : List ValueKind) (k : ValueKind) (t : Operands) → onto (xs ++ k ∷ []) t ≡ k ∷ onto xs t
onto-last [] k t = refl
onto-last (x ∷ xs) k t = onto-last xs k (x ∷ t)

-- what is left to be popped
abbrev pub Popping : List ValueKind → List ValueKind → OperandTypes → OperandTypes → Type 0
Popping kinds rest old now = (t : Operands) → Same (Admits old (onto kinds t)) (Admits now (onto rest t))

pub popping_first : (kinds : List ValueKind) (old : OperandTypes) → Popping kinds kinds old old
popping_first kinds old = λ t. record { to = λ o. o; from = λ o. o }

pub popping_last : (kinds rest : List ValueKind) (old now : OperandTypes) → rest ≡ [] → Popping kinds rest old now → Carries (Pops kinds) true old now
popping_last kinds rest old now e h = λ t. record {
  to = λ r. subst (λ x. Admits now (onto x t)) e ((h t).to (subst (Admits old) r.2 r.1));
  from = λ o. (onto kinds t, (h t).from (subst (λ x. Admits now (onto x t)) (sym e) o), refl);
}

pub popping_more : (kinds rest front : List ValueKind) (k : ValueKind) (y : Bool) (old now new : OperandTypes) → rest ≡ front ++ k ∷ [] → Popping kinds rest old now →
    Carries (Pops (k ∷ [])) y now new → y ≡ true → Popping kinds front old new
popping_more kinds rest front k y old now new e h p is = λ t.
    let at : onto rest t ≡ k ∷ onto front t = ap (λ x. onto x t) e ∙ onto-last front k t in
    let q = carried (Pops (k ∷ [])) y now new p is (onto front t) in
    record {
      to = λ o. q.to (k ∷ onto front t, subst (Admits now) at ((h t).to o), refl);
      from = λ o. let r = q.from o in (h t).from (subst (Admits now) (sym at) (subst (Admits now) r.2 r.1));
    }

pub popping_stops : (kinds rest front : List ValueKind) (k : ValueKind) (y : Bool) (old now new : OperandTypes) → rest ≡ front ++ k ∷ [] → Popping kinds rest old now →
    Carries (Pops (k ∷ [])) y now new → y ≡ false → Carries (Pops kinds) false old new
popping_stops kinds rest front k y old now new e h p stop = λ s t o r.
    let at : onto rest t ≡ k ∷ onto front t = ap (λ x. onto x t) e ∙ onto-last front k t in
    stopped (Pops (k ∷ [])) y now new p stop (k ∷ onto front t) (onto front t) (subst (Admits now) at ((h t).to (subst (Admits old) r o))) refl

-- what is left to be pushed
abbrev pub Pushing : List ValueKind → List ValueKind → OperandTypes → OperandTypes → Type 0
Pushing kinds rest old now = (t : Operands) → Same ((s : Operands) × Admits old s × (t ≡ onto kinds s)) ((s : Operands) × Admits now s × (t ≡ onto rest s))

pub pushing_first : (kinds : List ValueKind) (old : OperandTypes) → Pushing kinds kinds old old
pushing_first kinds old = λ t. record { to = λ o. o; from = λ o. o }

pub pushing_last : (kinds rest : List ValueKind) (old now : OperandTypes) → rest ≡ [] → Pushing kinds rest old now → Carries (Pushes kinds) true old now
pushing_last kinds rest old now e h = λ t. record {
  to = λ r. let q = (h t).to r in subst (Admits now) (sym (q.2 ∙ ap (λ x. onto x q.0) e)) q.1;
  from = λ o. (h t).from (t, o, ap (λ x. onto x t) (sym e));
}

pushed_is : (k : ValueKind) (s : Operands) (kinds old : List (Option ValueKind)) (b : Bool) → kinds ≡ Some k ∷ old → Matches kinds b s → (below : Operands) × (s ≡ k ∷ below) × Matches old b below
pushed_is k [] kinds old b e h = absurd (subst (λ x. Matches x b []) e h)
pushed_is k (j ∷ s) kinds old b e h = let q = subst (λ x. Matches x b (j ∷ s)) e h in (s, ap (λ x. x ∷ s) q.0, q.1)

pub pushing_more : (kinds rest tail : List ValueKind) (k : ValueKind) (old now new : OperandTypes) → rest ≡ k ∷ tail → Pushing kinds rest old now →
    new.kinds ≡ Some k ∷ now.kinds → new.bottomless ≡ now.bottomless → Pushing kinds tail old new
pushing_more kinds rest tail k old now new e h ks b = λ t. record {
  to = λ r. let q = (h t).to r in (k ∷ q.0, subst (λ x. Matches x new.bottomless (k ∷ q.0)) (sym ks) (refl, subst (λ x. Matches now.kinds x q.0) (sym b) q.1), q.2 ∙ ap (λ x. onto x q.0) e);
  from = λ r.
      let p = pushed_is k r.0 new.kinds now.kinds new.bottomless ks r.1 in
      (h t).from (p.0, subst (λ x. Matches now.kinds x p.0) b p.2, r.2 ∙ ap (onto tail) p.1 ∙ ap (λ x. onto x p.0) (sym e));
}

pub none_left : {A : Type 0} (xs : List A) → length xs ≡ 0 → xs ≡ []
none_left [] e = refl
none_left (x ∷ xs) e = absurd (omega arith)

-- ---- any kind

-- what `pop_any` says of a kind that it found
abbrev pub Found : Option ValueKind → OperandTypes → OperandTypes → Type 0
Found known old new = (k : ValueKind) (s : Operands) → Same (Admits old (k ∷ s)) (MatchesKind known k × Admits new s)

abbrev pub Empty : OperandTypes → Type 0
Empty old = (k : ValueKind) (s : Operands) → Admits old (k ∷ s) → ⊥

some_kind : (known : Option ValueKind) → (k : ValueKind) × MatchesKind known k
some_kind None = (I32, tt)
some_kind (Some k) = (k, refl)

pub drops_yes : (known : Option ValueKind) (old new : OperandTypes) → Found known old new → Carries Dropped true old new
drops_yes known old new h = λ t. record {
  to = λ r. ((h r.2.0 t).to (subst (Admits old) r.2.1 r.1)).1;
  from = λ o. let k = some_kind known in (k.0 ∷ t, (h k.0 t).from (k.1, o), (k.0, refl));
}

pub drops_no : (old new : OperandTypes) → Empty old → Carries Dropped false old new
drops_no old new h = λ s t o r. h r.0 t (subst (Admits old) r.1 o)

pub inhabited : (ks : List (Option ValueKind)) (b : Bool) → (s : Operands) × Matches ks b s
inhabited [] false = ([], refl)
inhabited [] true = ([], tt)
inhabited (known ∷ ks) b = let r = inhabited ks b in let k = some_kind known in (k.0 ∷ r.0, (k.1, r.1))

pub forgets : (old new : OperandTypes) → new.kinds ≡ [] → new.bottomless ≡ true → Carries Anything true old new
forgets old new k b = λ t. record {
  to = λ r. subst (λ x. Matches x new.bottomless t) (sym k) (subst (λ x. Matches [] x t) (sym b) tt);
  from = λ o. let s = inhabited old.kinds old.bottomless in (s.0, s.1, tt);
}

-- ---- select, after the i32

abbrev pub Two : Step
Two s t = (kind : ValueKind) × (below : Operands) × (s ≡ kind ∷ kind ∷ below) × (t ≡ kind ∷ below)

pub selects : (y z : Bool) (a b d : OperandTypes) → Carries (Pops (I32 ∷ [])) y a b → y ≡ true → Carries Two z b d → Carries Selected z a d
selects y true a b d h e k = λ t. record {
  to = λ r.
      let two = r.2.0 ∷ r.2.0 ∷ r.2.1 in
      (k t).to (two, (carried (Pops (I32 ∷ [])) y a b h e two).to (r.0, r.1, r.2.2), (r.2.0, r.2.1, refl, r.2.3));
  from = λ o.
      let q = (k t).from o in
      let p = (carried (Pops (I32 ∷ [])) y a b h e q.0).from q.1 in
      (p.0, p.1, (q.2.0, q.2.1, p.2 ∙ ap (λ x. I32 ∷ x) q.2.2, q.2.3));
}
selects y false a b d h e k = λ s t o r.
    let two = r.0 ∷ r.0 ∷ r.1 in
    k two t ((carried (Pops (I32 ∷ [])) y a b h e two).to (s, o, r.2)) (r.0, r.1, refl, r.3)

pub selects_not : (y : Bool) (a b d : OperandTypes) → Carries (Pops (I32 ∷ [])) y a b → y ≡ false → Carries Selected false a d
selects_not y a b d h e = λ s t o r. stopped (Pops (I32 ∷ [])) y a b h e s (r.0 ∷ r.0 ∷ r.1) o r.2

pub two_none : (a d : OperandTypes) → Empty a → Carries Two false a d
two_none a d h = λ s t o r. h r.0 (r.0 ∷ r.1) (subst (Admits a) r.2 o)

pub two_one : (second : Option ValueKind) (a b d : OperandTypes) → Found second a b → Empty b → Carries Two false a d
two_one second a b d f h = λ s t o r. h r.0 r.1 ((f r.0 (r.0 ∷ r.1)).to (subst (Admits a) r.2 o)).1

pub two_apart : (second first : Option ValueKind) (a b c d : OperandTypes) → Found second a b → Found first b c → ((k : ValueKind) → MatchesKind first k → MatchesKind second k → ⊥) → Carries Two false a d
two_apart second first a b c d f g h = λ s t o r.
    let p = (f r.0 (r.0 ∷ r.1)).to (subst (Admits a) r.2 o) in
    let q = (g r.0 r.1).to p.1 in
    h r.0 q.0 p.0

top_is : (known : Option ValueKind) (t : Operands) (kinds old : List (Option ValueKind)) (b : Bool) → kinds ≡ known ∷ old → Matches kinds b t → (k : ValueKind) × (below : Operands) × (t ≡ k ∷ below) × MatchesKind known k × Matches old b below
top_is known [] kinds old b e h = absurd (subst (λ x. Matches x b []) e h)
top_is known (k ∷ t) kinds old b e h = let q = subst (λ x. Matches x b (k ∷ t)) e h in (k, t, refl, q.0, q.1)

pub two_yes : (second first both : Option ValueKind) (a b c d : OperandTypes) → Found second a b → Found first b c → ((k : ValueKind) → Same (MatchesKind first k × MatchesKind second k) (MatchesKind both k)) →
    d.kinds ≡ both ∷ c.kinds → d.bottomless ≡ c.bottomless → Carries Two true a d
two_yes second first both a b c d f g j ks bs = λ t. record {
  to = λ r.
      let p = (f r.2.0 (r.2.0 ∷ r.2.1)).to (subst (Admits a) r.2.2 r.1) in
      let q = (g r.2.0 r.2.1).to p.1 in
      subst (Admits d) (sym r.2.3) (subst (λ x. Matches x d.bottomless (r.2.0 ∷ r.2.1)) (sym ks) ((j r.2.0).to (q.0, p.0), subst (λ x. Matches c.kinds x r.2.1) (sym bs) q.1));
  from = λ o.
      let p = top_is both t d.kinds c.kinds d.bottomless ks o in
      let fits = (j p.0).from p.3 in
      let low : Admits c p.1 = subst (λ x. Matches c.kinds x p.1) bs p.4 in
      (p.0 ∷ p.0 ∷ p.1, (f p.0 (p.0 ∷ p.1)).from (fits.1, (g p.0 p.1).from (fits.0, low)), (p.0, p.1, refl, p.2));
}

-- ---- the end of a body

pub are_no : (kinds : List ValueKind) (y : Bool) (old new : OperandTypes) → Carries (Pops kinds) y old new → y ≡ false → Admits old (onto kinds []) → ⊥
are_no kinds y old new h e o = stopped (Pops kinds) y old new h e (onto kinds []) [] o refl

pub are_yes : (kinds : List ValueKind) (y : Bool) (old new : OperandTypes) → Carries (Pops kinds) y old new → y ≡ true → Same (Admits old (onto kinds [])) (Admits new [])
are_yes kinds y old new h e = let q = carried (Pops kinds) y old new h e [] in record {
  to = λ o. q.to (onto kinds [], o, refl);
  from = λ o. let r = q.from o in subst (Admits old) r.2 r.1;
}

pub is_nothing : (kinds : List (Option ValueKind)) (b : Bool) → Matches kinds b [] → kinds ≡ []
is_nothing [] b h = refl
is_nothing (k ∷ ks) b h = absurd h

pub nothing_is : (kinds : List (Option ValueKind)) (b : Bool) → kinds ≡ [] → Matches kinds b []
nothing_is kinds false e = subst (λ x. Matches x false []) (sym e) refl
nothing_is kinds true e = subst (λ x. Matches x true []) (sym e) tt

-- ---- what is answered after want of memory was passed on

pub later : {A E : Type 0} (r : Result A E) (P Q : A → Type 0) → ((x : A) → P x → Q x) → IfOk r P → IfOk r Q
later (Ok x) P Q f h = f x h
later (Err e) P Q f h = tt

pub all_stops : {A : Type 0} (P : A → Type 0) (xs rest tail : List A) (x : A) → rest ≡ x ∷ tail → (All P xs ↔ All P rest) → (P x → ⊥) → All P xs → ⊥
all_stops P xs rest tail x e h n a = n (All-head P x tail (subst (All P) e (h.0 a)))

pub all_more : {A : Type 0} (P : A → Type 0) (xs rest tail : List A) (x : A) → rest ≡ x ∷ tail → (All P xs ↔ All P rest) → P x → All P xs ↔ All P tail
all_more P xs rest tail x e h p = (λ a. All-tail P x tail (subst (All P) e (h.0 a)), λ a. h.1 (subst (All P) (sym e) (All-cons P x tail p a)))

pub turns_as : (ts us takes gives : List ValueKind) (y : Bool) (old new : OperandTypes) → ts ≡ takes → us ≡ gives → Carries (Turns ts us) y old new → Carries (Turns takes gives) y old new
turns_as ts us takes gives y old new e f h = subst (λ x. Carries (Turns takes x) y old new) f (subst (λ x. Carries (Turns x us) y old new) e h)
