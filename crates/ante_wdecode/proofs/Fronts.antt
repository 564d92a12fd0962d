-- What was read so far, before what is still to be read.
use Rattle.std.proofs.Common.{◌≡◌, ℕ, suc, ◌+◌, ◌-◌, ◌<◌, ◌≤◌, List, [], ◌∷◌, ◌++◌, Result, Ok, Err, refl, sym, ap, subst, ◌∙◌, append_assoc, append-nil, arith}
use Rattle.ante_wdecode.specs.declared.fault.Unread.{Unread}
use Rattle.ante_wdecode.specs.declared.fault.Unread.TheVariants as unread
use Rattle.ante_pack.specs.Forms.{◌>>=◌}
use Rattle.ante_wdecode.specs.Rules.{Fault, Read, items_at, Fails}
use Rattle.ante_wdecode.proofs.Laws.{ok}

abbrev pub with_front : {A : Type 0} → List A → Read (List A) → Read (List A)
with_front front read = read >>= λ x. Ok (front ++ x.0, x.1)

pub with_none : {A : Type 0} (r : Read (List A)) → with_front [] r ≡ r
with_none (Ok x) = refl
with_none (Err f) = refl

-- what is read next goes to the end of the front
pub regroup : {A : Type 0} (front more : List A) (r : Read (List A)) → with_front (front ++ more) r ≡ with_front front (r >>= λ xs. ok (more ++ xs.0) xs.1)
regroup front more (Err f) = refl
regroup front more (Ok x) = ap (λ ys. ok ys x.1) (append_assoc front more x.0)

pub fails_front : {A : Type 0} (e : Unread) (front : List A) (r whole : Read (List A)) → Fails e r → with_front front r ≡ whole → Fails e whole
fails_front unread.OutOfMemory front r whole h e = tt
fails_front (unread.Ended left) front r whole h e = sym e ∙ ap (with_front front) h
fails_front (unread.Fault left kind) front r whole h e = sym e ∙ ap (with_front front) h

pub fails_then : {A B : Type 0} (e : Unread) (r : Result A Fault) (f : A → Result B Fault) → Fails e r → Fails e (r >>= f)
fails_then unread.OutOfMemory r f h = tt
fails_then (unread.Ended left) r f h = ap (λ x. x >>= f) h
fails_then (unread.Fault left kind) r f h = ap (λ x. x >>= f) h

pub fails_as : {A : Type 0} (e : Unread) (x y : Result A Fault) → x ≡ y → Fails e x → Fails e y
fails_as e x y k h = subst (Fails e) k h

pub goes_on : {A : Type 0} (item : List ℕ → Read A) (front : List A) (count counter : ℕ) (rest : List ℕ) (a : A) (after : List ℕ) (whole : Read (List A)) → counter < count → item rest ≡ ok a after →
    with_front front (items_at item (count - counter) rest) ≡ whole → with_front (front ++ a ∷ []) (items_at item (count - (counter + 1)) after) ≡ whole
goes_on item front count counter rest a after whole lt e h =
    let m : suc (count - (counter + 1)) ≡ count - counter = omega arith in
    regroup front (a ∷ []) (items_at item (count - (counter + 1)) after)
    ∙ ap (λ r. with_front front (r >>= λ x. items_at item (count - (counter + 1)) x.1 >>= λ xs. ok (x.0 ∷ xs.0) xs.1)) (sym e)
    ∙ ap (λ n. with_front front (items_at item n rest)) m
    ∙ h

pub stops : {A : Type 0} (e : Unread) (item : List ℕ → Read A) (front : List A) (count counter : ℕ) (rest : List ℕ) (whole : Read (List A)) → counter < count → Fails e (item rest) →
    with_front front (items_at item (count - counter) rest) ≡ whole → Fails e whole
stops e item front count counter rest whole lt f h =
    let m : count - counter ≡ suc (count - (counter + 1)) = omega arith in
    fails_front e front (items_at item (suc (count - (counter + 1))) rest) whole
    (fails_then e (item rest) (λ x. items_at item (count - (counter + 1)) x.1 >>= λ xs. ok (x.0 ∷ xs.0) xs.1) f)
    (ap (λ n. with_front front (items_at item n rest)) (sym m) ∙ h)

pub is_done : {A : Type 0} (item : List ℕ → Read A) (front : List A) (count counter : ℕ) (rest : List ℕ) (whole : Read (List A)) → count ≤ counter → with_front front (items_at item (count - counter) rest) ≡ whole → whole ≡ ok front rest
is_done item front count counter rest whole le h =
    let m : count - counter ≡ 0 = omega arith in
    sym h ∙ ap (λ n. with_front front (items_at item n rest)) m ∙ ap (λ xs. ok xs rest) (append-nil front)
