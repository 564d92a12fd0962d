-- Reading items one after the other, as a loop does.
use Rattle.std.proofs.Common.{◌≡◌, ℕ, suc, ◌-◌, ◌+◌, ◌≤◌, ◌<◌, List, [], ◌∷◌, ◌++◌, Result, Ok, Err, refl, sym, ap, ◌∙◌, append_assoc, arith}
use Rattle.std.proofs.lemmas.List.{append-nil}
use Rattle.ante_pack.specs.declared.fault.PackFault.{PackFault}
use Rattle.ante_pack.specs.declared.fault.ReadFault.{ReadFault}
use Rattle.ante_pack.specs.declared.fault.ReadFault.TheVariants as faults
use Rattle.ante_pack.specs.Forms.{Cursor, ◌>>=◌, ReadsTo, items_at}

-- what was read before, and what is still read
abbrev pub with_front : {A : Type 0} → List A → Result (List A × Cursor) PackFault → Result (List A × Cursor) PackFault
with_front front read = read >>= λ x. Ok (front ++ x.0, x.1)

regroup : {A : Type 0} (front : List A) (n : A) (read : Result (List A × Cursor) PackFault) → with_front front (read >>= λ x. Ok (n ∷ x.0, x.1)) ≡ with_front (front ++ n ∷ []) read
regroup {A} front n (Ok x) = ap (λ (ns : List A). Ok (ns, x.1)) (simp append_assoc)
regroup front n (Err f) = refl

pub goes_on : {A : Type 0} (item : Cursor → Result (A × Cursor) PackFault) (front : List A) (count i : ℕ) (c : Cursor) (n : A) (after : Cursor) (total : Result (List A × Cursor) PackFault) → i < count → item c ≡ Ok (n, after)
    → with_front front (items_at item (count - i) c) ≡ total → with_front (front ++ n ∷ []) (items_at item (count - (i + 1)) after) ≡ total
unfolding items_at
goes_on item front count i c n after total lt h so_far =
    let k : count - i ≡ suc (count - (i + 1)) = omega arith in
    let one : with_front front (items_at item (count - i) c) ≡ with_front (front ++ n ∷ []) (items_at item (count - (i + 1)) after) = rw (k, h) (regroup front n (items_at item (count - (i + 1)) after)) in
    sym one ∙ so_far

pub ends : {A : Type 0} (item : Cursor → Result (A × Cursor) PackFault) (fault : ReadFault) (front : List A) (count i : ℕ) (c new : Cursor) (total : Result (List A × Cursor) PackFault) → i < count → ReadsTo {X = A} (Err fault) new (item c)
    → with_front front (items_at item (count - i) c) ≡ total → ReadsTo {X = List A} (Err fault) new total
unfolding items_at
ends item faults.OutOfMemory front count i c new total lt h so_far = tt
ends item (faults.Pack f) front count i c new total lt h so_far =
    let k : count - i ≡ suc (count - (i + 1)) = omega arith in
    let one : with_front front (items_at item (count - i) c) ≡ Err f = rw (k, h) refl in
    sym so_far ∙ one

pub is_done : {A : Type 0} (item : Cursor → Result (A × Cursor) PackFault) (front : List A) (count i : ℕ) (c : Cursor) (total : Result (List A × Cursor) PackFault) → count ≤ i → with_front front (items_at item (count - i) c) ≡ total → total ≡ Ok (front, c)
unfolding items_at
is_done {A} item front count i c total le so_far =
    let k : count - i ≡ 0 = omega arith in
    let one : with_front front (items_at item (count - i) c) ≡ Ok (front, c) = rw k (ap (λ (ns : List A). Ok (ns, c)) (append-nil front)) in
    sym so_far ∙ one
