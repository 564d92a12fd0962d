-- The last element of a list.
use Rattle.std.proofs.Common.{◌≡◌, ◌-◌, ◌<◌, ◌≤◌, List, [], ◌∷◌, ◌++◌, length, get_or, set, append_assoc, refl, sym, ap, ◌∙◌, Result, OnOk, arith}
use Rattle.std.specs.declared.result.Result.TheVariants.{Ok, Err}
use Rattle.ante_undo.specs.Logs.{total, AddsEntry, AddsLog}
use Rattle.ante_undo.proofs.Back.{total_append}

module _ {X : Type 0} where
  at_end : (xs : List X) (x : X) → length (xs ++ x ∷ []) - 1 ≡ length xs
  at_end [] x = refl
  at_end (y ∷ xs) x = let rest = at_end xs x in let some = nonempty xs x in omega arith
    where
      nonempty : (xs : List X) (x : X) → 0 < length (xs ++ x ∷ [])
      nonempty [] x = omega arith
      nonempty (y ∷ xs) x = omega arith

  get_there : (xs : List X) (x d : X) → get_or (xs ++ x ∷ []) (length xs) d ≡ x
  get_there [] x d = refl
  get_there (y ∷ xs) x d = get_there xs x d

  set_there : (xs : List X) (x y : X) → set (xs ++ x ∷ []) (length xs) y ≡ xs ++ y ∷ []
  set_there [] x y = refl
  set_there (z ∷ xs) x y = ap (λ rest. z ∷ rest) (set_there xs x y)

  pub get_end : (xs : List X) (x d : X) → get_or (xs ++ x ∷ []) (length (xs ++ x ∷ []) - 1) d ≡ x
  get_end xs x d = ap (λ n. get_or (xs ++ x ∷ []) n d) (at_end xs x) ∙ get_there xs x d

  pub set_end : (xs : List X) (x y : X) → set (xs ++ x ∷ []) (length (xs ++ x ∷ []) - 1) y ≡ xs ++ y ∷ []
  set_end xs x y = ap (λ n. set (xs ++ x ∷ []) n y) (at_end xs x) ∙ set_there xs x y

  pub record Ends (xs : List X) : Type 0 where
    pub front : List X
    pub last : X
    pub is : xs ≡ front ++ last ∷ []

  pub ends : (xs : List X) → 0 < length xs → Ends xs
  ends [] h = absurd (omega arith)
  ends (x ∷ []) h = record { front = []; last = x; is = refl }
  ends (x ∷ y ∷ ys) h = let e = ends (y ∷ ys) (omega arith) in record { front = x ∷ e.front; last = e.last; is = ap (λ rest. x ∷ rest) e.is }

  pub set_pushed : (log pushed : List X) (x y : X) → pushed ≡ log ++ x ∷ [] → set pushed (length pushed - 1) y ≡ log ++ y ∷ []
  set_pushed log pushed x y is = ap (λ l. set l (length l - 1) y) is ∙ set_end log x y

  pub get_pushed : (log pushed : List X) (x c : X) → pushed ≡ log ++ x ∷ [] → c ≡ get_or pushed (length pushed - 1) c → c ≡ x
  get_pushed log pushed x c is it = it ∙ ap (λ l. get_or l (length l - 1) c) is ∙ get_end log x c

module _ {X : Type 0} where
  pub adds_log : (added : List X) (logs : List (List X)) (newest newest' : List X) → 0 < length logs → newest ≡ get_or logs (length logs - 1) newest → newest' ≡ newest ++ added → AddsLog added logs (set logs (length logs - 1) newest')
  adds_log added logs newest newest' some is joined =
      let e = ends logs some in
      let it : newest ≡ e.last = is ∙ ap (λ l. get_or l (length l - 1) newest) e.is ∙ get_end e.front e.last newest in
      (e.front, newest, e.is ∙ ap (λ l. e.front ++ l ∷ []) (sym it), ap (λ l. set l (length l - 1) newest') e.is ∙ set_end e.front e.last newest' ∙ ap (λ l. e.front ++ l ∷ []) joined)

  pub adds_entry : (x : X) (logs : List (List X)) (newest newest' : List X) → 0 < length logs → newest ≡ get_or logs (length logs - 1) newest → newest' ≡ newest ++ x ∷ [] → AddsEntry x logs (set logs (length logs - 1) newest')
  adds_entry x = adds_log (x ∷ [])

  pub last_small : (logs : List (List X)) (newest : List X) → 0 < length logs → newest ≡ get_or logs (length logs - 1) newest → length newest ≤ total logs
  last_small logs newest some is =
      let e = ends logs some in
      let it = ap length (is ∙ ap (λ l. get_or l (length l - 1) newest) e.is ∙ get_end e.front e.last newest) in
      let all = ap total e.is in
      let parts = total_append e.front (e.last ∷ []) in
      omega arith

pub on_ok : {T E : Type 0} {P Q : Type 0} (r : Result T E) → (P → Q) → OnOk r P → OnOk r Q
on_ok (Ok x) f p = f p
on_ok (Err e) f p = p

module _ {X : Type 0} where
  pub newest_is : (below xs : List X) (x : X) → 0 < length xs → x ≡ get_or xs (length xs - 1) x → (front : List X) × (below ++ xs ≡ front ++ x ∷ [])
  newest_is below xs x some is =
      let e = ends xs some in
      let it : x ≡ e.last = is ∙ ap (λ l. get_or l (length l - 1) x) e.is ∙ get_end e.front e.last x in
      (below ++ e.front, ap (λ l. below ++ l) (e.is ∙ ap (λ y. e.front ++ y ∷ []) (sym it)) ∙ sym (append_assoc below e.front (x ∷ [])))
