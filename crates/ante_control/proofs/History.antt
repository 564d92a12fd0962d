-- All arrivals, one after another.
use Rattle.std.proofs.Common.{◌≡◌, Bool, true, false, List, [], ◌∷◌, ◌++◌, Result, Ok, Err, if◌then◌else◌, sym, ap, ◌∙◌, refl}
use Rattle.ante_types.specs.declared.chain.Block.{Block}
use Rattle.ante_control.specs.declared.error.Pushed.{Pushed}
use Rattle.ante_control.specs.declared.error.PushError.{PushError}
use Rattle.ante_control.specs.Chosen.{Play, Choice, arrived, chosen}
use Rattle.ante_control.specs.Pushing.{IsPushed, is_invalid, with_arrival}
use Rattle.ante_control.specs.Tabled.{Standing}

module _ {W : Type 0} where
  chosen_snoc : (p : Play W) (c : Choice) (bs : List Block) (b : Block) → chosen p c (bs ++ b ∷ []) ≡ arrived p (chosen p c bs) b
  chosen_snoc p c [] b = refl
  chosen_snoc p c (x ∷ bs) b = chosen_snoc p (arrived p c x) bs b

  one_more : (p : Play W) (start now new : Choice) (bs : List Block) (b : Block) → now ≡ chosen p start bs → new ≡ arrived p now b → new ≡ chosen p start (bs ++ b ∷ [])
  one_more p start now new bs b e f = f ∙ ap (λ c. arrived p c b) e ∙ sym (chosen_snoc p start bs b)

  by_answer : (p : Play W) (start now new : Choice) (bs : List Block) (b : Block) → now ≡ chosen p start bs → (t : Bool) → new ≡ (if t then arrived p now b else now) →
      new ≡ chosen p start (if t then bs ++ b ∷ [] else bs)
  by_answer p start now new bs b e true f = one_more p start now new bs b e f
  by_answer p start now new bs b e false f = f ∙ e

  pub arrivals : (p : Play W) (start : Choice) (bs : List Block) (b : Block) (old new : Standing W) (result : Result Pushed PushError) → old.choice ≡ chosen p start bs → IsPushed p b old new result →
      new.choice ≡ chosen p start (with_arrival bs b result)
  arrivals p start bs b old new (Ok done) e is = one_more p start old.choice new.choice bs b e is.choice
  arrivals p start bs b old new (Err refused) e is = by_answer p start old.choice new.choice bs b e (is_invalid refused) is.choice
