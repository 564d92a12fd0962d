-- Where no block is being made.
use Rattle.std.proofs.Common.{◌≡◌, ℕ, List, Option, Some, None, IsNone, IfSome, refl, sym, subst, ◌∙◌}
use Rattle.ante_types.specs.declared.chain.BlockInfo.{BlockInfo}
use Rattle.ante_types.specs.declared.chain.Receipt.{Receipt}
use Rattle.ante_machine.specs.Stacks.{Pending}
use Rattle.ante_fork.specs.Tree.{Tree}
use Rattle.ante_control.specs.Held.{IsHeld, IsNext}
use Rattle.ante_control.specs.Shown.{making, info_shown}

module _ {W : Type 0} where
  pub unmade : (rs : List Receipt) (o : Option (Pending W)) → IsNone (making rs o) → IsNone o
  unmade rs None h = refl
  unmade rs (Some p) h = h

  pub not_made : (rs : List Receipt) (o : Option (Pending W)) → IsNone o → IsNone (making rs o)
  not_made rs None h = refl
  not_made rs (Some p) h = h

  pub nothing : (o : Option (Pending W)) → IsNone o → info_shown o ≡ None
  nothing None h = refl
  nothing (Some p) h = cc

  -- what is kept says nothing of the tree then
  pub still_held : (t t2 : Tree) (info : Option BlockInfo) (rs : List Receipt) (n : ℕ) (o o2 : Option (Pending W)) → IsNone o → IsNone o2 → IsHeld t info rs n o → IsHeld t2 info rs n o2
  still_held t t2 info rs n o o2 old new is =
      let none = is.same ∙ nothing o old in
      record {
        same = none ∙ sym (nothing o2 new);
        next = subst (λ x. IfSome x (IsNext t2)) (sym none) tt;
        bytes = is.bytes;
        small = is.small;
        fits = is.fits;
      }
