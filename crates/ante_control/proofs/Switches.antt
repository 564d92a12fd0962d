-- A branch in the place of the head's.
use Rattle.std.proofs.Common.{◌≡◌, ℕ, ◌+◌, ◌-◌, ◌≤◌, true, List, [], ◌∷◌, length, drop, Some, None, is_some, IsSome, Err, refl, sym, ap, subst, ◌∙◌, arith, length-append}
use Rattle.ante_types.specs.declared.chain.Block.{Block}
use Rattle.ante_types.specs.Ids.{block_num}
use Rattle.ante_undo.specs.Stack.{Stack, IsShelved}
use Rattle.ante_fork.specs.declared.tree.ForkPath.{ForkPath}
use Rattle.ante_fork.specs.Tree.{Tree, id_of, block_at, branch, meeting, IsTree}
use Rattle.ante_fork.specs.Paths.{path_of, fork_id}
use Rattle.ante_fork.proofs.Branches.{is_path, meets, placed_num, kept_here}
use Rattle.ante_control.specs.declared.branches.BranchError.{BranchError}
use Rattle.ante_control.specs.declared.branches.BranchError.TheVariants.{OutOfMemory, Invalid}
use Rattle.ante_control.specs.Chosen.{Play}
use Rattle.ante_control.specs.Tabled.{worlds, Holds}
use Rattle.ante_control.specs.Running.{Grown, BranchEnds}
use Rattle.ante_control.proofs.Worlds.{worlds_shelved, holds_drop}
use Rattle.ante_control.proofs.Ways.{rise}

-- the numbers on a branch's way
pub record IsWay (t : Tree) (id : List ℕ) (p : ForkPath) : Type 0 where
  pub fork : p.fork.num ≡ length (meeting id t.head t.kept) + 1
  pub above : p.above ≡ rise t id
  pub num : block_num id ≡ p.fork.num + p.above
  pub head : block_num t.head ≡ length (branch t.head t.kept) + 1
  pub below : length (meeting id t.head t.kept) ≤ length (branch t.head t.kept)

path_some : (t : Tree) (id : List ℕ) → is_some (block_at id t) ≡ true → path_of id t ≡ Some (record { fork = record { num = block_num (fork_id id t); id = fork_id id t }; above = rise t id })
path_some t id here = rw here refl

pub never_path : (t : Tree) (id : List ℕ) → is_some (block_at id t) ≡ true → None ≡ path_of id t → ⊥
never_path t id here e = let h = e ∙ path_some t id here in cc

some_same : {A : Type 0} (x y : A) → Some x ≡ Some y → x ≡ y
some_same x y e = cc

pub is_way : (t : Tree) (id : List ℕ) (p : ForkPath) → IsTree t → is_some (block_at id t) ≡ true → Some p ≡ path_of id t → IsWay t id p
is_way t id p is here e =
    let q : ForkPath = record { fork = record { num = block_num (fork_id id t); id = fork_id id t }; above = rise t id } in
    let h : p ≡ q = some_same p q (e ∙ path_some t id here) in
    let f = is_path t id is here in
    let m = meets t.kept id t.head in
    let num : p.fork.num ≡ length (meeting id t.head t.kept) + 1 = ap (λ x. x.fork.num) h ∙ f.fork in
    let above : p.above ≡ rise t id = ap (λ x. x.above) h in
    record {
      fork = num;
      above = above;
      num = omega (arith, f.num, f.within, num, above);
      head = placed_num (id_of t.genesis) t.kept t.head is.first is.placed (kept_here t t.head is.head);
      below = omega (arith, ap length m.second, length-append m.downs (meeting id t.head t.kept));
    }

module _ {W : Type 0} where
  -- below the shelf the tables are those of the fork point
  pub shelved_holds : (p : Play W) (t : Tree) (id : List ℕ) (num : ℕ) (old new : Stack W) → IsShelved num old new → old.revision - num ≤ length old.under →
      length (branch t.head t.kept) ≡ old.revision - num + length (meeting id t.head t.kept) → Holds p (branch t.head t.kept) (worlds old) → Holds p (meeting id t.head t.kept) (worlds new)
  shelved_holds p t id num old new is within count h =
      let m = meets t.kept id t.head in
      let downs : length m.downs ≡ old.revision - num = omega (arith, count, ap length m.second, length-append m.downs (meeting id t.head t.kept)) in
      let low = holds_drop p m.downs (meeting id t.head t.kept) (worlds old) (subst (λ bs. Holds p bs (worlds old)) m.second h) in
      let same : drop (length m.downs) (worlds old) ≡ worlds new = ap (λ k. drop k (worlds old)) downs ∙ sym (worlds_shelved num old new is (omega (arith, within, length-append old.under (old.top ∷ [])))) in
      subst (Holds p (meeting id t.head t.kept)) same low

  -- a failure says nothing of the stack
  pub ends_any : (p : Play W) (bs : List Block) (s s2 : Stack W) (e : BranchError) → BranchEnds {A = Unit {0}} p bs s (Err e) → BranchEnds {A = Unit {0}} p bs s2 (Err e)
  ends_any p bs s s2 OutOfMemory h = tt
  ends_any p bs s s2 (Invalid block code) h = h

  pub shelf_some : (num : ℕ) (old shelved : Stack W) (k : ℕ) (grown : Stack W) → IsShelved num old shelved → Grown k shelved grown → IsSome grown.shelf
  shelf_some num old shelved k grown is g = subst IsSome (sym (g.shelf ∙ is.shelf)) refl
