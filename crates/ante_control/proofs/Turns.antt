-- One block more on a machine, and a branch run so far.
use Rattle.std.proofs.Common.{◌≡◌, ℕ, zero, suc, ◌+◌, ◌-◌, ◌≤◌, Bool, true, false, if◌then◌else◌, is_some, List, [], ◌∷◌, take, drop, Some, Result, Err, refl, sym, ap, subst, ◌∙◌, arith}
use Rattle.std.proofs.lemmas.List.{take-append-drop}
use Rattle.std.specs.List.{slice_get}
use Rattle.std.specs.Str.{bytes_eq}
use Rattle.ante_types.specs.declared.chain.Block.{Block}
use Rattle.ante_undo.specs.Stack.{Stack}
use Rattle.ante_machine.specs.Steps.{block_runs}
use Rattle.ante_machine.specs.Stacks.{Runs, Fails}
use Rattle.ante_fork.specs.Tree.{Tree, id_of, branch, meeting}
use Rattle.ante_control.specs.Chosen.{Play, Failed, replay}
use Rattle.ante_control.specs.Tabled.{worlds, Holds}
use Rattle.ante_fork.specs.Tree.{find_block}
use Rattle.ante_fork.proofs.Pruned.{same_refl}
use Rattle.ante_control.specs.declared.branches.BranchError.{BranchError}
use Rattle.ante_control.specs.declared.branches.BranchError.TheVariants.{OutOfMemory, Invalid}
use Rattle.ante_control.specs.Running.{Grown, BranchEnds, IsOff, IsOf, IsBeside}
use Rattle.ante_control.proofs.Worlds.{grown_none, grown_above, grown_more, holds_above, fails_next, fails_on}
use Rattle.ante_control.proofs.Ways.{rise, way_start, IsNext}

module _ {W : Type 0} where
  pub next_grown : (step : Result W ℕ) (old new : Stack W) → (w : W) × Runs w step old new → Grown 1 old new
  next_grown step old new r = subst (Grown 1 old) (sym r.1.stands) (grown_above r.0 old)

  pub next_holds : (p : Play W) (b : Block) (below : List Block) (old new : Stack W) → (w : W) × Runs w (block_runs p.steps p.chain p.judge old.top b) old new →
      Holds p below (worlds old) → Holds p (b ∷ below) (worlds new)
  next_holds p b below old new r h = subst (λ s. Holds p (b ∷ below) (worlds s)) (sym r.1.stands) (holds_above p b below r.0 old h r.1.gives)

  pub next_fails : (p : Play W) (b : Block) (below : List Block) (code : ℕ) (old new : Stack W) → Fails code (block_runs p.steps p.chain p.judge old.top b) old new →
      Holds p below (worlds old) → replay p (b ∷ below) ≡ Err (record { block = id_of b; code = code })
  next_fails p b below code old new r h = fails_next p b below code old h r.gives

-- k blocks of the branch were run
pub record IsRunning {W : Type 0} (play : W → Play W) (id : List ℕ) (t : Tree) (k : ℕ) (start now : Stack W) : Type 0 where
  pub grown : Grown k start now
  pub tables : (first : W) → Holds (play first) (meeting id t.head t.kept) (worlds start) → Holds (play first) (drop (rise t id - k) (branch id t.kept)) (worlds now)

none_off : (n : ℕ) → n - 0 ≡ n
none_off n = omega arith

all_off : (n k : ℕ) → n ≤ k → n - k ≡ 0
all_off n k h = omega arith

module _ {W : Type 0} where
  pub running_start : (play : W → Play W) (id : List ℕ) (t : Tree) (start : Stack W) → IsRunning play id t 0 start start
  running_start play id t start = record {
    grown = grown_none start;
    tables = λ first h. subst (λ bs. Holds (play first) bs (worlds start)) (sym (ap (λ k. drop k (branch id t.kept)) (none_off (rise t id)) ∙ way_start t id)) h;
  }

  pub running_more : (play : W → Play W) (id : List ℕ) (t : Tree) (k : ℕ) (c : Block) (start now new : Stack W) → IsRunning play id t k start now → IsNext t id k c → Grown 1 now new →
      ((below : List Block) (first : W) → Holds (play first) below (worlds now) → Holds (play first) (c ∷ below) (worlds new)) → IsRunning play id t (k + 1) start new
  running_more play id t k c start now new is next grown tables = record {
    grown = grown_more k start now new is.grown grown;
    tables = λ first h. subst (λ bs. Holds (play first) bs (worlds new)) (sym next.cut) (tables (drop (rise t id - k) (branch id t.kept)) first (is.tables first h));
  }

  pub running_end : (play : W → Play W) (id : List ℕ) (t : Tree) (k : ℕ) (start now : Stack W) → IsRunning play id t k start now → rise t id ≤ k → (first : W) →
      Holds (play first) (meeting id t.head t.kept) (worlds start) → Holds (play first) (branch id t.kept) (worlds now)
  running_end play id t k start now is over first h =
      subst (λ bs. Holds (play first) bs (worlds now)) (ap (λ n. drop n (branch id t.kept)) (all_off (rise t id) k over)) (is.tables first h)

  -- the whole branch fails where this block does
  pub running_fails : (p : Play W) (id : List ℕ) (t : Tree) (k : ℕ) (c : Block) (f : Failed) → IsNext t id k c → replay p (c ∷ drop (rise t id - k) (branch id t.kept)) ≡ Err f →
      replay p (branch id t.kept) ≡ Err f
  running_fails p id t k c f next e =
      ap (replay p) (sym (take-append-drop (rise t id - (k + 1)) (branch id t.kept)))
      ∙ fails_on p (take (rise t id - (k + 1)) (branch id t.kept)) (drop (rise t id - (k + 1)) (branch id t.kept)) f (ap (replay p) next.cut ∙ e)

  pub branch_fails : (p : Play W) (id : List ℕ) (t : Tree) (k : ℕ) (c : Block) (new new2 : Stack W) (e : BranchError) → IsNext t id k c →
      BranchEnds {A = Unit {0}} p (c ∷ drop (rise t id - k) (branch id t.kept)) new (Err e) → BranchEnds {A = Unit {0}} p (branch id t.kept) new2 (Err e)
  branch_fails p id t k c new new2 OutOfMemory next ends = tt
  branch_fails p id t k c new new2 (Invalid block code) next ends = running_fails p id t k c (record { block = block; code = code }) next ends

found_by : (c b : Block) (bs : List Block) → is_some (find_block (id_of c) bs) ≡ true → (t : Bool) → is_some (if t then Some b else find_block (id_of c) bs) ≡ true
found_by c b bs h true = refl
found_by c b bs h false = h

-- a block of a list is found in it
pub found_at : (bs : List Block) (n : ℕ) (c : Block) → slice_get bs n ≡ Some c → is_some (find_block (id_of c) bs) ≡ true
found_at [] n c e = cc
found_at (b ∷ bs) zero c e = let k : b ≡ c = cc in subst (λ x. is_some (find_block (id_of x) (b ∷ bs)) ≡ true) k (ap (λ t. is_some (if t then Some b else find_block (id_of b) bs)) (same_refl (id_of b)))
found_at (b ∷ bs) (suc n) c e = found_by c b bs (found_at bs n c e) (bytes_eq (id_of c) (id_of b))

pub next_off : (t : Tree) (id : List ℕ) (k : ℕ) (c : Block) (e : BranchError) → IsNext t id k c → IsOf c (Err e) → IsOff {A = Unit {0}} (branch t.head t.kept) (branch id t.kept) (Err e)
next_off t id k c OutOfMemory next is = tt
next_off t id k c (Invalid block code) next is =
    subst (λ i. IsBeside (branch t.head t.kept) (branch id t.kept) i) (sym is)
    (record { off = next.off; on = found_at (branch id t.kept) (rise t id - 1 - k) c next.got })
