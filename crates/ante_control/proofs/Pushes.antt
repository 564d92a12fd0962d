-- What a push leaves, by what its parts did.
use Rattle.std.proofs.Common.{◌≡◌, ℕ, ◌+◌, ◌-◌, ◌<◌, ◌≤◌, true, false, List, [], ◌∷◌, ◌++◌, length, Option, None, Result, Ok, Err, IsOk, IfErr, refl, sym, ap, subst, ◌∙◌, arith, nat_lt, take, length-append}
use Rattle.std.proofs.Math.Seq.{take-append_seam}
use Rattle.ante_types.specs.declared.chain.Block.{Block}
use Rattle.ante_types.specs.declared.chain.Head.{Head as ChainHead}
use Rattle.ante_types.specs.Ids.{block_num}
use Rattle.ante_undo.specs.Stack.{Stack, committed}
use Rattle.ante_verdicts.specs.Judge.{Judge}
use Rattle.ante_fork.specs.Finality.{settled, is_open}
use Rattle.ante_fork.specs.Rules.{refusal}
use Rattle.ante_fork.specs.Tree.{Tree, id_of, num_of, branch, meeting, with_block, with_head, dropped, other_than, IsTree}
use Rattle.ante_fork.proofs.Branches.{kept_here, is_path, meets, placed_num}
use Rattle.ante_fork.proofs.Pruned.{dropped_tree, dropped_head}
use Rattle.ante_control.specs.declared.branches.BranchError.{BranchError}
use Rattle.ante_control.specs.declared.branches.BranchError.TheVariants.{OutOfMemory, Invalid}
use Rattle.ante_control.specs.declared.error.Pushed.TheVariants.{Kept}
use Rattle.ante_control.specs.declared.error.PushError.{PushError}
use Rattle.ante_control.specs.declared.error.PushError.TheVariants as push
use Rattle.ante_control.specs.Chosen.{Play, Choice}
use Rattle.ante_control.specs.Errors.{answered}
use Rattle.ante_control.specs.Making.{Making}
use Rattle.ante_control.specs.Pushing.{IsBarred, IsAnswer, IsPushed, IsRefused, IsEntered, IsOut, Takes, barred_by, barrier, is_sealed, is_invalid, refused_choice}
use Rattle.ante_control.specs.Running.{BranchEnds}
use Rattle.ante_control.specs.Shown.{standing}
use Rattle.ante_control.specs.Tabled.{IsStanding, Holds, worlds, AllOpen, AllWithin}
use Rattle.ante_control.proofs.Open.{deep_enough, committed_holds, committed_enough}
use Rattle.ante_control.proofs.Standing.{longer_true, longer_false, fresh, headed, after, open_new, all_pruned, within_up, within_dropped}
use Rattle.ante_control.proofs.Ways.{rise}
use Rattle.ante_control.proofs.Worlds.{holds_top}

-- a block that enters breaks no rule
pub passed : (judge : Judge) (t : Tree) (b : Block) → refusal t b ≡ None → is_sealed judge b ≡ true → barrier judge t b ≡ None
passed judge t b fits sealed = ap (λ x. barred_by x (is_sealed judge b)) fits ∙ ap (barred_by None) sealed

-- what was done with the tree that has the block
pub record IsTook {W : Type 0} (judge : Judge) (b : Block) (t t1 t2 : Tree) (a a2 : List ChainHead) (s s2 : Stack W) (result : Result ℕ BranchError) : Type 0 where
  pub entered : IsEntered judge b t t1
  pub longer : block_num t1.head < num_of b
  pub takes : Takes (id_of b) t1 t2 a a2 s s2 result

abbrev pub choice_of : Tree → List ChainHead → Choice
choice_of t a = record { tree = t; applied = a }

pub same_choice : (t t2 : Tree) (a a2 : List ChainHead) → t ≡ t2 → a ≡ a2 → choice_of t a ≡ choice_of t2 a2
same_choice t t2 a a2 e f = λ i. record { tree = e i; applied = f i }

pub struck : (xs mid new : List ChainHead) (x : ChainHead) → mid ≡ xs ++ x ∷ [] → new ≡ take (length mid - 1) mid → new ≡ xs
struck xs mid new x e f =
    let shorter : length (xs ++ x ∷ []) - 1 ≡ length xs = omega (arith, length-append xs (x ∷ [])) in
    f ∙ ap (λ ys. take (length ys - 1) ys) e ∙ ap (λ k. take k (xs ++ x ∷ [])) shorter ∙ take-append_seam xs (x ∷ [])

unrefused : (b : Block) (e : PushError) (c : Choice) → is_invalid e ≡ false → refused_choice b e c ≡ c
unrefused b push.OutOfMemory c other = refl
unrefused b push.Known c other = refl
unrefused b (push.Unlinkable previous) c other = refl
unrefused b push.BadRoot c other = refl
unrefused b push.BadSlot c other = refl
unrefused b push.BadProducer c other = refl
unrefused b push.BadSeal c other = refl
unrefused b (push.Invalid block code) c other = cc

module _ {W : Type 0} where
  pub deep_new : (judge : Judge) (b : Block) (t t1 : Tree) (a : List ChainHead) (chain : List ℕ) (s : Stack W) (q : Option (Making W)) (n : ℕ) (id : List ℕ) → IsStanding (standing t a chain s q n) →
      IsEntered judge b t t1 → id ≡ id_of b → block_num t1.head < block_num id → s.revision ≤ length (meeting id t1.head t1.kept) + 1 + length s.under
  deep_new judge b t t1 a chain s q n id is e i longer =
      let f = fresh t b is.tree e.fits e.small in
      let lead : block_num t.head < num_of b = subst (λ x. block_num x.head < num_of b) e.tree (subst (λ j. block_num t1.head < block_num j) i longer) in
      let path = is_path (with_block b t) (id_of b) f.tree f.here in
      let m = meets (b ∷ t.kept) (id_of b) t.head in
      let head = placed_num (id_of t.genesis) (b ∷ t.kept) t.head f.tree.first f.tree.placed (kept_here (with_block b t) t.head f.tree.head) in
      let up : 0 < rise (with_block b t) (id_of b) =
      omega (arith, path.num, head, lead, ap length m.second, length-append m.downs (meeting (id_of b) t.head (b ∷ t.kept))) in
      let deep = deep_enough t.irreversible (with_block b t) (id_of b) f.tree f.here (open_new t b f.same (omega (arith, is.low, lead)) is.open_up) up in
      subst (λ j. s.revision ≤ length (meeting j t1.head t1.kept) + 1 + length s.under) (sym i)
      (subst (λ x. s.revision ≤ length (meeting (id_of b) x.head x.kept) + 1 + length s.under) (sym e.tree) (omega (arith, deep, is.enough)))

  -- the tree with the block in it, in the place of what `enter` left
  pub took_on : (judge : Judge) (b : Block) (t t1 t2 : Tree) (a a2 : List ChainHead) (s s2 : Stack W) (result : Result ℕ BranchError) →
      IsTook judge b t t1 t2 a a2 s s2 result → IsTook judge b t (with_block b t) t2 a a2 s s2 result
  took_on judge b t t1 t2 a a2 s s2 result k = subst (λ x. IsTook judge b t x t2 a a2 s s2 result) k.entered.tree k

  pub took : (judge : Judge) (b : Block) (t t1 t2 : Tree) (a a2 : List ChainHead) (s s2 : Stack W) (id : List ℕ) (result : Result ℕ BranchError) → id ≡ id_of b → IsEntered judge b t t1 →
      block_num t1.head < block_num id → Takes id t1 t2 a a2 s s2 result → IsTook judge b t t1 t2 a a2 s s2 result
  took judge b t t1 t2 a a2 s s2 id result e entered longer takes = record {
    entered = entered;
    longer = subst (λ i. block_num t1.head < block_num i) e longer;
    takes = subst (λ i. Takes i t1 t2 a a2 s s2 result) e takes;
  }

  -- ---- a block whose branch isn't longer

  pub pushed_kept : (p : Play W) (b : Block) (t t1 t2 : Tree) (a : List ChainHead) (chain chain2 : List ℕ) (s s2 : Stack W) (q q2 : Option (Making W)) (n n2 : ℕ) (id : List ℕ) →
      IsStanding (standing t a chain s q n) → id ≡ id_of b → IsEntered p.judge b t t1 → block_num id ≤ block_num t1.head → t2 ≡ settled t1 → s2 ≡ committed t2.irreversible s →
      Holds p (branch t.head t.kept) (worlds s) → IsPushed p b (standing t a chain s q n) (standing t2 a chain2 s2 q2 n2) (Ok Kept)
  pushed_kept p b t t1 t2 a chain chain2 s s2 q q2 n n2 id is i e le settle commit old =
      let f = fresh t b is.tree e.fits e.small in
      let short : nat_lt (block_num t.head) (num_of b) ≡ false =
      longer_false (block_num t.head) (num_of b) (subst (λ x. num_of b ≤ block_num x.head) e.tree (subst (λ j. block_num j ≤ block_num t1.head) i le)) in
      let to = settle ∙ ap settled e.tree in
      let end = after (with_block b t) t2 f.tree is.low to in
      record {
        answer = record { passes = passed p.judge t b e.fits e.sealed; longer = short };
        choice = rw short (ap (λ x. record { tree = x; applied = a }) to);
        tables =
            subst (λ z. Holds p (branch t2.head t2.kept) (worlds z)) (sym commit)
            (committed_holds p (branch t2.head t2.kept) t2.irreversible s (subst (λ bs. Holds p bs (worlds s)) (sym (end.same ∙ f.same)) old));
      }

  pub standing_kept : (judge : Judge) (b : Block) (t t1 t2 : Tree) (a : List ChainHead) (chain chain2 : List ℕ) (s s2 : Stack W) (q q2 : Option (Making W)) (n n2 : ℕ) (id : List ℕ) →
      IsStanding (standing t a chain s q n) → id ≡ id_of b → IsEntered judge b t t1 → block_num id ≤ block_num t1.head → t2 ≡ settled t1 → s2 ≡ committed t2.irreversible s →
      IsStanding (standing t2 a chain2 s2 q2 n2)
  standing_kept judge b t t1 t2 a chain chain2 s s2 q q2 n n2 id is i e le settle commit =
      let f = fresh t b is.tree e.fits e.small in
      let end = after (with_block b t) t2 f.tree is.low (settle ∙ ap settled e.tree) in
      let low : num_of b ≤ block_num t.head = subst (λ x. num_of b ≤ block_num x.head) e.tree (subst (λ j. block_num j ≤ block_num t1.head) i le) in
      record {
        no_shelf = subst (λ z. z.shelf ≡ None) (sym commit) is.no_shelf;
        revision = ap (λ z. z.revision) commit ∙ is.revision ∙ sym (ap block_num end.head);
        enough = subst (λ z. z.revision ≤ t2.irreversible + length z.under) (sym commit) (committed_enough t.irreversible t2.irreversible s is.enough end.up);
        open_up = end.open_up;
        low = end.low;
        topmost = end.within (low, is.topmost);
        tree = end.tree;
      }

  -- ---- a block whose branch is longer

  pushed_in : (p : Play W) (b : Block) (t t2 : Tree) (a a2 : List ChainHead) (chain chain2 : List ℕ) (s s2 : Stack W) (q q2 : Option (Making W)) (n n2 : ℕ) (result : Result ℕ BranchError) → IsTree t →
      t.irreversible ≤ block_num t.head → IsTook p.judge b t (with_block b t) t2 a a2 s s2 result → Holds p (branch t.head t.kept) (worlds s) → BranchEnds p (branch (id_of b) (b ∷ t.kept)) s2 result →
      IsPushed p b (standing t a chain s q n) (standing t2 a2 chain2 s2 q2 n2) (answered result)
  pushed_in p b t t2 a a2 chain chain2 s s2 q q2 n n2 (Ok position) is low k old ends =
      let long = longer_true (block_num t.head) (num_of b) k.longer in
      let w = holds_top p (branch (id_of b) (b ∷ t.kept)) s2 ends in
      record {
        answer = record { passes = passed p.judge t b k.entered.fits k.entered.sealed; longer = long; replayed = subst IsOk (sym w) refl; place = k.takes.place };
        choice = rw (long, w) (same_choice _ _ _ _ k.takes.tree k.takes.applied);
        tables = subst (λ bs. Holds p bs (worlds s2)) (sym (after (with_head (id_of b) (with_block b t)) t2 (headed t b is k.entered.fits k.entered.small) (omega (arith, low, k.longer)) k.takes.tree).same) ends;
      }
  pushed_in p b t t2 a a2 chain chain2 s s2 q q2 n n2 (Err OutOfMemory) is low k old ends =
      let e = k.takes.tree ∙ (fresh t b is k.entered.fits k.entered.small).gone in
      record {
        answer = tt;
        choice = same_choice _ _ _ _ e k.takes.applied;
        tables = subst (λ x. Holds p (branch x.head x.kept) (worlds s2)) (sym e) (subst (λ z. Holds p (branch t.head t.kept) (worlds z)) (sym k.takes.stack) old);
      }
  pushed_in p b t t2 a a2 chain chain2 s s2 q q2 n n2 (Err (Invalid block code)) is low k old ends =
      let long = longer_true (block_num t.head) (num_of b) k.longer in
      let f = fresh t b is k.entered.fits k.entered.small in
      let same : branch t.head (dropped block (with_block b t)).kept ≡ branch t.head t.kept = dropped_head (with_block b t) block f.tree k.takes.1.off ∙ f.same in
      record {
        answer = record { passes = passed p.judge t b k.entered.fits k.entered.sealed; longer = long; replayed = ends };
        choice = rw (long, ends) (same_choice _ _ _ _ k.takes.0.tree k.takes.0.applied);
        tables =
            subst (λ x. Holds p (branch x.head x.kept) (worlds s2)) (sym k.takes.0.tree)
            (subst (λ bs. Holds p bs (worlds s2)) (sym same) (subst (λ z. Holds p (branch t.head t.kept) (worlds z)) (sym k.takes.0.stack) old));
      }

  pub pushed_taken : (p : Play W) (b : Block) (t t1 t2 : Tree) (a a2 : List ChainHead) (chain chain2 : List ℕ) (s s2 : Stack W) (q q2 : Option (Making W)) (n n2 : ℕ) (result : Result ℕ BranchError) →
      IsTree t → t.irreversible ≤ block_num t.head → IsTook p.judge b t t1 t2 a a2 s s2 result → Holds p (branch t.head t.kept) (worlds s) → BranchEnds p (branch (id_of b) t1.kept) s2 result →
      IsPushed p b (standing t a chain s q n) (standing t2 a2 chain2 s2 q2 n2) (answered result)
  pushed_taken p b t t1 t2 a a2 chain chain2 s s2 q q2 n n2 result is low k old ends =
      pushed_in p b t t2 a a2 chain chain2 s s2 q q2 n n2 result is low (took_on p.judge b t t1 t2 a a2 s s2 result k) old
      (subst (λ x. BranchEnds p (branch (id_of b) x.kept) s2 result) k.entered.tree ends)

  -- the tables on the tree with the block
  pub entered_holds : (p : Play W) (judge : Judge) (b : Block) (t t1 : Tree) (s : Stack W) → IsTree t → IsEntered judge b t t1 → Holds p (branch t.head t.kept) (worlds s) →
      Holds p (branch t1.head t1.kept) (worlds s)
  entered_holds p judge b t t1 s is e h =
      subst (λ x. Holds p (branch x.head x.kept) (worlds s)) (sym e.tree) (rw (fresh t b is e.fits e.small).same h)

  -- ---- what holds of every chain

  pub same_standing : (t t2 : Tree) (a a2 : List ChainHead) (chain chain2 : List ℕ) (s s2 : Stack W) (q q2 : Option (Making W)) (n n2 : ℕ) → t2 ≡ t → s2 ≡ s →
      IsStanding (standing t a chain s q n) → IsStanding (standing t2 a2 chain2 s2 q2 n2)
  same_standing t t2 a a2 chain chain2 s s2 q q2 n n2 e f is = record {
    no_shelf = subst (λ z. z.shelf ≡ None) (sym f) is.no_shelf;
    revision = ap (λ z. z.revision) f ∙ is.revision ∙ sym (ap (λ x. block_num x.head) e);
    enough = omega (arith, is.enough, ap (λ z. z.revision) f, ap (λ z. length z.under) f, ap (λ x. x.irreversible) e);
    open_up = subst (λ x. AllOpen x.irreversible (branch x.head x.kept) x.kept) (sym e) is.open_up;
    low = subst (λ x. x.irreversible ≤ block_num x.head) (sym e) is.low;
    topmost = subst (λ x. AllWithin (block_num x.head) x.kept) (sym e) is.topmost;
    tree = subst IsTree (sym e) is.tree;
  }

  standing_in : (judge : Judge) (b : Block) (t t2 : Tree) (a a2 : List ChainHead) (chain chain2 : List ℕ) (s s2 : Stack W) (q q2 : Option (Making W)) (n n2 : ℕ) (result : Result ℕ BranchError) →
      IsStanding (standing t a chain s q n) → IsTook judge b t (with_block b t) t2 a a2 s s2 result → IsStanding (standing t2 a2 chain2 s2 q2 n2)
  standing_in judge b t t2 a a2 chain chain2 s s2 q q2 n n2 (Ok position) is k =
      let mid = k.takes.mid in
      let end = after (with_head (id_of b) (with_block b t)) t2 (headed t b is.tree k.entered.fits k.entered.small) (omega (arith, is.low, k.longer)) k.takes.tree in
      record {
        no_shelf = subst (λ z. z.shelf ≡ None) (sym k.takes.stack) k.takes.replaced.no_shelf;
        revision = ap (λ z. z.revision) k.takes.stack ∙ k.takes.replaced.revision ∙ sym (ap block_num end.head);
        enough =
            subst (λ z. z.revision ≤ t2.irreversible + length z.under) (sym k.takes.stack)
            (committed_enough t.irreversible t2.irreversible mid (omega (arith, is.enough, k.takes.replaced.depth)) end.up);
        open_up = end.open_up;
        low = end.low;
        topmost = end.within (omega arith, within_up (block_num t.head) (num_of b) t.kept (omega (arith, k.longer)) is.topmost);
        tree = end.tree;
      }
  standing_in judge b t t2 a a2 chain chain2 s s2 q q2 n n2 (Err OutOfMemory) is k =
      same_standing t t2 a a2 chain chain2 s s2 q q2 n n2 (k.takes.tree ∙ (fresh t b is.tree k.entered.fits k.entered.small).gone) k.takes.stack is
  standing_in judge b t t2 a a2 chain chain2 s s2 q q2 n n2 (Err (Invalid block code)) is k =
      let f = fresh t b is.tree k.entered.fits k.entered.small in
      record {
        no_shelf = subst (λ z. z.shelf ≡ None) (sym k.takes.0.stack) is.no_shelf;
        revision = ap (λ z. z.revision) k.takes.0.stack ∙ is.revision ∙ sym (ap (λ x. block_num x.head) k.takes.0.tree);
        enough = omega (arith, is.enough, ap (λ z. z.revision) k.takes.0.stack, ap (λ z. length z.under) k.takes.0.stack, ap (λ x. x.irreversible) k.takes.0.tree);
        open_up =
            subst (λ x. AllOpen x.irreversible (branch x.head x.kept) x.kept) (sym k.takes.0.tree)
            (subst (λ bs. AllOpen t.irreversible bs (dropped block (with_block b t)).kept) (sym (dropped_head (with_block b t) block f.tree k.takes.1.off))
            (all_pruned (λ c. is_open t.irreversible (branch t.head (b ∷ t.kept)) c ≡ true) (other_than block) (id_of t.genesis) (b ∷ t.kept)
            (open_new t b f.same (omega (arith, is.low, k.longer)) is.open_up)));
        low = subst (λ x. x.irreversible ≤ block_num x.head) (sym k.takes.0.tree) is.low;
        topmost =
            subst (λ x. AllWithin (block_num x.head) x.kept) (sym k.takes.0.tree)
            (within_dropped block (id_of t.genesis) b t.kept (block_num t.head) f.tree.placed is.topmost k.takes.1.on);
        tree = subst IsTree (sym k.takes.0.tree) (dropped_tree (with_block b t) block f.tree k.takes.1.off);
      }

  pub standing_taken : (judge : Judge) (b : Block) (t t1 t2 : Tree) (a a2 : List ChainHead) (chain chain2 : List ℕ) (s s2 : Stack W) (q q2 : Option (Making W)) (n n2 : ℕ) (result : Result ℕ BranchError) →
      IsStanding (standing t a chain s q n) → IsTook judge b t t1 t2 a a2 s s2 result → IsStanding (standing t2 a2 chain2 s2 q2 n2)
  standing_taken judge b t t1 t2 a a2 chain chain2 s s2 q q2 n n2 result is k =
      standing_in judge b t t2 a a2 chain chain2 s s2 q q2 n n2 result is (took_on judge b t t1 t2 a a2 s s2 result k)

  -- ---- where the block didn't enter

  answered_out : (p : Play W) (c : Choice) (b : Block) (e : PushError) → IsBarred (barrier p.judge c.tree b) e → is_invalid e ≡ false → IsAnswer p c b (Err e)
  answered_out p c b push.OutOfMemory cause other = tt
  answered_out p c b push.Known cause other = cause
  answered_out p c b (push.Unlinkable previous) cause other = cause
  answered_out p c b push.BadRoot cause other = cause
  answered_out p c b push.BadSlot cause other = cause
  answered_out p c b push.BadProducer cause other = cause
  answered_out p c b push.BadSeal cause other = cause
  answered_out p c b (push.Invalid block code) cause other = cc

  pub pushed_out : (p : Play W) (b : Block) (t t1 : Tree) (a : List ChainHead) (chain : List ℕ) (s : Stack W) (q q2 : Option (Making W)) (n : ℕ) (e : PushError) → IsOut p.judge b e t t1 →
      Holds p (branch t.head t.kept) (worlds s) → IsPushed p b (standing t a chain s q n) (standing t1 a chain s q2 n) (Err e)
  pushed_out p b t t1 a chain s q q2 n e out old = record {
    answer = answered_out p (choice_of t a) b e out.cause out.other;
    choice = rw out.other (same_choice _ _ _ _ out.tree refl);
    tables = subst (λ x. Holds p (branch x.head x.kept) (worlds s)) (sym out.tree) old;
  }

  pub refused_out : (judge : Judge) (b : Block) (t t1 : Tree) (a : List ChainHead) (chain : List ℕ) (s : Stack W) (q q2 : Option (Making W)) (n : ℕ) (e : PushError) → IsOut judge b e t t1 →
      IsRefused (barrier judge t b) b e (standing t a chain s q n) (standing t1 a chain s q2 n)
  refused_out judge b t t1 a chain s q q2 n e out = record {
    cause = out.cause;
    choice = same_choice _ _ _ _ out.tree refl ∙ sym (unrefused b e (choice_of t a) out.other);
    head = ap (λ x. x.head) out.tree;
    applied = refl;
    stack = refl;
  }

  -- ---- a refusal after it

  refused_in : (judge : Judge) (b : Block) (t t2 : Tree) (a a2 : List ChainHead) (chain chain2 : List ℕ) (s s2 : Stack W) (q q2 : Option (Making W)) (n n2 : ℕ) (result : Result ℕ BranchError) → IsTree t →
      IsTook judge b t (with_block b t) t2 a a2 s s2 result →
      IfErr (answered result) (λ e. IsRefused (barrier judge t b) b e (standing t a chain s q n) (standing t2 a2 chain2 s2 q2 n2))
  refused_in judge b t t2 a a2 chain chain2 s s2 q q2 n n2 (Ok done) is k = tt
  refused_in judge b t t2 a a2 chain chain2 s s2 q q2 n n2 (Err OutOfMemory) is k =
      let e = k.takes.tree ∙ (fresh t b is k.entered.fits k.entered.small).gone in
      record { cause = tt; choice = same_choice _ _ _ _ e k.takes.applied; head = ap (λ x. x.head) e; applied = k.takes.applied; stack = k.takes.stack }
  refused_in judge b t t2 a a2 chain chain2 s s2 q q2 n n2 (Err (Invalid block code)) is k = record {
    cause = passed judge t b k.entered.fits k.entered.sealed;
    choice = same_choice _ _ _ _ k.takes.0.tree k.takes.0.applied;
    head = ap (λ x. x.head) k.takes.0.tree;
    applied = k.takes.0.applied;
    stack = k.takes.0.stack;
  }

  pub refused_taken : (judge : Judge) (b : Block) (t t1 t2 : Tree) (a a2 : List ChainHead) (chain chain2 : List ℕ) (s s2 : Stack W) (q q2 : Option (Making W)) (n n2 : ℕ) (result : Result ℕ BranchError) →
      IsTree t → IsTook judge b t t1 t2 a a2 s s2 result →
      IfErr (answered result) (λ e. IsRefused (barrier judge t b) b e (standing t a chain s q n) (standing t2 a2 chain2 s2 q2 n2))
  refused_taken judge b t t1 t2 a a2 chain chain2 s s2 q q2 n n2 result is k =
      refused_in judge b t t2 a a2 chain chain2 s s2 q q2 n n2 result is (took_on judge b t t1 t2 a a2 s s2 result k)
