-- The block that was made is the head's next, and breaks no rule.
use Rattle.std.proofs.Common.{◌≡◌, ◌==◌, ℕ, ◌+◌, ◌<◌, ◌≤◌, Bool, true, false, List, [], ◌∷◌, ◌++◌, length, Option, Some, None, is_some, IsNone, IsSome, IfSome, Ok, refl, sym, ap, subst, ◌∙◌, arith, nat_le, if◌then◌else◌, length-append}
use Rattle.std.proofs.lemmas.Bool.Decides.{nat_tests}
use Rattle.std.specs.Str.{bytes_eq}
use Rattle.ante_pack.specs.declared.names.Name.{Name}
use Rattle.ante_types.specs.declared.chain.Block.{Block}
use Rattle.ante_types.specs.declared.chain.BlockInfo.{BlockInfo}
use Rattle.ante_types.specs.declared.chain.Head.{Head as ChainHead}
use Rattle.ante_types.specs.declared.chain.Receipt.{Receipt}
use Rattle.ante_types.specs.Ids.{block_num, block_id, trx_root}
use Rattle.ante_undo.specs.Stack.{Stack, committed}
use Rattle.ante_verdicts.specs.Judge.{Judge, IsSealed}
use Rattle.ante_machine.specs.Steps.{info_of, receipts_run}
use Rattle.ante_machine.specs.Stacks.{Pending, above}
use Rattle.ante_fork.specs.declared.AddError.TheVariants.{Known, Unlinkable}
use Rattle.ante_fork.specs.Finality.{settled}
use Rattle.ante_fork.specs.Rules.{refusal, misfit, misplaced, producer_at}
use Rattle.ante_fork.specs.Tree.{Tree, id_of, num_of, block_at, find_block, branch, with_block, with_head, IsTree}
use Rattle.ante_fork.proofs.Added.{id_num}
use Rattle.ante_fork.proofs.Branches.{same, kept_here, placed_num}
use Rattle.ante_fork.proofs.Pruned.{same_refl}
use Rattle.ante_control.specs.declared.error.Pushed.TheVariants.{Head}
use Rattle.ante_control.specs.Chosen.{Play, head_of}
use Rattle.ante_control.specs.Held.{IsHeld, IsNext}
use Rattle.ante_control.specs.Making.{Making, made_header, sealed_block}
use Rattle.ante_control.specs.Pushing.{IsPushed, IsEntered}
use Rattle.ante_control.specs.Sealed.{IsCrowned}
use Rattle.ante_control.specs.Shown.{standing, making}
use Rattle.ante_control.specs.Tabled.{IsStanding, Holds, AllWithin, worlds}
use Rattle.ante_control.proofs.Idle.{nothing, not_made}
use Rattle.ante_control.proofs.Lengths.{as_short, kept_length, root_length, receipts_fit}
use Rattle.ante_control.proofs.Open.{committed_holds}
use Rattle.ante_control.proofs.Pushes.{IsTook, passed, pushed_taken, standing_taken}
use Rattle.ante_control.proofs.Sealing.{sealed_runs}
use Rattle.ante_control.proofs.Worlds.{holds_above}

-- ---- it isn't kept yet

other_num : (a b : List ℕ) (n : ℕ) → block_num b ≤ n → n < block_num a → (t : Bool) → bytes_eq a b ≡ t → t ≡ false
other_num a b n le lt true e = let h : block_num a ≡ block_num b = ap block_num (same a b e) in absurd (omega (arith, h, le, lt))
other_num a b n le lt false e = refl

not_found_by : (id : List ℕ) (b : Block) (older : List Block) (t : Bool) → t ≡ false → find_block id older ≡ None → (if t then Some b else find_block id older) ≡ None
not_found_by id b older true e h = cc
not_found_by id b older false e h = h

not_found : (id : List ℕ) (n : ℕ) (kept : List Block) → AllWithin n kept → n < block_num id → find_block id kept ≡ None
not_found id n [] all lt = refl
not_found id n (b ∷ older) all lt =
    not_found_by id b older (bytes_eq id (id_of b)) (other_num id (id_of b) n all.0 lt (bytes_eq id (id_of b)) refl) (not_found id n older all.1 lt)

not_kept : (t : Tree) (id : List ℕ) → IsTree t → AllWithin (block_num t.head) t.kept → block_num t.head < block_num id → is_some (block_at id t) ≡ false
not_kept t id is all lt =
    let head = placed_num (id_of t.genesis) t.kept t.head is.first is.placed (kept_here t t.head is.head) in
    let apart : bytes_eq id (id_of t.genesis) ≡ false =
    other_num id (id_of t.genesis) (block_num t.head) (omega (arith, is.first, head)) lt (bytes_eq id (id_of t.genesis)) refl in
    let none = not_found id (block_num t.head) t.kept all lt in
    rw (apart, none) refl

-- ---- it breaks no rule

not_equal : (n m : ℕ) → n < m → (n == m) ≡ false
not_equal n m lt = grind (arith, nat_tests)

equal : (n : ℕ) → (n == n) ≡ true
equal n = grind (arith, nat_tests)

not_below : (n m : ℕ) → m < n → nat_le n m ≡ false
not_below n m lt = grind (arith, nat_tests)

fits_on : (producers : List Name) (previous b : Block) → b.header.trx_root ≡ trx_root b.receipts → previous.header.slot < b.header.slot → b.header.producer ≡ producer_at producers b.header.slot →
    misfit producers previous b ≡ None
fits_on producers previous b root slot turn =
    let r : bytes_eq b.header.trx_root (trx_root b.receipts) ≡ true = subst (λ x. bytes_eq b.header.trx_root x ≡ true) root (same_refl b.header.trx_root) in
    let s : nat_le b.header.slot previous.header.slot ≡ false = not_below b.header.slot previous.header.slot slot in
    let p : (b.header.producer.0 == (producer_at producers b.header.slot).0) ≡ true =
    subst (λ x. (b.header.producer.0 == x.0) ≡ true) turn (equal b.header.producer.0) in
    rw (r, s, p) refl

fits_at : (producers : List Name) (b : Block) (o : Option Block) → is_some o ≡ true → IfSome o (λ previous. previous.header.slot < b.header.slot) → b.header.trx_root ≡ trx_root b.receipts →
    b.header.producer ≡ producer_at producers b.header.slot → misplaced producers o b ≡ None
fits_at producers b None some later root turn = cc
fits_at producers b (Some previous) some later root turn = fits_on producers previous b root later turn

refused_by : (t : Tree) (b : Block) (last known : Bool) → last ≡ false → known ≡ false → misplaced t.producers (block_at b.header.previous t) b ≡ None →
    (if last then Some (Unlinkable b.header.previous) else (if known then Some Known else misplaced t.producers (block_at b.header.previous t) b)) ≡ None
refused_by t b true known e f h = cc
refused_by t b false true e f h = cc
refused_by t b false false e f h = h

-- a block upon the head, of a slot that is its producer's
pub made_fits : (judge : Judge) (t : Tree) (info : BlockInfo) (rs : List Receipt) → IsTree t → AllWithin (block_num t.head) t.kept → IsNext t info → refusal t (sealed_block judge info rs) ≡ None
made_fits judge t info rs is all next =
    let b : Block = sealed_block judge info rs in
    let small : block_num info.previous < 4294967295 = subst (λ i. block_num i < 4294967295) (sym next.previous) next.turn.small in
    let num : block_num (id_of b) ≡ block_num t.head + 1 = id_num b.header (omega (arith, small)) ∙ ap (λ i. block_num i + 1) next.previous in
    let here : is_some (block_at info.previous t) ≡ true = subst (λ i. is_some (block_at i t) ≡ true) (sym next.previous) is.head in
    let later : IfSome (block_at info.previous t) (λ p. p.header.slot < info.slot) =
    subst (λ i. IfSome (block_at i t) (λ p. p.header.slot < info.slot)) (sym next.previous) next.turn.later in
    refused_by t b (block_num info.previous == 4294967295) (is_some (block_at (id_of b) t)) (not_equal (block_num info.previous) 4294967295 small)
    (not_kept t (id_of b) is all (omega (arith, num)))
    (fits_at t.producers b (block_at info.previous t) here later refl next.turn.turn)

module _ {W : Type 0} where
  -- ---- what becomes of it

  -- the tree, the applied list and the machine's worlds where the block is the head
  pub record IsEnded (judge : Judge) (m : Making W) (t t2 : Tree) (a a2 : List ChainHead) (s s2 : Stack W) (w : W) : Type 0 where
    pub tree : t2 ≡ settled (with_head (id_of (sealed_block judge m.info m.receipts)) (with_block (sealed_block judge m.info m.receipts) t))
    pub applied : a2 ≡ a ++ head_of (sealed_block judge m.info m.receipts) ∷ []
    pub stack : s2 ≡ committed t2.irreversible (above w s)

  entered : (judge : Judge) (m : Making W) (t : Tree) → IsTree t → AllWithin (block_num t.head) t.kept → IsNext t m.info →
      IsSealed judge m.info.producer.0 (block_id (made_header m.info m.receipts)) → IsEntered judge (sealed_block judge m.info m.receipts) t (with_block (sealed_block judge m.info m.receipts) t)
  entered judge m t is all next seal = record {
    fits = made_fits judge t m.info m.receipts is all next;
    sealed = seal.2;
    tree = refl;
    small = subst (λ i. block_num i < 4294967295) (sym next.previous) next.turn.small;
  }

  longer : (judge : Judge) (m : Making W) (t : Tree) → IsNext t m.info → num_of (sealed_block judge m.info m.receipts) ≡ block_num t.head + 1
  longer judge m t next =
      let small : block_num m.info.previous < 4294967295 = subst (λ i. block_num i < 4294967295) (sym next.previous) next.turn.small in
      id_num (made_header m.info m.receipts) (omega (arith, small)) ∙ ap (λ i. block_num i + 1) next.previous

  ended_took : (judge : Judge) (m : Making W) (t t2 : Tree) (a a2 : List ChainHead) (s s2 : Stack W) (w : W) → IsTree t → AllWithin (block_num t.head) t.kept → IsNext t m.info →
      IsSealed judge m.info.producer.0 (block_id (made_header m.info m.receipts)) → s.shelf ≡ None → s.revision ≡ block_num t.head → IsEnded judge m t t2 a a2 s s2 w →
      IsTook judge (sealed_block judge m.info m.receipts) t (with_block (sealed_block judge m.info m.receipts) t) t2 a a2 s s2 (Ok (length a))
  ended_took judge m t t2 a a2 s s2 w is all next seal shelf revision end = record {
    entered = entered judge m t is all next seal;
    longer = omega (arith, longer judge m t next);
    takes = record {
      tree = end.tree;
      applied = end.applied;
      place = refl;
      mid = above w s;
      replaced = record { no_shelf = shelf; revision = omega (arith, revision, longer judge m t next); depth = omega (arith, length-append s.under (s.top ∷ [])) };
      stack = end.stack;
    };
  }

  pub ended_standing : (judge : Judge) (m : Making W) (t t2 : Tree) (a a2 : List ChainHead) (chain chain2 : List ℕ) (s s2 : Stack W) (q q2 : Option (Making W)) (n n2 : ℕ) (w : W) →
      IsStanding (standing t a chain s q n) → IsNext t m.info → IsSealed judge m.info.producer.0 (block_id (made_header m.info m.receipts)) → IsEnded judge m t t2 a a2 s s2 w →
      IsStanding (standing t2 a2 chain2 s2 q2 n2)
  ended_standing judge m t t2 a a2 chain chain2 s s2 q q2 n n2 w is next seal end =
      let b : Block = sealed_block judge m.info m.receipts in
      standing_taken judge b t (with_block b t) t2 a a2 chain chain2 s s2 q q2 n n2 (Ok (length a)) is (ended_took judge m t t2 a a2 s s2 w is.tree is.topmost next seal is.no_shelf is.revision end)

  ended_holds : (p : Play W) (m : Making W) (t : Tree) (s : Stack W) → IsNext t m.info → s.revision ≡ block_num t.head →
      receipts_run p.steps p.chain p.judge m.info m.receipts (p.steps.begin p.chain s.top m.info) ≡ Ok m.world → Holds p (branch t.head t.kept) (worlds s) →
      Holds p (branch (id_of (sealed_block p.judge m.info m.receipts)) (sealed_block p.judge m.info m.receipts ∷ t.kept))
      (worlds (above (p.steps.finish p.chain m.world m.info.num (id_of (sealed_block p.judge m.info m.receipts))) s))
  ended_holds p m t s next revision runs old =
      let b : Block = sealed_block p.judge m.info m.receipts in
      let num : m.info.num ≡ block_num m.info.previous + 1 = next.num ∙ ap (λ i. block_num i + 1) (sym next.previous) in
      let info : m.info ≡ info_of b.header = λ i. record { num = num i; slot = m.info.slot; producer = m.info.producer; previous = m.info.previous } in
      let runs2 : receipts_run p.steps p.chain p.judge (info_of b.header) b.receipts (p.steps.begin p.chain s.top (info_of b.header)) ≡ Ok m.world =
      subst (λ x. receipts_run p.steps p.chain p.judge x m.receipts (p.steps.begin p.chain s.top x) ≡ Ok m.world) info runs in
      let block = sealed_runs p.steps p.chain p.judge b s.top m.world runs2 in
      let low : Holds p (branch m.info.previous t.kept) (worlds s) = subst (λ i. Holds p (branch i t.kept) (worlds s)) (sym next.previous) old in
      let up = holds_above p b (branch m.info.previous t.kept) (p.steps.finish p.chain m.world (block_num m.info.previous + 1) (id_of b)) s low block in
      rw (same_refl (id_of b)) (subst (λ k. Holds p (b ∷ branch m.info.previous t.kept) (worlds (above (p.steps.finish p.chain m.world k (id_of b)) s))) (sym num) up)

  -- the chain is as after a push of the block
  pub ended_pushed : (p : Play W) (m : Making W) (t t2 : Tree) (a a2 : List ChainHead) (chain chain2 : List ℕ) (s s2 : Stack W) (q q2 : Option (Making W)) (n n2 : ℕ) →
      IsStanding (standing t a chain s q n) → IsNext t m.info → IsSealed p.judge m.info.producer.0 (block_id (made_header m.info m.receipts)) →
      IsEnded p.judge m t t2 a a2 s s2 (p.steps.finish p.chain m.world m.info.num (id_of (sealed_block p.judge m.info m.receipts))) →
      receipts_run p.steps p.chain p.judge m.info m.receipts (p.steps.begin p.chain s.top m.info) ≡ Ok m.world → Holds p (branch t.head t.kept) (worlds s) →
      IsPushed p (sealed_block p.judge m.info m.receipts) (standing t a chain s q n) (standing t2 a2 chain2 s2 q2 n2) (Ok (Head (length a)))
  ended_pushed p m t t2 a a2 chain chain2 s s2 q q2 n n2 is next seal end runs old =
      let b : Block = sealed_block p.judge m.info m.receipts in
      let w : W = p.steps.finish p.chain m.world m.info.num (id_of b) in
      let bs : List Block = branch (id_of b) (b ∷ t.kept) in
      let holds = committed_holds p bs t2.irreversible (above w s) (ended_holds p m t s next is.revision runs old) in
      pushed_taken p b t (with_block b t) t2 a a2 chain chain2 s s2 q q2 n n2 (Ok (length a)) is.tree is.low
      (ended_took p.judge m t t2 a a2 s s2 w is.tree is.topmost next seal is.no_shelf is.revision end) old (subst (λ z. Holds p bs (worlds z)) (sym end.stack) holds)

  pub ended_crowned : (judge : Judge) (m : Making W) (t t2 : Tree) (a a2 : List ChainHead) (chain chain2 : List ℕ) (s s2 : Stack W) (q q2 : Option (Making W)) (n n2 size : ℕ) (o : Option (Pending W)) (w : W) →
      IsStanding (standing t a chain s q n) → IsNext t m.info → IsHeld t (Some m.info) m.receipts size o →
      IsSealed judge m.info.producer.0 (block_id (made_header m.info m.receipts)) → IsEnded judge m t t2 a a2 s s2 w → IsNone q2 →
      IsCrowned judge (sealed_block judge m.info m.receipts) (standing t a chain s q n) (standing t2 a2 chain2 s2 q2 n2)
  ended_crowned judge m t t2 a a2 chain chain2 s s2 q q2 n n2 size o w is next held seal end idle =
      let b : Block = sealed_block judge m.info m.receipts in
      let e = entered judge m t is.tree is.topmost next seal in
      let previous : length m.info.previous ≡ 32 = ap length next.previous ∙ kept_length t t.head is.tree.head in
      record {
        passes = passed judge t b e.fits e.sealed;
        fits = receipts_fit m.receipts held.fits held.small;
        short = omega (arith, as_short b previous (root_length m.receipts) seal.1, held.small);
        choice = λ i. record { tree = end.tree i; applied = end.applied i };
        idle = idle;
      }

  -- ---- the parts of a call that seals

  pub record IsSealing (judge : Judge) (finish : W → (num : ℕ) → (id : List ℕ) → W) (begun : Option BlockInfo) (info : BlockInfo) (slice rs : List Receipt) (size : ℕ) (b : Block) (t t2 : Tree)
      (a a2 : List ChainHead) (s s2 : Stack W) (o o2 : Option (Pending W)) : Type 0 where
    pub some : IsSome (making rs o)
    pub held : IsHeld t begun rs size o
    pub given : begun ≡ Some info
    pub copied : slice ≡ rs
    pub made : b ≡ sealed_block judge info slice
    pub tree : t2 ≡ settled (with_head (id_of b) (with_block b t))
    pub applied : a2 ≡ a ++ head_of b ∷ []
    pub stack : IfSome o (λ p. s2 ≡ committed t2.irreversible (above (finish p.world p.info.num (id_of b)) s))
    pub idle : IsNone o2
    pub seals : (producer : ℕ) (id : List ℕ) → IsSealed judge producer id

  pub next_of : (t : Tree) (begun : Option BlockInfo) (info : BlockInfo) (rs : List Receipt) (size : ℕ) (o : Option (Pending W)) → IsHeld t begun rs size o → begun ≡ Some info → IsNext t info
  next_of t begun info rs size o held given = subst (λ x. IfSome x (IsNext t)) given held.next

  abbrev made_at : List Receipt → Pending W → Making W
  made_at rs p = record { info = p.info; receipts = rs; world = p.world }

  module _ (judge : Judge) (finish : W → (num : ℕ) → (id : List ℕ) → W) (begun : Option BlockInfo) (info : BlockInfo) (slice rs : List Receipt) (size : ℕ) (b : Block) (t t2 : Tree) (a a2 : List ChainHead)
      (chain chain2 : List ℕ) (s s2 : Stack W) (n n2 : ℕ) where
    next_on : (p : Pending W) (o2 : Option (Pending W)) → IsSealing judge finish begun info slice rs size b t t2 a a2 s s2 (Some p) o2 → IsNext t p.info
    next_on p o2 k = subst (λ x. IfSome x (IsNext t)) k.held.same k.held.next

    ended : (p : Pending W) (o2 : Option (Pending W)) → IsSealing judge finish begun info slice rs size b t t2 a a2 s s2 (Some p) o2 →
        IsEnded judge (made_at rs p) t t2 a a2 s s2 (finish p.world p.info.num (id_of (sealed_block judge p.info rs)))
    ended p o2 k =
        let both : Some info ≡ Some p.info = sym k.given ∙ k.held.same in
        let same : info ≡ p.info = cc in
        let block : b ≡ sealed_block judge p.info rs = k.made ∙ ap (λ i. sealed_block judge i slice) same ∙ ap (sealed_block judge p.info) k.copied in
        record {
          tree = k.tree ∙ ap (λ x. settled (with_head (id_of x) (with_block x t))) block;
          applied = k.applied ∙ ap (λ x. a ++ head_of x ∷ []) block;
          stack = k.stack ∙ ap (λ x. committed t2.irreversible (above (finish p.world p.info.num (id_of x)) s)) block;
        }

    pub sealing_standing : (o o2 : Option (Pending W)) → IsStanding (standing t a chain s (making rs o) n) → IsSealing judge finish begun info slice rs size b t t2 a a2 s s2 o o2 →
        IsStanding (standing t2 a2 chain2 s2 (making rs o2) n2)
    sealing_standing None o2 is k = absurd (let h = k.some in cc)
    sealing_standing (Some p) o2 is k =
        ended_standing judge (made_at rs p) t t2 a a2 chain chain2 s s2 (making rs (Some p)) (making rs o2) n n2 (finish p.world p.info.num (id_of (sealed_block judge p.info rs))) is (next_on p o2 k)
        (k.seals p.info.producer.0 (block_id (made_header p.info rs))) (ended p o2 k)

    pub sealing_held : (o o2 : Option (Pending W)) → IsSealing judge finish begun info slice rs size b t t2 a a2 s s2 o o2 → IsHeld t2 None rs size o2
    sealing_held o o2 k = record { same = sym (nothing o2 k.idle); next = tt; bytes = k.held.bytes; small = k.held.small; fits = k.held.fits }

    pub sealing_crowned : (o o2 : Option (Pending W)) → IsStanding (standing t a chain s (making rs o) n) → IsSealing judge finish begun info slice rs size b t t2 a a2 s s2 o o2 →
        IfSome (making rs o) (λ m. IsCrowned judge (sealed_block judge m.info m.receipts) (standing t a chain s (making rs o) n) (standing t2 a2 chain2 s2 (making rs o2) n2))
    sealing_crowned None o2 is k = absurd (let h = k.some in cc)
    sealing_crowned (Some p) o2 is k =
        ended_crowned judge (made_at rs p) t t2 a a2 chain chain2 s s2 (making rs (Some p)) (making rs o2) n n2 size (Some p) (finish p.world p.info.num (id_of (sealed_block judge p.info rs))) is (next_on p o2 k)
        (subst (λ x. IsHeld t x rs size (Some p)) k.held.same k.held) (k.seals p.info.producer.0 (block_id (made_header p.info rs))) (ended p o2 k) (not_made rs o2 k.idle)

  pub sealing_pushed : (play : Play W) (begun : Option BlockInfo) (info : BlockInfo) (slice rs : List Receipt) (size : ℕ) (b : Block) (t t2 : Tree) (a a2 : List ChainHead) (chain chain2 : List ℕ) (s s2 : Stack W)
      (n n2 : ℕ) (o o2 : Option (Pending W)) → IsStanding (standing t a chain s (making rs o) n) → IsSealing play.judge (play.steps.finish play.chain) begun info slice rs size b t t2 a a2 s s2 o o2 →
      Holds play (branch t.head t.kept) (worlds s) →
      IfSome (making rs o) (λ m. receipts_run play.steps play.chain play.judge m.info m.receipts (play.steps.begin play.chain s.top m.info) ≡ Ok m.world) →
      IfSome (making rs o) (λ m. IsPushed play (sealed_block play.judge m.info m.receipts) (standing t a chain s (making rs o) n) (standing t2 a2 chain2 s2 (making rs o2) n2) (Ok (Head (length a))))
  sealing_pushed play begun info slice rs size b t t2 a a2 chain chain2 s s2 n n2 None o2 is k old made = absurd (let h = k.some in cc)
  sealing_pushed play begun info slice rs size b t t2 a a2 chain chain2 s s2 n n2 (Some p) o2 is k old made =
      ended_pushed play (made_at rs p) t t2 a a2 chain chain2 s s2 (making rs (Some p)) (making rs o2) n n2 is
      (next_on play.judge (play.steps.finish play.chain) begun info slice rs size b t t2 a a2 chain chain2 s s2 n n2 p o2 k) (k.seals p.info.producer.0 (block_id (made_header p.info rs)))
      (ended play.judge (play.steps.finish play.chain) begun info slice rs size b t t2 a a2 chain chain2 s s2 n n2 p o2 k) made old
