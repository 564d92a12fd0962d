-- The blocks on the way up from the fork point to a kept block.
use Rattle.std.proofs.Common.{◌≡◌, ℕ, zero, suc, ◌+◌, ◌-◌, ◌<◌, true, List, [], ◌∷◌, length, drop, Some, None, is_some, refl, sym, ap, subst, ◌∙◌, arith, add-one, length-append, nat_lt}
use Rattle.std.specs.List.{slice_get}
use Rattle.std.proofs.lemmas.List.{length-drop}
use Rattle.std.proofs.Math.Seq.{drop-append_seam}
use Rattle.std.proofs.lemmas.Bool.Decides.{nat_tests}
use Rattle.ante_types.specs.declared.chain.Block.{Block}
use Rattle.ante_types.specs.Ids.{block_num}
use Rattle.ante_fork.specs.Tree.{Tree, id_of, block_at, find_block, branch, meeting, IsTree}
use Rattle.ante_fork.specs.Paths.{above_fork}
use Rattle.ante_fork.proofs.Branches.{Counted, counted, meets, is_path}
use Rattle.ante_fork.proofs.Apart.{apart}

-- how many blocks of the branch stand above the fork point
abbrev pub rise : Tree → List ℕ → ℕ
rise t id = length (branch id t.kept) - length (meeting id t.head t.kept)

pub way_start : (t : Tree) (id : List ℕ) → drop (rise t id) (branch id t.kept) ≡ meeting id t.head t.kept
way_start t id =
    let m = meets t.kept id t.head in
    let e : rise t id ≡ length m.ups = omega (arith, ap length m.first, length-append m.ups (meeting id t.head t.kept)) in
    ap (λ k. drop k (branch id t.kept)) e ∙ ap (drop (length m.ups)) m.first ∙ drop-append_seam m.ups (meeting id t.head t.kept)

pub record IsCut (bs : List Block) (n : ℕ) (c : Block) : Type 0 where
  pub cut : drop n bs ≡ c ∷ drop (n + 1) bs
  pub num : block_num c.header.previous ≡ length (drop (n + 1) bs) + 1
  pub small : block_num c.header.previous < 4294967295

cut_suc : (bs : List Block) → Counted bs → (n : ℕ) (c : Block) → slice_get bs n ≡ Some c → (drop n bs ≡ c ∷ drop (suc n) bs) × (block_num c.header.previous ≡ length (drop (suc n) bs) + 1) × (block_num c.header.previous < 4294967295)
cut_suc [] h n c e = cc
cut_suc (b ∷ bs) h zero c e = let k : b ≡ c = cc in (ap (λ x. x ∷ bs) k, subst (λ x. block_num x.header.previous ≡ length bs + 1) k h.0, subst (λ x. block_num x.header.previous < 4294967295) k h.1)
cut_suc (b ∷ bs) h (suc n) c e = cut_suc bs h.2 n c e

pub is_cut : (bs : List Block) → Counted bs → (n : ℕ) (c : Block) → slice_get bs n ≡ Some c → IsCut bs n c
is_cut bs h n c e = let p = cut_suc bs h n c e in record {
  cut = subst (λ k. drop n bs ≡ c ∷ drop k bs) (sym (add-one n)) p.0;
  num = subst (λ k. block_num c.header.previous ≡ length (drop k bs) + 1) (sym (add-one n)) p.1;
  small = p.2;
}

lt_true : (k n : ℕ) → k < n → nat_lt k n ≡ true
lt_true k n h = grind (arith, nat_tests)

above_some : (t : Tree) (id : List ℕ) (k : ℕ) → is_some (block_at id t) ≡ true → k < rise t id → above_fork id k t ≡ slice_get (branch id t.kept) (rise t id - 1 - k)
above_some t id k here lt = rw (here, lt_true k (rise t id) lt) refl

-- the next block to run
pub record IsNext (t : Tree) (id : List ℕ) (k : ℕ) (c : Block) : Type 0 where
  pub cut : drop (rise t id - (k + 1)) (branch id t.kept) ≡ c ∷ drop (rise t id - k) (branch id t.kept)
  pub num : block_num c.header.previous ≡ length (meeting id t.head t.kept) + k + 1
  pub small : block_num c.header.previous < 4294967295
  pub got : slice_get (branch id t.kept) (rise t id - 1 - k) ≡ Some c
  pub off : find_block (id_of c) (branch t.head t.kept) ≡ None

pub is_next : (t : Tree) (id : List ℕ) (k : ℕ) (c : Block) → IsTree t → is_some (block_at id t) ≡ true → k < rise t id → Some c ≡ above_fork id k t → IsNext t id k c
is_next t id k c is here lt e =
    let bs : List Block = branch id t.kept in
    let got : slice_get bs (rise t id - 1 - k) ≡ Some c = sym (e ∙ above_some t id k here lt) in
    let p = is_cut bs (counted (id_of t.genesis) t.kept id is.first is.placed) (rise t id - 1 - k) c got in
    let at : rise t id - 1 - k + 1 ≡ rise t id - k = omega arith in
    let low : rise t id - 1 - k ≡ rise t id - (k + 1) = omega arith in
    let left : length (drop (rise t id - 1 - k + 1) bs) ≡ length (meeting id t.head t.kept) + k =
    ap (λ n. length (drop n bs)) at ∙ length-drop (rise t id - k) bs ∙ omega (arith, (is_path t id is here).within) in
    record {
      cut = ap (λ n. drop n bs) (sym low) ∙ p.cut ∙ ap (λ n. c ∷ drop n bs) at;
      num = omega (arith, p.num, left);
      small = p.small;
      got = got;
      off = apart (id_of t.genesis) t.kept id t.head is.placed (rise t id - 1 - k) c got (omega arith);
    }

none_past : (bs : List Block) (n : ℕ) → None ≡ slice_get bs n → n < length bs → ⊥
none_past [] n e lt = omega arith
none_past (b ∷ bs) zero e lt = cc
none_past (b ∷ bs) (suc n) e lt = none_past bs n e (omega arith)

-- there is one
pub never_none : (t : Tree) (id : List ℕ) (k : ℕ) → is_some (block_at id t) ≡ true → k < rise t id → None ≡ above_fork id k t → ⊥
never_none t id k here lt e = none_past (branch id t.kept) (rise t id - 1 - k) (e ∙ above_some t id k here lt) (omega arith)
