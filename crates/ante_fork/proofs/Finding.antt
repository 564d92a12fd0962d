-- The map beside the list, when a block comes and when one goes.
use Rattle.std.proofs.Common.{◌≡◌, ℕ, zero, suc, ◌+◌, ◌<◌, Bool, true, false, cond, List, [], ◌∷◌, ◌++◌, length, take, drop, Option, Some, None, refl, sym, ap, subst, ◌∙◌, append_assoc, is_eq, nat_cmp, slice_index_or, if◌then◌else◌}
use Rattle.std.specs.Str.{bytes_eq}
use Rattle.std.specs.List.{AllByRecursion}
use Rattle.std.specs.BTreeMap.{BTreeMap, get, is_at}
use Rattle.std.specs.Cmp.Lexicographic.{slice_cmp}
use Rattle.std.specs.declared.rc.Rc.{Rc}
use Rattle.std.specs.Map.{lookup}
use Rattle.std.proofs.lemmas.Map.Text.{is_eq-slice_cmp}
use Rattle.ante_types.specs.declared.chain.Block.{Block}
use Rattle.ante_fork.specs.declared.node.Node.{Node}
use Rattle.ante_fork.specs.Tree.{id_of, find_block}
use Rattle.ante_fork.specs.Shown.{newest, IsNamed}
use Rattle.ante_fork.specs.Found.{block_shown, AreDistinct, IsFound}
use Rattle.ante_fork.proofs.Branches.{same, newest_snoc, snoc_named}
use Rattle.ante_fork.proofs.Pruned.{same_refl, cut_at, removed_named}

-- ---- ids

turned_by : (a b : List ℕ) → (s t : Bool) → bytes_eq a b ≡ s → bytes_eq b a ≡ t → s ≡ t
turned_by a b true true e f = refl
turned_by a b false false e f = refl
turned_by a b true false e f = let h = rw (same a b e) at f in sym (same_refl b) ∙ h
turned_by a b false true e f = let h = rw (same b a f) at e in sym h ∙ same_refl a

pub turned : (a b : List ℕ) → bytes_eq a b ≡ bytes_eq b a
turned a b = turned_by a b (bytes_eq a b) (bytes_eq b a) refl refl

-- ---- a block that goes, in the midst of a list

first_by : (id : List ℕ) (b : Block) (bs : List Block) → find_block id (b ∷ bs) ≡ None → (t : Bool) → bytes_eq id (id_of b) ≡ t → (bytes_eq id (id_of b) ≡ false) × (find_block id bs ≡ None)
first_by id b bs none true e = let h = rw e at none in cc
first_by id b bs none false e = (e, rw e at none)

first_differs : (id : List ℕ) (b : Block) (bs : List Block) → find_block id (b ∷ bs) ≡ None → (bytes_eq id (id_of b) ≡ false) × (find_block id bs ≡ None)
first_differs id b bs none = first_by id b bs none (bytes_eq id (id_of b)) refl

absent_by : (id : List ℕ) (u : Block) (bs : List Block) → bytes_eq id (id_of u) ≡ false → find_block id bs ≡ None → find_block id (u ∷ bs) ≡ None
absent_by id u bs e none = rw e none

-- an id that is in none of all these isn't in those that are left, nor that of the one that goes
absent_left : (id : List ℕ) (us : List Block) (b : Block) (vs : List Block) → find_block id (us ++ b ∷ vs) ≡ None → (bytes_eq id (id_of b) ≡ false) × (find_block id (us ++ vs) ≡ None)
absent_left id [] b vs none = first_differs id b vs none
absent_left id (u ∷ us) b vs none =
    let h : (bytes_eq id (id_of u) ≡ false) × (find_block id (us ++ b ∷ vs) ≡ None) = first_differs id u (us ++ b ∷ vs) none in
    let k : (bytes_eq id (id_of b) ≡ false) × (find_block id (us ++ vs) ≡ None) = absent_left id us b vs h.1 in
    (k.0, absent_by id u (us ++ vs) h.0 k.1)

pub distinct_left : (us : List Block) (b : Block) (vs : List Block) → AreDistinct (us ++ b ∷ vs) → AreDistinct (us ++ vs)
distinct_left [] b vs apart = apart.1
distinct_left (u ∷ us) b vs apart =
    let k : (bytes_eq (id_of u) (id_of b) ≡ false) × (find_block (id_of u) (us ++ vs) ≡ None) = absent_left (id_of u) us b vs apart.0 in
    (k.1, distinct_left us b vs apart.1)

pub gone : (us : List Block) (b : Block) (vs : List Block) → AreDistinct (us ++ b ∷ vs) → find_block (id_of b) (us ++ vs) ≡ None
gone [] b vs apart = apart.0
gone (u ∷ us) b vs apart =
    let k : (bytes_eq (id_of u) (id_of b) ≡ false) × (find_block (id_of u) (us ++ vs) ≡ None) = absent_left (id_of u) us b vs apart.0 in
    absent_by (id_of b) u (us ++ vs) (turned (id_of b) (id_of u) ∙ k.0) (gone us b vs apart.1)

other_by : (q : List ℕ) (u : Block) (xs ys : List Block) → find_block q xs ≡ find_block q ys → (t : Bool) → (if t then Some u else find_block q xs) ≡ (if t then Some u else find_block q ys)
other_by q u xs ys e true = refl
other_by q u xs ys e false = e

pub others_found : (q : List ℕ) (us : List Block) (b : Block) (vs : List Block) → bytes_eq q (id_of b) ≡ false → find_block q (us ++ vs) ≡ find_block q (us ++ b ∷ vs)
others_found q [] b vs e = rw e refl
others_found q (u ∷ us) b vs e = other_by q u (us ++ vs) (us ++ b ∷ vs) (others_found q us b vs e) (bytes_eq q (id_of u))

-- ---- the map

shown_put : {Z : Type 0} (rc : Rc Block Z) (old : Option (Rc Block Z)) (q : List ℕ) (kept : List Block) → block_shown old ≡ find_block q kept → (t : Bool) →
    block_shown (cond t (Some rc) old) ≡ (if t then Some rc.value else find_block q kept)
shown_put rc old q kept e true = refl
shown_put rc old q kept e false = e

pub put_found : {Z : Type 0} (m n : BTreeMap (List ℕ) (Rc Block Z)) (rc : Rc Block Z) (b : Block) (id q : List ℕ) (kept : List Block) → rc.value ≡ b → id ≡ id_of b →
    block_shown (get (slice_cmp nat_cmp) m q) ≡ find_block q kept → get (slice_cmp nat_cmp) n q ≡ cond (is_eq (slice_cmp nat_cmp id q)) (Some rc) (get (slice_cmp nat_cmp) m q) →
    block_shown (get (slice_cmp nat_cmp) n q) ≡ find_block q (b ∷ kept)
put_found m n rc b id q kept v named old put =
    ap block_shown (put ∙ ap (λ t. cond t (Some rc) (get (slice_cmp nat_cmp) m q)) (is_eq-slice_cmp id q ∙ turned id q ∙ ap (bytes_eq q) named))
    ∙ shown_put rc (get (slice_cmp nat_cmp) m q) q kept old (bytes_eq q (id_of b))
    ∙ ap (λ x. if bytes_eq q (id_of b) then Some x else find_block q kept) v

shown_gone : {Z : Type 0} (old : Option (Rc Block Z)) (q : List ℕ) (us : List Block) (b : Block) (vs : List Block) → AreDistinct (us ++ b ∷ vs) → block_shown old ≡ find_block q (us ++ b ∷ vs) → (t : Bool) → bytes_eq q (id_of b) ≡ t →
    block_shown (cond t None old) ≡ find_block q (us ++ vs)
shown_gone old q us b vs apart e true f = sym (ap (λ x. find_block x (us ++ vs)) (same q (id_of b) f) ∙ gone us b vs apart)
shown_gone old q us b vs apart e false f = e ∙ sym (others_found q us b vs f)

pub gone_found : {Z : Type 0} (m n : BTreeMap (List ℕ) (Rc Block Z)) (id q : List ℕ) (us : List Block) (b : Block) (vs : List Block) → id ≡ id_of b → AreDistinct (us ++ b ∷ vs) →
    block_shown (get (slice_cmp nat_cmp) m q) ≡ find_block q (us ++ b ∷ vs) → get (slice_cmp nat_cmp) n q ≡ cond (is_eq (slice_cmp nat_cmp id q)) None (get (slice_cmp nat_cmp) m q) →
    block_shown (get (slice_cmp nat_cmp) n q) ≡ find_block q (us ++ vs)
gone_found m n id q us b vs named apart old out =
    ap block_shown (out ∙ ap (λ t. cond t None (get (slice_cmp nat_cmp) m q)) (is_eq-slice_cmp id q ∙ turned id q ∙ ap (bytes_eq q) named))
    ∙ shown_gone (get (slice_cmp nat_cmp) m q) q us b vs apart old (bytes_eq q (id_of b)) refl

-- ---- the two together

pub take_drop : (ns : List Node) (k : ℕ) → take k ns ++ drop k ns ≡ ns
take_drop [] zero = refl
take_drop [] (suc k) = refl
take_drop (x ∷ ns) zero = refl
take_drop (x ∷ ns) (suc k) = ap (λ xs. x ∷ xs) (take_drop ns k)

pub newest_append : (ns ms : List Node) → newest (ns ++ ms) ≡ newest ms ++ newest ns
newest_append [] ms = sym (append_nil_right (newest ms))
  where
    append_nil_right : (bs : List Block) → bs ++ [] ≡ bs
    append_nil_right [] = refl
    append_nil_right (b ∷ bs) = ap (λ xs. b ∷ xs) (append_nil_right bs)
newest_append (n ∷ ns) ms = ap (λ bs. bs ++ n.block.value ∷ []) (newest_append ns ms) ∙ append_assoc (newest ms) (newest ns) (n.block.value ∷ [])

pub found_none : {Z : Type 0} (m : BTreeMap (List ℕ) (Rc Block Z)) (nodes : List Node) → m.entries ≡ [] → nodes ≡ [] → IsFound m nodes
found_none m nodes e f = subst (IsFound m) (sym f) (record {
  named = tt;
  distinct = tt;
  finds = λ id. ap (λ es. block_shown (lookup (is_at (slice_cmp nat_cmp id)) es)) e;
})

pub found_put : {Z : Type 0} (m n : BTreeMap (List ℕ) (Rc Block Z)) (rc : Rc Block Z) (node : Node) (id : List ℕ) (nodes left : List Node) → IsFound m nodes → left ≡ nodes ++ node ∷ [] → rc.value ≡ node.block.value →
    id ≡ id_of node.block.value → node.id ≡ id → find_block id (newest nodes) ≡ None → ((q : List ℕ) → get (slice_cmp nat_cmp) n q ≡ cond (is_eq (slice_cmp nat_cmp id q)) (Some rc) (get (slice_cmp nat_cmp) m q)) → IsFound n left
found_put m n rc node id nodes left is e v named own new put = subst (IsFound n) (sym e) (record {
  named = snoc_named nodes node is.named (own ∙ named);
  distinct = subst AreDistinct (sym (newest_snoc nodes node)) (subst (λ x. find_block x (newest nodes) ≡ None) named new, is.distinct);
  finds = λ q. put_found m n rc node.block.value id q (newest nodes) v named (is.finds q) (put q) ∙ ap (find_block q) (sym (newest_snoc nodes node));
})

pub found_out : {Z : Type 0} (m n : BTreeMap (List ℕ) (Rc Block Z)) (node : Node) (nodes left : List Node) (at : ℕ) → IsFound m nodes → at < length nodes → node ≡ slice_index_or nodes at node →
    left ≡ take at nodes ++ drop (at + 1) nodes → ((q : List ℕ) → get (slice_cmp nat_cmp) n q ≡ cond (is_eq (slice_cmp nat_cmp node.id q)) None (get (slice_cmp nat_cmp) m q)) → IsFound n left
found_out m n node nodes left at is within here e out =
    let us : List Block = newest (drop (at + 1) nodes) in
    let vs : List Block = newest (take at nodes) in
    let cut : nodes ≡ take at nodes ++ node ∷ drop (at + 1) nodes = sym (take_drop nodes at) ∙ ap (λ rest. take at nodes ++ rest) (cut_at nodes at node within ∙ ap (λ x. x ∷ drop (at + 1) nodes) (sym here)) in
    let whole : newest nodes ≡ us ++ node.block.value ∷ vs = ap newest cut ∙ newest_append (take at nodes) (node ∷ drop (at + 1) nodes) ∙ append_assoc us (node.block.value ∷ []) vs in
    let rest : newest (take at nodes ++ drop (at + 1) nodes) ≡ us ++ vs = newest_append (take at nodes) (drop (at + 1) nodes) in
    let apart : AreDistinct (us ++ node.block.value ∷ vs) = subst AreDistinct whole is.distinct in
    let own : node.id ≡ id_of node.block.value = named_here (take at nodes) node (drop (at + 1) nodes) (subst (AllByRecursion IsNamed) cut is.named) in
    subst (IsFound n) (sym e) (record {
      named = removed_named nodes at is.named;
      distinct = subst AreDistinct (sym rest) (distinct_left us node.block.value vs apart);
      finds = λ q. gone_found m n node.id q us node.block.value vs own apart (is.finds q ∙ ap (find_block q) whole) (out q) ∙ ap (find_block q) (sym rest);
    })
  where
    named_here : (ns : List Node) (x : Node) (ms : List Node) → AllByRecursion IsNamed (ns ++ x ∷ ms) → IsNamed x
    named_here [] x ms h = h.0
    named_here (y ∷ ns) x ms h = named_here ns x ms h.1
