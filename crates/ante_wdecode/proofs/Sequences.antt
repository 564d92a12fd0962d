-- Sequences of instructions: what was read so far, cons before what is still to be read.
use Rattle.std.proofs.Common.{◌≡◌, ℕ, zero, suc, ◌-◌, ◌<◌, ◌≤◌, Bool, true, false, List, [], ◌∷◌, ◌++◌, length, Option, Result, Ok, Err, refl, sym, ap, subst, ◌∙◌, arith}
use Rattle.ante_wtree.specs.declared.instructions.Instr.{Instr}
use Rattle.ante_wtree.specs.declared.instructions.ValueKind.{ValueKind}
use Rattle.ante_wtree.specs.Expressions.{Expression, cons, expression_of, Over, If}
use Rattle.ante_wdecode.specs.declared.fault.Unread.{Unread}
use Rattle.ante_wdecode.specs.declared.fault.Unread.TheVariants as unread
use Rattle.ante_wdecode.specs.declared.opcodes.Opcode.{Opcode}
use Rattle.ante_pack.specs.Forms.{◌>>=◌}
use Rattle.ante_wdecode.specs.Rules.{Fault, Read, Fails}
use Rattle.ante_wdecode.specs.Opcodes.{an_opcode}
use Rattle.ante_wdecode.specs.Instructions.{block_type}
use Rattle.ante_wdecode.specs.NestedInstructions.{Sequence, Item, Ends, One, body_at, block_at, second_at, if_at, deeper, one, led_at, item_at, go_on, inside, seq_at}
use Rattle.ante_wdecode.proofs.Grammar.{Make}

abbrev pub before : List Instr → Expression → Expression
before [] e = e
before (i ∷ is) e = cons i (before is e)

abbrev pub with_front : List Instr → Result Sequence Fault → Result Sequence Fault
with_front front read = read >>= λ s. Ok (before front s.0, s.1, s.2)

pub record SoFar (depth : ℕ) (bytes : List ℕ) (front : List Instr) (rest : List ℕ) : Type 0 where
  pub left : length rest ≤ length bytes
  pub read : (m : ℕ) → length bytes < m → (n : ℕ) × (length rest ≤ n) × (with_front front (seq_at (suc n) depth rest) ≡ seq_at m depth bytes)

abbrev sequence : Expression → Bool → List ℕ → Result Sequence Fault
sequence e by_else rest = Ok (e, by_else, rest)

with_none : (r : Result Sequence Fault) → with_front [] r ≡ r
with_none (Err f) = refl
with_none (Ok s) = refl

with_more : (front : List Instr) (i : Instr) (r : Result Sequence Fault) → with_front (front ++ i ∷ []) r ≡ with_front front (r >>= λ s. sequence (cons i s.0) s.1 s.2)
with_more front i (Err f) = refl
with_more front i (Ok s) = ap (λ e. sequence e s.1 s.2) (before_more front i s.0)
  where
    before_more : (is : List Instr) (j : Instr) (e : Expression) → before (is ++ j ∷ []) e ≡ before is (cons j e)
    before_more [] j e = refl
    before_more (k ∷ is) j e = ap (cons k) (before_more is j e)

before_over : (is : List Instr) → before is Over ≡ expression_of is
before_over [] = refl
before_over (i ∷ is) = ap (cons i) (before_over is)

pub none_yet : (depth : ℕ) (bytes : List ℕ) (front : List Instr) → front ≡ [] → SoFar depth bytes front bytes
none_yet depth bytes front e = subst (λ f. SoFar depth bytes f bytes) (sym e) (record { left = omega arith; read = start })
  where
    start : (m : ℕ) → length bytes < m → (n : ℕ) × (length bytes ≤ n) × (with_front [] (seq_at (suc n) depth bytes) ≡ seq_at m depth bytes)
    start zero lt = absurd (omega arith)
    start (suc k) lt = (k, omega arith, with_none (seq_at (suc k) depth bytes))

pub one_more : (depth : ℕ) (bytes : List ℕ) (front : List Instr) (rest after : List ℕ) (i : Instr) → length after < length rest →
    ((n : ℕ) → length rest ≤ n → item_at depth (inside (seq_at n) depth) rest ≡ Ok (One (cons i), after)) → SoFar depth bytes front rest → SoFar depth bytes (front ++ i ∷ []) after
one_more depth bytes front rest after i lt h s = record { left = omega (arith, s.left); read = λ m le. more m (s.read m le) }
  where
    more : (m : ℕ) → (n : ℕ) × (length rest ≤ n) × (with_front front (seq_at (suc n) depth rest) ≡ seq_at m depth bytes) → (n : ℕ) × (length after ≤ n) × (with_front (front ++ i ∷ []) (seq_at (suc n) depth after) ≡ seq_at m depth bytes)
    more m (zero, le, e) = absurd (omega arith)
    more m (suc k, le, e) = (k, omega arith, with_more front i (seq_at (suc k) depth after) ∙ sym (ap (λ x. with_front front (x >>= go_on (seq_at (suc k) depth))) (h (suc k) le)) ∙ e)

pub at_end : (depth : ℕ) (bytes : List ℕ) (front : List Instr) (rest after : List ℕ) (by_else : Bool) →
    ((n : ℕ) → length rest ≤ n → item_at depth (inside (seq_at n) depth) rest ≡ Ok (Ends by_else, after)) → SoFar depth bytes front rest → (m : ℕ) → length bytes < m → seq_at m depth bytes ≡ sequence (expression_of front) by_else after
at_end depth bytes front rest after by_else h s m lt =
    let r = s.read m lt in
    sym r.2 ∙ ap (λ x. with_front front (x >>= go_on (seq_at r.0 depth))) (h r.0 r.1) ∙ ap (λ e. sequence e by_else after) (before_over front)

fails_bind : {A B : Type 0} (e : Unread) (r : Result A Fault) (f : A → Result B Fault) → Fails e r → Fails e (r >>= f)
fails_bind unread.OutOfMemory r f h = tt
fails_bind (unread.Ended left) r f h = ap (λ x. x >>= f) h
fails_bind (unread.Fault left kind) r f h = ap (λ x. x >>= f) h

pub along : {A : Type 0} (e : Unread) (x y : Result A Fault) → x ≡ y → Fails e x → Fails e y
along e x y k h = subst (Fails e) k h

pub at_fault : (depth : ℕ) (bytes : List ℕ) (front : List Instr) (rest : List ℕ) (e : Unread) →
    ((n : ℕ) → length rest ≤ n → Fails e (item_at depth (inside (seq_at n) depth) rest)) → SoFar depth bytes front rest → (m : ℕ) → length bytes < m → Fails e (seq_at m depth bytes)
at_fault depth bytes front rest e h s m lt =
    let r = s.read m lt in
    along e (with_front front (seq_at (suc r.0) depth rest)) (seq_at m depth bytes) r.2
    (fails_bind e (seq_at (suc r.0) depth rest) (λ x. sequence (before front x.0) x.1 x.2) (fails_bind e (item_at depth (inside (seq_at r.0) depth) rest) (go_on (seq_at r.0 depth)) (h r.0 r.1)))

-- ---- an instruction by its opcode

pub item_is : (depth : ℕ) (inner : List ℕ → Result Sequence Fault) (bytes rest : List ℕ) (l k : Opcode) → an_opcode.read bytes ≡ Ok (l, rest) → l ≡ k → item_at depth inner bytes ≡ led_at depth inner k rest
item_is depth inner bytes rest l k e i = ap (λ r. r >>= λ x. led_at depth inner x.0 x.1) e ∙ ap (λ x. led_at depth inner x rest) i

pub item_fails : (e : Unread) (x : Read Item) (r : Read Make) → x ≡ (r >>= one) → Fails e r → Fails e x
item_fails e x r k h = along e (r >>= one) x (sym k) (fails_bind e r one h)

pub inside_is : (read : ℕ → List ℕ → Result Sequence Fault) (d : ℕ) (y : List ℕ) → (d ≡ 0 → ⊥) → inside read d y ≡ read (d - 1) y
inside_is read zero y h = absurd (h refl)
inside_is read (suc d) y h = ap (λ n. read n y) (omega arith)

pub deeper_is : {A : Type 0} (d : ℕ) (bytes : List ℕ) (r : Result A Fault) → (d ≡ 0 → ⊥) → deeper d bytes r ≡ r
deeper_is zero bytes r h = absurd (h refl)
deeper_is (suc d) bytes r h = refl

-- ---- a block

abbrev made : Make → List ℕ → Read Make
made make rest = Ok (make, rest)

pub block_fails : (make : Option ValueKind → Expression → Make) (inner : List ℕ → Result Sequence Fault) (bytes : List ℕ) (kind : Option ValueKind) (rest : List ℕ) (e : Unread) →
    block_type.read bytes ≡ Ok (kind, rest) → Fails e (body_at inner rest) → Fails e (block_at make inner bytes)
block_fails make inner bytes kind rest e k h =
    along e (body_at inner rest >>= λ b. made (make kind b.0) b.1) (block_at make inner bytes)
    (sym (ap (λ r. r >>= λ x. body_at inner x.1 >>= λ b. made (make x.0 b.0) b.1) k))
    (fails_bind e (body_at inner rest) (λ b. made (make kind b.0) b.1) h)

-- ---- an if

pub first_only : (inner : List ℕ → Result Sequence Fault) (bytes : List ℕ) (kind : Option ValueKind) (rest after : List ℕ) (first : Expression) (by_else : Bool) (make : Make) →
    block_type.read bytes ≡ Ok (kind, rest) → inner rest ≡ sequence first by_else after → by_else ≡ false → make ≡ If kind first Over → if_at inner bytes ≡ Ok (make, after)
first_only inner bytes kind rest after first by_else make k s b m =
    ap (λ r. r >>= λ x. inner x.1 >>= second_at inner x.0) k
    ∙ ap (λ r. r >>= second_at inner kind) s
    ∙ ap (λ v. second_at inner kind (first, v, after)) b
    ∙ ap (λ f. made f after) (sym m)

pub both_bodies : (inner : List ℕ → Result Sequence Fault) (bytes : List ℕ) (kind : Option ValueKind) (rest middle after : List ℕ) (first second : Expression) (by_else : Bool) (make : Make) →
    block_type.read bytes ≡ Ok (kind, rest) → inner rest ≡ sequence first by_else middle → by_else ≡ true → body_at inner middle ≡ Ok (second, after) → make ≡ If kind first second → if_at inner bytes ≡ Ok (make, after)
both_bodies inner bytes kind rest middle after first second by_else make k s b t m =
    ap (λ r. r >>= λ x. inner x.1 >>= second_at inner x.0) k
    ∙ ap (λ r. r >>= second_at inner kind) s
    ∙ ap (λ v. second_at inner kind (first, v, middle)) b
    ∙ ap (λ r. r >>= λ x. made (If kind first x.0) x.1) t
    ∙ ap (λ f. made f after) (sym m)

pub second_fails : (inner : List ℕ → Result Sequence Fault) (bytes : List ℕ) (kind : Option ValueKind) (rest middle : List ℕ) (first : Expression) (by_else : Bool) (e : Unread) →
    block_type.read bytes ≡ Ok (kind, rest) → inner rest ≡ sequence first by_else middle → by_else ≡ true → Fails e (body_at inner middle) → Fails e (if_at inner bytes)
second_fails inner bytes kind rest middle first by_else e k s b t =
    along e (body_at inner middle >>= λ x. made (If kind first x.0) x.1) (if_at inner bytes)
    (sym (ap (λ r. r >>= λ x. inner x.1 >>= second_at inner x.0) k ∙ ap (λ r. r >>= second_at inner kind) s ∙ ap (λ v. second_at inner kind (first, v, middle)) b))
    (fails_bind e (body_at inner middle) (λ x. made (If kind first x.0) x.1) t)
