-- A run of a typed module never gets stuck: each part leaves as many operands as its type says.
use Rattle.std.proofs.Common.{◌≡◌, ℕ, zero, suc, ◌+◌, ◌-◌, ◌<◌, ◌≤◌, Bool, true, false, List, [], ◌∷◌, length, take, drop, replicate, Option, None, Some, refl, sym, ap, subst, ◌∙◌, arith, ⊎_elim, length-append, length-drop}
use Rattle.std.specs.Prelude.{◌&&◌, ◌==◌, not, nat_le, slice_get, slice_index_or}
use Rattle.std.specs.List.{All}
use Rattle.std.proofs.lemmas.Bool.{le-leb, cases_lt}
use Rattle.std.proofs.lemmas.List.{length-take-le, length-replicate}
use Rattle.ante_wmem.specs.Linear.{LinearMemory, may_grow}
use Rattle.ante_wmem.specs.HostCalls.{Reply, value, nothing, exit, refused, step_limit, HostMeaning, Keeps}
use Rattle.ante_wmem.specs.HostCalls as answered
use Rattle.ante_wtree.specs.declared.instructions.ValueKind.{ValueKind}
use Rattle.ante_wtree.specs.declared.modules.FuncType.{FuncType}
use Rattle.ante_wtree.specs.Expressions.{Expression, Over, Plain, Block, Loop, If, Br, BrIf, BrTable, Return, Call, CallIndirect, MemoryGrow}
use Rattle.ante_wtree.specs.Trees.{Tree}
use Rattle.ante_wtree.specs.Types.{kinds_of, result_of, masked, all_fit, same_kind, same_kinds}
use Rattle.ante_wtree.specs.Replies.{IsReplyOf}
use Rattle.ante_wvalid.specs.Typing.{Context, Operands, Typed, inside, type_numbered}
use Rattle.ante_wvalid.specs.Modules.{function_types, context_of}
use Rattle.ante_wmeaning.specs.PlainInstructions.{Effect, Next, Traps, NoRule, effect, low}
use Rattle.ante_wmeaning.specs.Environment.{after_look, after_item}
use Rattle.ante_wmeaning.specs.Configurations.{FunctionInstance, Own, Given, Missing, Program, State, Outcome, Normal, Branch, Returned, Ended, Lacks, InHost, Stuck, stack_of, on_stack, with_values}
use Rattle.ante_wmeaning.specs.Arities.{arity, gives_none}
use Rattle.ante_wmeaning.specs.Execution.{keep, unwound, returned, grown_by, entered, arguments, due, supplied, pay, seen, step, starts, only_if, and_then, of_block, of_loop, back, of_call, settled, of_effect, taking, turns, chosen, jump_unless, target, pay_pages, grow_if, grow, is_of, checked, of_place, of_type, element, acts, does, of_reply, host_supplied, call_host, of_function, no_frame, call_own, call, invoked}
use Rattle.ante_wmeaning.specs.RunEnds.{NotStuck}
use Rattle.ante_wmeaning.specs.HostConditions.{MayCall, MayBelow, IsHosts, Replies, ImportsTyped}
use Rattle.ante_wmeaning.specs.TypedPrograms.{IsOf, HasKind, IsTyped}
use Rattle.ante_wmeaning.proofs.Counts.{Counts, counts, onto_length}
use Rattle.ante_wmeaning.proofs.Arguments.{arguments_length, mask_fits}
use Rattle.ante_wmeaning.proofs.Outcomes.{Keeps as Handed, through_then, through_block, through_loop, through_call, through_settled}
use Rattle.ante_wmeaning.proofs.Falls.{Lowers, AllLower, HostFalls, does_lowers, call_lowers}

-- ---- numbers

pub kinds_length : (kind : Option ValueKind) → length (kinds_of kind) ≡ arity kind
kinds_length None = refl
kinds_length (Some k) = refl

few_results : (kinds : List ValueKind) → length kinds ≤ 1 → arity (result_of kinds) ≡ length kinds
few_results [] le = refl
few_results (k ∷ []) le = refl
few_results (k ∷ j ∷ ks) le = absurd (omega (arith, le))

keep_length : (h : ℕ) (stack : List ℕ) → h ≤ length stack → length (keep h stack) ≡ h
keep_length h stack le = omega (arith, length-drop (length stack - h) stack, le)

unwound_length : (kind : Option ValueKind) (h : ℕ) (stack : List ℕ) → h + arity kind ≤ length stack → length (unwound kind h stack) ≡ h + arity kind
unwound_length kind h stack le =
    let d = length-drop (arity kind) stack in
    omega (arith, le, length-append (take (arity kind) stack) (keep h (drop (arity kind) stack)), length-take-le (arity kind) stack (omega (arith, le)), keep_length h (drop (arity kind) stack) (omega (arith, le, d)))

copies_length : (n x : ℕ) → length (replicate n x) ≡ n
copies_length n x = length-replicate n x

same_length : (js ks : List ValueKind) → same_kinds js ks ≡ true → length js ≡ length ks
same_length [] [] h = refl
same_length [] (k ∷ ks) h = cc
same_length (j ∷ js) [] h = cc
same_length (j ∷ js) (k ∷ ks) h = ap suc (same_length js ks (later (same_kind j k) (same_kinds js ks) h))
  where
    later : (a b : Bool) → (a && b) ≡ true → b ≡ true
    later true b h = h
    later false b h = cc

both : (a b : Bool) → (a && b) ≡ true → (a ≡ true) × (b ≡ true)
both true b h = (refl, h)
both false b h = cc

reached : (h n : ℕ) → h + 0 ≤ n → h ≤ n
reached h n le = omega (arith, le)

less_self : (n : ℕ) → n < suc n
less_self n = omega arith

le_self : (n : ℕ) → n ≤ n
le_self n = omega arith

-- what holds of each item and of another holds of the item at any place, or of the other past the end
all_or : (P : ℕ → Type 0) (ns : List ℕ) (n at : ℕ) → All P ns → P n → P (slice_index_or ns at n)
all_or P ns n at h p = ⊎_elim (λ lt. h at n lt) (λ ge. subst P (sym (past ns at n ge)) p) (cases_lt at (length ns))
  where
    past : (xs : List ℕ) (i d : ℕ) → length xs ≤ i → slice_index_or xs i d ≡ d
    past [] i d le = refl
    past (x ∷ xs) zero d le = absurd (omega (arith, le))
    past (x ∷ xs) (suc i) d le = past xs i d (omega (arith, le))

-- ---- labels, each with the number of operands that were there at its block's begin

-- a branch to this depth finds what its label wants
abbrev pub Jumps : List (Option ValueKind) → List ℕ → (depth count : ℕ) → Type 0
Jumps [] heights n count = ⊥
Jumps (l ∷ ls) [] n count = ⊥
Jumps (l ∷ ls) (h ∷ hs) zero count = h + arity l ≤ count
Jumps (l ∷ ls) (h ∷ hs) (suc n) count = Jumps ls hs n count

-- these heights are at most the base
abbrev pub Laid : List (Option ValueKind) → List ℕ → (base : ℕ) → Type 0
Laid [] [] base = Unit {0}
Laid [] (h ∷ hs) base = ⊥
Laid (l ∷ ls) [] base = ⊥
Laid (l ∷ ls) (h ∷ hs) base = (h ≤ base) × Laid ls hs base

laid_higher : (ls : List (Option ValueKind)) (hs : List ℕ) (base more : ℕ) → base ≤ more → Laid ls hs base → Laid ls hs more
laid_higher [] [] base more le h = tt
laid_higher [] (x ∷ hs) base more le h = h
laid_higher (l ∷ ls) [] base more le h = h
laid_higher (l ∷ ls) (x ∷ hs) base more le h = (omega (arith, le, h.0), laid_higher ls hs base more le h.1)

jumps_to : (ls : List (Option ValueKind)) (hs : List ℕ) (base n count : ℕ) (label : Option ValueKind) → Laid ls hs base → slice_get ls n ≡ Some label → base + arity label ≤ count → Jumps ls hs n count
jumps_to [] hs base n count label h e le = cc
jumps_to (l ∷ ls) [] base n count label h e le = h
jumps_to (l ∷ ls) (x ∷ hs) base zero count label h e le = let s = some_is l label e in omega (arith, h.0, le, ap arity s)
  where
    some_is : (x y : Option ValueKind) → Some x ≡ Some y → x ≡ y
    some_is x y e = cc
jumps_to (l ∷ ls) (x ∷ hs) base (suc n) count label h e le = jumps_to ls hs base n count label h.1 e le

-- ---- outcomes

module _ {W : Type 0} (allowed : W → ℕ → List ℕ → ℕ → Type 0) (program : Program) where
  -- so many locals and globals, and a host that may be called at every number of steps below this one
  abbrev pub Fit : (locals globals steps : ℕ) → State W → Type 0
  Fit l g n s = (length s.values.locals ≡ l) × (length s.values.globals ≡ g) × MayBelow allowed program s.world n

  below_less : (w : W) (m n : ℕ) → n ≤ m → MayBelow allowed program w m → MayBelow allowed program w n
  below_less w m n le h = λ less lt. h less (omega (arith, le, lt))

module _ {W R : Type 0} (allowed : W → ℕ → List ℕ → ℕ → Type 0) (program : Program) where
  abbrev pub Fine : (locals globals : ℕ) → (jumps : ℕ → ℕ → Type 0) → (leaves : ℕ → Type 0) → (count : ℕ) → Outcome W R → Type 0
  Fine l g J L k (Normal s) = Fit allowed program l g s.left s × (length (stack_of s) ≡ k)
  Fine l g J L k (Branch n s) = Fit allowed program l g s.left s × J n (length (stack_of s))
  Fine l g J L k (Returned s) = Fit allowed program l g s.left s × L (length (stack_of s))
  Fine l g J L k (Ended e s) = Unit {0}
  Fine l g J L k (Lacks s) = Unit {0}
  Fine l g J L k (InHost f args a n s) = Unit {0}
  Fine l g J L k Stuck = ⊥

  pub fine_runs : (l g : ℕ) (J : ℕ → ℕ → Type 0) (L : ℕ → Type 0) (k : ℕ) (o : Outcome W R) → Fine l g J L k o → NotStuck o
  fine_runs l g J L k (Normal s) h = tt
  fine_runs l g J L k (Branch n s) h = tt
  fine_runs l g J L k (Returned s) h = tt
  fine_runs l g J L k (Ended e s) h = tt
  fine_runs l g J L k (Lacks s) h = tt
  fine_runs l g J L k (InHost f args a n s) h = tt
  fine_runs l g J L k Stuck h = h

  handed : (l g l' g' : ℕ) (J J' : ℕ → ℕ → Type 0) (L L' : ℕ → Type 0) (k k' : ℕ) → Handed (Fine l g J L k) (Fine l' g' J' L' k')
  handed l g l' g' J J' L L' k k' = record { ended = λ e s h. h; lacks = λ s h. h; in_host = λ f args a n s h. h; stuck = λ h. h }

  only_fine : (l g : ℕ) (J : ℕ → ℕ → Type 0) (L : ℕ → Type 0) (k : ℕ) (b : Bool) (o : Outcome W R) → b ≡ true → Fine l g J L k o → Fine l g J L k (only_if b o)
  only_fine l g J L k true o e h = h
  only_fine l g J L k false o e h = cc

  module _ (l g : ℕ) (J : ℕ → ℕ → Type 0) (L : ℕ → Type 0) (k : ℕ) where
    abbrev F : Outcome W R → Type 0
    F = Fine l g J L k

    -- what is fine once the step is paid
    abbrev Paid : (count : ℕ) → (State W → Outcome W R) → Type 0
    Paid count first = (t : State W) → Fit allowed program l g (suc t.left) t → length (stack_of t) ≡ count → F (first t)

    supplied_fine : (b : Bool) (s : State W) (go : State W → Outcome W R) → F (go (record s { environment = after_item s.environment })) → F (supplied b s go)
    supplied_fine true s go h = tt
    supplied_fine false s go h = h

    pay_fine : (count n : ℕ) (s : State W) (first : State W → Outcome W R) → Fit allowed program l g n s → length (stack_of s) ≡ count → Paid count first → F (pay n s first)
    pay_fine count zero s first f e h = tt
    pay_fine count (suc n) s first f e h =
        supplied_fine (s.environment.item_lacks s.environment.items) s (λ t. first (record t { left = n; last = suc n })) (h (record s { left = n; last = suc n; environment = after_item s.environment }) f e)

    seen_fine : (count : ℕ) (d : Bool) (answer : Option ℕ) (s : State W) (first : State W → Outcome W R) → Fit allowed program l g s.left s → length (stack_of s) ≡ count → Paid count first → F (seen d answer s first)
    seen_fine count false answer s first f e h = pay_fine count s.left s first f e h
    seen_fine count true None s first f e h = pay_fine count s.left (record s { environment = after_look s.environment }) first f e h
    seen_fine count true (Some at) s first f e h = tt

    step_fine : (count : ℕ) (s : State W) (first : State W → Outcome W R) → Fit allowed program l g s.left s → length (stack_of s) ≡ count → Paid count first → F (step s first)
    step_fine count s first f e h = seen_fine count (due s.left s.last) (s.environment.look_answer s.environment.looks) s first f e h

    starts_fine : (c : Context) (code : Expression) (before after : Operands) (base : ℕ) → k ≡ base + length after → Typed c code before after → (s : State W) (first : State W → Outcome W R) →
        Fit allowed program l g s.left s → length (stack_of s) ≡ base + length before → Paid (base + length before) first → F (starts code first s)
    starts_fine c Over before after base q t s first f e h = (f, e ∙ ap (λ x. base + length x) t ∙ sym q)
    starts_fine c (Plain i rest) before after base q t s first f e h = step_fine (base + length before) s first f e h
    starts_fine c (Block kind body rest) before after base q t s first f e h = step_fine (base + length before) s first f e h
    starts_fine c (Loop kind body rest) before after base q t s first f e h = step_fine (base + length before) s first f e h
    starts_fine c (If kind one two rest) before after base q t s first f e h = step_fine (base + length before) s first f e h
    starts_fine c (Br n rest) before after base q t s first f e h = step_fine (base + length before) s first f e h
    starts_fine c (BrIf n rest) before after base q t s first f e h = step_fine (base + length before) s first f e h
    starts_fine c (BrTable ns n rest) before after base q t s first f e h = step_fine (base + length before) s first f e h
    starts_fine c (Return rest) before after base q t s first f e h = step_fine (base + length before) s first f e h
    starts_fine c (Call fn rest) before after base q t s first f e h = step_fine (base + length before) s first f e h
    starts_fine c (CallIndirect n rest) before after base q t s first f e h = step_fine (base + length before) s first f e h
    starts_fine c (MemoryGrow rest) before after base q t s first f e h = step_fine (base + length before) s first f e h

    and_then_fine : (m : ℕ) (o : Outcome W R) (go : State W → Outcome W R) → Fine l g J L m o → ((t : State W) → Fit allowed program l g t.left t → length (stack_of t) ≡ m → F (go t)) → F (and_then o go)
    and_then_fine m o go h next = through_then (Fine l g J L m) F (handed l g l g J J L L m k) o go (λ s f. next s f.0 f.1) (λ n s f. f) (λ s f. f) h

    -- a call's outcome isn't a branch, nor a return
    called_fine : (o : Outcome W R) → Fine l g (λ n count. ⊥) (λ count. ⊥) k o → F o
    called_fine (Normal s) h = h
    called_fine (Branch n s) h = absurd h.1
    called_fine (Returned s) h = absurd h.1
    called_fine (Ended e s) h = tt
    called_fine (Lacks s) h = tt
    called_fine (InHost f args a n s) h = tt
    called_fine Stuck h = h

    effect_fine : (e : Effect) (s : State W) (go : State W → Outcome W R) (m : ℕ) → Counts l g m e → MayBelow allowed program s.world (suc s.left) →
        ((t : State W) → Fit allowed program l g t.left t → length (stack_of t) ≡ m → F (go t)) → F (of_effect e s go)
    effect_fine (Next v) s go m h b next = next (with_values s v) (h.0, h.1, below_less allowed program s.world (suc s.left) s.left (omega arith) b) h.2
    effect_fine (Traps kind) s go m h b next = tt
    effect_fine NoRule s go m h b next = h

    taking_fine : (stack : List ℕ) (s : State W) (go : ℕ → State W → Outcome W R) (m : ℕ) → length stack ≡ suc m → ((n : ℕ) (below : List ℕ) → length below ≡ m → F (go n (on_stack s below))) → F (taking stack s go)
    taking_fine [] s go m e h = absurd (omega (arith, e))
    taking_fine (n ∷ below) s go m e h = h n below (omega (arith, e))

  module _ (l g : ℕ) (ls : List (Option ValueKind)) (hs : List ℕ) (L : ℕ → Type 0) where
    of_block_fine : (kind : Option ValueKind) (h k : ℕ) (o : Outcome W R) → k ≡ h + arity kind → Fine l g (Jumps (kind ∷ ls) (h ∷ hs)) L k o → Fine l g (Jumps ls hs) L k (of_block kind h o)
    of_block_fine kind h k o q f = through_block (Fine l g (Jumps (kind ∷ ls) (h ∷ hs)) L k) (Fine l g (Jumps ls hs) L k) (handed l g l g (Jumps (kind ∷ ls) (h ∷ hs)) (Jumps ls hs) L L k k) kind h o
        (λ s f. f)
        (λ s f. only_fine l g (Jumps ls hs) L k (nat_le (h + arity kind) (length (stack_of s))) (Normal (on_stack s (unwound kind h (stack_of s)))) (le-leb (h + arity kind) (length (stack_of s)) f.1)
        (f.0, unwound_length kind h (stack_of s) f.1 ∙ sym q))
        (λ n s f. f) (λ s f. f) f

    of_loop_fine : (h k n : ℕ) (o : Outcome W R) (again : State W → Outcome W R) → Fine l g (Jumps (None ∷ ls) (h ∷ hs)) L k o → Lowers n o →
        ((t : State W) → t.left < n → Fit allowed program l g t.left t → length (stack_of t) ≡ h → Fine l g (Jumps ls hs) L k (again t)) → Fine l g (Jumps ls hs) L k (of_loop h o again)
    of_loop_fine h k n o again f low next = through_loop (λ (o : Outcome W R). Fine l g (Jumps (None ∷ ls) (h ∷ hs)) L k o × Lowers n o) (Fine l g (Jumps ls hs) L k)
        (record { ended = λ e s h. tt; lacks = λ s h. tt; in_host = λ f args a n s h. tt; stuck = λ h. h.0 }) h o again
        (λ s f. f.0)
        (λ s f.
        let le : h ≤ length (stack_of s) = reached h (length (stack_of s)) f.0.1 in
        let t = on_stack s (keep h (stack_of s)) in
        only_fine l g (Jumps ls hs) L k (nat_le h (length (stack_of s))) (again t) (le-leb h (length (stack_of s)) le) (next t f.1 f.0.0 (keep_length h (stack_of s) le)))
        (λ n s f. f.0) (λ s f. f.0) (f, low)

    turns_fine : (m h k : ℕ) (body : State W → Outcome W R) → AllLower body → ((t : State W) → Fit allowed program l g t.left t → length (stack_of t) ≡ h → Fine l g (Jumps (None ∷ ls) (h ∷ hs)) L k (body t)) →
        (s : State W) → s.left < m → Fit allowed program l g s.left s → length (stack_of s) ≡ h → Fine l g (Jumps ls hs) L k (turns m body h s)
    turns_fine zero h k body low b s lt f e = absurd (omega (arith, lt))
    turns_fine (suc m) h k body low b s lt f e = of_loop_fine h k s.left (body s) (turns m body h) (b s f e) (low s) (λ t less fit n. turns_fine m h k body low b t (omega (arith, less, lt)) fit n)

    chosen_fine : (k : ℕ) (b : Bool) (one two : State W → Outcome W R) (s : State W) → Fine l g (Jumps ls hs) L k (one s) → Fine l g (Jumps ls hs) L k (two s) → Fine l g (Jumps ls hs) L k (chosen b one two s)
    chosen_fine k true one two s f h = h
    chosen_fine k false one two s f h = f

module _ (W R : Type 0) (allowed : W → ℕ → List ℕ → ℕ → Type 0) (program : Program) (l g : ℕ) (ls : List (Option ValueKind)) (hs : List ℕ) (L : ℕ → Type 0) where
  jump_fine : (b : Bool) (n : ℕ) (s : State W) (k : ℕ) → Fit allowed program l g s.left s → length (stack_of s) ≡ k → Jumps ls hs n k → Fine {W = W} {R = R} allowed program l g (Jumps ls hs) L k (jump_unless b n s)
  jump_fine true n s k f e j = (f, e)
  jump_fine false n s k f e j = (f, subst (Jumps ls hs n) (sym e) j)

  grow_fine : (pages : ℕ) (s : State W) (k : ℕ) → Fit allowed program l g s.left s → suc (length (stack_of s)) ≡ k → Fine {W = W} {R = R} allowed program l g (Jumps ls hs) L k (grow pages s)
  grow_fine pages s k f e = by_growth (may_grow s.values.memory pages)
    where
      by_pages : (b : Bool) → Fine {W = W} {R = R} allowed program l g (Jumps ls hs) L k (pay_pages b pages (grown_by pages s) s)
      by_pages true = ((f.0, f.1, below_less allowed program s.world s.left (s.left - pages) (omega arith) f.2), e)
      by_pages false = tt

      by_growth : (b : Bool) → Fine {W = W} {R = R} allowed program l g (Jumps ls hs) L k (grow_if b pages s)
      by_growth false = (f, e)
      by_growth true = by_pages (nat_le pages s.left)

-- ---- bodies

-- a context of the module's
abbrev pub Known : Tree → Context → Type 0
Known m c = (c.types ≡ m.types) × (c.functions ≡ function_types m) × (c.globals ≡ m.globals)

module _ {W R : Type 0} (allowed : W → ℕ → List ℕ → ℕ → Type 0) (m : Tree) (program : Program) (typed : IsTyped m program) where
  -- A call of a function takes its arguments and leaves its results.
  abbrev pub CallsFine : (ℕ → State W → Outcome W R) → Type 0
  CallsFine calls = (f : ℕ) (t : FuncType) → HasKind m f t → (s : State W) (below : ℕ) → length s.values.globals ≡ length m.globals → MayBelow allowed program s.world (suc s.left) →
      length (stack_of s) ≡ below + length t.params → Fine allowed program (length s.values.locals) (length m.globals) (λ n count. ⊥) (λ count. ⊥) (below + length t.results) (calls f s)

  module _ (calls : ℕ → State W → Outcome W R) (lower : (f : ℕ) → AllLower (calls f)) (fine : CallsFine calls) where
    abbrev FineIn : Context → List ℕ → (count : ℕ) → Outcome W R → Type 0
    FineIn c hs k o = Fine allowed program (length c.locals) (length m.globals) (Jumps c.labels hs) (λ count. arity c.result ≤ count) k o

    abbrev FitIn : Context → (steps : ℕ) → State W → Type 0
    FitIn c n s = Fit allowed program (length c.locals) (length m.globals) n s

    abbrev ActsFine : Expression → Type 0
    ActsFine code = (c : Context) (hs : List ℕ) (base : ℕ) (before after : Operands) → Known m c → Laid c.labels hs base → Typed c code before after → (s : State W) →
        FitIn c (suc s.left) s → length (stack_of s) ≡ base + length before → FineIn c hs (base + length after) (acts program calls code s)

    does_fine : (code : Expression) → ActsFine code → (c : Context) (hs : List ℕ) (base : ℕ) (before after : Operands) → Known m c → Laid c.labels hs base → Typed c code before after → (s : State W) →
        FitIn c s.left s → length (stack_of s) ≡ base + length before → FineIn c hs (base + length after) (does program calls code s)
    does_fine code h c hs base before after known laid t s f e =
        starts_fine allowed program (length c.locals) (length m.globals) (Jumps c.labels hs) (λ count. arity c.result ≤ count) (base + length after) c code before after base refl t s (acts program calls code) f e (h c hs base before after known laid t)

    -- ---- a call by its number, and one by the table

    call_fine : (c : Context) (hs : List ℕ) (f : ℕ) (t : FuncType) (s : State W) (below : ℕ) → HasKind m f t → FitIn c (suc s.left) s → length (stack_of s) ≡ below + length t.params →
        FineIn c hs (below + length t.results) (calls f s)
    call_fine c hs f t s below h fit e =
        called_fine allowed program (length c.locals) (length m.globals) (Jumps c.labels hs) (λ count. arity c.result ≤ count) (below + length t.results) (calls f s)
        (subst (λ l. Fine allowed program l (length m.globals) (λ n count. ⊥) (λ count. ⊥) (below + length t.results) (calls f s)) fit.0 (fine f t h s below fit.1 fit.2 e))

    same_type : (i : FunctionInstance) (t u : FuncType) → IsOf m i t → is_of i u ≡ true → (length t.params ≡ length u.params) × (length t.results ≡ length u.results)
    same_type (Own kind locals body) t u h e =
        let b = both (same_kinds kind.params u.params) (same_kinds kind.results u.results) e in
        (ap (λ k. length k.params) (sym h.0) ∙ same_length kind.params u.params b.0, ap (λ k. length k.results) (sym h.0) ∙ same_length kind.results u.results b.1)
    same_type (Given kind number) t u h e =
        let b = both (same_kinds kind.params u.params) (same_kinds kind.results u.results) e in
        (ap (λ k. length k.params) (sym h) ∙ same_length kind.params u.params b.0, ap (λ k. length k.results) (sym h) ∙ same_length kind.results u.results b.1)
    same_type Missing t u h e = absurd h

    indirect_fine : (c : Context) (hs : List ℕ) (wanted at : ℕ) (u : FuncType) (s : State W) (below : ℕ) → slice_get m.types wanted ≡ Some u → FitIn c (suc s.left) s → length (stack_of s) ≡ below + length u.params →
        FineIn c hs (below + length u.results) (target (element program wanted at) calls s)
    indirect_fine c hs wanted at u s below found fit e = by_place (slice_get program.table at) refl
      where
        by_type : (f : ℕ) (t : FuncType) (i : FunctionInstance) (b : Bool) → HasKind m f t → IsOf m i t → is_of i u ≡ b → FineIn c hs (below + length u.results) (target (Some (of_type b f)) calls s)
        by_type f t i true h o q =
            let n = same_type i t u o q in
            subst (λ k. FineIn c hs k (calls f s)) (ap (λ k. below + k) n.1) (call_fine c hs f t s below h fit (e ∙ ap (λ k. below + k) (sym n.0)))
        by_type f t i false h o q = tt

        by_place : (o : Option (Option ℕ)) → slice_get program.table at ≡ o → FineIn c hs (below + length u.results) (target (of_place program wanted o) calls s)
        by_place None q = tt
        by_place (Some None) q = tt
        by_place (Some (Some f)) q =
            let k = typed.table at f q in
            let i = typed.functions f k.0 k.1 in
            let ty : slice_get program.types wanted ≡ Some u = ap (λ ts. slice_get ts wanted) typed.types ∙ found in
            subst (λ o. FineIn c hs (below + length u.results) (target o calls s)) (sym (ap (λ o. checked o (slice_get program.types wanted) f) i.1 ∙ ap (λ o. checked (Some i.0) o f) ty))
            (by_type f k.0 i.0 (is_of i.0 u) k.1 i.2 refl)

    -- ---- instructions

    acts_fine : (code : Expression) → ActsFine code
    acts_fine Over c hs base before after known laid t s f e = ((f.0, f.1, below_less allowed program s.world (suc s.left) s.left (omega arith) f.2), e ∙ ap (λ x. base + length x) t)
    acts_fine (Plain i rest) c hs base before after known laid t s f e =
        effect_fine allowed program (length c.locals) (length m.globals) (Jumps c.labels hs) (λ count. arity c.result ≤ count) (base + length after) (effect i s.values) s (does program calls rest) (base + length t.0)
        (subst (λ l. Counts l (length m.globals) (base + length t.0) (effect i s.values)) f.0 (subst (λ g. Counts (length s.values.locals) g (base + length t.0) (effect i s.values)) f.1
        (counts c base before t.0 i s.values t.1 e f.0 (f.1 ∙ ap length (sym known.2)))))
        f.2 (λ u fit n. does_fine rest (acts_fine rest) c hs base t.0 after known laid t.2 u fit n)
    acts_fine (Block kind body rest) c hs base before after known laid t s f e =
        let high : Laid c.labels hs (length (stack_of s)) = laid_higher c.labels hs base (length (stack_of s)) (omega (arith, e)) laid in
        let fits : FitIn c s.left s = (f.0, f.1, below_less allowed program s.world (suc s.left) s.left (omega arith) f.2) in
        let inner = does_fine body (acts_fine body) (inside kind c) (length (stack_of s) ∷ hs) (length (stack_of s)) [] (kinds_of kind) known (le_self (length (stack_of s)), high) t.1.0 s fits (omega arith) in
        and_then_fine allowed program (length c.locals) (length m.globals) (Jumps c.labels hs) (λ count. arity c.result ≤ count) (base + length after) (length (stack_of s) + length (kinds_of kind)) _ (does program calls rest)
        (of_block_fine allowed program (length c.locals) (length m.globals) c.labels hs (λ count. arity c.result ≤ count) kind (length (stack_of s)) (length (stack_of s) + length (kinds_of kind)) (does program calls body s) (ap (λ k. length (stack_of s) + k) (kinds_length kind)) inner)
        (λ u fit n. does_fine rest (acts_fine rest) c hs base t.0 after known laid t.2 u fit (omega (arith, n, e, ap length t.1.1, onto_length (kinds_of kind) before)))
    acts_fine (Loop kind body rest) c hs base before after known laid t s f e =
        let high : Laid c.labels hs (length (stack_of s)) = laid_higher c.labels hs base (length (stack_of s)) (omega (arith, e)) laid in
        let fits : FitIn c s.left s = (f.0, f.1, below_less allowed program s.world (suc s.left) s.left (omega arith) f.2) in
        and_then_fine allowed program (length c.locals) (length m.globals) (Jumps c.labels hs) (λ count. arity c.result ≤ count) (base + length after) (length (stack_of s) + length (kinds_of kind)) _ (does program calls rest)
        (turns_fine allowed program (length c.locals) (length m.globals) c.labels hs (λ count. arity c.result ≤ count) (suc s.left) (length (stack_of s)) (length (stack_of s) + length (kinds_of kind)) (does program calls body) (does_lowers program calls lower body)
        (λ u fit n. does_fine body (acts_fine body) (inside None c) (length (stack_of s) ∷ hs) (length (stack_of s)) [] (kinds_of kind) known (le_self (length (stack_of s)), high) t.1.0 u fit (omega (arith, n)))
        s (less_self s.left) fits refl)
        (λ u fit n. does_fine rest (acts_fine rest) c hs base t.0 after known laid t.2 u fit (omega (arith, n, e, ap length t.1.1, onto_length (kinds_of kind) before)))
    acts_fine (If kind one two rest) c hs base before after known laid t s f e =
        let mid = t.1.1.0 in
        taking_fine allowed program (length c.locals) (length m.globals) (Jumps c.labels hs) (λ count. arity c.result ≤ count) (base + length after) (stack_of s) s _ (base + length mid) (omega (arith, e, ap length t.1.1.1))
        (λ test below n.
        let high : Laid c.labels hs (length below) = laid_higher c.labels hs base (length below) (omega (arith, n)) laid in
        let fits : FitIn c s.left (on_stack s below) = (f.0, f.1, below_less allowed program s.world (suc s.left) s.left (omega arith) f.2) in
        let first = does_fine one (acts_fine one) (inside kind c) (length below ∷ hs) (length below) [] (kinds_of kind) known (le_self (length below), high) t.1.0.0 (on_stack s below) fits (omega arith) in
        let second = does_fine two (acts_fine two) (inside kind c) (length below ∷ hs) (length below) [] (kinds_of kind) known (le_self (length below), high) t.1.0.1 (on_stack s below) fits (omega arith) in
        and_then_fine allowed program (length c.locals) (length m.globals) (Jumps c.labels hs) (λ count. arity c.result ≤ count) (base + length after) (length below + length (kinds_of kind)) _ (does program calls rest)
        (of_block_fine allowed program (length c.locals) (length m.globals) c.labels hs (λ count. arity c.result ≤ count) kind (length below) (length below + length (kinds_of kind)) _ (ap (λ k. length below + k) (kinds_length kind))
        (chosen_fine allowed program (length c.locals) (length m.globals) (kind ∷ c.labels) (length below ∷ hs) (λ count. arity c.result ≤ count) (length below + length (kinds_of kind)) (low test == 0) (does program calls one) (does program calls two) (on_stack s below) first second))
        (λ u fit k. does_fine rest (acts_fine rest) c hs base t.0 after known laid t.2 u fit (omega (arith, k, n, ap length t.1.1.2, onto_length (kinds_of kind) mid))))
    acts_fine (Br n rest) c hs base before after known laid t s f e =
        let w = t.1 in (
          (f.0, f.1, below_less allowed program s.world (suc s.left) s.left (omega arith) f.2),
          jumps_to c.labels hs base n (length (stack_of s)) w.0 laid w.1 (omega (arith, e, ap length w.2.1, onto_length (kinds_of w.0) w.2.0, kinds_length w.0)),
        )
    acts_fine (BrIf n rest) c hs base before after known laid t s f e =
        let w = t.1 in
        let below' = w.2.0 in
        let m' = w.2.2.0 in
        taking_fine allowed program (length c.locals) (length m.globals) (Jumps c.labels hs) (λ count. arity c.result ≤ count) (base + length after) (stack_of s) s _ (base + length below') (omega (arith, e, ap length w.2.1))
        (λ test below k.
        let fits : FitIn c s.left (on_stack s below) = (f.0, f.1, below_less allowed program s.world (suc s.left) s.left (omega arith) f.2) in
        and_then_fine allowed program (length c.locals) (length m.globals) (Jumps c.labels hs) (λ count. arity c.result ≤ count) (base + length after) (base + length below') _ (does program calls rest)
        (jump_fine W R allowed program (length c.locals) (length m.globals) c.labels hs (λ count. arity c.result ≤ count) (low test == 0) n (on_stack s below) (base + length below') fits k
        (jumps_to c.labels hs base n (base + length below') w.0 laid w.1 (omega (arith, ap length w.2.2.1, onto_length (kinds_of w.0) m', kinds_length w.0))))
        (λ u fit j. does_fine rest (acts_fine rest) c hs base t.0 after known laid t.2 u fit (omega (arith, j, ap length w.2.2.1, ap length w.2.2.2, onto_length (kinds_of w.0) m'))))
    acts_fine (BrTable ns n rest) c hs base before after known laid t s f e =
        let w = t.1 in
        let below' = w.2.1.0 in
        taking_fine allowed program (length c.locals) (length m.globals) (Jumps c.labels hs) (λ count. arity c.result ≤ count) (base + length after) (stack_of s) s _ (base + length below') (omega (arith, e, ap length w.2.1.1))
        (λ at below k. (
          (f.0, f.1, below_less allowed program s.world (suc s.left) s.left (omega arith) f.2),
          jumps_to c.labels hs base (slice_index_or ns (low at) n) (length below) w.0 laid (all_or (λ k. slice_get c.labels k ≡ Some w.0) ns n (low at) w.2.0 w.1)
              (omega (arith, k, ap length w.2.1.2.1, onto_length (kinds_of w.0) w.2.1.2.0, kinds_length w.0)),
        ))
    acts_fine (Return rest) c hs base before after known laid t s f e =
        let w = t.1 in (
          (f.0, f.1, below_less allowed program s.world (suc s.left) s.left (omega arith) f.2),
          omega (arith, e, ap length w.1, onto_length (kinds_of c.result) w.0, kinds_length c.result),
        )
    acts_fine (Call fn rest) c hs base before after known laid t s f e =
        let w = t.1 in
        let u = w.0 in
        let mid = w.2.0 in
        let kind : HasKind m fn u = subst (λ ts. type_numbered ts (slice_get (function_types m) fn) ≡ Some u) known.0 (subst (λ fs. type_numbered c.types (slice_get fs fn) ≡ Some u) known.1 w.1) in
        and_then_fine allowed program (length c.locals) (length m.globals) (Jumps c.labels hs) (λ count. arity c.result ≤ count) (base + length after) (base + length mid + length u.results) (calls fn s) (does program calls rest)
        (call_fine c hs fn u s (base + length mid) kind f (omega (arith, e, ap length w.2.1, onto_length u.params mid)))
        (λ v fit n. does_fine rest (acts_fine rest) c hs base t.0 after known laid t.2 v fit (omega (arith, n, ap length w.2.2, onto_length u.results mid)))
    acts_fine (CallIndirect wanted rest) c hs base before after known laid t s f e =
        let w = t.1.1 in
        let u = w.0 in
        let x = w.2 in
        let mid = x.2.0 in
        let found : slice_get m.types wanted ≡ Some u = subst (λ ts. slice_get ts wanted ≡ Some u) known.0 w.1 in
        taking_fine allowed program (length c.locals) (length m.globals) (Jumps c.labels hs) (λ count. arity c.result ≤ count) (base + length after) (stack_of s) s _ (base + length x.0) (omega (arith, e, ap length x.1))
        (λ at below k.
        and_then_fine allowed program (length c.locals) (length m.globals) (Jumps c.labels hs) (λ count. arity c.result ≤ count) (base + length after) (base + length mid + length u.results) _ (does program calls rest)
        (indirect_fine c hs wanted (low at) u (on_stack s below) (base + length mid) found f (omega (arith, k, ap length x.2.1, onto_length u.params mid)))
        (λ v fit n. does_fine rest (acts_fine rest) c hs base t.0 after known laid t.2 v fit (omega (arith, n, ap length x.2.2, onto_length u.results mid))))
    acts_fine (MemoryGrow rest) c hs base before after known laid t s f e =
        let w = t.1.1 in
        taking_fine allowed program (length c.locals) (length m.globals) (Jumps c.labels hs) (λ count. arity c.result ≤ count) (base + length after) (stack_of s) s _ (base + length w.0) (omega (arith, e, ap length w.1))
        (λ pages below k.
        let fits : FitIn c s.left (on_stack s below) = (f.0, f.1, below_less allowed program s.world (suc s.left) s.left (omega arith) f.2) in
        and_then_fine allowed program (length c.locals) (length m.globals) (Jumps c.labels hs) (λ count. arity c.result ≤ count) (base + length after) (suc (length below)) _ (does program calls rest)
        (grow_fine W R allowed program (length c.locals) (length m.globals) c.labels hs (λ count. arity c.result ≤ count) (low pages) (on_stack s below) (suc (length below)) fits refl)
        (λ v fit n. does_fine rest (acts_fine rest) c hs base t.0 after known laid t.2 v fit (omega (arith, n, k, ap length w.2))))

-- ---- functions

module _ {W R : Type 0} (host : HostMeaning W R) (allowed : W → ℕ → List ℕ → ℕ → Type 0) (m : Tree) (program : Program) (typed : IsTyped m program) (answers : ImportsTyped allowed host program)
    (keeps : (w : W) (number : ℕ) (args : List ℕ) (memory : LinearMemory) (left : ℕ) → allowed w number args left → Keeps allowed w left (host w number args memory left).reply (host w number args memory left).left)
    (falls : HostFalls host) where
  abbrev Called : (locals globals count : ℕ) → Outcome W R → Type 0
  Called l g k o = Fine allowed program l g (λ n count. ⊥) (λ count. ⊥) k o

  replies_as : (results : List ValueKind) (r : Reply W R) → IsReplyOf (result_of results) r → Replies results r
  replies_as [] (value n w memory) h = absurd h
  replies_as (k ∷ ks) (value n w memory) h = refl
  replies_as [] (nothing w memory) h = refl
  replies_as (k ∷ ks) (nothing w memory) h = absurd h
  replies_as results (exit w memory) h = tt
  replies_as results (refused r) h = tt
  replies_as results step_limit h = tt

  none_given : (kinds : List ValueKind) → gives_none kinds ≡ true → length kinds ≡ 0
  none_given [] e = refl
  none_given (k ∷ ks) e = cc

  one_given : (kinds : List ValueKind) → gives_none kinds ≡ false → length kinds ≤ 1 → length kinds ≡ 1
  one_given [] e le = cc
  one_given (k ∷ ks) e le = omega (arith, le)

  host_fine : (f number : ℕ) (kind : FuncType) (s : State W) (below : ℕ) → slice_get program.functions f ≡ Some (Given kind number) → MayCall allowed program s.world s.left →
      length (stack_of s) ≡ below + length kind.params → length kind.results ≤ 1 → Called (length s.values.locals) (length s.values.globals) (below + length kind.results) (call_host host kind number s)
  host_fine f number kind s below found may e few = by_supply (s.environment.call_lacks s.environment.calls)
    where
      args : List ℕ
      args = masked kind.params (arguments (length kind.params) (stack_of s))

      o : answered.Outcome W R
      o = host s.world number args s.values.memory s.left

      fits : all_fit kind.params args ≡ true
      fits = mask_fits kind.params (arguments (length kind.params) (stack_of s)) (arguments_length (length kind.params) (stack_of s) (omega (arith, e)))

      allow : allowed s.world number args s.left
      allow = may kind number args (f, found) fits

      rest : length (drop (length kind.params) (stack_of s)) ≡ below
      rest = omega (arith, e, length-drop (length kind.params) (stack_of s))

      by_reply : (r : Reply W R) (left : ℕ) → Replies kind.results r → Keeps allowed s.world s.left r left →
          Called (length s.values.locals) (length s.values.globals) (below + length kind.results) (of_reply kind.results number args (drop (length kind.params) (stack_of s)) r left s)
      by_reply (value n w memory) left q k =
          only_fine allowed program (length s.values.locals) (length s.values.globals) (λ n count. ⊥) (λ count. ⊥) (below + length kind.results) (not (gives_none kind.results)) _ (ap not q)
          ((refl, refl, λ less lt kd nm xs g fit. k nm xs less lt (may kd nm xs g fit)), omega (arith, rest, one_given kind.results q few))
      by_reply (nothing w memory) left q k =
          only_fine allowed program (length s.values.locals) (length s.values.globals) (λ n count. ⊥) (λ count. ⊥) (below + length kind.results) (gives_none kind.results) _ q
          ((refl, refl, λ less lt kd nm xs g fit. k nm xs less lt (may kd nm xs g fit)), omega (arith, rest, none_given kind.results q))
      by_reply (exit w memory) left q k = tt
      by_reply (refused r) left q k = tt
      by_reply step_limit left q k = tt

      by_supply : (b : Bool) → Called (length s.values.locals) (length s.values.globals) (below + length kind.results) (host_supplied b number args (of_reply kind.results number args (drop (length kind.params) (stack_of s)) o.reply o.left s) s)
      by_supply true = tt
      by_supply false = by_reply o.reply o.left (replies_as kind.results o.reply (answers kind number args s.world s.values.memory s.left (f, found) fits allow)) (keeps s.world number args s.values.memory s.left allow)

  module _ (r : Option ValueKind) (locals operands : List ℕ) (l g k : ℕ) (count : k ≡ length operands + arity r) where
    back_fine : (s : State W) → Fit allowed program l g s.left s → arity r ≤ length (stack_of s) → Called (length locals) g k (back r locals operands s)
    back_fine s f le =
        only_fine allowed program (length locals) g (λ n count. ⊥) (λ count. ⊥) k (nat_le (arity r) (length (stack_of s))) (Normal (returned r locals operands s)) (le-leb (arity r) (length (stack_of s)) le)
        ((refl, f.1, f.2), omega (arith, count, length-append (take (arity r) (stack_of s)) operands, length-take-le (arity r) (stack_of s) le))

    of_call_fine : (o : Outcome W R) → Fine allowed program l g (Jumps (r ∷ []) (0 ∷ [])) (λ n. arity r ≤ n) (0 + length (kinds_of r)) o → Called (length locals) g k (of_call r locals operands o)
    of_call_fine o f = through_call (Fine allowed program l g (Jumps (r ∷ []) (0 ∷ [])) (λ n. arity r ≤ n) (0 + length (kinds_of r))) (Called (length locals) g k)
        (handed allowed program l g (length locals) g (Jumps (r ∷ []) (0 ∷ [])) (λ n count. ⊥) (λ n. arity r ≤ n) (λ count. ⊥) (0 + length (kinds_of r)) k) r locals operands o
        (λ s f. back_fine s f.0 (has_results (length (stack_of s)) f.1)) (λ s f. back_fine s f.0 (wanted (length (stack_of s)) f.1)) (λ n s f. f.1) (λ s f. back_fine s f.0 f.1) f
      where
        has_results : (n : ℕ) → n ≡ 0 + length (kinds_of r) → arity r ≤ n
        has_results n e = omega (arith, e, kinds_length r)

        wanted : (n : ℕ) → 0 + arity r ≤ n → arity r ≤ n
        wanted n le = omega (arith, le)

  own_fine : (calls : ℕ → State W → Outcome W R) → ((f : ℕ) → AllLower (calls f)) → CallsFine allowed m program typed calls → (t : FuncType) (locals : ℕ) (body : Expression) (s : State W) (below : ℕ) → length t.results ≤ 1 →
      (kinds : List ValueKind) → length kinds ≡ locals → Typed (context_of m t.params kinds (result_of t.results)) body [] (kinds_of (result_of t.results)) →
      length s.values.globals ≡ length m.globals → MayBelow allowed program s.world s.left → length (stack_of s) ≡ below + length t.params →
      Called (length s.values.locals) (length m.globals) (below + length t.results) (call_own (does program calls) t locals body s)
  own_fine calls lower fine t locals body s below few kinds n ty g may e =
      let r = result_of t.results in
      let operands = drop (length t.params) (stack_of s) in
      let c = context_of m t.params kinds r in
      let same : length (entered t locals s).values.locals ≡ length c.locals = omega (arith, n, length-append (arguments (length t.params) (stack_of s)) (replicate locals 0), length-append t.params kinds, copies_length locals 0, arguments_length (length t.params) (stack_of s) (omega (arith, e))) in
      let count : below + length t.results ≡ length operands + arity r = omega (arith, e, length-drop (length t.params) (stack_of s), few_results t.results few) in
      of_call_fine r s.values.locals operands (length c.locals) (length m.globals) (below + length t.results) count (does program calls body (entered t locals s))
      (does_fine allowed m program typed calls lower fine body (acts_fine allowed m program typed calls lower fine body) c (0 ∷ []) 0 [] (kinds_of r) (refl, refl, refl) (le_self 0, tt) ty (entered t locals s) (same, g, may) refl)

  type_results : (f : ℕ) (t : FuncType) → HasKind m f t → length t.results ≤ 1
  type_results f t h = by_number (slice_get (function_types m) f) h
    where
      by_number : (o : Option ℕ) → type_numbered m.types o ≡ Some t → length t.results ≤ 1
      by_number None e = cc
      by_number (Some n) e = typed.results n t e

  abbrev Owns : (FuncType → ℕ → Expression → State W → Outcome W R) → Type 0
  Owns own = (t : FuncType) (locals : ℕ) (body : Expression) (s : State W) (below : ℕ) → length t.results ≤ 1 →
      (kinds : List ValueKind) → length kinds ≡ locals → Typed (context_of m t.params kinds (result_of t.results)) body [] (kinds_of (result_of t.results)) →
      length s.values.globals ≡ length m.globals → MayBelow allowed program s.world s.left → length (stack_of s) ≡ below + length t.params →
      Called (length s.values.locals) (length m.globals) (below + length t.results) (own t locals body s)

  of_function_fine : (own : FuncType → ℕ → Expression → State W → Outcome W R) → Owns own → (f : ℕ) (t : FuncType) → HasKind m f t → (s : State W) (below : ℕ) → length s.values.globals ≡ length m.globals →
      MayBelow allowed program s.world s.left → (IsHosts program f → MayCall allowed program s.world s.left) → length (stack_of s) ≡ below + length t.params →
      Called (length s.values.locals) (length m.globals) (below + length t.results) (of_function host own (slice_get program.functions f) s)
  of_function_fine own owns f t h s below g may here e =
      let i = typed.functions f t h in
      subst (λ o. Called (length s.values.locals) (length m.globals) (below + length t.results) (of_function host own o s)) (sym i.1) (by_instance i.0 i.1 i.2)
    where
      enough : nat_le (length t.params) (length (stack_of s)) ≡ true
      enough = le-leb (length t.params) (length (stack_of s)) (omega (arith, e))

      by_instance : (i : FunctionInstance) → slice_get program.functions f ≡ Some i → IsOf m i t → Called (length s.values.locals) (length m.globals) (below + length t.results) (of_function host own (Some i) s)
      by_instance (Own kind locals body) q o =
          subst (λ k. Called (length s.values.locals) (length m.globals) (below + length t.results) (only_if (nat_le (length k.params) (length (stack_of s))) (own k locals body s))) (sym o.0)
          (only_fine allowed program (length s.values.locals) (length m.globals) (λ n count. ⊥) (λ count. ⊥) (below + length t.results) (nat_le (length t.params) (length (stack_of s))) (own t locals body s) enough
          (owns t locals body s below (type_results f t h) o.1 o.2 o.3 g may e))
      by_instance (Given kind number) q o =
          subst (λ k. Called (length s.values.locals) (length m.globals) (below + length t.results) (only_if (nat_le (length k.params) (length (stack_of s))) (call_host host k number s))) (sym o)
          (only_fine allowed program (length s.values.locals) (length m.globals) (λ n count. ⊥) (λ count. ⊥) (below + length t.results) (nat_le (length t.params) (length (stack_of s))) (call_host host t number s) enough
          (subst (λ x. Called (length s.values.locals) x (below + length t.results) (call_host host t number s)) g
          (host_fine f number t s below (q ∙ ap (λ k. Some (Given k number)) o) (here (kind, number, q)) e (type_results f t h))))
      by_instance Missing q o = absurd o

  -- a call, where so many frames are free
  pub call_is_fine : (free f : ℕ) (t : FuncType) → HasKind m f t → (s : State W) (below : ℕ) → length s.values.globals ≡ length m.globals →
      MayBelow allowed program s.world s.left → (IsHosts program f → MayCall allowed program s.world s.left) → length (stack_of s) ≡ below + length t.params →
      Called (length s.values.locals) (length m.globals) (below + length t.results) (call host program free f s)
  call_is_fine zero f t h s below g may here e = of_function_fine no_frame (λ t locals body s below few kinds n ty g may e. tt) f t h s below g may here e
  call_is_fine (suc free) f t h s below g may here e =
      of_function_fine (call_own (does program (call host program free)))
      (own_fine (call host program free) (call_lowers host falls program free) (λ f t h s below g may e. call_is_fine free f t h s below g
      (below_less allowed program s.world (suc s.left) s.left (omega arith) may) (λ hosts. may s.left (omega arith)) e)) f t h s below g may here e

  settled_fine : (l g k : ℕ) (o : Outcome W R) → Called l g k o → Called l g k (settled o)
  settled_fine l g k o h = through_settled (Called l g k) (Called l g k) (handed allowed program l g l g (λ n count. ⊥) (λ n count. ⊥) (λ count. ⊥) (λ count. ⊥) k k) o
      (λ s f. f) (λ n s f. f.1) (λ s f. f.1) h

  -- a call from outside
  pub invoked_is_fine : (free f : ℕ) (t : FuncType) → HasKind m f t → (s : State W) (below : ℕ) → length s.values.globals ≡ length m.globals →
      MayBelow allowed program s.world s.left → (IsHosts program f → MayCall allowed program s.world s.left) → length (stack_of s) ≡ below + length t.params →
      Called (length s.values.locals) (length m.globals) (below + length t.results) (invoked host program free f s)
  invoked_is_fine free f t h s below g may here e = by_supply (s.environment.item_lacks s.environment.items)
    where
      by_supply : (b : Bool) → Called (length s.values.locals) (length m.globals) (below + length t.results) (supplied b s (λ u. settled (call host program free f u)))
      by_supply true = tt
      by_supply false =
          let u = record s { environment = after_item s.environment } in
          settled_fine (length s.values.locals) (length m.globals) (below + length t.results) (call host program free f u) (call_is_fine free f t h u below g may here e)
