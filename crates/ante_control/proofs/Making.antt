-- The block that is being made, as it begins, grows and goes.
use Rattle.std.proofs.Common.{◌≡◌, ◌==◌, ℕ, ◌+◌, ◌<◌, ◌≤◌, true, List, [], length, Option, Some, None, IsSome, IfSome, OnSome, Result, Ok, Err, IsOk, refl, sym, ap, subst, ◌∙◌, arith}
use Rattle.std.proofs.lemmas.Bool.Decides.{nat_tests}
use Rattle.std.specs.List.{flat_map, AllByRecursion}
use Rattle.ante_pack.specs.declared.fault.PackFault.{PackFault}
use Rattle.ante_pack.specs.Forms.{whole, list_of, string}
use Rattle.ante_types.specs.declared.chain.BlockInfo.{BlockInfo}
use Rattle.ante_types.specs.declared.chain.Receipt.{Receipt}
use Rattle.ante_types.specs.declared.failure.Failure.{Failure}
use Rattle.ante_types.specs.declared.trace.Trace.{Trace}
use Rattle.ante_types.specs.Chain.{block, receipt, transaction}
use Rattle.ante_verdicts.specs.Judge.{Judge}
use Rattle.ante_undo.specs.Stack.{Stack}
use Rattle.ante_machine.specs.Steps.{Steps, IsSoundTrx, receipts_run}
use Rattle.ante_machine.specs.Stacks.{Pending}
use Rattle.ante_fork.specs.Tree.{Tree}
use Rattle.ante_control.specs.Held.{IsHeld, IsNext}
use Rattle.ante_control.specs.Making.{Making, IsRun, begun_block, with_receipt, with_trx, receipt_of, roomy_block, has_room, most_block_bytes}
use Rattle.ante_control.specs.Shown.{making, info_shown}
use Rattle.ante_control.proofs.Lengths.{receipt_fits, snoc_fits, snoc_small, roomy_length}
use Rattle.ante_control.proofs.Sealing.{pending_more, trx_runs}
use Rattle.ante_control.proofs.Starting.{no_receipts}

module _ {W : Type 0} where
  -- the world is what the receipts come to, upon the newest world
  abbrev pub HasRun : Steps W → (chain : List ℕ) → Judge → Stack W → Option (Making W) → Type 0
  HasRun steps chain judge s made = IfSome made (λ m. receipts_run steps chain judge m.info m.receipts (steps.begin chain s.top m.info) ≡ Ok m.world)

-- ---- receipts

more_small : (rs : List Receipt) (f : Option Failure) (steps : ℕ) (packed : List ℕ) (signatures : List (List ℕ)) → has_room rs packed signatures ≡ true →
    (f ≡ None → length packed + length ((list_of string).spell signatures) ≤ 1500000) → length (block.spell (roomy_block rs)) ≤ most_block_bytes →
    length (block.spell (roomy_block (with_receipt f (receipt_of steps packed signatures) rs))) ≤ most_block_bytes
more_small rs None steps packed signatures room few small = snoc_small rs steps packed signatures room (few refl)
more_small rs (Some f) steps packed signatures room few small = small

more_fits : (rs : List Receipt) (f : Option Failure) (steps : ℕ) (packed : List ℕ) (signatures : List (List ℕ)) → steps < 4294967296 →
    (f ≡ None → length packed + length ((list_of string).spell signatures) ≤ 1500000) → AllByRecursion receipt.Fits rs →
    AllByRecursion receipt.Fits (with_receipt f (receipt_of steps packed signatures) rs)
more_fits rs None steps packed signatures lt few all = snoc_fits rs (receipt_of steps packed signatures) all (receipt_fits steps packed signatures lt (few refl))
more_fits rs (Some f) steps packed signatures lt few all = all

whole_some : {A : Type 0} (read : Result A PackFault) → IsOk read → (x : A) × (read ≡ Ok x)
whole_some (Ok x) h = (x, refl)
whole_some (Err fault) h = cc

same_nat : (n : ℕ) → (n == n) ≡ true
same_nat n = grind (arith, nat_tests)

module _ {W : Type 0} where
  pub held_small : (t : Tree) (info : Option BlockInfo) (rs : List Receipt) (n : ℕ) (o : Option (Pending W)) → IsHeld t info rs n o → n ≤ most_block_bytes
  held_small t info rs n o is = omega (arith, is.bytes, is.small, roomy_length rs)

  -- ---- its beginning

  pub begun_held : (t : Tree) (info : BlockInfo) (w : W) (rs : List Receipt) (o : Option (Pending W)) → rs ≡ [] → IsNext t info → o ≡ Some (record { info = info; world = w }) → IsHeld t (Some info) rs 0 o
  begun_held t info w rs o e next f =
      subst (λ xs. IsHeld t (Some info) xs 0 o) (sym e)
      (subst (λ x. IsHeld t (Some info) [] 0 x) (sym f) (record { same = refl; next = next; bytes = refl; small = no_receipts; fits = tt }))

  pub begun_made : (steps : Steps W) (chain : List ℕ) (judge : Judge) (s s2 : Stack W) (info : BlockInfo) (rs : List Receipt) (o : Option (Pending W)) → rs ≡ [] →
      o ≡ Some (record { info = info; world = steps.begin chain s.top info }) → s2 ≡ s → HasRun steps chain judge s2 (making rs o)
  unfolding receipts_run
  begun_made steps chain judge s s2 info rs o e f same =
      let made : making rs o ≡ Some (begun_block steps chain s.top info) = ap (making rs) f ∙ ap (λ xs. making xs (Some (record { info = info; world = steps.begin chain s.top info }))) e in
      subst (HasRun steps chain judge s2) (sym made) (ap (λ z. Ok (steps.begin chain z.top info)) same)

  -- ---- a transaction more

  more_held : (t : Tree) (info : Option BlockInfo) (rs rs2 : List Receipt) (n n2 : ℕ) (p : Pending W) (packed : List ℕ) (signatures : List (List ℕ)) (done : W × Trace) (trace : Trace) (o2 : Option (Pending W)) →
      IsSoundTrx p.world packed signatures done → has_room rs packed signatures ≡ true → IsRun packed signatures p done trace o2 rs rs2 → n2 ≡ length (flat_map receipt.spell rs2) →
      IsHeld t info rs n (Some p) → IsHeld t info rs2 n2 o2
  more_held t info rs rs2 n n2 p packed signatures done trace o2 sound room run bytes is = record {
    same = is.same ∙ sym (ap info_shown run.pending);
    next = is.next;
    bytes = bytes;
    small = subst (λ xs. length (block.spell (roomy_block xs)) ≤ most_block_bytes) (sym run.receipts) (more_small rs done.1.failure done.1.steps packed signatures room sound.small is.small);
    fits = subst (AllByRecursion receipt.Fits) (sym run.receipts) (more_fits rs done.1.failure done.1.steps packed signatures sound.steps sound.small is.fits);
  }

  pub ran_held : (t : Tree) (info : Option BlockInfo) (rs rs2 : List Receipt) (n n2 : ℕ) (o o2 : Option (Pending W)) (packed : List ℕ) (signatures : List (List ℕ)) (trx : W → BlockInfo → W × Trace) (trace : Trace) →
      ((w : W) (i : BlockInfo) → IsSoundTrx w packed signatures (trx w i)) → IsSome (making rs o) → IfSome (making rs o) (λ m. has_room m.receipts packed signatures ≡ true) →
      IfSome o (λ p. IsRun packed signatures p (trx p.world p.info) trace o2 rs rs2) → n2 ≡ length (flat_map receipt.spell rs2) → IsHeld t info rs n o → IsHeld t info rs2 n2 o2
  ran_held t info rs rs2 n n2 None o2 packed signatures trx trace sound some room run bytes is = cc
  ran_held t info rs rs2 n n2 (Some p) o2 packed signatures trx trace sound some room run bytes is =
      more_held t info rs rs2 n n2 p packed signatures (trx p.world p.info) trace o2 (sound p.world p.info) room run bytes is

  more_runs : (steps : Steps W) (chain : List ℕ) (judge : Judge) (info : BlockInfo) (rs : List Receipt) (packed : List ℕ) (signatures : List (List ℕ)) (start w : W) (done : W × Trace) →
      done ≡ steps.trx chain judge w info packed signatures → IsOk (whole transaction packed) → IsSoundTrx w packed signatures done → (f : Option Failure) → done.1.failure ≡ f →
      receipts_run steps chain judge info rs start ≡ Ok w →
      receipts_run steps chain judge info (with_receipt f (receipt_of done.1.steps packed signatures) rs) start ≡ Ok done.0
  more_runs steps chain judge info rs packed signatures start w done is reads sound (Some f) failed e =
      let same : done.0 ≡ w = subst (λ o. OnSome o (done.0 ≡ w)) failed sound.failed in
      e ∙ ap Ok (sym same)
  more_runs steps chain judge info rs packed signatures start w done is reads sound None fine e =
      let read = whole_some (whole transaction packed) reads in
      let r : Receipt = receipt_of done.1.steps packed signatures in
      let steps_same : ((steps.trx chain judge w info packed signatures).1.steps == done.1.steps) ≡ true =
      subst (λ d. (d.1.steps == done.1.steps) ≡ true) is (same_nat done.1.steps) in
      let one = trx_runs steps chain judge info w r read.0 read.1 (ap (λ d. d.1.failure) (sym is) ∙ fine) steps_same in
      pending_more steps chain judge info rs r start w done.0 e (one ∙ ap (λ d. Ok d.0) (sym is))

  -- its world is still what its receipts come to
  pub ran_made : (steps : Steps W) (chain : List ℕ) (judge : Judge) (s s2 : Stack W) (rs rs2 : List Receipt) (o o2 : Option (Pending W)) (packed : List ℕ) (signatures : List (List ℕ)) (trace : Trace) →
      IsOk (whole transaction packed) → ((w : W) (i : BlockInfo) → IsSoundTrx w packed signatures (steps.trx chain judge w i packed signatures)) → s2 ≡ s → IsSome (making rs o) →
      IfSome o (λ p. IsRun packed signatures p (steps.trx chain judge p.world p.info packed signatures) trace o2 rs rs2) → HasRun steps chain judge s (making rs o) → HasRun steps chain judge s2 (making rs2 o2)
  ran_made steps chain judge s s2 rs rs2 None o2 packed signatures trace reads sound same some run made = cc
  ran_made steps chain judge s s2 rs rs2 (Some p) o2 packed signatures trace reads sound same some run made =
      let done : W × Trace = steps.trx chain judge p.world p.info packed signatures in
      let more : making rs2 o2 ≡ Some (with_trx packed signatures done (record { info = p.info; receipts = rs; world = p.world })) =
      ap (making rs2) run.pending ∙ ap (λ xs. Some (record { info = p.info; receipts = xs; world = done.0 })) run.receipts in
      let runs = more_runs steps chain judge p.info rs packed signatures (steps.begin chain s.top p.info) p.world done refl reads (sound p.world p.info) done.1.failure refl made in
      subst (HasRun steps chain judge s2) (sym more)
      (subst (λ z. receipts_run steps chain judge p.info (with_receipt done.1.failure (receipt_of done.1.steps packed signatures) rs) (steps.begin chain z.top p.info) ≡ Ok done.0) (sym same) runs)

  -- ---- its end

  pub never_idle : (t : Tree) (info : Option BlockInfo) (rs : List Receipt) (n : ℕ) (o : Option (Pending W)) → info ≡ None → IsSome (making rs o) → IsHeld t info rs n o → ⊥
  never_idle t info rs n None none some is = cc
  never_idle t info rs n (Some p) none some is = let h : Some p.info ≡ None = sym is.same ∙ none in cc
