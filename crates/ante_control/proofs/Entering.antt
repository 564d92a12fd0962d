-- Why a block doesn't enter the tree.
use Rattle.std.proofs.Common.{◌≡◌, ◌==◌, Bool, true, false, Option, Some, None, Err, refl, sym, ap, subst, ◌∙◌, if◌then◌else◌}
use Rattle.ante_types.specs.declared.chain.Block.{Block}
use Rattle.ante_types.specs.Ids.{block_num}
use Rattle.ante_verdicts.specs.Judge.{Judge}
use Rattle.ante_fork.specs.declared.AddError.{AddError}
use Rattle.ante_fork.specs.declared.AddError.TheVariants as add
use Rattle.ante_fork.specs.Rules.{refusal, IsAnswer}
use Rattle.ante_fork.specs.Tree.{Tree}
use Rattle.ante_control.specs.declared.error.PushError.{PushError}
use Rattle.ante_control.specs.declared.error.PushError.TheVariants as push
use Rattle.ante_control.specs.Errors.{pushed_error}
use Rattle.ante_control.specs.Pushing.{IsBarred, IsOut, barred_by, barrier, is_sealed, is_invalid}

added_cause : (judge : Judge) (t : Tree) (b : Block) (e : AddError) → IsAnswer (refusal t b) (Err e) → IsBarred (barrier judge t b) (pushed_error e)
added_cause judge t b add.OutOfMemory h = tt
added_cause judge t b add.Known h = ap (λ x. barred_by x (is_sealed judge b)) h
added_cause judge t b (add.Unlinkable previous) h = ap (λ x. barred_by x (is_sealed judge b)) h
added_cause judge t b add.BadRoot h = ap (λ x. barred_by x (is_sealed judge b)) h
added_cause judge t b add.BadSlot h = ap (λ x. barred_by x (is_sealed judge b)) h
added_cause judge t b add.BadProducer h = ap (λ x. barred_by x (is_sealed judge b)) h

added_other : (e : AddError) → is_invalid (pushed_error e) ≡ false
added_other add.OutOfMemory = refl
added_other add.Known = refl
added_other (add.Unlinkable previous) = refl
added_other add.BadRoot = refl
added_other add.BadSlot = refl
added_other add.BadProducer = refl

pub out_added : (judge : Judge) (t t1 : Tree) (b : Block) (e : AddError) (e2 : PushError) → e2 ≡ pushed_error e → IsAnswer (refusal t b) (Err e) → t1 ≡ t → IsOut judge b e2 t t1
out_added judge t t1 b e e2 from h same =
    subst (λ x. IsOut judge b x t t1) (sym from) (record { cause = added_cause judge t b e h; other = added_other e; tree = same })

last_by : (judge : Judge) (b : Block) (x : Option AddError) (t : Bool) → t ≡ true → barred_by (if t then Some (add.Unlinkable b.header.previous) else x) (is_sealed judge b) ≡ Some (push.Unlinkable b.header.previous)
last_by judge b x true e = refl
last_by judge b x false e = cc

pub out_last : (judge : Judge) (t : Tree) (b : Block) → (block_num b.header.previous == 4294967295) ≡ true → IsOut judge b (push.Unlinkable b.header.previous) t t
out_last judge t b last = record { cause = last_by judge b _ (block_num b.header.previous == 4294967295) last; other = refl; tree = refl }

pub out_seal : (judge : Judge) (t t1 : Tree) (b : Block) → refusal t b ≡ None → is_sealed judge b ≡ false → t1 ≡ t → IsOut judge b push.BadSeal t t1
out_seal judge t t1 b fits denied same = record {
  cause = ap (λ x. barred_by x (is_sealed judge b)) fits ∙ ap (barred_by None) denied;
  other = refl;
  tree = same;
}
