-- What follows for every codec.
use Rattle.std.proofs.Common.{◌≡◌, ℕ, ◌+◌, cond, eqb, List, [], ◌++◌, length, Result, Ok, Err, refl, sym, ap, subst, ◌∙◌}
use Rattle.std.specs.Prelude.{IfOk}
use Rattle.std.proofs.lemmas.Bool.{eqb-true}
use Rattle.std.proofs.lemmas.List.{append-nil, nil_from_length}
use Rattle.ante_pack.specs.declared.fault.PackFault.{PackFault}
use Rattle.ante_pack.specs.declared.fault.PackFault.TheVariants.{Trailing}
use Rattle.ante_pack.specs.declared.fault.ReadFault.{ReadFault}
use Rattle.ante_pack.specs.declared.fault.ReadFault.TheVariants as faults
use Rattle.ante_pack.specs.Forms.{Cursor, IsBytes, Form, Packs, whole, IsWhole, ReadsWhole, ReadsTo, ReadsAt, HasOneSpelling}
use Rattle.ante_pack.specs.ReadSteps.{bind_ok, guard_done, done, ok_is}
use Rattle.ante_pack.specs.Codec.{IsCodec}

pub one_spelling : {A : Type 0} (form : Form A) → IsCodec form → HasOneSpelling form
one_spelling {A} form codec a b x y fa fb e =
    let left : form.read (record { at = 0; rest = form.spell a ++ x }) ≡ Ok (a, record { at = 0 + length (form.spell a); rest = x }) = codec.again a 0 x fa in
    let right : form.read (record { at = 0; rest = form.spell b ++ y }) ≡ Ok (b, record { at = 0 + length (form.spell b); rest = y }) = codec.again b 0 y fb in
    let same = sym left ∙ ap (λ (t : List ℕ). form.read (record { at = 0; rest = t })) e ∙ right in
    let p = ok_is _ _ same in
    (ap (λ (q : A × Cursor). q.0) p, ap (λ (q : A × Cursor). q.1.rest) p)

whole_packs : {A : Type 0} (form : Form A) → IsCodec form → (bytes : List ℕ) (v : A) → IsBytes bytes → whole form bytes ≡ Ok v → Packs form v bytes
whole_packs {A} form codec bytes v fits e =
    let start : Cursor = record { at = 0; rest = bytes } in
    let a = bind_ok (form.read start) (λ a. cond (eqb (length a.1.rest) 0) (done a.0) (Err (Trailing a.1.at))) v e in
    let g = guard_done (eqb (length a.0.1.rest) 0) (Trailing a.0.1.at) a.0.0 v a.2 in
    let t = codec.takes start a.0.0 a.0.1 fits a.1 in
    let nothing : a.0.1.rest ≡ [] = nil_from_length a.0.1.rest (eqb-true _ _ g.0) in
    let text : bytes ≡ form.spell a.0.0 = t.0.parts ∙ ap (λ (r : List ℕ). form.spell a.0.0 ++ r) nothing ∙ append-nil (form.spell a.0.0) in
    subst (λ (w : A). Packs form w bytes) g.1 (record { fits = t.1; spelled = text })

packs_whole : {A : Type 0} (form : Form A) → IsCodec form → (bytes : List ℕ) (v : A) → Packs form v bytes → whole form bytes ≡ Ok v
packs_whole {A} form codec bytes v p =
    let read : form.read (record { at = 0; rest = bytes }) ≡ Ok (v, record { at = 0 + length (form.spell v); rest = [] }) =
    ap (λ (t : List ℕ). form.read (record { at = 0; rest = t })) (p.spelled ∙ sym (append-nil (form.spell v))) ∙ codec.again v 0 [] p.fits in
    rw read refl

whole_again : {A : Type 0} (r : Result A ReadFault) (read : Result A PackFault) (v : A) → read ≡ Ok v → IsWhole r read → IsWhole r (Ok v)
whole_again (Ok x) read v e given = sym e ∙ given
whole_again (Err faults.OutOfMemory) read v e given = tt
whole_again (Err (faults.Pack fault)) read v e given = sym e ∙ given

found : {A : Type 0} (form : Form A) → IsCodec form → (bytes : List ℕ) (r : Result A ReadFault) → IsBytes bytes → IsWhole r (whole form bytes) → IfOk r (λ v. Packs form v bytes)
found form codec bytes (Ok v) fits given = whole_packs form codec bytes v fits given
found form codec bytes (Err e) fits given = tt

pub reads_whole : {A : Type 0} (form : Form A) → IsCodec form → (bytes : List ℕ) (r : Result A ReadFault) → IsBytes bytes → IsWhole r (whole form bytes) → ReadsWhole form bytes r
reads_whole form codec bytes r fits given = record {
  found = found form codec bytes r fits given;
  only = λ v p. whole_again r (whole form bytes) v (packs_whole form codec bytes v p) given;
  fault = given;
}

pub reads_at : {A : Type 0} (form : Form A) → IsCodec form → (old new : Cursor) (value : A) → IsBytes old.rest → form.read old ≡ Ok (value, new) → ReadsAt form old new (Ok value)
reads_at {A} form codec old new value fits e =
    let t = codec.takes old value new fits e in
    record {
      found = (t.1, t.0.parts, t.0.place);
      only = λ other rest fo text.
          let again : form.read old ≡ Ok (other, record { at = old.at + length (form.spell other); rest = rest }) =
          ap (λ (s : List ℕ). form.read (record { at = old.at; rest = s })) text ∙ codec.again other old.at rest fo in
          ap (λ (q : A × Cursor). done q.0) (ok_is _ _ (sym again ∙ e));
      fault = tt;
      stays = tt;
    }

pub refuses_at : {A : Type 0} (form : Form A) → IsCodec form → (old new : Cursor) (e : ReadFault) → ReadsTo {X = A} (Err e) new (form.read old) → ReadsAt form old old (Err e)
refuses_at {A} form codec old new faults.OutOfMemory given = record { found = tt; only = λ _ _ _ _. tt; fault = tt; stays = refl }
refuses_at {A} form codec old new (faults.Pack fault) given = record {
  found = tt;
  only = λ other rest fo text.
      let again : form.read old ≡ Ok (other, record { at = old.at + length (form.spell other); rest = rest }) =
      ap (λ (s : List ℕ). form.read (record { at = old.at; rest = s })) text ∙ codec.again other old.at rest fo in
      absurd (let clash = sym again ∙ given in cc);
  fault = given;
  stays = refl;
}
