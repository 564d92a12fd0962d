-- The locals and the bodies that were read so far, before those that are still to be read.
use Rattle.std.proofs.Common.{◌≡◌, ℕ, suc, ◌+◌, ◌-◌, ◌<◌, ◌≤◌, List, [], ◌∷◌, ◌++◌, map, replicate, sym, ap, ◌∙◌, append-nil, arith}
use Rattle.std.specs.Prelude.{slice_get}
use Rattle.std.proofs.lemmas.List.{map-append}
use Rattle.ante_wtree.specs.Limits.{most_locals}
use Rattle.ante_wtree.specs.declared.instructions.ValueKind.{ValueKind}
use Rattle.ante_wtree.specs.declared.modules.FuncType.{FuncType}
use Rattle.ante_wtree.specs.declared.modules.Code.{Code}
use Rattle.ante_wtree.specs.Trees.{Body, body_of}
use Rattle.ante_wdecode.specs.declared.fault.Unread.{Unread}
use Rattle.ante_pack.specs.Forms.{◌>>=◌}
use Rattle.ante_wdecode.specs.Rules.{Read, Fails, limited}
use Rattle.ante_wdecode.specs.Opcodes.{value_type}
use Rattle.ante_wdecode.specs.Modules.{groups, code, params_of, codes}
use Rattle.ante_wdecode.proofs.Laws.{ok}
use Rattle.ante_wdecode.proofs.Fronts.{with_front, regroup, fails_front, fails_then, fails_as}

abbrev more_of : ℕ → ℕ → ℕ → ValueKind × List ℕ → Read (List ValueKind)
more_of left k n v = (groups (left - n) k).read v.1 >>= λ m. ok (replicate n v.0 ++ m.0) m.1

abbrev kind_of : ℕ → ℕ → ℕ × List ℕ → Read (List ValueKind)
kind_of left k n = value_type.read n.1 >>= more_of left k n.0

pub group_read : (front : List ValueKind) (left count counter : ℕ) (rest : List ℕ) (n : ℕ) (mid : List ℕ) (value : ValueKind) (after : List ℕ) (whole : Read (List ValueKind)) → counter < count →
    (limited left).read rest ≡ ok n mid → value_type.read mid ≡ ok value after → with_front front ((groups left (count - counter)).read rest) ≡ whole → with_front (front ++ replicate n value) ((groups (left - n) (count - (counter + 1))).read after) ≡ whole
group_read front left count counter rest n mid value after whole lt e f h =
    let k = count - (counter + 1) in
    let m : suc k ≡ count - counter = omega arith in
    regroup front (replicate n value) ((groups (left - n) k).read after)
    ∙ ap (with_front front) (sym (ap (λ r. r >>= kind_of left k) e ∙ ap (λ r. r >>= more_of left k n) f))
    ∙ ap (λ j. with_front front ((groups left j).read rest)) m
    ∙ h

pub no_count : (e : Unread) (front : List ValueKind) (left count counter : ℕ) (rest : List ℕ) (whole : Read (List ValueKind)) → counter < count → Fails e ((limited left).read rest) →
    with_front front ((groups left (count - counter)).read rest) ≡ whole → Fails e whole
no_count e front left count counter rest whole lt f h =
    let k = count - (counter + 1) in
    let m : suc k ≡ count - counter = omega arith in
    fails_front e front ((groups left (suc k)).read rest) whole (fails_then e ((limited left).read rest) (kind_of left k) f) (ap (λ j. with_front front ((groups left j).read rest)) m ∙ h)

pub no_kind : (e : Unread) (front : List ValueKind) (left count counter : ℕ) (rest : List ℕ) (n : ℕ) (mid : List ℕ) (whole : Read (List ValueKind)) → counter < count → (limited left).read rest ≡ ok n mid → Fails e (value_type.read mid) →
    with_front front ((groups left (count - counter)).read rest) ≡ whole → Fails e whole
no_kind e front left count counter rest n mid whole lt c f h =
    let k = count - (counter + 1) in
    let m : suc k ≡ count - counter = omega arith in
    fails_front e front ((groups left (suc k)).read rest) whole
    (fails_as e (kind_of left k (n, mid)) ((groups left (suc k)).read rest) (sym (ap (λ r. r >>= kind_of left k) c)) (fails_then e (value_type.read mid) (more_of left k n) f))
    (ap (λ j. with_front front ((groups left j).read rest)) m ∙ h)

pub groups_done : (front : List ValueKind) (left count counter : ℕ) (rest : List ℕ) (whole : Read (List ValueKind)) → count ≤ counter → with_front front ((groups left (count - counter)).read rest) ≡ whole → whole ≡ ok front rest
groups_done front left count counter rest whole le h =
    let m : count - counter ≡ 0 = omega arith in
    sym h ∙ ap (λ n. with_front front ((groups left n).read rest)) m ∙ ap (λ xs. ok xs rest) (append-nil front)

-- ---- bodies

abbrev pub most_of : List FuncType → ℕ → ℕ
most_of types n = most_locals - params_of (slice_get types n)

abbrev rest_of : List FuncType → List ℕ → Body × List ℕ → Read (List Body)
rest_of types ns b = (codes types ns).read b.1 >>= λ m. ok (b.0 ∷ m.0) m.1

pub body_read : (types : List FuncType) (front : List Code) (left ns : List ℕ) (n : ℕ) (rest : List ℕ) (c : Code) (after : List ℕ) (whole : Read (List Body)) → left ≡ n ∷ ns →
    (code (most_of types n)).read rest ≡ ok (body_of c) after → with_front (map body_of front) ((codes types left).read rest) ≡ whole → with_front (map body_of (front ++ c ∷ [])) ((codes types ns).read after) ≡ whole
body_read types front left ns n rest c after whole s e h =
    ap (λ f. with_front f ((codes types ns).read after)) (map-append body_of front (c ∷ []))
    ∙ regroup (map body_of front) (body_of c ∷ []) ((codes types ns).read after)
    ∙ ap (λ r. with_front (map body_of front) (r >>= rest_of types ns)) (sym e)
    ∙ ap (λ z. with_front (map body_of front) ((codes types z).read rest)) (sym s)
    ∙ h

pub no_body : (e : Unread) (types : List FuncType) (front : List Code) (left ns : List ℕ) (n : ℕ) (rest : List ℕ) (whole : Read (List Body)) → left ≡ n ∷ ns →
    Fails e ((code (most_of types n)).read rest) → with_front (map body_of front) ((codes types left).read rest) ≡ whole → Fails e whole
no_body e types front left ns n rest whole s f h =
    fails_front e (map body_of front) ((codes types (n ∷ ns)).read rest) whole (fails_then e ((code (most_of types n)).read rest) (rest_of types ns) f) (ap (λ z. with_front (map body_of front) ((codes types z).read rest)) (sym s) ∙ h)

pub bodies_done : (types : List FuncType) (front : List Code) (left rest : List ℕ) (whole : Read (List Body)) → left ≡ [] → with_front (map body_of front) ((codes types left).read rest) ≡ whole → whole ≡ ok (map body_of front) rest
bodies_done types front left rest whole s h = sym h ∙ ap (λ z. with_front (map body_of front) ((codes types z).read rest)) s ∙ ap (λ xs. ok xs rest) (append-nil (map body_of front))
