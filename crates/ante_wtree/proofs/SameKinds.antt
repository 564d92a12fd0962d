-- The test of kinds tells whether they are equal.
use Rattle.std.proofs.Common.{◌≡◌, ◌↔◌, Bool, true, false, ◌&&◌, List, [], ◌∷◌, refl, sym, subst}
use Rattle.std.specs.Bool.{Decides}
use Rattle.ante_wtree.specs.declared.instructions.ValueKind.{ValueKind}
use Rattle.ante_wtree.specs.declared.instructions.ValueKind.TheVariants.{I32, I64}
use Rattle.ante_wtree.specs.contracts.instructions.ValueKindPartialEq.TheImpl.{eq-value}
use Rattle.ante_wtree.specs.Types.{same_kind, same_kinds}

pub kinds_decide : (a b : ValueKind) → Decides (eq-value.it a b) (a ≡ b)
kinds_decide I32 I32 = (λ e. refl, λ e. refl)
kinds_decide I32 I64 = (λ e. cc, λ e. cc)
kinds_decide I64 I32 = (λ e. cc, λ e. cc)
kinds_decide I64 I64 = (λ e. refl, λ e. refl)

pub both : (a b : Bool) → (a && b) ≡ true → (a ≡ true) × (b ≡ true)
both true b h = (refl, h)
both false b h = cc

same_kind_is : (j k : ValueKind) → same_kind j k ≡ true → j ≡ k
same_kind_is I32 I32 h = refl
same_kind_is I64 I64 h = refl
same_kind_is I32 I64 h = cc
same_kind_is I64 I32 h = cc

same_kind_self : (k : ValueKind) → same_kind k k ≡ true
same_kind_self I32 = refl
same_kind_self I64 = refl

pub same_kinds_are : (js ks : List ValueKind) → same_kinds js ks ≡ true → js ≡ ks
same_kinds_are [] [] h = refl
same_kinds_are [] (k ∷ ks) h = cc
same_kinds_are (j ∷ js) [] h = cc
same_kinds_are (j ∷ js) (k ∷ ks) h =
    let b = both (same_kind j k) (same_kinds js ks) h in
    let head : j ≡ k = same_kind_is j k b.0 in
    let tail : js ≡ ks = same_kinds_are js ks b.1 in
    cc

pub same_kinds_self : (ks : List ValueKind) → same_kinds ks ks ≡ true
same_kinds_self [] = refl
same_kinds_self (k ∷ ks) = rw (same_kind_self k) (same_kinds_self ks)

pub test_is : (b : Bool) (js ks : List ValueKind) → (b ≡ true) ↔ (js ≡ ks) → b ≡ same_kinds js ks
test_is true js ks h = sym (subst (λ xs. same_kinds js xs ≡ true) (h.0 refl) (same_kinds_self js))
test_is false js ks h = other (same_kinds js ks) refl
  where
    other : (t : Bool) → same_kinds js ks ≡ t → false ≡ same_kinds js ks
    other false e = sym e
    other true e = let c : false ≡ true = h.1 (same_kinds_are js ks e) in cc
