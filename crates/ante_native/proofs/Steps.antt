-- How the checks of an action and its changes make up what it does.
use Rattle.std.proofs.Common.{◌≡◌, ◌∙◌, [], ◌∷◌, ◌||◌, ◌&&◌, not, Bool, true, false, true≢false, if◌then◌else◌, Option, Some, None, Result, Ok, Err, refl, sym, ap, subst}
use Rattle.std.specs.Option.{option_or}
use Rattle.ante_types.specs.declared.failure.Failure.{Failure}
use Rattle.ante_types.specs.World.{World}
use Rattle.ante_execution.specs.declared.ends.NativeFault.{NativeFault}
use Rattle.ante_execution.specs.declared.ends.NativeFault.TheVariants as native
use Rattle.ante_store.specs.declared.change.WriteError.{WriteError}
use Rattle.ante_state.specs.declared.objects.AccountRow.{AccountRow}
use Rattle.ante_store.specs.declared.change.Change.{Change}
use Rattle.ante_store.specs.declared.change.Change.TheVariants as change
use Rattle.ante_store.specs.Changes.{after, refusal}
use Rattle.ante_execution.specs.Answers.{DoesNative}
use Rattle.ante_execution.specs.Native.Rules.{made, make_all}
use Rattle.ante_execution.specs.Native.SetAbi.{described}
use Rattle.ante_execution.specs.Native.SetCode.{coded}
use Rattle.ante_execution.specs.NativeData.{SetAbi, SetCode}
use Rattle.ante_execution.specs.Refusals.{unless}
use Rattle.ante_native.specs.Parts.{Passes, Does}

pub refused_first : (acting : Option Failure) (r : Result World Failure) (v : World) (e : NativeFault) → Passes acting (Err e) → Does (unless acting r) (Err e) v
refused_first acting r v native.OutOfMemory p = tt
refused_first acting r v (native.Failed f) p = ap (λ (o : Option Failure). unless o r) p

pub refused_then : (acting refused : Option Failure) (r : Result World Failure) (v : World) (e : NativeFault) → acting ≡ None → Passes refused (Err e) →
    Does (unless acting (unless refused r)) (Err e) v
refused_then acting refused r v e none p =
    subst (λ (o : Option Failure). Does (unless o (unless refused r)) (Err e) v) (sym none) (refused_first refused r v e p)

pub done : (acting refused : Option Failure) (r : Result World Failure) (v : World) (result : Result (Unit {0}) NativeFault) → acting ≡ None → refused ≡ None →
    Does r result v → Does (unless acting (unless refused r)) result v
done acting refused r v result first second d =
    subst (λ (o : Option Failure). Does (unless o (unless refused r)) result v) (sym first) (subst (λ (o : Option Failure). Does (unless o r) result v) (sym second) d)

pub either_first : (a b : Option Failure) (e : NativeFault) → Passes a (Err e) → Passes (option_or a b) (Err e)
either_first a b native.OutOfMemory p = tt
either_first a b (native.Failed f) p = ap (λ (o : Option Failure). option_or o b) p

pub either_then : (a b : Option Failure) (result : Result (Unit {0}) NativeFault) → a ≡ None → Passes b result → Passes (option_or a b) result
either_then a b result none p = subst (λ (o : Option Failure). Passes (option_or o b) result) (sym none) p

-- a change that isn't made ends the rest
pub unmade : (e : Option WriteError) (w v : World) (r : Result World Failure) (f : NativeFault) → Does (made e (Ok w)) (Err f) v → (u : World) → Does (made e r) (Err f) u
unmade e w v r native.OutOfMemory p u = tt
unmade (Some x) w v r (native.Failed f) p u = p
unmade None w v r (native.Failed f) p u = absurd (true≢false (ap (λ (o : Result World Failure). elim o as (λ _. Bool) [ Ok x ↦ true | Err y ↦ false ]) p))

-- a code that may be is no refusal, and one that may not is
pub no_bad_code : (a b : Bool) (f : Failure) → true ≡ (a || b) → (if not a && not b then Some f else None) ≡ None
no_bad_code true b f h = refl
no_bad_code false true f h = refl
no_bad_code false false f h = absurd (true≢false h)

pub bad_code : (a b : Bool) (f : Failure) → false ≡ (a || b) → (if not a && not b then Some f else None) ≡ Some f
bad_code true b f h = absurd (true≢false (sym h))
bad_code false true f h = absurd (true≢false (sym h))
bad_code false false f h = refl

pub stops_second : (a b c : Change) (w x v : World) (f : NativeFault) → refusal a w ≡ None → x ≡ after a w → Does (made (refusal b x) (Ok (after b x))) (Err f) v →
    Does (make_all (a ∷ b ∷ c ∷ []) w) (Err f) v
stops_second a b c w x v f granted is p =
    subst (λ (e : Option WriteError). Does (made e (make_all (b ∷ c ∷ []) (after a w))) (Err f) v) (sym granted)
    (unmade (refusal b (after a w)) (after b (after a w)) v (make_all (c ∷ []) (after b (after a w))) f (subst (λ (y : World). Does (made (refusal b y) (Ok (after b y))) (Err f) v) is p) v)

-- a native action that failed, by what was to be done
pub fails_native : (does : Option (Result World Failure)) (r : Result World Failure) (f : NativeFault) (v : World) → does ≡ Some r → Does r (Err f) v → DoesNative does (Err f) v
fails_native does r native.OutOfMemory v is p = tt
fails_native does r (native.Failed f) v is p = is ∙ ap (λ (x : Result World Failure). Some x) p

-- the same three changes
pub three : {a x b y c z : Change} (w v : World) (result : Result (Unit {0}) NativeFault) → a ≡ x → b ≡ y → c ≡ z → Does (make_all (a ∷ b ∷ c ∷ []) w) result v →
    Does (make_all (x ∷ y ∷ z ∷ []) w) result v
three {a} {x} {b} {y} {c} {z} w v result first second third d =
    subst (λ (k : Change). Does (make_all (k ∷ y ∷ z ∷ []) w) result v) first
    (subst (λ (k : Change). Does (make_all (a ∷ k ∷ z ∷ []) w) result v) second
    (subst (λ (k : Change). Does (make_all (a ∷ b ∷ k ∷ []) w) result v) third d))

-- the account's row with its new code
pub coded_makes : (d : SetCode) (o : Option AccountRow) (row new : AccountRow) (w v : World) (result : Result (Unit {0}) NativeFault) → o ≡ Some row →
    new ≡ record { payer = row.payer; privileged = row.privileged; code = d.code; abi = row.abi } →
    Does (make_all (change.SetAccount d.account new ∷ []) w) result v → Does (make_all (coded d o) w) result v
coded_makes d o row new w v result found is p =
    subst (λ (x : Option AccountRow). Does (make_all (coded d x) w) result v) (sym found)
    (subst (λ (x : AccountRow). Does (make_all (change.SetAccount d.account x ∷ []) w) result v) is p)

-- the account's row with its new description
pub described_makes : (d : SetAbi) (o : Option AccountRow) (row new : AccountRow) (w v : World) (result : Result (Unit {0}) NativeFault) → o ≡ Some row →
    new ≡ record { payer = row.payer; privileged = row.privileged; code = row.code; abi = d.abi } →
    Does (make_all (change.SetAccount d.account new ∷ []) w) result v → Does (make_all (described d o) w) result v
described_makes d o row new w v result found is p =
    subst (λ (x : Option AccountRow). Does (make_all (described d x) w) result v) (sym found)
    (subst (λ (x : AccountRow). Does (make_all (change.SetAccount d.account x ∷ []) w) result v) is p)
