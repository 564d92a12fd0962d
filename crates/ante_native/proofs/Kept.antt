-- A native action leaves a state whose codes are accepted, where it began with one.
use Rattle.std.proofs.Common.{◌≡◌, ◌==◌, ◌||◌, ◌&&◌, not, ℕ, Bool, true, false, cond, T, length, true≢false, is_some, List, [], ◌∷◌, Option, Some, None, IfSome, Result, Ok, Err, if◌then◌else◌, refl, sym, ap, subst}
use Rattle.std.specs.Prelude.{codes}
use Rattle.std.specs.Cmp.{IsTotalOrder}
use Rattle.std.specs.Ordering.{eq_by_cmp}
use Rattle.std.specs.FinMap.Entries.{find}
use Rattle.std.proofs.lemmas.Cmp.{nat_cmp_total}
use Rattle.ante_undo.proofs.Entries.{find_changed}
use Rattle.ante_pack.specs.declared.fault.PackFault.{PackFault}
use Rattle.ante_pack.specs.declared.names.Name.{Name}
use Rattle.ante_pack.specs.Forms.{whole}
use Rattle.ante_state.specs.Orders.{name_order}
use Rattle.ante_state.specs.declared.objects.AccountRow.{AccountRow}
use Rattle.ante_types.specs.declared.context.Mode.{Mode}
use Rattle.ante_types.specs.declared.context.Mode.TheVariants as mode
use Rattle.ante_types.specs.declared.context.RunContext.{RunContext}
use Rattle.ante_types.specs.declared.failure.Failure.{Failure}
use Rattle.ante_types.specs.declared.failure.Failure.TheVariants as failure
use Rattle.ante_types.specs.World.{World}
use Rattle.ante_store.specs.declared.change.Change.{Change}
use Rattle.ante_store.specs.declared.change.Change.TheVariants as change
use Rattle.ante_store.specs.declared.change.WriteError.{WriteError}
use Rattle.ante_store.specs.Changes.{after, refusal}
use Rattle.ante_calls.specs.Accounts.{account_at, no_name}
use Rattle.ante_calls.specs.Calls.{unsupported}
use Rattle.ante_execution.specs.declared.kinds.NativeAction.{NativeAction}
use Rattle.ante_execution.specs.declared.kinds.NativeAction.TheVariants as native
use Rattle.ante_execution.specs.Native.{with_data, by, native_does, native_in, native_run}
use Rattle.ante_execution.specs.Native.DeleteAuth.{deleted_level, deleteauth_refusal, deleteauth_changes}
use Rattle.ante_execution.specs.Native.LinkAuth.{linkauth_refusal, linkauth_changes}
use Rattle.ante_execution.specs.Native.NewAccount.{newaccount_refusal, newaccount_changes}
use Rattle.ante_execution.specs.Native.Rules.{acting_refusal, made, make_all}
use Rattle.ante_execution.specs.Native.SetAbi.{described, setabi_changes}
use Rattle.ante_execution.specs.Native.SetCode.{setcode_refusal, setcode_changes, coded, CodesAreAccepted}
use Rattle.ante_execution.specs.Native.UnlinkAuth.{unlinkauth_refusal, unlinkauth_changes}
use Rattle.ante_execution.specs.Native.UpdateAuth.{updated_level, updateauth_refusal, updateauth_changes}
use Rattle.ante_execution.specs.NativeData.{owner, active, NewAccount, newaccount, SetCode, setcode, SetAbi, setabi, updateauth, deleteauth, linkauth, unlinkauth}
use Rattle.ante_execution.specs.Refusals.{unless}

names_ordered : IsTotalOrder name_order
names_ordered = record {
  antisymm = λ x y. nat_cmp_total.antisymm x.0 y.0;
  trans = λ x y z. nat_cmp_total.trans x.0 y.0 z.0;
  congr = λ x y z. nat_cmp_total.congr x.0 y.0 z.0;
}

module _ (accepts : List ℕ → Bool) where
  abbrev pub Good : AccountRow → Type 0
  Good row = T (length row.code == 0 || accepts row.code)

  abbrev Keeps : Result World Failure → Type 0
  Keeps (Ok v) = CodesAreAccepted accepts v
  Keeps (Err f) = Unit {0}

  with_account : (name : Name) (row : AccountRow) (w : World) → Good row → CodesAreAccepted accepts w → CodesAreAccepted accepts (after (change.SetAccount name row) w)
  with_account name row w good all q = subst (λ (o : Option AccountRow). IfSome o Good) (sym (find_changed name_order names_ordered w.accounts name (Some row) q))
      (elim (eq_by_cmp name_order q name) as (λ b. IfSome (cond b (Some row) (find name_order q w.accounts)) Good) [ true ↦ good | false ↦ all q ])

  by_made : (e : Option WriteError) (r : Result World Failure) → Keeps r → Keeps (made e r)
  by_made None r k = k
  by_made (Some e) r k = tt

  by_unless : (o : Option Failure) (r : Result World Failure) → (o ≡ None → Keeps r) → Keeps (unless o r)
  by_unless None r k = k refl
  by_unless (Some f) r k = tt

  by_data : {D : Type 0} (read : Result D PackFault) (go : D → Result World Failure) → ((d : D) → Keeps (go d)) → Keeps (with_data read go)
  by_data (Ok d) go k = k d
  by_data (Err f) go k = tt

  by_code : (a b c : Bool) (x y : Failure) → (if not a then Some x else if not b && not c then Some y else None) ≡ None → T (b || c)
  by_code true true c x y e = tt
  by_code true false true x y e = tt
  by_code true false false x y e = absurd (true≢false (ap is_some e))
  by_code false b c x y e = absurd (true≢false (ap is_some e))

  by_change : (c : Change) (w : World) (rest : List Change) → Keeps (make_all rest (after c w)) → Keeps (make_all (c ∷ rest) w)
  by_change c w rest k = by_made (refusal c w) (make_all rest (after c w)) k

  by_coded : (d : SetCode) (w : World) (o : Option AccountRow) → T (length d.code == 0 || accepts d.code) → CodesAreAccepted accepts w → Keeps (make_all (coded d o) w)
  by_coded d w None good all = all
  by_coded d w (Some row) good all =
      let new : AccountRow = record { payer = row.payer; privileged = row.privileged; code = d.code; abi = row.abi } in
      by_change (change.SetAccount d.account new) w [] (with_account d.account new w good all)

  by_described : (d : SetAbi) (w : World) (o : Option AccountRow) → IfSome o Good → CodesAreAccepted accepts w → Keeps (make_all (described d o) w)
  by_described d w None good all = all
  by_described d w (Some row) good all =
      let new : AccountRow = record { payer = row.payer; privileged = row.privileged; code = row.code; abi = d.abi } in
      by_change (change.SetAccount d.account new) w [] (with_account d.account new w good all)

  acts : (account : Name) (run : RunContext) (w : World) (refused : Option Failure) (changes : List Change) → (refused ≡ None → Keeps (make_all changes w)) → Keeps (by account run w refused changes)
  acts account run w refused changes k = by_unless (acting_refusal account run w) (unless refused (make_all changes w)) (λ _. by_unless refused (make_all changes w) k)

  by_created : (d : NewAccount) (w : World) → CodesAreAccepted accepts w → Keeps (make_all (newaccount_changes d) w)
  by_created d w all =
      let new : AccountRow = record { payer = d.creator; privileged = false; code = []; abi = [] } in
      let first : Change = change.SetAccount d.name new in
      let second : Change = change.SetPermission (record { actor = d.name; permission = owner }) (Some (record { parent = no_name; authority = d.owner })) in
      let third : Change = change.SetPermission (record { actor = d.name; permission = active }) (Some (record { parent = owner; authority = d.active })) in
      by_change first w (second ∷ third ∷ []) (by_change second (after first w) (third ∷ []) (by_change third (after second (after first w)) [] (with_account d.name new w tt all)))

  does_keep : (run : RunContext) (w : World) (n : NativeAction) (bytes : List ℕ) → CodesAreAccepted accepts w → Keeps (native_does accepts run w n bytes)
  does_keep run w native.NewAccount bytes all = by_data (whole newaccount bytes) (λ d. by d.creator run w (newaccount_refusal d w) (newaccount_changes d))
      (λ d. acts d.creator run w (newaccount_refusal d w) (newaccount_changes d) (λ _. by_created d w all))
  does_keep run w native.SetCode bytes all = by_data (whole setcode bytes) (λ d. by d.account run w (setcode_refusal accepts d) (setcode_changes d w))
      (λ d. acts d.account run w (setcode_refusal accepts d) (setcode_changes d w)
      (λ none. by_coded d w (account_at d.account w) (by_code (d.vmtype == 0 && d.vmversion == 0) (length d.code == 0) (accepts d.code) (unsupported (codes "vm")) failure.BadCode none) all))
  does_keep run w native.SetAbi bytes all = by_data (whole setabi bytes) (λ d. by d.account run w None (setabi_changes d w))
      (λ d. acts d.account run w None (setabi_changes d w) (λ _. by_described d w (account_at d.account w) (all d.account) all))
  does_keep run w native.UpdateAuth bytes all = by_data (whole updateauth bytes) (λ d. by d.account run w (updateauth_refusal d w) (updateauth_changes d))
      (λ d. acts d.account run w (updateauth_refusal d w) (updateauth_changes d)
      (λ _. by_change (change.SetPermission (updated_level d) (Some (record { parent = d.parent; authority = d.authority }))) w [] all))
  does_keep run w native.DeleteAuth bytes all = by_data (whole deleteauth bytes) (λ d. by d.account run w (deleteauth_refusal d w) (deleteauth_changes d))
      (λ d. acts d.account run w (deleteauth_refusal d w) (deleteauth_changes d) (λ _. by_change (change.SetPermission (deleted_level d) None) w [] all))
  does_keep run w native.LinkAuth bytes all = by_data (whole linkauth bytes) (λ d. by d.account run w (linkauth_refusal d w) (linkauth_changes d))
      (λ d. acts d.account run w (linkauth_refusal d w) (linkauth_changes d) (λ _. by_change (change.SetLink d.account d.code d.action (Some d.requirement)) w [] all))
  does_keep run w native.UnlinkAuth bytes all = by_data (whole unlinkauth bytes) (λ d. by d.account run w (unlinkauth_refusal d w) (unlinkauth_changes d))
      (λ d. acts d.account run w (unlinkauth_refusal d w) (unlinkauth_changes d) (λ _. by_change (change.SetLink d.account d.code d.action None) w [] all))

  in_mode : (m : Mode) (run : RunContext) (w : World) (n : NativeAction) → CodesAreAccepted accepts w → Keeps (native_in accepts run w m n)
  in_mode mode.Reading run w n all = tt
  in_mode mode.Writing run w n all = does_keep run w n run.action.bytes all

  pub keeps_codes : (run : RunContext) (w v : World) (n : NativeAction) → native_run accepts run w n ≡ Ok v → CodesAreAccepted accepts w → CodesAreAccepted accepts v
  unfolding native_run
  keeps_codes run w v n is all = subst Keeps is (in_mode run.mode run w n all)
