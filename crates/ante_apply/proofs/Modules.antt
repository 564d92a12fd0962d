-- An accepted code and its module.
use Rattle.std.proofs.Common.{◌≡◌, refl, sym, ap, subst, ◌∙◌, ℕ, Bool, true, false, List, length, None, Some, Result, Err}
use Rattle.std.specs.Prelude.{T, IfErr, ◌==◌, if◌then◌else◌}
use Rattle.ante_wtree.specs.Trees.{Tree, tree_of}
use Rattle.ante_wdecode.specs.Decoding.{module_at}
use Rattle.ante_wdecode.specs.Sections.{Encodes}
use Rattle.ante_wdecode.proofs.Order.{module_again}
use Rattle.ante_wvalid.specs.Modules.{IsValid}
use Rattle.ante_modcache.specs.declared.cache.ModuleRef.{ModuleRef}
use Rattle.ante_modcache.specs.declared.fault.CodeFault.{CodeFault}
use Rattle.ante_modcache.specs.declared.fault.ModuleError.{ModuleError}
use Rattle.ante_modcache.specs.declared.fault.ModuleError.TheVariants as error
use Rattle.ante_modcache.specs.Modules.{IsModuleOf, IsMemory}
use Rattle.ante_modcache.specs.References.{module_in}
use Rattle.ante_calls.specs.Views.{Seen}
use Rattle.ante_execution.specs.Codes.{Accepts, codes_with, least_pages, pages_of, run_by, never}
use Rattle.ante_execution.specs.Runs.{fine, code_at, arguments, receiver_runs}
use Rattle.ante_host.specs.Code.{run_alone}
use Rattle.ante_apply.specs.Codes.{IsModuleFor}

true_of : (b : Bool) → T b → b ≡ true
true_of true t = refl
true_of false t = absurd t

false_of : (b : Bool) → (T b → ⊥) → b ≡ false
false_of true n = absurd (n tt)
false_of false n = refl

module _ (accepts : List ℕ → Bool) (a : Accepts accepts) (code : List ℕ) where
  pub found_for : (m : ModuleRef) → IsModuleOf code (module_in m) → IsModuleFor accepts code (Some m)
  found_for m (encodes, valid) = (true_of (accepts code) ((a code).1 (tree_of (module_in m), encodes, valid)), module_again code (tree_of (module_in m)) encodes)

  pub refused_for : (result : Result ModuleRef ModuleError) (f : CodeFault) → result ≡ Err (error.BadCode f) →
      ((m : Tree) → Encodes m code → IsValid m → IfErr result IsMemory) → accepts code ≡ false
  refused_for result f is refused = false_of (accepts code) (λ t. let m = (a code).0 t in subst (λ x. IfErr x IsMemory) is (refused m.0 m.1 m.2))

-- ---- what codes give for it

module _ (accepts : List ℕ → Bool) (code : List ℕ) where
  pub pages_found : (m : ModuleRef) → IsModuleFor accepts code (Some m) → least_pages (tree_of (module_in m)).memory ≡ (codes_with accepts).pages code
  unfolding codes_with
  pages_found m (is, found) =
      sym (ap (λ b. if b then pages_of (module_at code) else 0) is ∙ ap pages_of found)

  pub pages_none : IsModuleFor accepts code None → 0 ≡ (codes_with accepts).pages code
  unfolding codes_with
  pages_none is = sym (ap (λ b. if b then pages_of (module_at code) else 0) is)

module _ (accepts : List ℕ → Bool) (s : Seen) (left : ℕ) where
  abbrev own_code : List ℕ
  own_code = code_at s.run.receiver s.world

  pub runs_nothing : (code : List ℕ) → code ≡ own_code → (length code == 0) ≡ true → receiver_runs (codes_with accepts) s left ≡ fine s left
  runs_nothing code same is = ap (λ b. if b then fine s left else (codes_with accepts).runs own_code (arguments s.run) s left) (ap (λ c. length c == 0) (sym same) ∙ is)

  runs_some : (length own_code == 0) ≡ false → receiver_runs (codes_with accepts) s left ≡ (codes_with accepts).runs own_code (arguments s.run) s left
  runs_some is = ap (λ b. if b then fine s left else (codes_with accepts).runs own_code (arguments s.run) s left) is

  coded : (code : List ℕ) → IsModuleFor accepts code None → (codes_with accepts).runs code (arguments s.run) s left ≡ never s
  unfolding codes_with
  coded code is = ap (λ b. if b then run_by (module_at code) (arguments s.run) s left else never s) is

  pub runs_none : (code : List ℕ) → code ≡ own_code → (length code == 0) ≡ false → IsModuleFor accepts code None → receiver_runs (codes_with accepts) s left ≡ never s
  runs_none code same is none = runs_some (ap (λ c. length c == 0) (sym same) ∙ is) ∙ coded own_code (subst (λ c. IsModuleFor accepts c None) same none)

  by_module : (code : List ℕ) (m : ModuleRef) → IsModuleFor accepts code (Some m) →
      (codes_with accepts).runs code (arguments s.run) s left ≡ run_alone (tree_of (module_in m)) (arguments s.run) s left
  unfolding codes_with
  by_module code m (is, found) =
      ap (λ b. if b then run_by (module_at code) (arguments s.run) s left else never s) is ∙ ap (λ r. run_by r (arguments s.run) s left) found

  pub runs_module : (code : List ℕ) → code ≡ own_code → (length code == 0) ≡ false → (m : ModuleRef) → IsModuleFor accepts code (Some m) →
      receiver_runs (codes_with accepts) s left ≡ run_alone (tree_of (module_in m)) (arguments s.run) s left
  runs_module code same is m found =
      runs_some (ap (λ c. length c == 0) (sym same) ∙ is) ∙ by_module own_code m (subst (λ c. IsModuleFor accepts c (Some m)) same found)
