-- From what a call on the rows of an index came to, to what its definition replies.
use Rattle.std.proofs.Common.{◌≡◌, refl, sym, ap, ◌∙◌, subst, ℕ, List, [], Option, Some, None, option_map, Ok}
use Rattle.ante_pack.specs.declared.names.Name.{Name}
use Rattle.ante_pack.specs.declared.names.TableKey.{TableKey}
use Rattle.ante_types.specs.declared.failure.Failure.{Failure}
use Rattle.ante_wmem.specs.Linear.{LinearMemory}
use Rattle.ante_wmem.specs.declared.host.HostAnswer.{HostAnswer}
use Rattle.ante_wmem.specs.HostCalls.{Reply, Outcome}
use Rattle.ante_calls.specs.Calls.{name_arg, replies}
use Rattle.ante_calls.specs.PrimaryCalls.{table_arg}
use Rattle.ante_calls.specs.RowAnswers.{table_of}
use Rattle.ante_calls.specs.RowReplies.{answered}
use Rattle.ante_calls.specs.Rows.{Answer}
use Rattle.ante_calls.specs.Views.{RowView}
use Rattle.ante_rowcalls.specs.RowCalls.{AnswersRow}

-- ---- what a search found, by the arguments that name its table

pub at_table : (P : TableKey → Type 0) (args : List ℕ) (code scope table : Name) → code ≡ name_arg args 0 → scope ≡ name_arg args 1 → table ≡ name_arg args 2 →
    P (table_of code scope table) → P (table_arg args)
at_table P args code scope table a b c p =
    subst P (ap (λ x. table_of x scope table) a ∙ ap (λ x. table_of (name_arg args 0) x table) b ∙ ap (λ x. table_of (name_arg args 0) (name_arg args 1) x) c) p

pub sought_shown : {A : Type 0} (go : A → RowView → Reply RowView Failure) (search : TableKey → Answer A) (args : List ℕ) (code scope table : Name) (found : A)
    (result : HostAnswer Failure) (v w : RowView) (m : LinearMemory) (left : ℕ) →
    code ≡ name_arg args 0 → scope ≡ name_arg args 1 → table ≡ name_arg args 2 → search (table_of code scope table) ≡ Ok (found, w) →
    AnswersRow (replies (go found w) left) result v w m left → AnswersRow (replies (answered [] (search (table_arg args)) go) left) result v w m left
sought_shown go search args code scope table found result v w m left a b c is h =
    at_table (λ t. AnswersRow (replies (answered [] (search t) go) left) result v w m left) args code scope table a b c
    (subst (λ x. AnswersRow (replies (answered [] x go) left) result v w m left) (sym is) h)

-- the bytes of the key that was found
pub key_bytes_found : {K : Type 0} (bytes : K → List ℕ) (found : Option (K × ℕ)) →
    option_map (λ k. bytes k) (option_map (λ place. place.0) found) ≡ option_map (λ place. bytes place.0) found
key_bytes_found bytes None = refl
key_bytes_found bytes (Some place) = refl

-- ---- the key that arguments name

pub keyed_shown : {K : Type 0} (outcome : (K → Reply RowView Failure) → (left : ℕ) → Outcome RowView Failure) (go : K → Reply RowView Failure) (key : K)
    (result : HostAnswer Failure) (v w : RowView) (m : LinearMemory) (left : ℕ) → outcome go left ≡ replies (go key) left →
    AnswersRow (replies (go key) left) result v w m left → AnswersRow (outcome go left) result v w m left
keyed_shown outcome go key result v w m left is h = subst (λ o. AnswersRow o result v w m left) (sym is) h
