-- From what a call on rows came to, to what its definition replies.
use Rattle.std.proofs.Common.{◌≡◌, sym, ap, ◌∙◌, subst, ℕ, ◌-◌, ◌/◌, ℤ, Bool, false, nat_lt, List, length, Option, Some, Result, Ok}
use Rattle.std.specs.Prelude.{if◌then◌else◌}
use Rattle.ante_pack.specs.declared.names.Name.{Name}
use Rattle.ante_pack.specs.declared.names.TableKey.{TableKey}
use Rattle.ante_types.specs.declared.failure.Failure.{Failure}
use Rattle.ante_wmem.specs.Linear.{LinearMemory}
use Rattle.ante_wmem.specs.declared.host.HostAnswer.{HostAnswer}
use Rattle.ante_wmem.specs.HostCalls.{Reply, step_limit}
use Rattle.ante_calls.specs.declared.faults.DbFault.{DbFault}
use Rattle.ante_calls.specs.Calls.{arg, name_arg, reading, paying, replies}
use Rattle.ante_calls.specs.PrimaryCalls.{table_arg, gives}
use Rattle.ante_calls.specs.RowAnswers.{IsRowAnswer, table_of}
use Rattle.ante_calls.specs.RowReplies.{answered, iterator_and_primary}
use Rattle.ante_calls.specs.Rows.{Answer}
use Rattle.ante_calls.specs.Views.{RowView}
use Rattle.ante_rowcalls.specs.RowCalls.{AnswersRow, ShowsFound}

-- ---- a search, by the arguments that name its table and its key

pub found_for : (search : TableKey → ℕ → RowView → ℤ × RowView) (args : List ℕ) (code scope table : Name) (primary : ℕ) (found : Result ℤ DbFault)
    (result : HostAnswer Failure) (v w : RowView) (m : LinearMemory) (left : ℕ) →
    code ≡ name_arg args 0 → scope ≡ name_arg args 1 → table ≡ name_arg args 2 → primary ≡ arg args 3 → ShowsFound found result →
    IsRowAnswer (λ a. a) (Ok (search (table_of code scope table) primary v)) found v w →
    AnswersRow (gives m left (search (table_arg args) (arg args 3) v)) result v w m left
found_for search args code scope table primary found result v w m left a b c d shows is =
    subst (λ k. AnswersRow (gives m left (search k (arg args 3) v)) result v w m left)
    (ap (λ x. table_of x scope table) a ∙ ap (λ x. table_of (name_arg args 0) x table) b ∙ ap (λ x. table_of (name_arg args 0) (name_arg args 1) x) c)
    (subst (λ p. AnswersRow (gives m left (search (table_of code scope table) p v)) result v w m left) d
    (shows (search (table_of code scope table) primary v) v w m left is))

-- ---- a neighbour

pub met_shown : (name : List ℕ) (does : ℤ → Answer (ℤ × Option ℕ)) (found : Option (List ℕ)) (bytes : List ℕ) (it it' : ℤ) (at at' : ℕ)
    (met : ℤ × Option ℕ) (result : HostAnswer Failure) (v w : RowView) (m m' : LinearMemory) (left : ℕ) →
    it ≡ it' → at ≡ at' → found ≡ Some bytes → does it ≡ Ok (met, w) →
    AnswersRow (replies (iterator_and_primary at m met w) left) result v w m' left →
    AnswersRow (reading found left (λ b. replies (answered name (does it') (iterator_and_primary at' m)) left)) result v w m' left
met_shown name does found bytes it it' at at' met result v w m m' left same there is done h =
    subst (λ x. AnswersRow (reading found left (λ b. replies (answered name (does x) (iterator_and_primary at' m)) left)) result v w m' left) same
    (subst (λ x. AnswersRow (reading found left (λ b. replies (answered name (does it) (iterator_and_primary x m)) left)) result v w m' left) there
    (subst (λ x. AnswersRow (reading x left (λ b. replies (answered name (does it) (iterator_and_primary at m)) left)) result v w m' left) (sym is)
    (subst (λ x. AnswersRow (replies (answered name x (iterator_and_primary at m)) left) result v w m' left) (sym done) h)))

-- ---- bytes that are paid

pub paid_shown : (found : Option (List ℕ)) (bytes : List ℕ) (left after : ℕ) (go : List ℕ → Reply RowView Failure) (result : HostAnswer Failure) (v w : RowView)
    (m : LinearMemory) → found ≡ Some bytes → nat_lt left (length bytes / 64) ≡ false → after ≡ left - length bytes / 64 →
    AnswersRow (record { reply = go bytes; left = after }) result v w m after →
    AnswersRow (reading found left (λ b. paying (length b) left (go b))) result v w m after
paid_shown found bytes left after go result v w m is enough paid h =
    subst (λ x. AnswersRow (reading x left (λ b. paying (length b) left (go b))) result v w m after) (sym is)
    (subst (λ (x : Bool). AnswersRow (if x then record { reply = step_limit; left = 0 } else record { reply = go bytes; left = left - length bytes / 64 }) result v w m after) (sym enough)
    (subst (λ (x : ℕ). AnswersRow (record { reply = go bytes; left = x }) result v w m after) paid h))
