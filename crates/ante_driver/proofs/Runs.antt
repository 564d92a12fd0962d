-- Runs follow one another.
use Rattle.std.proofs.Common.{◌≡◌, Bool, IsTrue, List, [], ◌∷◌, ◌++◌, Result, Ok, Err, sym, ap, ◌∙◌, subst, refl, append_assoc}
use Rattle.std.proofs.lemmas.List.{append-nil}
use Rattle.std.specs.Result.{IsErrAnd}
use Rattle.ante_links.specs.LinkStates.{LinkState}
use Rattle.ante_journal.specs.declared.event.NodeEvent.{NodeEvent}
use Rattle.ante_journal.specs.Desk.{Desk, Move, listed, no_link, idle, turns, begins, drops, written, told, rests, DeskRow, DeskStep, Runs, journal_of}
use Rattle.ante_driver.specs.Shown.{Leads, Served, AreWritten, Went}

pub Runs-append : {S : Type 0} (Step : S → Move → S → Type 0) (xs ys : List Move) (a b c : S) → Runs Step a xs b → Runs Step b ys c → Runs Step a (xs ++ ys) c
Runs-append Step [] ys a b c p q = subst (λ s. Runs Step s ys c) p q
Runs-append Step (x ∷ xs) ys a b c p q = (p.0, p.1, Runs-append Step xs ys p.0 b c p.2 q)

pub journal-append : (xs ys : List Move) → journal_of (xs ++ ys) ≡ journal_of xs ++ journal_of ys
journal-append [] ys = refl
journal-append (listed event ∷ xs) ys = ap (λ (l : List NodeEvent). event ∷ l) (journal-append xs ys)
journal-append (no_link ∷ xs) ys = journal-append xs ys
journal-append (idle ∷ xs) ys = journal-append xs ys
journal-append (turns ∷ xs) ys = journal-append xs ys
journal-append (begins ∷ xs) ys = journal-append xs ys
journal-append (drops ∷ xs) ys = journal-append xs ys
journal-append (written ∷ xs) ys = journal-append xs ys
journal-append (told link ∷ xs) ys = journal-append xs ys
journal-append (rests ∷ xs) ys = journal-append xs ys

pub leads_then : (a b c : Desk) (i j k : List NodeEvent) → Leads a i b j → Leads b j c k → Leads a i c k
leads_then a b c i j k p q = record {
  moves = p.moves ++ q.moves;
  is_grown = q.is_grown ∙ ap (λ (l : List NodeEvent). l ++ journal_of q.moves) p.is_grown ∙ append_assoc i (journal_of p.moves) (journal_of q.moves) ∙ ap (λ (l : List NodeEvent). i ++ l) (sym (journal-append p.moves q.moves));
  runs = Runs-append DeskStep p.moves q.moves a b c p.runs q.runs;
}

pub then_served : (a b : Desk) (i j k : List NodeEvent) (links : List LinkState) → Leads a i b j → Served b j k links → Served a i k links
then_served a b i j k links p q = record { last = q.last; leads = leads_then a b q.last i j k p q.leads; written = q.written }

-- nothing happened
pub leads_stay : (a b : Desk) (i j : List NodeEvent) → b ≡ a → j ≡ i → Leads a i b j
leads_stay a b i j p q = record { moves = []; is_grown = q ∙ sym (append-nil i); runs = p }

-- one event
pub leads_one : (a b : Desk) (i j : List NodeEvent) (event : NodeEvent) → DeskRow a event b → j ≡ i ++ event ∷ [] → Leads a i b j
leads_one a b i j event p q = record { moves = listed event ∷ []; is_grown = q; runs = (b, p, refl) }

-- accept gave no link
pub leads_no_link : (a b : Desk) (i j : List NodeEvent) → DeskStep a no_link b → j ≡ i → Leads a i b j
leads_no_link a b i j p q = record { moves = no_link ∷ []; is_grown = q ∙ sym (append-nil i); runs = (b, p, refl) }

pub served_stay : (a : Desk) (i j : List NodeEvent) (links : List LinkState) → j ≡ i → AreWritten a.peers links → Served a i j links
served_stay a i j links q w = record { last = a; leads = leads_stay a a i j refl q; written = w }

-- a `?` that leaves
pub went_err : {A E : Type 0} (Q : E → Type 0) (tells : Bool) (s : Desk) (journal : List NodeEvent) (t : Desk) (grown : List NodeEvent) (links : List LinkState) (r : Result A E) → IsErrAnd r Q → (IsTrue tells → Served s journal grown links) → Went tells s journal t grown links r
went_err Q tells s journal t grown links (Ok v) h p = absurd h
went_err Q tells s journal t grown links (Err x) h p = p

pub then_went : {A E : Type 0} (tells : Bool) (a b c : Desk) (i j k : List NodeEvent) (links : List LinkState) (r : Result A E) → (IsTrue tells → Leads a i b j) → Went tells b j c k links r → Went tells a i c k links r
then_went tells a b c i j k links (Ok v) p q = λ told. leads_then a b c i j k (p told) (q told)
then_went tells a b c i j k links (Err x) p q = λ told. then_served a b i j k links (p told) (q told)
