-- How a run comes to its end, and what the end tells.
use Rattle.std.proofs.Common.{◌≡◌, ℕ, List, Option, Some, None, Result, Ok, Err, refl, sym, ap, subst, ◌∙◌, inl, inr}
use Rattle.std.specs.Prelude.{◌⊎◌}
use Rattle.std.specs.Io.KnownBytes.{Appends}
use Rattle.ante_pack.specs.Forms.{◌>>=◌}
use Rattle.ante_node.specs.declared.command.Command.TheVariants.{Ask}
use Rattle.ante_node.specs.declared.fault.InputFault.{InputFault}
use Rattle.ante_node.specs.declared.fault.RequestFault.{RequestFault}
use Rattle.ante_node.specs.declared.fault.RequestFault.TheVariants.{Words, Input}
use Rattle.ante_node.specs.declared.fault.NodeFault.{NodeFault}
use Rattle.ante_node.specs.declared.fault.NodeFault.TheVariants as faults
use Rattle.ante_types.specs.Jobs.{Job}
use Rattle.ante_node.specs.Requests.{Tells, node_fault, requested}
use Rattle.ante_node.specs.Ask.{Asks, HasAnswered, answer, asked_of}
use Rattle.ante_node.proofs.Packing.{asked_packs}
use Rattle.ante_node.specs.Commands.{ComesTo, made_by}
use Rattle.ante_node.specs.Ends.{Delivers, EndsWith, HasWritten, RunEnds}

-- ---- how a run comes to its end

-- an answer was delivered
pub answer_ends : (made : Result (List ℕ) InputFault) (text slice : List ℕ) (fault : NodeFault) (before after : Option (List ℕ)) (SourceRose SinkRose AtEnd : Type 0) →
    made ≡ Ok text → slice ≡ text → AtEnd → Delivers slice faults.Nothing faults.SinkFault fault before after SinkRose → RunEnds fault SourceRose before after SinkRose AtEnd (requested made)
answer_ends made text slice fault before after SourceRose SinkRose AtEnd e is ended d =
    subst (λ (r : Result (List ℕ) InputFault). RunEnds fault SourceRose before after SinkRose AtEnd (requested r)) (sym e)
    (by (subst (λ (t : List ℕ). Delivers t faults.Nothing faults.SinkFault fault before after SinkRose) is d))
  where
    by : Delivers text faults.Nothing faults.SinkFault fault before after SinkRose → RunEnds fault SourceRose before after SinkRose AtEnd (Ok text)
    by (inl p) = inl (p.0, p.1, λ _. ended)
    by (inr p) = inr (inl p)

-- a refusal is one whatever the source did
pub refused : (fault : NodeFault) (before after : Option (List ℕ)) (SourceRose SinkRose AtEnd : Type 0) (bad : RequestFault) → RunEnds fault ⊥ before after SinkRose ⊥ (Err bad) → RunEnds fault SourceRose before after SinkRose AtEnd (Err bad)
refused fault before after SourceRose SinkRose AtEnd bad (inl e) = inl (e.0, e.1, λ n. absurd (e.2 n))
refused fault before after SourceRose SinkRose AtEnd bad (inr (inl e)) = inr (inl e)
refused fault before after SourceRose SinkRose AtEnd bad (inr (inr (inl e))) = absurd e.2
refused fault before after SourceRose SinkRose AtEnd bad (inr (inr (inr e))) = inr (inr (inr e))

pub input_ends : (made : Result (List ℕ) InputFault) (bad : InputFault) (fault : NodeFault) (before after : Option (List ℕ)) (SourceRose SinkRose AtEnd : Type 0) →
    made ≡ Err bad → RunEnds fault ⊥ before after SinkRose ⊥ (Err (Input bad)) → RunEnds fault SourceRose before after SinkRose AtEnd (requested made)
input_ends made bad fault before after SourceRose SinkRose AtEnd e ends =
    subst (λ (r : Result (List ℕ) InputFault). RunEnds fault SourceRose before after SinkRose AtEnd (requested r)) (sym e)
    (refused fault before after SourceRose SinkRose AtEnd (Input bad) ends)

-- and it has its fault, unless memory ran out
pub refusal_names : (fault : NodeFault) (before after : Option (List ℕ)) (SinkRose : Type 0) (bad : RequestFault) → RunEnds fault ⊥ before after SinkRose ⊥ (Err bad) → (fault ≡ node_fault bad) ⊎ (fault ≡ faults.OutOfMemory)
refusal_names fault before after SinkRose bad (inl e) = inl e.0
refusal_names fault before after SinkRose bad (inr (inl e)) = inl e.0
refusal_names fault before after SinkRose bad (inr (inr (inl e))) = absurd e.2
refusal_names fault before after SinkRose bad (inr (inr (inr e))) = inr e.0

-- ---- what the end tells

fault_is_something : (fault : RequestFault) → node_fault fault ≡ faults.Nothing → ⊥
fault_is_something (Words at) e = cc
fault_is_something (Input bad) e = cc

weaker : (words : List (List ℕ)) (left : Option (List ℕ)) (P Q : Result (List ℕ) RequestFault → Type 0) → ((made : Result (List ℕ) RequestFault) → P made → Q made) → ComesTo words left P → ComesTo words left Q
weaker words left P Q f (inl w) = inl (w.0, w.1, f (Err (Words w.0)) w.2)
weaker words left P Q f (inr c) = inr (c.0, c.1, (c.2.0, c.2.1, f (requested (made_by c.0 c.2.0)) c.2.2))

fault_told : (fault : NodeFault) (before after : Option (List ℕ)) (SourceRose SinkRose AtEnd : Type 0) (made : Result (List ℕ) RequestFault) → RunEnds fault SourceRose before after SinkRose AtEnd made → EndsWith fault SourceRose SinkRose made
fault_told fault before after SourceRose SinkRose AtEnd made (inl e) = inl e.0
fault_told fault before after SourceRose SinkRose AtEnd (Ok text) (inr (inl e)) = inr (inl (e.0, e.2))
fault_told fault before after SourceRose SinkRose AtEnd (Err bad) (inr (inl e)) = inl e.0
fault_told fault before after SourceRose SinkRose AtEnd made (inr (inr (inl e))) = inr (inr (inl (e.0, e.2)))
fault_told fault before after SourceRose SinkRose AtEnd made (inr (inr (inr e))) = inr (inr (inr e.0))

written_told : (fault : NodeFault) (before after : Option (List ℕ)) (SourceRose SinkRose AtEnd : Type 0) (made : Result (List ℕ) RequestFault) → RunEnds fault SourceRose before after SinkRose AtEnd made → HasWritten fault before after SinkRose made
written_told fault before after SourceRose SinkRose AtEnd made (inl e) = inl (e.0, e.1)
written_told fault before after SourceRose SinkRose AtEnd made (inr (inl e)) = inr (inl e)
written_told fault before after SourceRose SinkRose AtEnd made (inr (inr (inl e))) = inr (inr (inl e.0, e.1))
written_told fault before after SourceRose SinkRose AtEnd made (inr (inr (inr e))) = inr (inr (inr e.0, e.1))

end_told : (fault : NodeFault) (before after : Option (List ℕ)) (SourceRose SinkRose AtEnd : Type 0) (made : Result (List ℕ) RequestFault) → fault ≡ faults.Nothing → RunEnds fault SourceRose before after SinkRose AtEnd made → AtEnd
end_told fault before after SourceRose SinkRose AtEnd made well (inl e) = e.2 well
end_told fault before after SourceRose SinkRose AtEnd (Ok text) well (inr (inl e)) = absurd (let clash = sym e.0 ∙ well in cc)
end_told fault before after SourceRose SinkRose AtEnd (Err bad) well (inr (inl e)) = absurd (fault_is_something bad (sym e.0 ∙ well))
end_told fault before after SourceRose SinkRose AtEnd made well (inr (inr (inl e))) = absurd (let clash = sym e.0 ∙ well in cc)
end_told fault before after SourceRose SinkRose AtEnd made well (inr (inr (inr e))) = absurd (let clash = sym e.0 ∙ well in cc)

pub run_fault : (words : List (List ℕ)) (left : Option (List ℕ)) (fault : NodeFault) (before after : Option (List ℕ)) (SourceRose SinkRose AtEnd : Type 0) → ComesTo words left (RunEnds fault SourceRose before after SinkRose AtEnd) → ComesTo words left (EndsWith fault SourceRose SinkRose)
run_fault words left fault before after SourceRose SinkRose AtEnd ends = weaker words left _ _ (fault_told fault before after SourceRose SinkRose AtEnd) ends

pub run_written : (words : List (List ℕ)) (left : Option (List ℕ)) (fault : NodeFault) (before after : Option (List ℕ)) (SourceRose SinkRose AtEnd : Type 0) → ComesTo words left (RunEnds fault SourceRose before after SinkRose AtEnd) → ComesTo words left (HasWritten fault before after SinkRose)
run_written words left fault before after SourceRose SinkRose AtEnd ends = weaker words left _ _ (written_told fault before after SourceRose SinkRose AtEnd) ends

pub run_ended : (words : List (List ℕ)) (left : Option (List ℕ)) (fault : NodeFault) (before after : Option (List ℕ)) (SourceRose SinkRose AtEnd : Type 0) → ComesTo words left (RunEnds fault SourceRose before after SinkRose AtEnd) → fault ≡ faults.Nothing → AtEnd
run_ended words left fault before after SourceRose SinkRose AtEnd (inl w) well = end_told fault before after SourceRose SinkRose AtEnd (Err (Words w.0)) well w.2
run_ended words left fault before after SourceRose SinkRose AtEnd (inr c) well = end_told fault before after SourceRose SinkRose AtEnd (requested (made_by c.0 c.2.0)) well c.2.2

-- ---- the headline

-- a run that ended well has written all of what was made
whole_written : (fault : NodeFault) (before after : Option (List ℕ)) (SinkRose : Type 0) (made : Result (List ℕ) RequestFault) → fault ≡ faults.Nothing → HasWritten fault before after SinkRose made → (text : List ℕ) × (made ≡ Ok text) × Appends before after text
whole_written fault before after SinkRose (Ok text) well (inl e) = (text, refl, e.1)
whole_written fault before after SinkRose (Err bad) well (inl e) = absurd (fault_is_something bad (sym e.0 ∙ well))
whole_written fault before after SinkRose (Ok text) well (inr (inl e)) = absurd (let clash = sym e.0 ∙ well in cc)
whole_written fault before after SinkRose (Err bad) well (inr (inl e)) = absurd (fault_is_something bad (sym e.0 ∙ well))
whole_written fault before after SinkRose made well (inr (inr (inl e, keeps))) = absurd (let clash = sym e ∙ well in cc)
whole_written fault before after SinkRose made well (inr (inr (inr e, keeps))) = absurd (let clash = sym e ∙ well in cc)

asked_told : (left : Option (List ℕ)) (input : List ℕ) (job : Job) → Tells left input → asked_of input ≡ Ok job → Asks left job
asked_told None input job tells e = tt
asked_told (Some all) input job tells e = ap asked_of tells ∙ e

job_made : (left before after : Option (List ℕ)) (input text : List ℕ) (asked : Result Job InputFault) → asked_of input ≡ asked → Tells left input → requested (asked >>= λ job. Ok (answer job)) ≡ Ok text → Appends before after text → HasAnswered left before after
job_made left before after input text (Ok job) e tells made appends = (job, asked_told left input job tells e, asked_packs input job e, subst (Appends before after) (let same : answer job ≡ text = cc in sym same) appends)
job_made left before after input text (Err bad) e tells made appends = absurd (let clash = made in cc)

pub run_answered : (words : List (List ℕ)) (left : Option (List ℕ)) (fault : NodeFault) (before after : Option (List ℕ)) (SinkRose : Type 0) → ComesTo words left (HasWritten fault before after SinkRose) → fault ≡ faults.Nothing → HasAnswered left before after
run_answered words left fault before after SinkRose (inl w) well = absurd (let clash = (whole_written fault before after SinkRose (Err (Words w.0)) well w.2).1 in cc)
run_answered words left fault before after SinkRose (inr (Ask, names, made)) well =
    let whole = whole_written fault before after SinkRose (requested (made_by Ask made.0)) well made.2 in
    job_made left before after made.0 whole.0 (asked_of made.0) refl made.1 whole.1 whole.2
