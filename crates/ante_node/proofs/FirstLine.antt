-- The first line of an input, and an input of which only a front was read.
use Rattle.std.proofs.Common.{◌≡◌, ℕ, ◌+◌, ◌%◌, ◌<◌, ◌≤◌, Bool, true, false, cond, not, eqb, ltb, List, [], ◌++◌, length, take, Option, Some, None, Result, Ok, Err, refl, sym, ap, ◌∙◌, arith, inl, inr}
use Rattle.std.specs.Prelude.{◌⊎◌, slice_index, IsTrue, IfOk}
use Rattle.std.specs.Io.KnownBytes.{Consumes, IsAtEnd}
use Rattle.std.specs.List.{position_or_len, before_first, AllPass}
use Rattle.std.proofs.lemmas.Bool.{cases_lt, cases_eq, lt-ltb, eq-eqb, ne_eqb}
use Rattle.std.proofs.lemmas.List.{append-nil, length-append, length-take, take-append-le, get_or-take}
use Rattle.std.proofs.lemmas.List.Folds.{prefix_len-append}
use Rattle.std.proofs.lemmas.List.Sums.{prefix_len-le-length, position_or_len_is}
use Rattle.hex.specs.declared.error.FromHexError.{FromHexError}
use Rattle.hex.specs.declared.error.FromHexError.TheVariants as hex_errors
use Rattle.hex.specs.Hex.{decode_of, is_hex_digit}
use Rattle.hex.proofs.HexLemmas.{decode_of-err, decode_of-odd}
use Rattle.ante_pack.specs.Forms.{◌>>=◌}
use Rattle.ante_node.specs.declared.fault.InputFault.{InputFault}
use Rattle.ante_node.specs.declared.fault.InputKind.TheVariants as kinds
use Rattle.ante_types.specs.Jobs.{Job}
use Rattle.ante_node.specs.Limits.{item_limit, line_limit, input_limit}
use Rattle.ante_node.specs.Lines.{TextLine, IsHexFault, decoded, hex_place, is_newline, job_in, line_at, line_end}
use Rattle.ante_base.specs.declared.failure.ReadFailure.{ReadFailure}
use Rattle.ante_base.specs.declared.failure.ReadFailure.TheVariants as reads
use Rattle.ante_node.specs.Requests.{Answers, Tells, input_fault, of_source}
use Rattle.ante_node.specs.declared.failure.AnswerFailure.{AnswerFailure}
use Rattle.ante_node.specs.declared.failure.AnswerFailure.TheVariants as failures
use Rattle.ante_node.specs.Ask.{asked_of}

-- what a line and a test for more characters give
abbrev line_asks : TextLine → Bool → ℕ → Result Job InputFault
line_asks line more place = job_in line >>= λ job. cond more (Err (input_fault place kinds.More)) (Ok job)

abbrev first : List ℕ → TextLine
first input = line_at 0 input

asks : (input : List ℕ) → asked_of input ≡ line_asks (first input) (ltb (line_end (first input) + 1) (length input)) (line_end (first input) + 1)
unfolding asked_of
asks input = refl

long_job : (line : TextLine) → line_limit < length line.text → job_in line ≡ Err (input_fault item_limit kinds.Long)
long_job line lt = rw (lt-ltb line_limit (length line.text) lt) refl

too_long : (line : TextLine) (more : Bool) (place : ℕ) → line_limit < length line.text → line_asks line more place ≡ Err (input_fault item_limit kinds.Long)
too_long line more place lt = ap (λ (r : Result Job InputFault). r >>= λ job. cond more (Err (input_fault place kinds.More)) (Ok job)) (long_job line lt)

text_len : (input : List ℕ) → length (before_first is_newline input) ≡ position_or_len is_newline input
text_len input = omega (arith, length-take (position_or_len is_newline input) input, prefix_len-le-length (λ c. not (is_newline c)) input)

-- ---- a front that is as long as a whole input can be is refused as the input is

-- a newline in the front is the input's first
same_line : (front rest : List ℕ) → position_or_len is_newline front < length front → first (front ++ rest) ≡ first front
same_line front rest lt =
    let p = position_or_len is_newline front in
    let test : eqb p (length front) ≡ false = ne_eqb p (length front) (omega (arith, lt)) in
    let place : position_or_len is_newline (front ++ rest) ≡ p = prefix_len-append (λ c. not (is_newline c)) front rest ∙ rw test refl in
    let le : p ≤ length front = omega (arith, lt) in
    let text : before_first is_newline (front ++ rest) ≡ before_first is_newline front = ap (λ (k : ℕ). take k (front ++ rest)) place ∙ take-append-le p front rest le in
    ap (λ (t : List ℕ). with_text t) text
  where
    with_text : List ℕ → TextLine
    with_text t = record { at = 0; text = t }

-- where the front has none, the input's first line is no shorter
longer_line : (front rest : List ℕ) → length front ≤ position_or_len is_newline front → length front ≤ length (before_first is_newline (front ++ rest))
longer_line front rest le =
    let p = position_or_len is_newline front in
    let all : p ≡ length front = omega (arith, le, prefix_len-le-length (λ c. not (is_newline c)) front) in
    let test : eqb p (length front) ≡ true = eq-eqb p (length front) all in
    let place : position_or_len is_newline (front ++ rest) ≡ length front + position_or_len is_newline rest = prefix_len-append (λ c. not (is_newline c)) front rest ∙ rw test refl in
    omega (arith, place, text_len (front ++ rest))

refused : (line : TextLine) (place : ℕ) (job : Job) → line_asks line true place ≡ Ok job → ⊥
refused line place job e = never (job_in line) e
  where
    never : (r : Result Job InputFault) → (r >>= λ a. Err (input_fault place kinds.More)) ≡ Ok job → ⊥
    never (Ok a) h = cc
    never (Err f) h = cc

-- a front of that length asks for nothing
full_front_refused : (front : List ℕ) (job : Job) → length front ≡ input_limit → asked_of front ≡ Ok job → ⊥
full_front_refused front job len e =
    let line = first front in
    let e2 = sym (asks front) ∙ e in
    elim (cases_lt (line_end line + 1) (length front)) [
      | inl lt ↦ refused line (line_end line + 1) job (rw (lt-ltb (line_end line + 1) (length front) lt) at e2)
      | inr le ↦ let f = sym (too_long line _ (line_end line + 1) (omega (arith, len, le))) ∙ e2 in cc
    ]

-- and what it is refused for, the whole input is refused for
full_front_same : (front rest : List ℕ) → length front ≡ input_limit → asked_of (front ++ rest) ≡ asked_of front
full_front_same front rest len =
    let all = length-append front rest in
    elim (cases_lt (position_or_len is_newline front) (length front)) [
      | inl lt ↦
          let moved = asks (front ++ rest) ∙ ap (with_line (length (front ++ rest))) (same_line front rest lt) in
          elim (cases_lt (line_end (first front) + 1) (length front)) [
            | inl more ↦
                let one : ltb (line_end (first front) + 1) (length front) ≡ true = lt-ltb _ _ more in
                let two : ltb (line_end (first front) + 1) (length (front ++ rest)) ≡ true = lt-ltb _ _ (omega (arith, more, all)) in
                moved ∙ ap (λ (b : Bool). line_asks (first front) b (line_end (first front) + 1)) (two ∙ sym one) ∙ sym (asks front)
            | inr le ↦
                let long : line_limit < length (first front).text = omega (arith, le, len) in
                moved ∙ too_long (first front) _ _ long ∙ sym (asks front ∙ too_long (first front) _ _ long)
          ]
      | inr le ↦
          let one : line_limit < length (first front).text = omega (arith, text_len front, le, len) in
          let two : line_limit < length (first (front ++ rest)).text = omega (arith, longer_line front rest le, len) in
          asks (front ++ rest) ∙ too_long _ _ _ two ∙ sym (asks front ∙ too_long _ _ _ one)
    ]
  where
    with_line : ℕ → TextLine → Result Job InputFault
    with_line len line = line_asks line (ltb (line_end line + 1) len) (line_end line + 1)

-- ---- the place of a character that is no hex digit

first_bad : (line : List ℕ) (k : ℕ) → k < length line → is_hex_digit (slice_index line k) ≡ false → ((i : ℕ) → i < k → is_hex_digit (slice_index line i) ≡ true) → position_or_len (λ c. not (is_hex_digit c)) line ≡ k
first_bad line k lt bad before =
    position_or_len_is (λ c. not (is_hex_digit c)) line k 0 (omega (arith, lt)) (λ i less. ap not (before i less)) (λ _. ap not bad)

passes_before : (line : List ℕ) (k i : ℕ) → AllPass is_hex_digit (take k line) → k < length line → i < k → is_hex_digit (slice_index line i) ≡ true
passes_before line k i all lt less = rw (get_or-take k line i 0 less) at (all i 0 (omega (arith, length-take k line, lt, less)))

hex_refused : (line : TextLine) (fault : FromHexError) (place : ℕ) → decode_of line.text ≡ Err fault → hex_place line.text ≡ place → decoded line (decode_of line.text) ≡ Err (input_fault (line.at + place) kinds.Hex)
hex_refused line fault place e is = rw e (ap (λ (k : ℕ). refused_at k) is)
  where
    refused_at : ℕ → Result (List ℕ) InputFault
    refused_at k = Err (input_fault (line.at + k) kinds.Hex)

-- the place of a bad character, which lies in the line
char_place : (line : List ℕ) (fault : FromHexError) (ch index : ℕ) → fault ≡ hex_errors.InvalidHexCharacter ch index → decode_of line ≡ Err fault → (hex_place line ≡ index) × (index < length line)
char_place line fault ch index is e = by_cause (decode_of-err line fault e)
  where
    place : (k : ℕ) → (fault ≡ hex_errors.InvalidHexCharacter (slice_index line k) (0 + k)) → k < length line → is_hex_digit (slice_index line k) ≡ false → ((i : ℕ) → i < k → is_hex_digit (slice_index line i) ≡ true) → (hex_place line ≡ index) × (index < length line)
    place k named lt bad before =
        let same = sym named ∙ is in
        let at : 0 + k ≡ index = cc in
        elim (cases_eq (length line % 2) 1) [
          | inl odd ↦ absurd (let clash = sym (decode_of-odd line odd) ∙ e ∙ ap (λ (f : FromHexError). Err f) is in cc)
          | inr even ↦
              let test : eqb (length line % 2) 1 ≡ false = ne_eqb _ _ even in
              (rw test (first_bad line k lt bad before ∙ omega (arith, at)), omega (arith, at, lt))
        ]

    by_cause : ((length line % 2 ≡ 1) × (fault ≡ hex_errors.OddLength)) ⊎ ((k : ℕ) × (fault ≡ hex_errors.InvalidHexCharacter (slice_index line k) (0 + k)) × (k < length line) × (is_hex_digit (slice_index line k) ≡ false) × AllPass is_hex_digit (take k line)) → (hex_place line ≡ index) × (index < length line)
    by_cause (inl odd) = absurd (let clash = sym odd.1 ∙ is in cc)
    by_cause (inr k) = place k.0 k.1 k.2 k.3 (λ i lt. passes_before line k.0 i k.4 k.2 lt)

pub char_within : (line : List ℕ) (fault : FromHexError) (ch index : ℕ) → fault ≡ hex_errors.InvalidHexCharacter ch index → IsHexFault line fault → index < length line
char_within line fault ch index is (inl memory) = absurd (let clash = sym is ∙ memory in cc)
char_within line fault ch index is (inr e) = (char_place line fault ch index is e).1

pub hex_char : (line : TextLine) (fault : FromHexError) (ch index : ℕ) → fault ≡ hex_errors.InvalidHexCharacter ch index → IsHexFault line.text fault → decoded line (decode_of line.text) ≡ Err (input_fault (line.at + index) kinds.Hex)
hex_char line fault ch index is (inl memory) = absurd (let clash = sym is ∙ memory in cc)
hex_char line fault ch index is (inr e) = hex_refused line fault index e (char_place line.text fault ch index is e).0

pub hex_odd : (line : TextLine) (fault : FromHexError) → fault ≡ hex_errors.OddLength → IsHexFault line.text fault → decoded line (decode_of line.text) ≡ Err (input_fault (line.at + length line.text) kinds.Hex)
hex_odd line fault is (inl memory) = absurd (let clash = sym is ∙ memory in cc)
hex_odd line fault is (inr e) =
    elim (decode_of-err line.text fault e) [
      | inl odd ↦ let test : eqb (length line.text % 2) 1 ≡ true = eq-eqb _ _ odd.0 in hex_refused line fault (length line.text) e (rw test refl)
      | inr k ↦ absurd (let clash = sym is ∙ k.1 in cc)
    ]

pub hex_never : (line : List ℕ) (fault : FromHexError) → fault ≡ hex_errors.InvalidStringLength → IsHexFault line fault → ⊥
hex_never line fault is (inl memory) = let clash = sym is ∙ memory in cc
hex_never line fault is (inr e) =
    elim (decode_of-err line fault e) [
      | inl odd ↦ let clash = sym is ∙ odd.1 in cc
      | inr k ↦ let clash = sym is ∙ k.1 in cc
    ]

-- ---- what a front tells of the whole input

-- some input, where nothing is known of it
pub some_input : (left : Option (List ℕ)) → (input : List ℕ) × Tells left input
some_input None = ([], tt)
some_input (Some all) = (all, refl)

-- an input with the front's answer
pub whole_asks : (left rest : Option (List ℕ)) (front : List ℕ) (ended : Bool) → Consumes left rest front → (IsTrue ended → IsAtEnd rest) → (ended ≡ false → length front ≡ input_limit) → (input : List ℕ) × Tells left input × (asked_of input ≡ asked_of front)
whole_asks None rest front ended taken ends cut = (front, tt, refl)
whole_asks (Some input) None front ended taken ends cut = absurd taken
whole_asks (Some input) (Some more) front true taken ends cut =
    let all : input ≡ front = taken ∙ ap (λ (t : List ℕ). front ++ t) (ends refl) ∙ append-nil front in
    (input, refl, ap asked_of all)
whole_asks (Some input) (Some more) front false taken ends cut = (input, refl, ap asked_of taken ∙ full_front_same front more (cut refl))

pub ended_if_asked : (rest : Option (List ℕ)) (front : List ℕ) (ended : Bool) (job : Job) → (IsTrue ended → IsAtEnd rest) → (ended ≡ false → length front ≡ input_limit) → asked_of front ≡ Ok job → IsAtEnd rest
ended_if_asked rest front true job ends cut e = ends refl
ended_if_asked rest front false job ends cut e = absurd (full_front_refused front job (cut refl) e)

-- ---- what reading the input answers

pub failed_answers : {A : Type 0} (read : ReadFailure) (defined : Result A InputFault) (SourceRose : Type 0) → (read ≡ reads.Failed → SourceRose) → Answers {A = A} (Err (of_source read)) defined SourceRose
failed_answers reads.OutOfMemory defined SourceRose rose = tt
failed_answers reads.Failed defined SourceRose rose = rose refl

pub answers_so : {A : Type 0} (result : Result A AnswerFailure) (front whole : Result A InputFault) (SourceRose : Type 0) → whole ≡ front → Answers result front ⊥ → Answers result whole SourceRose
answers_so (Ok x) front whole SourceRose e h = e ∙ h
answers_so (Err (failures.Input fault)) front whole SourceRose e h = e ∙ h
answers_so (Err failures.SourceFault) front whole SourceRose e h = absurd h
answers_so (Err failures.OutOfMemory) front whole SourceRose e h = tt

pub ended_so : (result : Result Job AnswerFailure) (rest : Option (List ℕ)) (front : List ℕ) (ended : Bool) → (IsTrue ended → IsAtEnd rest) → (ended ≡ false → length front ≡ input_limit) → Answers result (asked_of front) ⊥ → IfOk result (λ _. IsAtEnd rest)
ended_so (Ok job) rest front ended ends cut h = ended_if_asked rest front ended job ends cut h
ended_so (Err failure) rest front ended ends cut h = tt
