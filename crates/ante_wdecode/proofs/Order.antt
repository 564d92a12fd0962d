-- Sections and modules: what is read is encoded, what is encoded is read, and a fault says what holds at its place.
use Rattle.std.proofs.Common.{◌≡◌, ◌⊎◌, ℕ, zero, suc, ◌-◌, ◌<◌, ◌≤◌, true, false, cond, nat_eq, nat_lt, List, [], ◌∷◌, ◌++◌, length, take, Some, Result, Ok, Err, refl, sym, ap, subst, ◌∙◌, append_assoc, append-nil, arith, inl, inr, ⊎_elim}
use Rattle.std.specs.Prelude.{bytes_eq}
use Rattle.std.proofs.lemmas.Bool.{ltb-true, ltb-false, le-ltb, eqb-true, eq-eqb}
use Rattle.std.proofs.lemmas.List.{length-append, take_at}
use Rattle.std.proofs.lemmas.Slice.Eq.{bytes_eq-Decides}
use Rattle.ante_pack.specs.Forms.{◌>>=◌}
use Rattle.ante_wtree.specs.Limits.{most_module_bytes, most_types, most_imports, most_functions, most_table_elements, most_globals, most_exports, most_element_segments, most_data_segments}
use Rattle.ante_wtree.specs.Trees.{Tree}
use Rattle.ante_wdecode.specs.declared.fault.DecodeKind.{DecodeKind}
use Rattle.ante_wdecode.specs.declared.fault.DecodeKind.TheVariants as kind
use Rattle.ante_wdecode.specs.declared.fault.DecodeError.TheVariants as error
use Rattle.ante_wdecode.specs.declared.sections.SectionId.{SectionId}
use Rattle.ante_wdecode.specs.declared.sections.SectionId.TheVariants as id
use Rattle.ante_wdecode.specs.Leb128.{IsU32, IsCut, u32_at}
use Rattle.ante_wdecode.specs.Rules.{Fault, Ended, At, Read, Rule, yields, in_turn, or_fault, among, one_of, raw, filling, misfit_of, u32}
use Rattle.ante_wdecode.specs.Faults.{Shows}
use Rattle.ante_wdecode.specs.Instructions.{vector}
use Rattle.ante_wdecode.specs.Modules.{any, name, func_type, limits, table_type, import, global, export, element, segment}
use Rattle.ante_wdecode.specs.Sections.{Section, Custom, bare, with_section, imported, passed, custom, bodies, contents, section_ids, follows, last_after, no_section, section_id, numbered, section_within, section, AreSections, magic, version, Encodes}
use Rattle.ante_wdecode.specs.Decoding.{header_at, sections_at, at_top, paired, parts_at, module_at, Differs, IsUnfilled, Holds, Blames, IsFirst}
use Rattle.ante_wdecode.proofs.Lebs.{bind_ok, chosen, good, bad, ok_is, cut_of}
use Rattle.ante_wdecode.proofs.Laws.{ok, EndsWith, Placed, IsRead, IsExact, IsWhole, bind_err, err_is, whole, joined, none_of, exact_yields, exact_turn, reads_turn, exact_only, exact_one, exact_raw}
use Rattle.ante_wdecode.proofs.Values.{exact_u32, exact_exactly, exact_vector, one_then, Sited, Misfits, reads_part, part_fails, integer_fails}
use Rattle.ante_wdecode.proofs.Modules.{exact_name, exact_func_type, exact_sized_type, exact_import, exact_global, exact_export, exact_element, exact_segment, exact_codes}

-- ---- the contents of a section

passed_is : (r : Read (List ℕ)) (x : Section × List ℕ) → passed r ≡ Ok x → (y : List ℕ × List ℕ) × (r ≡ Ok y) × (x ≡ (Custom, []))
passed_is (Ok y) x h = (y, refl, sym (ok_is (Custom, []) x h))
passed_is (Err f) x h = absurd cc

passed_fails : (r : Read (List ℕ)) (f : Fault) → passed r ≡ Err f → r ≡ Err f
passed_fails (Ok y) f h = absurd cc
passed_fails (Err g) f h = ap bad (err_is {A = Section × List ℕ} g f h)

custom_found : (s : Section) (bytes : List ℕ) → custom.read bytes ≡ ok s [] → custom.Spells s bytes
custom_found s bytes e =
    let p = passed_is (name.read bytes) (s, []) e in
    let f = exact_name.reads.found bytes p.0 p.1 in
    (ap (λ (z : Section × List ℕ). z.0) p.2, (p.0.0, f.0, p.0.1, f.1, f.2))

custom_shorter : (bytes : List ℕ) (x : Section × List ℕ) → custom.read bytes ≡ Ok x → length x.1 ≤ length bytes
custom_shorter bytes x e = let p = passed_is (name.read bytes) x e in omega (arith, ap (λ (z : Section × List ℕ). length z.1) p.2)

custom_again : (s : Section) (bytes : List ℕ) → custom.Spells s bytes → custom.read bytes ≡ ok s []
custom_again s bytes h =
    let n = h.1 in
    ap (λ (z : List ℕ). passed (name.read z)) n.4 ∙ ap passed (exact_name.reads.again n.0 n.1 n.2 n.3) ∙ ap (λ t. ok t []) (sym h.0)

whole_custom : IsWhole custom
whole_custom = record {
  again = custom_again;
  found = custom_found;
  shorter = custom_shorter;
  placed = λ bytes f h. exact_name.placed bytes f (passed_fails (name.read bytes) f h);
}

exact_bodies : (m : Tree) → IsExact (bodies m)
exact_bodies m = exact_turn _ _ (exact_exactly (length m.functions)) λ n. exact_codes m.types m.functions

whole_of : {A : Type 0} (rule : Rule A) (make : A → Section) → IsExact rule → IsWhole (in_turn rule (λ x. yields (make x)))
whole_of rule make p = whole (in_turn rule (λ x. yields (make x))) (one_then rule make p)

pub whole_contents : (m : Tree) (i : SectionId) → IsWhole (contents m i)
whole_contents m id.Custom = whole_custom
whole_contents m id.Types = whole_of (vector most_types func_type) _ (exact_vector most_types func_type exact_func_type)
whole_contents m id.Imports = whole_of (vector most_imports import) _ (exact_vector most_imports import exact_import)
whole_contents m id.Functions = whole_of (vector (most_functions - imported m.imports) u32) _ (exact_vector (most_functions - imported m.imports) u32 exact_u32)
whole_contents m id.Tables = whole_of (vector any (table_type most_table_elements)) _ (exact_vector any (table_type most_table_elements) (exact_sized_type true))
whole_contents m id.Memories = whole_of (vector any (limits any)) _ (exact_vector any (limits any) (exact_sized_type false))
whole_contents m id.Globals = whole_of (vector most_globals global) _ (exact_vector most_globals global exact_global)
whole_contents m id.Exports = whole_of (vector most_exports export) _ (exact_vector most_exports export exact_export)
whole_contents m id.Start = whole_of u32 _ exact_u32
whole_contents m id.Elements = whole_of (vector most_element_segments element) _ (exact_vector most_element_segments element exact_element)
whole_contents m id.Codes = whole_of (bodies m) _ (exact_bodies m)
whole_contents m id.Segments = whole_of (vector most_data_segments segment) _ (exact_vector most_data_segments segment exact_segment)

-- ---- a section

exact_section_id : (last : ℕ) → IsExact (section_id last)
exact_section_id last = exact_only (λ i. follows last i ≡ true) (follows last) kind.Section (one_of no_section section_ids) (exact_one no_section section_ids (λ b bytes h. tt)) (λ i. (λ e. e, λ e. e)) (λ bytes. tt)

reads_numbered : (i : SectionId) (rule : Rule Section) → IsRead rule → IsRead (numbered i rule)
reads_numbered i rule p = reads_turn rule (λ s. yields (i, s)) p (λ s. (exact_yields (i, s)).reads)

reads_within : (misfit : ℕ → Fault) (last : ℕ) (m : Tree) → IsRead (section_within misfit last m)
reads_within misfit last m =
    reads_turn (section_id last) _ (exact_section_id last).reads λ i.
    reads_turn u32 _ exact_u32.reads λ size. reads_numbered i (filling misfit size (contents m i)) (reads_part misfit size (contents m i) (whole_contents m i))

pub reads_section : (last : ℕ) (m : Tree) → IsRead (section last m)
reads_section last m = record {
  again = λ s front rest h. (reads_within (misfit_of (Some (length (front ++ rest)))) last m).again s front rest h;
  found = λ bytes x h. (reads_within (misfit_of (Some (length bytes))) last m).found bytes x h;
}

section_long : (last : ℕ) (m : Tree) (s : SectionId × Section) (front : List ℕ) → (section last m).Spells s front → 0 < length front
section_long last m s front h =
    let i = h.3 in
    let b = i.1 in
    omega (arith, ap length h.5, length-append h.1 h.2, ap length b.2)

pub section_shorter : (last : ℕ) (m : Tree) (bytes : List ℕ) (x : (SectionId × Section) × List ℕ) → (section last m).read bytes ≡ Ok x → length x.1 < length bytes
section_shorter last m bytes x h =
    let f = (reads_section last m).found bytes x h in
    omega (arith, ap length f.2, length-append f.0 x.1, section_long last m x.0 f.0 f.1)

-- what is cut off, or the place of a fault
abbrev Top : Fault → List ℕ → Type 0
Top (Ended left) bytes = (front : List ℕ) × (back : List ℕ) × (bytes ≡ front ++ back) × (left ≡ length back) × (IsCut 32 back ⊎ IsUnfilled front back)
Top (At left fault) bytes = EndsWith left bytes (Shows fault)

unfilled_further : (before front back : List ℕ) → IsUnfilled front back → IsUnfilled (before ++ front) back
unfilled_further before front back h = (before ++ h.0, h.1, h.2, h.3, h.4, ap (λ z. before ++ z) h.5 ∙ sym (append_assoc before h.0 h.1))

top_further : (f : Fault) (bytes before rest : List ℕ) → bytes ≡ before ++ rest → Top f rest → Top f bytes
top_further (Ended left) bytes before rest e h = (
  before ++ h.0,
  h.1,
  joined bytes before h.0 rest h.1 e h.2,
  h.3,
  ⊎_elim (λ c. inl c) (λ u. inr (unfilled_further before h.0 h.1 u)) h.4,
)
top_further (At left fault) bytes before rest e h = (before ++ h.0, h.1, joined bytes before h.0 rest h.1 e h.2, h.3, h.4)

sited_top : (f : Fault) (bytes : List ℕ) → Sited f bytes → Top f bytes
sited_top (Ended left) bytes h = absurd h
sited_top (At left fault) bytes h = h

front_top : (bytes : List ℕ) → Top (At (length bytes) kind.Section) bytes
front_top bytes = ([], bytes, refl, refl, tt)

id_fault : (last b : ℕ) (bytes : List ℕ) (f : Fault) → (section_id last).read (b ∷ bytes) ≡ Err f → At (length (b ∷ bytes)) kind.Section ≡ f
id_fault last b bytes f h = ⊎_elim
    (λ e. ⊎_elim
    (λ k. let n = none_of (among section_ids b) (At (length (b ∷ bytes)) kind.Section) f k in n.1)
    (λ k. absurd (never k.0 bytes k.2))
    (bind_err (or_fault (among section_ids b) (At (length (b ∷ bytes)) kind.Section)) (λ a. ok a bytes) f e))
    (λ e. ⊎_elim
    (λ t. absurd (never e.0.0 e.0.1 t.1))
    (λ t. err_is {A = SectionId × List ℕ} (At (length (b ∷ bytes)) kind.Section) f t.1)
    (chosen (follows last e.0.0) (ok e.0.0 e.0.1) (Err (At (length (b ∷ bytes)) kind.Section)) (Err f) e.2))
    (bind_err ((one_of no_section section_ids).read (b ∷ bytes)) (λ x. cond (follows last x.0) (Ok x) (Err (At (length (b ∷ bytes)) kind.Section))) f h)
  where
    never : (a : SectionId) (rest : List ℕ) → ok a rest ≡ Err f → ⊥
    never a rest k = cc

size_fault : (bytes : List ℕ) (f : Fault) → u32.read bytes ≡ Err f → Top f bytes
size_fault bytes f h = ⊎_elim
    (λ e. subst (λ z. Top z bytes) e.1 ([], bytes, refl, refl, inl (cut_of false 32 bytes (omega arith) e.0)))
    (λ e. subst (λ z. Top z bytes) e.1 (leb e.1))
    (integer_fails bytes (u32_at bytes) f h)
  where
    as_top : (g : Fault) → (At (length bytes) kind.Leb ≡ g) → Placed g bytes → Top (At (length bytes) kind.Leb) bytes
    as_top g e p = subst (λ z. Placed z bytes) (sym e) p

    leb : At (length bytes) kind.Leb ≡ f → Top (At (length bytes) kind.Leb) bytes
    leb e = as_top f e (exact_u32.placed bytes f h)

contents_fault : (i : SectionId) (n place : ℕ) (m : Tree) (all before size bytes : List ℕ) (f : Fault) → place ≡ length all → all ≡ (before ++ size) ++ bytes → IsU32 size n →
    (numbered i (filling (misfit_of (Some place)) n (contents m i))).read bytes ≡ Err f → Top f all
contents_fault i n place m all before size bytes f w split u h = ⊎_elim
    (λ e. by_part (part_fails (misfit_of (Some place)) n (contents m i) (whole_contents m i) bytes f e))
    (λ e. absurd (never e.0.0 e.0.1 e.2))
    (bind_err ((filling (misfit_of (Some place)) n (contents m i)).read bytes) (λ s. ok {A = SectionId × Section} (i, s.0) s.1) f h)
  where
    never : (s : Section) (rest : List ℕ) → ok {A = SectionId × Section} (i, s) rest ≡ Err f → ⊥
    never s rest k = cc

    by_part : ((f ≡ Ended (length bytes)) × (length bytes < n)) ⊎ (Sited f bytes ⊎ Misfits (misfit_of (Some place)) bytes f) → Top f all
    by_part (inl e) = subst (λ z. Top z all) (sym e.0) (before ++ size, bytes, split, refl, inr (before, size, n, u, e.1, refl))
    by_part (inr (inl s)) = top_further f all (before ++ size) bytes split (sited_top f bytes s)
    by_part (inr (inr g)) = subst (λ z. Top z all) (sym (g.2 ∙ ap (λ k. At k kind.Section) w)) (front_top all)

section_fault : (last : ℕ) (m : Tree) (b : ℕ) (bytes : List ℕ) (f : Fault) → (section last m).read (b ∷ bytes) ≡ Err f → Top f (b ∷ bytes)
section_fault last m b bytes f h = ⊎_elim
    (λ e. subst (λ z. Top z (b ∷ bytes)) (id_fault last b bytes f e) (front_top (b ∷ bytes)))
    (λ e.
    let g = (exact_section_id last).reads.found (b ∷ bytes) e.0 e.1 in
    ⊎_elim
    (λ k. top_further f (b ∷ bytes) g.0 e.0.1 g.2 (size_fault e.0.1 f k))
    (λ k.
    let u = exact_u32.reads.found e.0.1 k.0 k.1 in
    contents_fault e.0.0 k.0.0 (length (b ∷ bytes)) m (b ∷ bytes) g.0 u.0 k.0.1 f refl (joined (b ∷ bytes) g.0 u.0 e.0.1 k.0.1 g.2 u.2) u.1 k.2)
    (bind_err (u32.read e.0.1) (λ n. (numbered e.0.0 (filling (misfit_of (Some (length (b ∷ bytes)))) n.0 (contents m e.0.0))).read n.1) f e.2))
    (bind_err ((section_id last).read (b ∷ bytes)) (λ i. (in_turn u32 (λ n. numbered i.0 (filling (misfit_of (Some (length (b ∷ bytes)))) n (contents m i.0)))).read i.1) f h)

-- ---- sections one after another

pub sections_none : (n last : ℕ) (m : Tree) → sections_at n last m [] ≡ good m
sections_none zero last m = refl
sections_none (suc n) last m = refl

abbrev pub next : ℕ → ℕ → Tree → (SectionId × Section) × List ℕ → Result Tree Fault
next n last m x = sections_at n (last_after last x.0.0) (with_section m x.0.1) x.1

sections_again : (ss : List (SectionId × Section)) (n last : ℕ) (m end : Tree) (bytes : List ℕ) → length bytes ≤ n → AreSections last m ss end bytes → sections_at n last m bytes ≡ good end
sections_again [] n last m end bytes le h = ap (sections_at n last m) h.1 ∙ sections_none n last m ∙ ap good (sym h.0)
sections_again (s ∷ ss) n last m end [] le h =
    absurd (omega (arith, section_long last m s h.0 h.2, ap length h.4, length-append h.0 h.1))
sections_again (s ∷ ss) zero last m end (c ∷ cs) le h = absurd (omega (arith, le))
sections_again (s ∷ ss) (suc n) last m end (c ∷ cs) le h =
    ap (λ r. r >>= next n last m) (ap (section last m).read h.4 ∙ (reads_section last m).again s h.0 h.1 h.2)
    ∙ sections_again ss n (last_after last s.0) (with_section m s.1) end h.1 (omega (arith, le, section_long last m s h.0 h.2, ap length h.4, length-append h.0 h.1)) h.3

sections_found : (n last : ℕ) (m end : Tree) (bytes : List ℕ) → sections_at n last m bytes ≡ Ok end → (ss : List (SectionId × Section)) × AreSections last m ss end bytes
sections_found n last m end [] h = ([], (sym (ok_is m end (sym (sections_none n last m) ∙ h)), refl))
sections_found zero last m end (c ∷ cs) h = absurd cc
sections_found (suc n) last m end (c ∷ cs) h =
    let x = bind_ok ((section last m).read (c ∷ cs)) (next n last m) end h in
    let f = (reads_section last m).found (c ∷ cs) x.0 x.1 in
    let g = sections_found n (last_after last x.0.0.0) (with_section m x.0.0.1) end x.0.1 x.2 in
    (x.0.0 ∷ g.0, (f.0, x.0.1, f.1, g.1, f.2))

sections_fault : (n last : ℕ) (m : Tree) (bytes : List ℕ) (f : Fault) → length bytes ≤ n → sections_at n last m bytes ≡ Err f → Top f bytes
sections_fault n last m [] f le h = absurd (never (sym (sections_none n last m) ∙ h))
  where
    never : good m ≡ Err f → ⊥
    never k = cc
sections_fault zero last m (c ∷ cs) f le h = absurd (omega (arith, le))
sections_fault (suc n) last m (c ∷ cs) f le h = ⊎_elim
    (λ e. section_fault last m c cs f e)
    (λ e.
    let g = (reads_section last m).found (c ∷ cs) e.0 e.1 in
    top_further f (c ∷ cs) g.0 e.0.1 g.2 (sections_fault n (last_after last e.0.0.0) (with_section m e.0.0.1) e.0.1 f (omega (arith, le, section_shorter last m (c ∷ cs) e.0 e.1)) e.2))
    (bind_err ((section last m).read (c ∷ cs)) (next n last m) f h)

-- one section further
pub goes_on : (n last : ℕ) (m : Tree) (bytes : List ℕ) (x : (SectionId × Section) × List ℕ) (end : Result Tree Fault) → length bytes ≤ n → sections_at n last m bytes ≡ end → (section last m).read bytes ≡ Ok x → (k : ℕ) × (length x.1 ≤ k) × (next k last m x ≡ end)
goes_on n last m [] x end le h e = absurd (omega (arith, section_shorter last m [] x e))
goes_on zero last m (b ∷ bytes) x end le h e = absurd (omega (arith, le))
goes_on (suc n) last m (b ∷ bytes) x end le h e = (n, omega (arith, le, section_shorter last m (b ∷ bytes) x e), sym (ap (λ r. r >>= next n last m) e) ∙ h)

-- ---- magic and version

abbrev headed : List ℕ → List ℕ → List ℕ × List ℕ → Result (List ℕ) Fault
headed text bytes x = cond (bytes_eq x.0 text) (Ok x.1) (Err (At (length bytes) kind.Magic))

header_again : (text rest : List ℕ) → length text ≡ 4 → header_at text (text ++ rest) ≡ Ok rest
header_again text rest len =
    ap (λ r. r >>= headed text (text ++ rest)) ((exact_raw 4).reads.again text text rest (len, refl))
    ∙ ap (λ t. cond t (good rest) (Err (At (length (text ++ rest)) kind.Magic))) ((bytes_eq-Decides text text).1 refl)

header_found : (text bytes rest : List ℕ) → header_at text bytes ≡ Ok rest → bytes ≡ text ++ rest
header_found text bytes rest h =
    let x = bind_ok ((raw 4).read bytes) (headed text bytes) rest h in
    let f = (exact_raw 4).reads.found bytes x.0 x.1 in
    ⊎_elim
    (λ t. f.2 ∙ ap (λ z. z ++ x.0.1) (f.1.1 ∙ (bytes_eq-Decides x.0.0 text).0 t.0) ∙ ap (λ z. text ++ z) (ok_is x.0.1 rest t.1))
    (λ t. absurd (never t.1))
    (chosen (bytes_eq x.0.0 text) (Ok x.0.1) (Err (At (length bytes) kind.Magic)) (Ok rest) x.2)
  where
    never : Err (At (length bytes) kind.Magic) ≡ Ok rest → ⊥
    never k = cc

-- too few bytes, or others
abbrev Headless : List ℕ → List ℕ → Fault → Type 0
Headless text bytes f = ((Ended (length bytes) ≡ f) × (length bytes < 4)) ⊎ ((At (length bytes) kind.Magic ≡ f) × Differs text bytes)

four : (bytes : List ℕ) (f : Fault) → (raw 4).read bytes ≡ Err f → (Ended (length bytes) ≡ f) × (length bytes < 4)
four bytes f h = ⊎_elim
    (λ t. (err_is {A = List ℕ × List ℕ} (Ended (length bytes)) f t.1, ltb-true (length bytes) 4 t.0))
    (λ t. absurd (never t.1))
    (chosen (nat_lt (length bytes) 4) (Err (Ended (length bytes))) _ (Err f) h)
  where
    never : {x : List ℕ × List ℕ} → Ok x ≡ Err f → ⊥
    never k = cc

header_fault : (text bytes : List ℕ) (f : Fault) → header_at text bytes ≡ Err f → Headless text bytes f
header_fault text bytes f h = ⊎_elim
    (λ e. inl (four bytes f e))
    (λ e. let g = (exact_raw 4).reads.found bytes e.0 e.1 in ⊎_elim
    (λ t. absurd (never e.0.1 t.1))
    (λ t. inr (err_is {A = List ℕ} (At (length bytes) kind.Magic) f t.1, differs e.0 g t.0))
    (chosen (bytes_eq e.0.0 text) (good e.0.1) (Err (At (length bytes) kind.Magic)) (Err f) e.2))
    (bind_err ((raw 4).read bytes) (headed text bytes) f h)
  where
    never : (rest : List ℕ) → good rest ≡ Err f → ⊥
    never rest k = cc

    unequal : (x : List ℕ) → bytes_eq x text ≡ false → x ≡ text → ⊥
    unequal x t e = both (sym ((bytes_eq-Decides x text).1 e) ∙ t)
      where
        both : true ≡ false → ⊥
        both k = cc

    take_is : (x y : List ℕ) → length x ≡ 4 → take 4 (x ++ y) ≡ x
    take_is x y len = take_at x y 4 len

    differs : (x : List ℕ × List ℕ) → (front : List ℕ) × ((length x.0 ≡ 4) × (front ≡ x.0)) × (bytes ≡ front ++ x.1) → bytes_eq x.0 text ≡ false → Differs text bytes
    differs x g t =
        let l = g.1 in
        let split : bytes ≡ x.0 ++ x.1 = g.2 ∙ ap (λ z. z ++ x.1) l.1 in
        (omega (arith, ap length split, length-append x.0 x.1, l.0), λ e. unequal x.0 t (sym (take_is x.0 x.1 l.0) ∙ ap (take 4) (sym split) ∙ e))

-- ---- modules

abbrev HoldsAt : ℕ → DecodeKind → List ℕ → Type 0
HoldsAt left fault code = (front : List ℕ) × (back : List ℕ) × (code ≡ front ++ back) × (left ≡ length back) × Holds fault front back

abbrev Cut : Fault → List ℕ → Type 0
Cut (Ended left) code = HoldsAt left kind.Short code
Cut (At left fault) code = HoldsAt left fault code

shown : (k : DecodeKind) (front back : List ℕ) → Shows k back → Holds k front back
shown kind.Magic front back h = absurd h
shown kind.Short front back h = absurd h
shown kind.Leb front back h = h
shown kind.Opcode front back h = h
shown kind.Float front back h = h
shown kind.Section front back h = h
shown kind.Utf8 front back h = h
shown kind.Form front back h = h
shown kind.Limit front back h = h

top_cut : (f : Fault) (code : List ℕ) → Top f code → Cut f code
top_cut (Ended left) code h = (h.0, h.1, h.2, h.3, inr h.4)
top_cut (At left fault) code h = (h.0, h.1, h.2, h.3, shown fault h.0 h.1 h.4)

magic_fault : (code : List ℕ) (f : Fault) → Headless magic code f → Cut f code
magic_fault code f (inl e) = subst (λ z. Cut z code) e.0 ([], code, refl, refl, inl (e.1, inl refl))
magic_fault code f (inr e) = subst (λ z. Cut z code) e.0 ([], code, refl, refl, inl (refl, e.1))

version_fault : (code rest : List ℕ) (f : Fault) → code ≡ magic ++ rest → Headless version rest f → Cut f code
version_fault code rest f s (inl e) = subst (λ z. Cut z code) e.0 (magic, rest, s, refl, inl (e.1, inr refl))
version_fault code rest f s (inr e) = subst (λ z. Cut z code) e.0 (magic, rest, s, refl, inr (refl, e.1))

abbrev from_version : List ℕ → Result Tree Fault
from_version a = header_at version a >>= λ b. sections_at (length b) 0 bare b

parts_fault : (code : List ℕ) (f : Fault) → parts_at code ≡ Err f → Cut f code
parts_fault code f h = ⊎_elim
    (λ e. magic_fault code f (header_fault magic code f e))
    (λ e. let s = header_found magic code e.0 e.1 in ⊎_elim
    (λ k. version_fault code e.0 f s (header_fault version e.0 f k))
    (λ k.
    let t = header_found version e.0 k.0 k.1 in
    top_cut f code (top_further f code magic e.0 s (top_further f e.0 version k.0 t (sections_fault (length k.0) 0 bare k.0 f (omega arith) k.2))))
    (bind_err (header_at version e.0) (λ b. sections_at (length b) 0 bare b) f e.2))
    (bind_err (header_at magic code) from_version f h)

parts_found : (code : List ℕ) (m : Tree) → parts_at code ≡ Ok m → (ss : List (SectionId × Section)) × (rest : List ℕ) × AreSections 0 bare ss m rest × (code ≡ magic ++ version ++ rest)
parts_found code m h =
    let a = bind_ok (header_at magic code) from_version m h in
    let b = bind_ok (header_at version a.0) (λ b. sections_at (length b) 0 bare b) m a.2 in
    let s = sections_found (length b.0) 0 bare m b.0 b.2 in
    (s.0, b.0, s.1, header_found magic code a.0 a.1 ∙ ap (λ z. magic ++ z) (header_found version a.0 b.0 b.1))

parts_again : (code : List ℕ) (m : Tree) (ss : List (SectionId × Section)) (rest : List ℕ) → AreSections 0 bare ss m rest → code ≡ magic ++ version ++ rest → parts_at code ≡ Ok m
parts_again code m ss rest h e =
    ap parts_at e
    ∙ ap (λ r. r >>= from_version) (header_again magic (version ++ rest) refl)
    ∙ ap (λ r. r >>= λ b. sections_at (length b) 0 bare b) (header_again version rest refl)
    ∙ sections_again ss (length rest) 0 bare m rest (omega arith) h

paired_is : (m x : Tree) → paired m ≡ Ok x → (m ≡ x) × (length m.functions ≡ length m.codes)
paired_is m x h = ⊎_elim
    (λ t. (ok_is m x t.1, eqb-true (length m.functions) (length m.codes) t.0))
    (λ t. absurd (never t.1))
    (chosen (nat_eq (length m.functions) (length m.codes)) (Ok m) (Err (At 0 kind.Form)) (Ok x) h)
  where
    never : Err (At 0 kind.Form) ≡ Ok x → ⊥
    never k = cc

top_is : (r : Result Tree Fault) (m : Tree) → at_top r ≡ Ok m → r ≡ Ok m
top_is (Ok x) m h = h
top_is (Err (Ended left)) m h = absurd cc
top_is (Err (At left fault)) m h = absurd cc

pub module_found : (code : List ℕ) (m : Tree) → module_at code ≡ Ok m → Encodes m code
module_found code m h = ⊎_elim
    (λ t. absurd (never t.1))
    (λ t.
    let b = bind_ok (at_top (parts_at code)) paired m t.1 in
    let p = paired_is b.0 m b.2 in
    subst (λ z. Encodes z code) p.0 (record { size = ltb-false most_module_bytes (length code) t.0; sections = parts_found code b.0 (top_is (parts_at code) b.0 b.1); bodies = p.1 }))
    (chosen (nat_lt most_module_bytes (length code)) (Err (At (length code) kind.Limit)) (at_top (parts_at code) >>= paired) (Ok m) h)
  where
    never : Err (At (length code) kind.Limit) ≡ Ok m → ⊥
    never k = cc

pub module_again : (code : List ℕ) (m : Tree) → Encodes m code → module_at code ≡ Ok m
module_again code m h =
    let s = h.sections in
    ap (λ t. cond t (Err (At (length code) kind.Limit)) (at_top (parts_at code) >>= paired)) (le-ltb most_module_bytes (length code) h.size)
    ∙ ap (λ r. at_top r >>= paired) (parts_again code m s.0 s.1 s.2 s.3)
    ∙ ap (λ t. cond t (good m) (Err (At 0 kind.Form))) (eq-eqb (length m.functions) (length m.codes) h.bodies)

abbrev pub Faulty : List ℕ → Fault → Type 0
Faulty code f = (left : ℕ) × (fault : DecodeKind) × (f ≡ At left fault) × HoldsAt left fault code

top_fault : (code : List ℕ) (r : Result Tree Fault) (f : Fault) → parts_at code ≡ r → at_top r ≡ Err f → Faulty code f
top_fault code (Ok m) f e h = absurd cc
top_fault code (Err (Ended left)) f e h = (left, kind.Short, sym (err_is {A = Tree} (At left kind.Short) f h), parts_fault code (Ended left) e)
top_fault code (Err (At left fault)) f e h = (left, fault, sym (err_is {A = Tree} (At left fault) f h), parts_fault code (At left fault) e)

pub module_fault : (code : List ℕ) (f : Fault) → module_at code ≡ Err f → Faulty code f
module_fault code f h = ⊎_elim
    (λ t. (length code, kind.Limit, sym (err_is {A = Tree} (At (length code) kind.Limit) f t.1), ([], code, refl, refl, tt)))
    (λ t. ⊎_elim
    (λ e. top_fault code (parts_at code) f refl e)
    (λ e. unpaired e.0 e.2)
    (bind_err (at_top (parts_at code)) paired f t.1))
    (chosen (nat_lt most_module_bytes (length code)) (Err (At (length code) kind.Limit)) (at_top (parts_at code) >>= paired) (Err f) h)
  where
    never : {m : Tree} → good m ≡ Err f → ⊥
    never k = cc

    unpaired : (m : Tree) → paired m ≡ Err f → Faulty code f
    unpaired m k = ⊎_elim
        (λ t. absurd (never t.1))
        (λ t. (0, kind.Form, sym (err_is {A = Tree} (At 0 kind.Form) f t.1), (code, [], sym (append-nil code), refl, tt)))
        (chosen (nat_eq (length m.functions) (length m.codes)) (good m) (Err (At 0 kind.Form)) (Err f) k)

-- ---- what decoding answers

pub never_ended : (code : List ℕ) (left : ℕ) → module_at code ≡ Err (Ended left) → ⊥
never_ended code left h = let f = module_fault code (Ended left) h in other f.0 f.1 f.2
  where
    other : (n : ℕ) (k : DecodeKind) → Ended left ≡ At n k → ⊥
    other n k e = cc

left_is : (a c : ℕ) (b d : DecodeKind) → At a b ≡ At c d → (a ≡ c) × (b ≡ d)
left_is a c b d h = (cc, cc)

pub placed_at : (code : List ℕ) (left : ℕ) (k : DecodeKind) → module_at code ≡ Err (At left k) → HoldsAt left k code
placed_at code left k h =
    let f = module_fault code (At left k) h in
    let e = left_is left f.0 k f.1 f.2 in
    subst (λ n. HoldsAt n k code) (sym e.0) (subst (λ d. HoldsAt f.0 d code) (sym e.1) f.3)

pub left_within : (code : List ℕ) (left : ℕ) (k : DecodeKind) → module_at code ≡ Err (At left k) → left ≤ length code
left_within code left k h = let p = placed_at code left k h in omega (arith, p.3, ap length p.2, length-append p.0 p.1)

pub blamed : (code : List ℕ) (left at : ℕ) (k : DecodeKind) → module_at code ≡ Err (At left k) → at ≡ length code - left → Blames (error.Fault at k) code
blamed code left at k h e =
    let p = placed_at code left k h in
    (p.0, p.1, p.2, omega (arith, e, p.3, ap length p.2, length-append p.0 p.1), p.4)

pub first_at : (code : List ℕ) (left at : ℕ) (k : DecodeKind) → module_at code ≡ Err (At left k) → at ≡ length code - left → IsFirst (error.Fault at k) code
first_at code left at k h e = (left, h, omega (arith, e, left_within code left k h))

pub never_both : (code : List ℕ) (m : Tree) (f : Fault) → module_at code ≡ Err f → Encodes m code → ⊥
never_both code m f h e = other (sym (module_again code m e) ∙ h)
  where
    other : good m ≡ Err f → ⊥
    other k = cc
