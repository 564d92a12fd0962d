-- Going over a map entry by entry, which is fed and counted.
use Rattle.std.proofs.Common.{◌≡◌, ℕ, suc, false, T, List, [], ◌∷◌, ◌++◌, length, Option, Some, None, option_map, is_some, IsSome, true≢false, refl, sym, ap, subst, ◌∙◌, append_assoc, append-nil, Ordering}
use Rattle.std.specs.Cmp.{IsTotalOrder}
use Rattle.std.specs.List.{flat_map}
use Rattle.std.specs.FinMap.Entries.{is_sorted}
use Rattle.sha2.specs.declared.Sha256.{Sha256}
use Rattle.ante_undo.specs.Entries.{first_entry}
use Rattle.ante_sessions.specs.Walk.{past}
use Rattle.ante_sessions.proofs.Past.{past_next}
use Rattle.ante_digest.specs.Feeds.{Feeds, piece_of}
use Rattle.ante_digest.proofs.Fed.{onto}

module _ {K V : Type 0} (cmp : K → K → Ordering) where
  -- the key of the first of the entries after a key, or of all
  abbrev pub next_key : Option K → List (K × V) → Option K
  next_key at m = option_map (λ e. e.0) (first_entry (past cmp at m))

  -- how many entries there are from this one on
  abbrev pub left_from : List (K × V) → Option K → ℕ
  left_from m None = 0
  left_from m (Some key) = suc (length (past cmp (Some key) m))

  -- the entries after this one
  abbrev pub rest_from : List (K × V) → Option K → List (K × V)
  rest_from m None = []
  rest_from m (Some key) = past cmp (Some key) m

  module _ (o : IsTotalOrder cmp) where
    pub left_next : (at : Option K) (m : List (K × V)) → T (is_sorted cmp m) → left_from m (next_key at m) ≡ length (past cmp at m)
    left_next at m sorted = from (past cmp at m) refl
      where
        from : (es : List (K × V)) → past cmp at m ≡ es → left_from m (option_map (λ e. e.0) (first_entry es)) ≡ length es
        from [] is = refl
        from (e ∷ es) is = ap (λ (rest : List (K × V)). suc (length rest)) (past_next cmp o at m e es sorted is)

    -- what is packed of the entries after a key: the first of them, and the rest
    pub packed_next : (packed : K × V → List ℕ) (at : Option K) (m : List (K × V)) → T (is_sorted cmp m)
        → flat_map packed (past cmp at m) ≡ piece_of packed (first_entry (past cmp at m)) ++ flat_map packed (rest_from m (next_key at m))
    packed_next packed at m sorted = from (past cmp at m) refl
      where
        from : (es : List (K × V)) → past cmp at m ≡ es → flat_map packed es ≡ piece_of packed (first_entry es) ++ flat_map packed (rest_from m (option_map (λ e. e.0) (first_entry es)))
        from [] is = refl
        from (e ∷ es) is = ap (λ (rest : List (K × V)). packed e ++ flat_map packed rest) (sym (past_next cmp o at m e es sorted is))

-- a part of the whole was fed, and the rest is to come
pub record IsPart (old new : Sha256) (rest whole : List ℕ) : Type 0 where
  pub front : List ℕ
  pub fed : Feeds old new front
  pub is : whole ≡ front ++ rest

module _ {K V : Type 0} (cmp : K → K → Ordering) (o : IsTotalOrder cmp) (packed : K × V → List ℕ) where
  -- the first entry of all was fed
  pub part_first : (h h1 : Sha256) (m : List (K × V)) (next : Option K) → T (is_sorted cmp m) → next ≡ next_key cmp None m → Feeds h h1 (piece_of packed (first_entry m)) → IsPart h h1 (flat_map packed (rest_from cmp m next)) (flat_map packed m)
  part_first h h1 m next sorted is fed = record {
    front = piece_of packed (first_entry m);
    fed = fed;
    is = packed_next cmp o packed None m sorted ∙ ap (λ at. piece_of packed (first_entry m) ++ flat_map packed (rest_from cmp m at)) (sym is);
  }

  -- one more was fed
  pub part_next : (h h1 h2 : Sha256) (m : List (K × V)) (at next : Option K) → T (is_sorted cmp m) → IsSome at → next ≡ next_key cmp at m → Feeds h1 h2 (piece_of packed (first_entry (past cmp at m)))
      → IsPart h h1 (flat_map packed (rest_from cmp m at)) (flat_map packed m) → IsPart h h2 (flat_map packed (rest_from cmp m next)) (flat_map packed m)
  part_next h h1 h2 m None next sorted some is fed part = absurd (true≢false (sym some))
  part_next h h1 h2 m (Some key) next sorted some is fed part =
      let piece = piece_of packed (first_entry (past cmp (Some key) m)) in
      record {
        front = part.front ++ piece;
        fed = onto part.fed fed;
        is = part.is ∙ ap (λ (t : List ℕ). part.front ++ t) (packed_next cmp o packed (Some key) m sorted ∙ ap (λ at. piece ++ flat_map packed (rest_from cmp m at)) (sym is))
            ∙ sym (append_assoc part.front piece (flat_map packed (rest_from cmp m next)));
      }

  pub part_whole : (h h1 : Sha256) (m : List (K × V)) (at : Option K) → is_some at ≡ false → IsPart h h1 (flat_map packed (rest_from cmp m at)) (flat_map packed m) → Feeds h h1 (flat_map packed m)
  part_whole h h1 m None none part = subst (λ (t : List ℕ). Feeds h h1 t) (sym (append-nil part.front) ∙ sym part.is) part.fed
  part_whole h h1 m (Some key) none part = absurd (true≢false none)

module _ {K V : Type 0} (cmp : K → K → Ordering) (o : IsTotalOrder cmp) where
  -- fewer entries are left after the next one
  pub left_fewer : (m : List (K × V)) (at next : Option K) → T (is_sorted cmp m) → IsSome at → next ≡ next_key cmp at m → suc (left_from cmp m next) ≡ left_from cmp m at
  left_fewer m None next sorted some is = absurd (true≢false (sym some))
  left_fewer m (Some key) next sorted some is = ap suc (ap (left_from cmp m) is ∙ left_next cmp o (Some key) m sorted)

  pub left_none : (m : List (K × V)) (at : Option K) → is_some at ≡ false → left_from cmp m at ≡ 0
  left_none m None none = refl
  left_none m (Some key) none = absurd (true≢false none)
