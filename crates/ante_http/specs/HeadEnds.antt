-- A head ends at the first line feed that follows a line feed, or a line feed and a carriage return, after any leading
-- carriage returns and line feeds.
use Rattle.std.specs.Prelude.{◌≡◌, ℕ, ◌+◌, ◌-◌, ◌<◌, Bool, true, false, ◌&&◌, ◌||◌, ◌==◌, nat_lt, if◌then◌else◌, List, [], ◌∷◌, length, slice_index}

-- a carriage return or a line feed
abbrev pub is_line_end_byte : ℕ → Bool
is_line_end_byte b = (b == 13) || (b == 10)

-- how many carriage returns and line feeds the bytes begin with
abbrev pub leading : List ℕ → ℕ
leading [] = 0
leading (b ∷ bytes) = if is_line_end_byte b then leading bytes + 1 else 0

-- The place holds a line feed that ends an empty line, where the first line begins at `from`.
abbrev pub ends_at : List ℕ → ℕ → ℕ → Bool
ends_at bytes from place =
    (slice_index bytes place == 10)
    && ((nat_lt from place && slice_index bytes (place - 1) == 10)
    || (nat_lt (from + 1) place && slice_index bytes (place - 1) == 13 && slice_index bytes (place - 2) == 10))

-- The head ends just past the first such place.
pub record IsHeadEnd (bytes : List ℕ) (end : ℕ) : Type 0 where
  pub place : ℕ
  pub is_end : end ≡ place + 1
  pub within : place < length bytes
  pub ends : ends_at bytes (leading bytes) place ≡ true
  pub first : (k : ℕ) → k < place → ends_at bytes (leading bytes) k ≡ false

abbrev pub HasNoHeadEnd : List ℕ → Type 0
HasNoHeadEnd bytes = (k : ℕ) → k < length bytes → ends_at bytes (leading bytes) k ≡ false
