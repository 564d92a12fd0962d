-- When a form is a codec: what is read is spelled so, and what is spelled is read, whatever follows.
use Rattle.std.specs.Prelude.{◌≡◌, ℕ, ◌+◌, List, ◌++◌, length, Ok}
use Rattle.ante_pack.specs.Forms.{Cursor, Form, IsBytes}

-- where a reader stands after it took a text from the front
pub record Takes (old : Cursor) (text : List ℕ) (new : Cursor) : Type 0 where
  pub parts : old.rest ≡ text ++ new.rest
  pub place : new.at ≡ old.at + length text
  pub rest_fits : IsBytes new.rest

pub record IsCodec {A : Type 0} (form : Form A) : Type 0 where
  pub takes : (c : Cursor) (x : A) (d : Cursor) → IsBytes c.rest → form.read c ≡ Ok (x, d) → Takes c (form.spell x) d × form.Fits x
  pub again : (x : A) (at : ℕ) (rest : List ℕ) → form.Fits x
      → form.read (record { at = at; rest = form.spell x ++ rest }) ≡ Ok (x, record { at = at + length (form.spell x); rest = rest })
