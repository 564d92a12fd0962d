-- The limits of requests.
use Rattle.std.specs.Prelude.{ℕ}

-- the bytes of a head, its end included
abbrev pub most_head_bytes : ℕ
most_head_bytes = 8192

-- the field lines of a head
abbrev pub most_fields : ℕ
most_fields = 64

-- the digits of a Content-Length
abbrev pub most_length_digits : ℕ
most_length_digits = 18

-- the bytes of a body
abbrev pub most_body_bytes : ℕ
most_body_bytes = 4194304
