-- What the entries of the state are billed, in bytes, and the most that is let in.
use Rattle.std.specs.Prelude.{ℕ, ◌^◌}

-- an account, beside its code and its ABI
abbrev pub account_size : ℕ
account_size = 2720

-- each byte of an account's code is billed so many times
abbrev pub code_factor : ℕ
code_factor = 10

-- a permission, beside its packed authority
abbrev pub permission_size : ℕ
permission_size = 320

abbrev pub link_size : ℕ
link_size = 160

-- a table object
abbrev pub table_size : ℕ
table_size = 112

-- a primary row, beside its bytes
abbrev pub row_size : ℕ
row_size = 112

-- a row of a secondary index, by the bits of its key
abbrev pub index64_size : ℕ
index64_size = 128

abbrev pub index128_size : ℕ
index128_size = 136

abbrev pub index256_size : ℕ
index256_size = 152

-- the most bytes that all accounts may use together
abbrev pub most_usage : ℕ
most_usage = 2 ^ 62

-- the most rows of a table
abbrev pub most_rows : ℕ
most_rows = 4294967295
