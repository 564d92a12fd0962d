-- The limits of this profile on memories. Those on the other parts of a module stand in `ante_wtree`.
use Rattle.std.specs.Prelude.{ℕ}

-- the bytes of a page (section 4.2.8)
abbrev pub page_size : ℕ
page_size = 65536

-- the pages that a memory may have
abbrev pub most_memory_pages : ℕ
most_memory_pages = 528
