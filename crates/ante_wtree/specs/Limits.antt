-- The limits of this profile on modules and runs. Those on memories stand in `ante_wmem`.
use Rattle.std.specs.Prelude.{ℕ}

-- the bytes of a module's binary
abbrev pub most_module_bytes : ℕ
most_module_bytes = 1048576

-- ---- the sections

abbrev pub most_types : ℕ
most_types = 1024

abbrev pub most_imports : ℕ
most_imports = 8192

-- the imported functions and the module's own
abbrev pub most_functions : ℕ
most_functions = 8192

abbrev pub most_globals : ℕ
most_globals = 1024

abbrev pub most_exports : ℕ
most_exports = 8192

abbrev pub most_element_segments : ℕ
most_element_segments = 1024

abbrev pub most_data_segments : ℕ
most_data_segments = 1024

-- the elements that a table may have
abbrev pub most_table_elements : ℕ
most_table_elements = 8192

-- ---- a function

abbrev pub most_params : ℕ
most_params = 4096

-- the parameters, and the locals beside them
abbrev pub most_locals : ℕ
most_locals = 4096

-- blocks, loops and ifs within one another
abbrev pub most_nested_blocks : ℕ
most_nested_blocks = 1024

-- the targets of a `br_table`, beside the one for every other operand
abbrev pub most_branch_targets : ℕ
most_branch_targets = 8192

-- ---- a run

-- The calls that may be open at once. Recursion goes down from it, so it isn't computed in every goal.
unfoldable pub most_frames : ℕ
most_frames = 250

-- the steps of a round, after which a run looks at its stop
abbrev pub round_steps : ℕ
round_steps = 1024
