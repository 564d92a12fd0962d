-- The functions of the module `env` that a host gives to contracts, with their types. A function's number is its place.
use Rattle.std.specs.Prelude.{ℕ, List, [], ◌∷◌, ◌++◌, Option, None, Some, map, codes, slice_get}
use Rattle.ante_wtree.specs.declared.instructions.ValueKind.{ValueKind}
use Rattle.ante_wtree.specs.declared.instructions.ValueKind.TheVariants.{I32, I64}

pub record HostFunction : Type 0 where
  pub name : List ℕ
  pub params : List ValueKind
  pub result : Option ValueKind

abbrev i : ValueKind
i = I32

abbrev q : ValueKind
q = I64

abbrev pub call : List ℕ → List ValueKind → Option ValueKind → HostFunction
call name params result = record { name = name; params = params; result = result }

-- The calls of a secondary index, whose names begin with a prefix and whose keys are passed as these kinds.
abbrev pub index_calls : List ℕ → List ValueKind → List HostFunction
index_calls prefix key =
    call (prefix ++ codes "store") (q ∷ q ∷ q ∷ q ∷ key) (Some i) ∷
    call (prefix ++ codes "update") (i ∷ q ∷ key) None ∷
    call (prefix ++ codes "remove") (i ∷ []) None ∷
    call (prefix ++ codes "next") (i ∷ i ∷ []) (Some i) ∷
    call (prefix ++ codes "previous") (i ∷ i ∷ []) (Some i) ∷
    call (prefix ++ codes "find_primary") (q ∷ q ∷ q ∷ (key ++ q ∷ [])) (Some i) ∷
    call (prefix ++ codes "find_secondary") (q ∷ q ∷ q ∷ (key ++ i ∷ [])) (Some i) ∷
    call (prefix ++ codes "lowerbound") (q ∷ q ∷ q ∷ (key ++ i ∷ [])) (Some i) ∷
    call (prefix ++ codes "upperbound") (q ∷ q ∷ q ∷ (key ++ i ∷ [])) (Some i) ∷
    call (prefix ++ codes "end") (q ∷ q ∷ q ∷ []) (Some i) ∷ []

abbrev pub plain_calls : List HostFunction
plain_calls =
    call (codes "abort") [] None ∷
    call (codes "eosio_exit") (i ∷ []) None ∷
    call (codes "eosio_assert") (i ∷ i ∷ []) None ∷
    call (codes "eosio_assert_message") (i ∷ i ∷ i ∷ []) None ∷
    call (codes "eosio_assert_code") (i ∷ q ∷ []) None ∷
    call (codes "current_receiver") [] (Some q) ∷
    call (codes "get_sender") [] (Some q) ∷
    call (codes "action_data_size") [] (Some i) ∷
    call (codes "read_action_data") (i ∷ i ∷ []) (Some i) ∷
    call (codes "transaction_size") [] (Some i) ∷
    call (codes "read_transaction") (i ∷ i ∷ []) (Some i) ∷
    call (codes "expiration") [] (Some i) ∷
    call (codes "tapos_block_num") [] (Some i) ∷
    call (codes "tapos_block_prefix") [] (Some i) ∷
    call (codes "current_time") [] (Some q) ∷
    call (codes "publication_time") [] (Some q) ∷
    call (codes "require_auth") (q ∷ []) None ∷
    call (codes "require_auth2") (q ∷ q ∷ []) None ∷
    call (codes "has_auth") (q ∷ []) (Some i) ∷
    call (codes "is_account") (q ∷ []) (Some i) ∷
    call (codes "is_privileged") (q ∷ []) (Some i) ∷
    call (codes "require_recipient") (q ∷ []) None ∷
    call (codes "send_inline") (i ∷ i ∷ []) None ∷
    call (codes "prints") (i ∷ []) None ∷
    call (codes "prints_l") (i ∷ i ∷ []) None ∷
    call (codes "printhex") (i ∷ i ∷ []) None ∷
    call (codes "printi") (q ∷ []) None ∷
    call (codes "printui") (q ∷ []) None ∷
    call (codes "printn") (q ∷ []) None ∷
    call (codes "printi128") (i ∷ []) None ∷
    call (codes "printui128") (i ∷ []) None ∷
    call (codes "memcpy") (i ∷ i ∷ i ∷ []) (Some i) ∷
    call (codes "memmove") (i ∷ i ∷ i ∷ []) (Some i) ∷
    call (codes "memset") (i ∷ i ∷ i ∷ []) (Some i) ∷
    call (codes "memcmp") (i ∷ i ∷ i ∷ []) (Some i) ∷
    call (codes "sha256") (i ∷ i ∷ i ∷ []) None ∷
    call (codes "assert_sha256") (i ∷ i ∷ i ∷ []) None ∷
    call (codes "__multi3") (i ∷ q ∷ q ∷ q ∷ q ∷ []) None ∷
    call (codes "__divti3") (i ∷ q ∷ q ∷ q ∷ q ∷ []) None ∷
    call (codes "__udivti3") (i ∷ q ∷ q ∷ q ∷ q ∷ []) None ∷
    call (codes "__modti3") (i ∷ q ∷ q ∷ q ∷ q ∷ []) None ∷
    call (codes "__umodti3") (i ∷ q ∷ q ∷ q ∷ q ∷ []) None ∷
    call (codes "__ashlti3") (i ∷ q ∷ q ∷ i ∷ []) None ∷
    call (codes "__ashrti3") (i ∷ q ∷ q ∷ i ∷ []) None ∷
    call (codes "__lshlti3") (i ∷ q ∷ q ∷ i ∷ []) None ∷
    call (codes "__lshrti3") (i ∷ q ∷ q ∷ i ∷ []) None ∷
    call (codes "set_resource_limits") (q ∷ q ∷ q ∷ q ∷ []) None ∷
    call (codes "set_action_return_value") (i ∷ i ∷ []) None ∷
    call (codes "db_store_i64") (q ∷ q ∷ q ∷ q ∷ i ∷ i ∷ []) (Some i) ∷
    call (codes "db_update_i64") (i ∷ q ∷ i ∷ i ∷ []) None ∷
    call (codes "db_remove_i64") (i ∷ []) None ∷
    call (codes "db_get_i64") (i ∷ i ∷ i ∷ []) (Some i) ∷
    call (codes "db_next_i64") (i ∷ i ∷ []) (Some i) ∷
    call (codes "db_previous_i64") (i ∷ i ∷ []) (Some i) ∷
    call (codes "db_find_i64") (q ∷ q ∷ q ∷ q ∷ []) (Some i) ∷
    call (codes "db_lowerbound_i64") (q ∷ q ∷ q ∷ q ∷ []) (Some i) ∷
    call (codes "db_upperbound_i64") (q ∷ q ∷ q ∷ q ∷ []) (Some i) ∷
    call (codes "db_end_i64") (q ∷ q ∷ q ∷ []) (Some i) ∷ []

-- all of them, in order
abbrev pub host_functions : List HostFunction
host_functions = plain_calls
    ++ (index_calls (codes "db_idx64_") (i ∷ []) ++ (index_calls (codes "db_idx128_") (i ∷ []) ++ index_calls (codes "db_idx256_") (i ∷ i ∷ [])))

abbrev pub names : List (List ℕ)
names = map (λ f. f.name) host_functions

abbrev pub types : List (List ValueKind × Option ValueKind)
types = map (λ f. (f.params, f.result)) host_functions

abbrev pub name_at : ℕ → Option (List ℕ)
name_at number = slice_get names number

abbrev pub type_at : ℕ → Option (List ValueKind × Option ValueKind)
type_at number = slice_get types number
