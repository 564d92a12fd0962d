-- An object written member by member.
use Rattle.std.proofs.Common.{ℕ, true, List, [], ◌∷◌, ◌++◌, codes, ap, ◌∙◌, append_assoc}
use Rattle.json.specs.Print.{quoted}
use Rattle.serde_json.specs.Data.{Data, object, Members, member, no_members}
use Rattle.serde_json.specs.Written.{compact_text, members_text}
use Rattle.ante_pack.specs.Adds.{Adds}
use Rattle.ante_pack.proofs.Pieces.{onto}
use Rattle.ante_json_text.specs.Values.{member_text, object_value}

-- a key and its value
keyed : {s0 s1 s2 : List ℕ} (k : List ℕ) (v : Data)
    → Adds s0 s1 (44 ∷ (quoted k ++ 58 ∷ [])) → Adds s1 s2 (compact_text v) → Adds s0 s2 (44 ∷ member_text (k, v))
keyed {s0} k v a b = record { is = (onto a b).is ∙ ap (λ (t : List ℕ). s0 ++ 44 ∷ t) (append_assoc (quoted k) (58 ∷ []) (compact_text v)) }

-- a later member, and those behind it
later : {s0 s1 s2 : List ℕ} (k : List ℕ) (v : Data) (ms : Members)
    → Adds s0 s1 (44 ∷ member_text (k, v)) → Adds s1 s2 (members_text true ms) → Adds s0 s2 (members_text true (member k v ms))
later {s0} k v ms a b = record { is = (onto a b).is ∙ ap (λ (t : List ℕ). s0 ++ 44 ∷ t) (append_assoc (quoted k) (58 ∷ compact_text v) (members_text true ms)) }

-- the first member, and those behind it
first : {s0 s1 s2 s3 : List ℕ} (k : List ℕ) (v : Data) (ms : Members)
    → Adds s0 s1 (123 ∷ []) → Adds s1 s2 (member_text (k, v)) → Adds s2 s3 (members_text true ms)
    → Adds s0 s3 (compact_text (object (member k v ms)))
first {s0} k v ms o a b = record {
  is = (onto o (onto a b)).is ∙ ap (λ (t : List ℕ). s0 ++ 123 ∷ t) (append_assoc (quoted k) (58 ∷ compact_text v) (members_text true ms));
}

-- three members, a list, and three members: the name, the hash, the list, and what is behind it
pub account_text : (name hash permissions privileged quota usage : Data) {s0 s1 s2 s3 s4 s5 s6 s7 s8 s9 : List ℕ}
    → Adds s0 s1 (123 ∷ []) → Adds s1 s2 (member_text (codes "account_name", name)) → Adds s2 s3 (44 ∷ member_text (codes "code_hash", hash))
    → Adds s3 s4 (44 ∷ (quoted (codes "permissions") ++ 58 ∷ [])) → Adds s4 s5 (compact_text permissions)
    → Adds s5 s6 (44 ∷ member_text (codes "privileged", privileged)) → Adds s6 s7 (44 ∷ member_text (codes "ram_quota", quota))
    → Adds s7 s8 (44 ∷ member_text (codes "ram_usage", usage)) → Adds s8 s9 (125 ∷ [])
    → Adds s0 s9 (compact_text (object_value ((codes "account_name", name) ∷ (codes "code_hash", hash) ∷ (codes "permissions", permissions)
    ∷ (codes "privileged", privileged) ∷ (codes "ram_quota", quota) ∷ (codes "ram_usage", usage) ∷ [])))
account_text name hash permissions privileged quota usage o m1 m2 k l m3 m4 m5 e =
    let last : Members = member (codes "ram_usage") usage no_members in
    let fifth : Members = member (codes "ram_quota") quota last in
    let fourth : Members = member (codes "privileged") privileged fifth in
    let third : Members = member (codes "permissions") permissions fourth in
    let second : Members = member (codes "code_hash") hash third in
    first (codes "account_name") name second o m1 (later (codes "code_hash") hash third m2
    (later (codes "permissions") permissions fourth (keyed (codes "permissions") permissions k l)
    (later (codes "privileged") privileged fifth m3 (later (codes "ram_quota") quota last m4 (later (codes "ram_usage") usage no_members m5 e)))))
