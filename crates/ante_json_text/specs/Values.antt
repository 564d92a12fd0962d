-- What the pieces stand for that a text is written from.
use Rattle.std.specs.Prelude.{ℕ, ℤ, List, [], ◌∷◌, ◌++◌}
use Rattle.hex.specs.Hex.{encode_lower}
use Rattle.serde_json.specs.Data.{Data, null, boolean, number, string, array, object, Items, no_items, item, Members, no_members, member, unsigned}
use Rattle.serde_json.specs.Find.{of_integer}
use Rattle.serde_json.specs.Written.{compact_text}
use Rattle.json.specs.Print.{quoted}
use Rattle.ante_pack.specs.declared.names.Name.{Name}
use Rattle.ante_pack.specs.Names.{name_text}
use Rattle.ante_json_text.specs.declared.scalar.Scalar.{Scalar}
use Rattle.ante_json_text.specs.declared.scalar.Scalar.TheVariants as scalars
use Rattle.ante_json_text.specs.declared.scalar.Member.{Member}

abbrev pub number_value : ℕ → Data
number_value n = number (unsigned n)

abbrev pub signed_value : ℤ → Data
signed_value z = number (of_integer z)

-- names are their texts
abbrev pub name_value : Name → Data
name_value n = string (name_text n.0)

-- byte strings and digests are lower-case hex
abbrev pub hex_value : List ℕ → Data
hex_value bytes = string (encode_lower bytes)

abbrev pub items_of : List Data → Items
items_of [] = no_items
items_of (d ∷ ds) = item d (items_of ds)

abbrev pub list_value : List Data → Data
list_value ds = array (items_of ds)

abbrev pub members_of : List (List ℕ × Data) → Members
members_of [] = no_members
members_of (m ∷ ms) = member m.0 m.1 (members_of ms)

-- an object of these keys and values, whose order is kept: those who write it give it in ascending order
abbrev pub object_value : List (List ℕ × Data) → Data
object_value ms = object (members_of ms)

abbrev pub scalar_value : Scalar → Data
scalar_value scalars.Null = null
scalar_value (scalars.Bool b) = boolean b
scalar_value (scalars.Number n) = number_value n
scalar_value (scalars.Signed z) = signed_value z
scalar_value (scalars.Text text) = string text.now
scalar_value (scalars.Hex bytes) = hex_value bytes.now
scalar_value (scalars.Bytes bytes) = hex_value bytes.now
scalar_value (scalars.Name n) = name_value n

abbrev pub pair_of : Member → List ℕ × Data
pair_of m = (m.0.now, scalar_value m.1)

-- a member's text: its key in quotes, a colon, and its value
abbrev pub member_text : List ℕ × Data → List ℕ
member_text m = quoted m.0 ++ 58 ∷ compact_text m.1
