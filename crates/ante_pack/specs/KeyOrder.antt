-- The order of 256-bit keys: by the first word, and then by the second.
use Rattle.std.specs.declared.cmp.Ordering.{Ordering}
use Rattle.std.specs.Ordering.{nat_cmp, ordering_then}
use Rattle.ante_pack.specs.declared.names.Key256.{Key256}

abbrev pub key256_order : Key256 → Key256 → Ordering
key256_order a b = ordering_then (nat_cmp a.first b.first) (nat_cmp a.second b.second)
