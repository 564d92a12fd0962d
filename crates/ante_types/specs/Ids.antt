-- Ids and digests. SHA-256 is that of FIPS 180-4.
use Rattle.std.specs.Prelude.{ℕ, ◌+◌, List, ◌++◌, take, drop, replicate}
use Rattle.std.specs.Int.{w32, from_be_bytes, to_be_bytes}
use Rattle.sha2.specs.Sha256.{sha256}
use Rattle.ante_pack.specs.Forms.{list_of}
use Rattle.ante_types.specs.declared.chain.Header.{Header}
use Rattle.ante_types.specs.declared.chain.Receipt.{Receipt}
use Rattle.ante_types.specs.Chain.{header, receipt}

-- what the signers of a transaction sign: chain id, packed transaction, and 32 zero bytes
unfoldable pub signing_digest : List ℕ → List ℕ → List ℕ
signing_digest chain_id packed = sha256 (chain_id ++ packed ++ replicate 32 0)

unfoldable pub trx_root : List Receipt → List ℕ
trx_root receipts = sha256 ((list_of receipt).spell receipts)

-- a block's number is the first four bytes of its id, the highest first
unfoldable pub block_num : List ℕ → ℕ
block_num id = from_be_bytes w32 (take 4 id)

-- the digest of the packed header, its first four bytes replaced by the number, one more than the predecessor's
unfoldable pub block_id : Header → List ℕ
block_id h = to_be_bytes w32 (block_num h.previous + 1) ++ drop 4 (sha256 (header.spell h))
