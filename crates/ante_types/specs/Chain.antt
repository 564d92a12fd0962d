-- The packed form of each type of the chain, its fields in order.
use Rattle.ante_pack.specs.Forms.{Form, pair, made_of, list_of, varuint, string}
use Rattle.ante_pack.specs.Packed.{u8, u16, u32, name, digest, level, authority}
use Rattle.ante_types.specs.declared.chain.Action.{Action}
use Rattle.ante_types.specs.declared.chain.Extension.{Extension}
use Rattle.ante_types.specs.declared.chain.Transaction.{Transaction}
use Rattle.ante_types.specs.declared.chain.Receipt.{Receipt}
use Rattle.ante_types.specs.declared.chain.Header.{Header}
use Rattle.ante_types.specs.declared.chain.Block.{Block}
use Rattle.ante_types.specs.declared.chain.GenesisAccount.{GenesisAccount}
use Rattle.ante_types.specs.declared.chain.Genesis.{Genesis}

unfoldable pub action : Form Action
action = made_of
    (λ p. record { account = p.0; name = p.1.0; authorization = p.1.1.0; bytes = p.1.1.1 })
    (λ v. (v.account, (v.name, (v.authorization, v.bytes))))
    (pair name (pair name (pair (list_of level) string)))

unfoldable pub extension : Form Extension
extension = made_of (λ p. record { kind = p.0; bytes = p.1 }) (λ v. (v.kind, v.bytes)) (pair u16 string)

unfoldable pub transaction : Form Transaction
transaction = made_of
    (λ p. record {
      expiration = p.0;
      ref_block_num = p.1.0;
      ref_block_prefix = p.1.1.0;
      max_net_usage_words = p.1.1.1.0;
      max_cpu_usage_ms = p.1.1.1.1.0;
      delay_sec = p.1.1.1.1.1.0;
      context_free_actions = p.1.1.1.1.1.1.0;
      actions = p.1.1.1.1.1.1.1.0;
      extensions = p.1.1.1.1.1.1.1.1;
    })
    (λ v. (v.expiration, (v.ref_block_num, (v.ref_block_prefix, (v.max_net_usage_words, (v.max_cpu_usage_ms, (v.delay_sec, (v.context_free_actions, (v.actions, v.extensions)))))))))
    (pair u32 (pair u16 (pair u32 (pair varuint (pair u8 (pair varuint (pair (list_of action) (pair (list_of action) (list_of extension)))))))))

unfoldable pub receipt : Form Receipt
receipt = made_of
    (λ p. record { steps = p.0; packed = p.1.0; signatures = p.1.1 })
    (λ v. (v.steps, (v.packed, v.signatures)))
    (pair u32 (pair string (list_of string)))

-- 76 bytes
unfoldable pub header : Form Header
header = made_of
    (λ p. record { slot = p.0; producer = p.1.0; previous = p.1.1.0; trx_root = p.1.1.1 })
    (λ v. (v.slot, (v.producer, (v.previous, v.trx_root))))
    (pair u32 (pair name (pair digest digest)))

unfoldable pub block : Form Block
block = made_of
    (λ p. record { header = p.0; seal = p.1.0; receipts = p.1.1 })
    (λ v. (v.header, (v.seal, v.receipts)))
    (pair header (pair string (list_of receipt)))

unfoldable pub genesis_account : Form GenesisAccount
genesis_account = made_of
    (λ p. record { name = p.0; owner = p.1.0; active = p.1.1.0; code = p.1.1.1 })
    (λ v. (v.name, (v.owner, (v.active, v.code))))
    (pair name (pair authority (pair authority string)))

unfoldable pub genesis : Form Genesis
genesis = made_of
    (λ p. record { version = p.0; slot = p.1.0; producers = p.1.1.0; accounts = p.1.1.1 })
    (λ v. (v.version, (v.slot, (v.producers, v.accounts))))
    (pair u32 (pair u32 (pair (list_of name) (list_of genesis_account))))
