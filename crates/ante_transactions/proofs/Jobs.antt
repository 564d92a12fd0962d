-- The bytes of a job read as its transaction.
use Rattle.std.proofs.Common.{◌≡◌, ℕ, ◌+◌, List, [], length, Ok, refl, sym, ap, ◌∙◌}
use Rattle.std.proofs.lemmas.List.{append-nil}
use Rattle.ante_pack.specs.Forms.{Packs, whole}
use Rattle.ante_types.specs.declared.chain.Transaction.{Transaction}
use Rattle.ante_types.specs.Chain.{transaction}
use Rattle.ante_types.specs.Codecs.{IsCodec-transaction}
use Rattle.ante_calls.specs.ActionData.{IsPacked}

reads : (packed : List ℕ) (t : Transaction) → Packs transaction t packed → whole transaction packed ≡ Ok t
reads packed t p =
    let read : transaction.read (record { at = 0; rest = packed }) ≡ Ok (t, record { at = 0 + length (transaction.spell t); rest = [] }) =
    ap (λ (x : List ℕ). transaction.read (record { at = 0; rest = x })) (p.spelled ∙ sym (append-nil (transaction.spell t))) ∙ IsCodec-transaction.again t 0 [] p.fits in
    rw read refl

pub is_packed : (t : Transaction) (packed : List ℕ) → Packs transaction t packed → IsPacked packed
is_packed t packed p = (t, reads packed t p)
