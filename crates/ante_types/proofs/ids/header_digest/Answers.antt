use Rattle.std.proofs.Common.{refl, ap, ◌∙◌}
use Rattle.sha2.specs.Sha256.{sha256}
use Rattle.ante_pack.specs.Packed.{u32, u64, name, digest}
use Rattle.ante_types.specs.Chain.{header}
use Rattle.ante_types.proofs.ids.header_digest.Goals as goal

pub returns : goal.returns
unfolding header name u32 u64 digest
returns c =
    c.finalize.ensures _ (c.update-4.ensures _ (c.update-3.ensures _ (c.update-2.ensures _ (c.update.ensures _ c.new-hasher.ensures))))
    ∙ ap sha256 (rw (c.as_slice.ensures, c.as_slice-2.ensures, c.as_slice-3.ensures, c.as_slice-4.ensures, c.to_le_bytes.ensures, c.to_le_bytes-2.ensures) refl)
