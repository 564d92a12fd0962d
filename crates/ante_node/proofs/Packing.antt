-- What an input asks for is a transaction that packs to the job's bytes.
use Rattle.std.proofs.Common.{◌≡◌, ℕ, Bool, true, false, List, length, Result, Ok, Err, refl, ap, subst, ◌∙◌}
use Rattle.std.specs.Prelude.{nat_lt, ◌+◌, if◌then◌else◌}
use Rattle.hex.specs.Hex.{decode_of}
use Rattle.hex.specs.declared.error.FromHexError.{FromHexError}
use Rattle.hex.proofs.HexLemmas.{decode_of-ok}
use Rattle.ante_pack.specs.declared.fault.PackFault.{PackFault}
use Rattle.ante_pack.specs.Forms as forms
use Rattle.ante_pack.specs.Forms.{◌>>=◌, IsBytes, Packs, whole}
use Rattle.ante_pack.proofs.Consequences.{reads_whole}
use Rattle.ante_types.specs.declared.chain.Transaction.{Transaction}
use Rattle.ante_types.specs.Chain.{transaction}
use Rattle.ante_types.specs.Codecs.{IsCodec-transaction}
use Rattle.ante_types.specs.Jobs.{Job, job_of}
use Rattle.ante_node.specs.declared.fault.InputFault.{InputFault}
use Rattle.ante_node.specs.declared.fault.InputKind.TheVariants as kinds
use Rattle.ante_node.specs.Limits.{item_limit, line_limit}
use Rattle.ante_node.specs.Requests.{input_fault}
use Rattle.ante_node.specs.Lines.{TextLine, line_at, line_end, decoded, unpacked, job_in, ends_input}
use Rattle.ante_node.specs.Ask.{asked_of}

of_whole : (packed : List ℕ) (r : Result Transaction PackFault) (job : Job) → IsBytes packed → whole transaction packed ≡ r →
    unpacked (r >>= λ trx. Ok (record { packed = packed; trx = trx })) ≡ Ok job → Packs transaction job.trx job.packed
of_whole packed (Ok trx) job fits e h =
    let one : Job = record { packed = packed; trx = trx } in
    let same : one ≡ job = cc in
    subst (λ (j : Job). Packs transaction j.trx j.packed) same (reads_whole transaction IsCodec-transaction packed (Ok trx) fits e).found
of_whole packed (Err fault) job fits e h = absurd (let clash = h in cc)

of_bytes : (line : TextLine) (long : Bool) (r : Result (List ℕ) FromHexError) (job : Job) → decode_of line.text ≡ r →
    ((if long then Err (input_fault item_limit kinds.Long) else decoded line r) >>= λ packed. unpacked (job_of packed)) ≡ Ok job → Packs transaction job.trx job.packed
of_bytes line true r job e h = absurd (let clash = h in cc)
of_bytes line false (Err fault) job e h = absurd (let clash = h in cc)
of_bytes line false (Ok packed) job e h = of_whole packed (whole transaction packed) job (decode_of-ok line.text packed e).3 refl h

of_line : (line : TextLine) (job : Job) → job_in line ≡ Ok job → Packs transaction job.trx job.packed
of_line line job h = of_bytes line (nat_lt line_limit (length line.text)) (decode_of line.text) job refl h

past_end : (more : Bool) (input : List ℕ) (line : TextLine) (one job : Job) →
    (if more then Err (input_fault (line_end line + 1) kinds.More) else Ok one) ≡ Ok job → one ≡ job
past_end true input line one job h = absurd (let clash = h in cc)
past_end false input line one job h = cc

of_ended : (input : List ℕ) (line : TextLine) (r : Result Job InputFault) (job : Job) → job_in line ≡ r → (r >>= ends_input input line) ≡ Ok job → Packs transaction job.trx job.packed
of_ended input line (Ok one) job e h =
    let same = past_end (nat_lt (line_end line + 1) (length input)) input line one job h in
    subst (λ (j : Job). Packs transaction j.trx j.packed) same (of_line line one e)
of_ended input line (Err fault) job e h = absurd (let clash = h in cc)

pub asked_packs : (input : List ℕ) (job : Job) → asked_of input ≡ Ok job → Packs transaction job.trx job.packed
unfolding asked_of
asked_packs input job h = of_ended input (line_at 0 input) (job_in (line_at 0 input)) job refl h
