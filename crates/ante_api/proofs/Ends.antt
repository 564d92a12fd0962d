-- The parts of a request lie within its bytes.
use Rattle.std.proofs.Common.{ℕ, ◌≤◌, List, length, arith}
use Rattle.ante_http.specs.declared.answer.RequestSpan.{RequestSpan}
use Rattle.ante_http.proofs.Parts.{parts}
use Rattle.ante_api.specs.Routes.{IsSpanOf}

pub target_order : (bytes : List ℕ) (r : RequestSpan) → IsSpanOf bytes r → r.target.start ≤ r.target.end
target_order bytes r (n, x) = (parts bytes r n x).0

pub target_end : (bytes : List ℕ) (r : RequestSpan) → IsSpanOf bytes r → r.target.end ≤ length bytes
target_end bytes r (n, x) =
    let p = parts bytes r n x in
    omega (arith, p.1, p.2, p.3, p.4)

pub body_order : (bytes : List ℕ) (r : RequestSpan) → IsSpanOf bytes r → r.body.start ≤ r.body.end
body_order bytes r (n, x) = (parts bytes r n x).2

pub body_end : (bytes : List ℕ) (r : RequestSpan) → IsSpanOf bytes r → r.body.end ≤ length bytes
body_end bytes r (n, x) =
    let p = parts bytes r n x in
    omega (arith, p.3, p.4)
