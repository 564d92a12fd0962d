use Rattle.std.proofs.Common.{ℕ, ◌-◌, List, length, Ok, sym, ap, ◌∙◌, arith}
use Rattle.std.proofs.lemmas.Result.{err_from_is_err_and}
use Rattle.ante_wtree.specs.Expressions.{expression_of, cons, If}
use Rattle.ante_pack.specs.Forms.{◌>>=◌}
use Rattle.ante_wdecode.specs.Rules.{Read}
use Rattle.ante_wdecode.specs.NestedInstructions.{Item, closed, body_at, block_of, block_at, if_at, deeper, one, item_at, item_of, inside, seq_at}
use Rattle.ante_wdecode.proofs.Grammar.{kind_shorter, seq_shorter, item_shorter, opcode_shorter}
use Rattle.ante_wdecode.proofs.Sequences.{none_yet, one_more, at_end, at_fault, item_is, item_fails, inside_is, deeper_is, block_fails, first_only, both_bodies, second_fails, along}
use Rattle.ante_wdecode.proofs.nested.+sequence.Goals as goal

pub sequence-items-init : goal.sequence-items-init
sequence-items-init t c = none_yet c.args.depth c.args.bytes.now c.new-front.result.items c.new-front.ensures.items

pub sequence-returns-in_err-part : goal.sequence-returns-in_err-part
sequence-returns-in_err-part t c = λ n lt.
    let p = err_from_is_err_and c.from_residual.result c.from_residual.ensures.1 in
    rw (p.1, p.2) (at_fault c.args.depth c.args.bytes.now c.items.front.items c.items.rest.now c.in_err-part.field-0.0 c.in_err-part.ensures c.items.invariant n lt)

abbrev found_item : Item → List ℕ → Read Item
found_item i rest = Ok (i, rest)

pub sequence-returns-in-Ends : goal.sequence-returns-in-Ends
sequence-returns-in-Ends t c = λ n lt.
    at_end c.args.depth c.args.bytes.now c.items.front.items c.items.rest.now c.in_ok-part.after.now c.in-Ends.by_else (λ m le. c.in_ok-part.ensures m le ∙ ap (λ p. found_item (item_of p) c.in_ok-part.after.now) c.in-Ends.is) c.items.invariant n lt

pub choice-returns-then-not-by_else : goal.choice-returns-then-not-by_else
choice-returns-then-not-by_else t c = λ n lt.
    deeper_is c.args.depth c.args.bytes.now (if_at (inside (seq_at n) c.args.depth) c.args.bytes.now) c.if-depth-eq0.false
    ∙ first_only (inside (seq_at n) c.args.depth) c.args.bytes.now c.in_ok-kind.kind c.in_ok-kind.rest.now c.in_ok-one.rest.now (expression_of c.in_ok-one.one.items) c.in_ok-one.by_else (cons c.if_instr.result)
    c.in_ok-kind.ensures
    (inside_is (seq_at n) c.args.depth c.in_ok-kind.rest.now c.if-depth-eq0.false ∙ c.in_ok-one.ensures n (omega (arith, kind_shorter c.args.bytes.now c.in_ok-kind.kind c.in_ok-kind.rest.now c.in_ok-kind.ensures)))
    c.if-not-by_else.true
    (c.if_instr.ensures ∙ ap (λ is. If c.in_ok-kind.kind (expression_of c.in_ok-one.one.items) (expression_of is)) c.new.ensures.items)

pub next_part-returns-in_ok-instr-in-Block : goal.next_part-returns-in_ok-instr-in-Block
next_part-returns-in_ok-instr-in-Block t c = λ n le.
    item_is c.args.depth (inside (seq_at n) c.args.depth) c.args.bytes.now c.in_ok-opcode.rest.now c.in_ok-opcode.opcode _ c.in_ok-opcode.ensures c.in-Block.is
    ∙ ap (λ r. r >>= one) (c.in_ok-instr-in-Block.ensures n (omega (arith, opcode_shorter c.args.bytes.now c.in_ok-opcode.opcode c.in_ok-opcode.rest.now c.in_ok-opcode.ensures)))

pub next_part-returns-in_err-instr-in-Block : goal.next_part-returns-in_err-instr-in-Block
next_part-returns-in_err-instr-in-Block t c = λ n le.
    let p = err_from_is_err_and c.from_residual-in_err-instr-in-Block.result c.from_residual-in_err-instr-in-Block.ensures.1 in
    rw (p.1, p.2) (item_fails c.in_err-instr-in-Block.field-0.0 (item_at c.args.depth (inside (seq_at n) c.args.depth) c.args.bytes.now) _
    (item_is c.args.depth (inside (seq_at n) c.args.depth) c.args.bytes.now c.in_ok-opcode.rest.now c.in_ok-opcode.opcode _ c.in_ok-opcode.ensures c.in-Block.is)
    (c.in_err-instr-in-Block.ensures n (omega (arith, opcode_shorter c.args.bytes.now c.in_ok-opcode.opcode c.in_ok-opcode.rest.now c.in_ok-opcode.ensures))))

pub next_part-returns-in_ok-instr-in-Loop : goal.next_part-returns-in_ok-instr-in-Loop
next_part-returns-in_ok-instr-in-Loop t c = λ n le.
    item_is c.args.depth (inside (seq_at n) c.args.depth) c.args.bytes.now c.in_ok-opcode.rest.now c.in_ok-opcode.opcode _ c.in_ok-opcode.ensures c.in-Loop.is
    ∙ ap (λ r. r >>= one) (c.in_ok-instr-in-Loop.ensures n (omega (arith, opcode_shorter c.args.bytes.now c.in_ok-opcode.opcode c.in_ok-opcode.rest.now c.in_ok-opcode.ensures)))

pub next_part-returns-in_err-instr-in-Loop : goal.next_part-returns-in_err-instr-in-Loop
next_part-returns-in_err-instr-in-Loop t c = λ n le.
    let p = err_from_is_err_and c.from_residual-in_err-instr-in-Loop.result c.from_residual-in_err-instr-in-Loop.ensures.1 in
    rw (p.1, p.2) (item_fails c.in_err-instr-in-Loop.field-0.0 (item_at c.args.depth (inside (seq_at n) c.args.depth) c.args.bytes.now) _
    (item_is c.args.depth (inside (seq_at n) c.args.depth) c.args.bytes.now c.in_ok-opcode.rest.now c.in_ok-opcode.opcode _ c.in_ok-opcode.ensures c.in-Loop.is)
    (c.in_err-instr-in-Loop.ensures n (omega (arith, opcode_shorter c.args.bytes.now c.in_ok-opcode.opcode c.in_ok-opcode.rest.now c.in_ok-opcode.ensures))))

pub next_part-returns-in_ok-instr-in-If : goal.next_part-returns-in_ok-instr-in-If
next_part-returns-in_ok-instr-in-If t c = λ n le.
    item_is c.args.depth (inside (seq_at n) c.args.depth) c.args.bytes.now c.in_ok-opcode.rest.now c.in_ok-opcode.opcode _ c.in_ok-opcode.ensures c.in-If.is
    ∙ ap (λ r. r >>= one) (c.in_ok-instr-in-If.ensures n (omega (arith, opcode_shorter c.args.bytes.now c.in_ok-opcode.opcode c.in_ok-opcode.rest.now c.in_ok-opcode.ensures)))

pub next_part-returns-in_err-instr-in-If : goal.next_part-returns-in_err-instr-in-If
next_part-returns-in_err-instr-in-If t c = λ n le.
    let p = err_from_is_err_and c.from_residual-in_err-instr-in-If.result c.from_residual-in_err-instr-in-If.ensures.1 in
    rw (p.1, p.2) (item_fails c.in_err-instr-in-If.field-0.0 (item_at c.args.depth (inside (seq_at n) c.args.depth) c.args.bytes.now) _
    (item_is c.args.depth (inside (seq_at n) c.args.depth) c.args.bytes.now c.in_ok-opcode.rest.now c.in_ok-opcode.opcode _ c.in_ok-opcode.ensures c.in-If.is)
    (c.in_err-instr-in-If.ensures n (omega (arith, opcode_shorter c.args.bytes.now c.in_ok-opcode.opcode c.in_ok-opcode.rest.now c.in_ok-opcode.ensures))))

pub sequence-items-smaller : goal.sequence-items-smaller
sequence-items-smaller t c = item_shorter (length c.items.rest.now) c.args.depth c.items.rest.now (item_of c.in_ok-part.part) c.in_ok-part.after.now (c.in_ok-part.ensures (length c.items.rest.now) (omega arith))

pub sequence-items-preserved : goal.sequence-items-preserved
sequence-items-preserved t c =
    rw c.in_ok-push-in-One.ensures.items (one_more c.args.depth c.args.bytes.now c.items.front.items c.items.rest.now c.in_ok-part.after.now c.in-One.instr
    (item_shorter (length c.items.rest.now) c.args.depth c.items.rest.now (item_of c.in_ok-part.part) c.in_ok-part.after.now (c.in_ok-part.ensures (length c.items.rest.now) (omega arith)))
    (λ m le. c.in_ok-part.ensures m le ∙ ap (λ p. found_item (item_of p) c.in_ok-part.after.now) c.in-One.is)
    c.items.invariant)

pub choice-returns : goal.choice-returns
choice-returns t c = λ n lt.
    let k = kind_shorter c.args.bytes.now c.in_ok-kind.kind c.in_ok-kind.rest.now c.in_ok-kind.ensures in
    let e = c.in_ok-one.ensures n (omega (arith, k)) in
    let s = seq_shorter n (c.args.depth - 1) c.in_ok-kind.rest.now (expression_of c.in_ok-one.one.items) c.in_ok-one.by_else c.in_ok-one.rest.now e in
    deeper_is c.args.depth c.args.bytes.now (if_at (inside (seq_at n) c.args.depth) c.args.bytes.now) c.if-depth-eq0.false
    ∙ both_bodies (inside (seq_at n) c.args.depth) c.args.bytes.now c.in_ok-kind.kind c.in_ok-kind.rest.now c.in_ok-one.rest.now c.in_ok-two.rest.now (expression_of c.in_ok-one.one.items) (expression_of c.in_ok-two.two.items) c.in_ok-one.by_else (cons c.if_instr-2.result)
    c.in_ok-kind.ensures
    (inside_is (seq_at n) c.args.depth c.in_ok-kind.rest.now c.if-depth-eq0.false ∙ e)
    c.if-not-by_else.false
    (ap (λ r. r >>= closed) (inside_is (seq_at n) c.args.depth c.in_ok-one.rest.now c.if-depth-eq0.false) ∙ c.in_ok-two.ensures n (omega (arith, k, s)))
    c.if_instr-2.ensures

pub choice-returns-in_err-two : goal.choice-returns-in_err-two
choice-returns-in_err-two t c = λ n lt.
    let p = err_from_is_err_and c.from_residual-in_err-two.result c.from_residual-in_err-two.ensures.1 in
    let k = kind_shorter c.args.bytes.now c.in_ok-kind.kind c.in_ok-kind.rest.now c.in_ok-kind.ensures in
    let e = c.in_ok-one.ensures n (omega (arith, k)) in
    let s = seq_shorter n (c.args.depth - 1) c.in_ok-kind.rest.now (expression_of c.in_ok-one.one.items) c.in_ok-one.by_else c.in_ok-one.rest.now e in
    rw (p.1, p.2) (along c.in_err-two.field-0.0 (if_at (inside (seq_at n) c.args.depth) c.args.bytes.now) (deeper c.args.depth c.args.bytes.now (if_at (inside (seq_at n) c.args.depth) c.args.bytes.now)) (sym (deeper_is c.args.depth c.args.bytes.now (if_at (inside (seq_at n) c.args.depth) c.args.bytes.now) c.if-depth-eq0.false)) (second_fails (inside (seq_at n) c.args.depth) c.args.bytes.now c.in_ok-kind.kind c.in_ok-kind.rest.now c.in_ok-one.rest.now (expression_of c.in_ok-one.one.items) c.in_ok-one.by_else c.in_err-two.field-0.0
    c.in_ok-kind.ensures
    (inside_is (seq_at n) c.args.depth c.in_ok-kind.rest.now c.if-depth-eq0.false ∙ e)
    c.if-not-by_else.false
    (along c.in_err-two.field-0.0 (body_at (seq_at n (c.args.depth - 1)) c.in_ok-one.rest.now) (body_at (inside (seq_at n) c.args.depth) c.in_ok-one.rest.now)
    (ap (λ r. r >>= closed) (sym (inside_is (seq_at n) c.args.depth c.in_ok-one.rest.now c.if-depth-eq0.false)))
    (c.in_err-two.ensures n (omega (arith, k, s))))))

pub block-returns-in_err-body : goal.block-returns-in_err-body
block-returns-in_err-body t c = λ n lt.
    let p = err_from_is_err_and c.from_residual-in_err-body.result c.from_residual-in_err-body.ensures.1 in
    let inner = inside (seq_at n) c.args.depth in
    let whole = block_at (block_of c.args.looped) inner c.args.bytes.now in
    let short = kind_shorter c.args.bytes.now c.in_ok-kind.kind c.in_ok-kind.rest.now c.in_ok-kind.ensures in
    rw (p.1, p.2) (along c.in_err-body.field-0.0 whole (deeper c.args.depth c.args.bytes.now whole) (sym (deeper_is c.args.depth c.args.bytes.now whole c.if-depth-eq0.false))
    (block_fails (block_of c.args.looped) inner c.args.bytes.now c.in_ok-kind.kind c.in_ok-kind.rest.now c.in_err-body.field-0.0 c.in_ok-kind.ensures
    (along c.in_err-body.field-0.0 (body_at (seq_at n (c.args.depth - 1)) c.in_ok-kind.rest.now) (body_at inner c.in_ok-kind.rest.now)
    (ap (λ r. r >>= closed) (sym (inside_is (seq_at n) c.args.depth c.in_ok-kind.rest.now c.if-depth-eq0.false)))
    (c.in_err-body.ensures n (omega (arith, short))))))
