use Rattle.std.proofs.Common.{sym, subst}
use Rattle.ante_calls.specs.System as definitions
use Rattle.ante_sysapi.specs.Answers.{Answers, view}
use Rattle.ante_sysapi.proofs.call.answer.Goals as goal

pub returns-in-Multi3-clause-answer : goal.returns-in-Multi3-clause-answer
returns-in-Multi3-clause-answer g c =
    let v = view (g.T.Tables.stack c.args.tables.now).top c.args.run.now in
    subst (λ k. Answers (λ x. definitions.sys_call c.args.packed.now k x c.args.args.now c.args.memory.now c.args.left.now) c.multi3.result v v
    c.multi3.new.memory c.args.left.now) (sym c.in-Multi3.is) (c.multi3.ensures c.args.left.now v)

pub returns-in-DivTi3-clause-answer : goal.returns-in-DivTi3-clause-answer
returns-in-DivTi3-clause-answer g c =
    let v = view (g.T.Tables.stack c.args.tables.now).top c.args.run.now in
    subst (λ k. Answers (λ x. definitions.sys_call c.args.packed.now k x c.args.args.now c.args.memory.now c.args.left.now) c.divti3.result v v
    c.divti3.new.memory c.args.left.now) (sym c.in-DivTi3.is) (c.divti3.ensures c.args.left.now v)

pub returns-in-UdivTi3-clause-answer : goal.returns-in-UdivTi3-clause-answer
returns-in-UdivTi3-clause-answer g c =
    let v = view (g.T.Tables.stack c.args.tables.now).top c.args.run.now in
    subst (λ k. Answers (λ x. definitions.sys_call c.args.packed.now k x c.args.args.now c.args.memory.now c.args.left.now) c.udivti3.result v v
    c.udivti3.new.memory c.args.left.now) (sym c.in-UdivTi3.is) (c.udivti3.ensures c.args.left.now v)

pub returns-in-ModTi3-clause-answer : goal.returns-in-ModTi3-clause-answer
returns-in-ModTi3-clause-answer g c =
    let v = view (g.T.Tables.stack c.args.tables.now).top c.args.run.now in
    subst (λ k. Answers (λ x. definitions.sys_call c.args.packed.now k x c.args.args.now c.args.memory.now c.args.left.now) c.modti3.result v v
    c.modti3.new.memory c.args.left.now) (sym c.in-ModTi3.is) (c.modti3.ensures c.args.left.now v)

pub returns-in-UmodTi3-clause-answer : goal.returns-in-UmodTi3-clause-answer
returns-in-UmodTi3-clause-answer g c =
    let v = view (g.T.Tables.stack c.args.tables.now).top c.args.run.now in
    subst (λ k. Answers (λ x. definitions.sys_call c.args.packed.now k x c.args.args.now c.args.memory.now c.args.left.now) c.umodti3.result v v
    c.umodti3.new.memory c.args.left.now) (sym c.in-UmodTi3.is) (c.umodti3.ensures c.args.left.now v)

pub returns-in-AshlTi3-clause-answer : goal.returns-in-AshlTi3-clause-answer
returns-in-AshlTi3-clause-answer g c =
    let v = view (g.T.Tables.stack c.args.tables.now).top c.args.run.now in
    subst (λ k. Answers (λ x. definitions.sys_call c.args.packed.now k x c.args.args.now c.args.memory.now c.args.left.now) c.shlti3.result v v
    c.shlti3.new.memory c.args.left.now) (sym c.in-AshlTi3.is) (c.shlti3.ensures c.args.left.now v)

pub returns-in-AshrTi3-clause-answer : goal.returns-in-AshrTi3-clause-answer
returns-in-AshrTi3-clause-answer g c =
    let v = view (g.T.Tables.stack c.args.tables.now).top c.args.run.now in
    subst (λ k. Answers (λ x. definitions.sys_call c.args.packed.now k x c.args.args.now c.args.memory.now c.args.left.now) c.ashrti3.result v v
    c.ashrti3.new.memory c.args.left.now) (sym c.in-AshrTi3.is) (c.ashrti3.ensures c.args.left.now v)

pub returns-in-LshlTi3-clause-answer : goal.returns-in-LshlTi3-clause-answer
returns-in-LshlTi3-clause-answer g c =
    let v = view (g.T.Tables.stack c.args.tables.now).top c.args.run.now in
    subst (λ k. Answers (λ x. definitions.sys_call c.args.packed.now k x c.args.args.now c.args.memory.now c.args.left.now) c.shlti3-in-LshlTi3.result v v
    c.shlti3-in-LshlTi3.new.memory c.args.left.now) (sym c.in-LshlTi3.is) (c.shlti3-in-LshlTi3.ensures c.args.left.now v)

pub returns-in-LshrTi3-clause-answer : goal.returns-in-LshrTi3-clause-answer
returns-in-LshrTi3-clause-answer g c =
    let v = view (g.T.Tables.stack c.args.tables.now).top c.args.run.now in
    subst (λ k. Answers (λ x. definitions.sys_call c.args.packed.now k x c.args.args.now c.args.memory.now c.args.left.now) c.lshrti3.result v v
    c.lshrti3.new.memory c.args.left.now) (sym c.in-LshrTi3.is) (c.lshrti3.ensures c.args.left.now v)

pub returns-in-Assert-clause-answer : goal.returns-in-Assert-clause-answer
returns-in-Assert-clause-answer g c =
    let v = view (g.T.Tables.stack c.args.tables.now).top c.args.run.now in
    subst (λ k. Answers (λ x. definitions.sys_call c.args.packed.now k x c.args.args.now c.args.memory.now c.args.left.now) c.eosio_assert.result v v
    c.args.memory.now c.eosio_assert.new.left) (sym c.in-Assert.is) (c.eosio_assert.ensures.answer v)

pub returns-in-RequireRecipient-clause-answer : goal.returns-in-RequireRecipient-clause-answer
returns-in-RequireRecipient-clause-answer g c =
    let w = (g.T.Tables.stack c.args.tables.now).top in
    subst (λ k. Answers (λ x. definitions.sys_call c.args.packed.now k x c.args.args.now c.args.memory.now c.args.left.now) c.require_recipient.result (view w c.args.run.now)
    (view w c.require_recipient.new.run) c.args.memory.now c.args.left.now) (sym c.in-RequireRecipient.is) (c.require_recipient.ensures.answer c.args.memory.now c.args.left.now)

pub returns-in-Prints-clause-answer : goal.returns-in-Prints-clause-answer
returns-in-Prints-clause-answer g c =
    let w = (g.T.Tables.stack c.args.tables.now).top in
    subst (λ k. Answers (λ x. definitions.sys_call c.args.packed.now k x c.args.args.now c.args.memory.now c.args.left.now) c.prints.result (view w c.args.run.now)
    (view w c.prints.new.run) c.args.memory.now c.prints.new.left) (sym c.in-Prints.is) (c.prints.ensures.answer w)

pub returns-in-PrintsL-clause-answer : goal.returns-in-PrintsL-clause-answer
returns-in-PrintsL-clause-answer g c =
    let w = (g.T.Tables.stack c.args.tables.now).top in
    subst (λ k. Answers (λ x. definitions.sys_call c.args.packed.now k x c.args.args.now c.args.memory.now c.args.left.now) c.prints_l.result (view w c.args.run.now)
    (view w c.prints_l.new.run) c.args.memory.now c.prints_l.new.left) (sym c.in-PrintsL.is) (c.prints_l.ensures.answer w)

pub returns-in-PrintHex-clause-answer : goal.returns-in-PrintHex-clause-answer
returns-in-PrintHex-clause-answer g c =
    let w = (g.T.Tables.stack c.args.tables.now).top in
    subst (λ k. Answers (λ x. definitions.sys_call c.args.packed.now k x c.args.args.now c.args.memory.now c.args.left.now) c.printhex.result (view w c.args.run.now)
    (view w c.printhex.new.run) c.args.memory.now c.printhex.new.left) (sym c.in-PrintHex.is) (c.printhex.ensures.answer w)

pub returns-in-SetActionReturnValue-clause-answer : goal.returns-in-SetActionReturnValue-clause-answer
returns-in-SetActionReturnValue-clause-answer g c =
    let w = (g.T.Tables.stack c.args.tables.now).top in
    subst (λ k. Answers (λ x. definitions.sys_call c.args.packed.now k x c.args.args.now c.args.memory.now c.args.left.now) c.set_action_return_value.result (view w c.args.run.now)
    (view w c.set_action_return_value.new.run) c.args.memory.now c.set_action_return_value.new.left) (sym c.in-SetActionReturnValue.is) (c.set_action_return_value.ensures.answer w)

pub returns-in-PrintI-clause-answer : goal.returns-in-PrintI-clause-answer
returns-in-PrintI-clause-answer g c =
    let w = (g.T.Tables.stack c.args.tables.now).top in
    subst (λ k. Answers (λ x. definitions.sys_call c.args.packed.now k x c.args.args.now c.args.memory.now c.args.left.now) c.printi.result (view w c.args.run.now)
    (view w c.printi.new.run) c.args.memory.now c.args.left.now) (sym c.in-PrintI.is) (c.printi.ensures.answer c.args.memory.now c.args.left.now w)

pub returns-in-PrintUi-clause-answer : goal.returns-in-PrintUi-clause-answer
returns-in-PrintUi-clause-answer g c =
    let w = (g.T.Tables.stack c.args.tables.now).top in
    subst (λ k. Answers (λ x. definitions.sys_call c.args.packed.now k x c.args.args.now c.args.memory.now c.args.left.now) c.printui.result (view w c.args.run.now)
    (view w c.printui.new.run) c.args.memory.now c.args.left.now) (sym c.in-PrintUi.is) (c.printui.ensures.answer c.args.memory.now c.args.left.now w)

pub returns-in-PrintN-clause-answer : goal.returns-in-PrintN-clause-answer
returns-in-PrintN-clause-answer g c =
    let w = (g.T.Tables.stack c.args.tables.now).top in
    subst (λ k. Answers (λ x. definitions.sys_call c.args.packed.now k x c.args.args.now c.args.memory.now c.args.left.now) c.printn.result (view w c.args.run.now)
    (view w c.printn.new.run) c.args.memory.now c.args.left.now) (sym c.in-PrintN.is) (c.printn.ensures.answer c.args.memory.now c.args.left.now w)

pub returns-in-PrintI128-clause-answer : goal.returns-in-PrintI128-clause-answer
returns-in-PrintI128-clause-answer g c =
    let w = (g.T.Tables.stack c.args.tables.now).top in
    subst (λ k. Answers (λ x. definitions.sys_call c.args.packed.now k x c.args.args.now c.args.memory.now c.args.left.now) c.printi128.result (view w c.args.run.now)
    (view w c.printi128.new.run) c.args.memory.now c.args.left.now) (sym c.in-PrintI128.is) (c.printi128.ensures.answer c.args.left.now w)

pub returns-in-PrintUi128-clause-answer : goal.returns-in-PrintUi128-clause-answer
returns-in-PrintUi128-clause-answer g c =
    let w = (g.T.Tables.stack c.args.tables.now).top in
    subst (λ k. Answers (λ x. definitions.sys_call c.args.packed.now k x c.args.args.now c.args.memory.now c.args.left.now) c.printui128.result (view w c.args.run.now)
    (view w c.printui128.new.run) c.args.memory.now c.args.left.now) (sym c.in-PrintUi128.is) (c.printui128.ensures.answer c.args.left.now w)

pub returns-in-SendInline-clause-answer : goal.returns-in-SendInline-clause-answer
returns-in-SendInline-clause-answer g c =
    let w = (g.T.Tables.stack c.args.tables.now).top in
    subst (λ k. Answers (λ x. definitions.sys_call c.args.packed.now k x c.args.args.now c.args.memory.now c.args.left.now) c.send_inline.result
    (view w c.args.run.now) (view w c.send_inline.new.run) c.args.memory.now c.send_inline.new.left) (sym c.in-SendInline.is) c.send_inline.ensures.answer

pub returns-in-SetResourceLimits-clause-answer : goal.returns-in-SetResourceLimits-clause-answer
returns-in-SetResourceLimits-clause-answer g c =
    let run = c.args.run.now in
    subst (λ k. Answers (λ x. definitions.sys_call c.args.packed.now k x c.args.args.now c.args.memory.now c.args.left.now) c.set_resource_limits.result
    (view (g.T.Tables.stack c.args.tables.now).top run) (view (g.T.Tables.stack c.set_resource_limits.new.tables).top run) c.args.memory.now c.args.left.now)
    (sym c.in-SetResourceLimits.is) (c.set_resource_limits.ensures.answer c.args.memory.now c.args.left.now)
