use Rattle.std.proofs.Common.{◌<◌, Some, T, sym, ap, subst, ◌∙◌, option_map}
use Rattle.std.specs.FinMap.Entries.{is_sorted}
use Rattle.std.proofs.lemmas.Bool.{ltb-true}
use Rattle.ante_undo.specs.Entries.{entry_from, first_entry}
use Rattle.ante_sessions.specs.Walk.{past}
use Rattle.ante_objects.specs.Objects.{asks_for}
use Rattle.ante_objects.proofs.Scan.{any_from, start_any, step_any, step_left, none_left}
use Rattle.ante_state.specs.Orders.{link_order}
use Rattle.ante_objects.proofs.Holders.{no_link_before, no_link_past, no_link_there}
use Rattle.ante_objects.proofs.objects.Objects.has_link_to.Goals as goal

pub loop-next-init : goal.loop-next-init
loop-next-init c =
    ap (any_from link_order (asks_for c.args.level) c.args.self.now.top.links)
    (c.keyed-next.ensures ∙ c.at_or_after.ensures.nearest ∙ ap (entry_from link_order (record { account = c.args.level.actor; code = record { 0 = 0 }; action = record { 0 = 0 } })) c.links.ensures)
    ∙ start_any link_order c.total_order.ensures (asks_for c.args.level) (record { account = c.args.level.actor; code = record { 0 = 0 }; action = record { 0 = 0 } }) (no_link_before c.args.level) c.args.self.now.top.links
    (subst T (sym (ap (is_sorted link_order) (sym c.links.ensures) ∙ c.at_or_after.ensures.ordered)) tt)

pub returns-then-is_past : goal.returns-then-is_past
returns-then-is_past c =
    let above : c.args.level.actor.0 < c.in-Some.at.account.0 = ltb-true c.args.level.actor.0 c.in-Some.at.account.0 (sym c.is_past.ensures ∙ c.if-is_past.true) in
    sym
    (none_left link_order c.total_order.ensures (asks_for c.args.level) c.args.self.now.top.links (option_map (λ e. (e.0, e.1.now)) c.loop-next.next) (c.in-Some.at, c.in-Some.requirement.now)
    (no_link_past c.args.level c.in-Some.at above)
    (subst T (sym (ap (is_sorted link_order) (sym c.links.ensures) ∙ c.at_or_after.ensures.ordered)) tt)
    (ap (option_map (λ e. (e.0, e.1.now))) c.in-Some.is) (no_link_there c.args.level (c.in-Some.at, c.in-Some.requirement.now) above))
    ∙ c.loop-next.invariant

pub loop-next-smaller : goal.loop-next-smaller
loop-next-smaller c =
    step_left link_order c.total_order.ensures (asks_for c.args.level) c.args.self.now.top.links (option_map (λ e. (e.0, e.1.now)) c.loop-next.next) (option_map (λ e. (e.0, e.1.now)) c.keyed-next-in-Some.result) (c.in-Some.at, c.in-Some.requirement.now)
    (subst T (sym (ap (is_sorted link_order) (sym c.links.ensures) ∙ c.at_or_after.ensures.ordered)) tt) (ap (option_map (λ e. (e.0, e.1.now))) c.in-Some.is)
    (c.keyed-next-in-Some.ensures ∙ c.next_entry.ensures.next ∙ ap (λ links. first_entry (past link_order (Some c.in-Some.at) links)) c.links-in-Some.ensures)

pub loop-next-preserved : goal.loop-next-preserved
loop-next-preserved c =
    step_any link_order c.total_order.ensures (asks_for c.args.level) c.args.self.now.top.links (option_map (λ e. (e.0, e.1.now)) c.loop-next.next) (option_map (λ e. (e.0, e.1.now)) c.keyed-next-in-Some.result) (c.in-Some.at, c.in-Some.requirement.now)
    (subst T (sym (ap (is_sorted link_order) (sym c.links.ensures) ∙ c.at_or_after.ensures.ordered)) tt) (ap (option_map (λ e. (e.0, e.1.now))) c.in-Some.is) (sym c.asks_for.ensures ∙ c.if-asks_for.false)
    (c.keyed-next-in-Some.ensures ∙ c.next_entry.ensures.next ∙ ap (λ links. first_entry (past link_order (Some c.in-Some.at) links)) c.links-in-Some.ensures)
    ∙ c.loop-next.invariant
