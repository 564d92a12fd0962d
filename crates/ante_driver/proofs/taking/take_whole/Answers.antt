use Rattle.std.proofs.Common.{◌≤◌, List, ℕ, Ok, Err, length, take, refl, sym, ap, ◌∙◌, subst, arith}
use Rattle.std.proofs.lemmas.Option.{same_Some, slice_get_within, get_or_from_slice_get}
use Rattle.ante_api.specs.Routes.{Routes}
use Rattle.ante_driver.specs.declared.front.Slot.{Slot}
use Rattle.ante_driver.proofs.Peers.{written-peers}
use Rattle.ante_driver.proofs.Places.{length-change}
use Rattle.ante_driver.proofs.Runs.{served_stay, went_err}
use Rattle.ante_driver.proofs.Small.{request_small, request_alone}
use Rattle.ante_driver.proofs.Taken.{queue_went, queue_paired, refuse_went, refuse_paired}
use Rattle.ante_driver.proofs.taking.take_whole.Goals as goal

pub split-requires-clause-count : goal.split-requires-clause-count
split-requires-clause-count g c = λ s.
    let w = c.requires.whole in
    subst (λ (x : Slot). c.args.count ≤ length x.held.items) (sym (get_or_from_slice_get c.args.front.now.slots.items c.args.link w.slot s w.there)) w.whole.whole

pub returns-in_err-bytes-clause-went : goal.returns-in_err-bytes-clause-went
returns-in_err-bytes-clause-went g c =
    went_err _ g.L.Links.tells _ _ _ _ (g.L.Links.links c.args.links.now) c.from_residual.result c.from_residual.ensures.1
    (λ told. served_stay _ _ _ _ refl (written-peers c.args.front.now.slots.items (g.L.Links.links c.args.links.now) c.requires.paired.same))

pub route-requires : goal.route-requires
route-requires g c =
    let w = c.requires.whole in
    let d = c.in_ok-bytes.ensures in
    let b = same_Some d.before w.slot (sym d.there ∙ w.there) in
    record {
      span = (
        c.args.count,
        request_alone w.slot.held.items c.in_ok-bytes.bytes.items c.as_slice.result.now c.args.span.now c.args.count w.whole
            (d.how.front_is ∙ ap (λ (x : Slot). take c.args.count x.held.items) b) c.as_slice.ensures.value,
      );
    }

pub overflow_cast-count : goal.overflow_cast-count
overflow_cast-count g c = omega (arith, request_small c.requires.whole.slot.held.items c.args.span.now c.args.count c.requires.whole.whole)

pub overflow_cast-count-in-Err : goal.overflow_cast-count-in-Err
overflow_cast-count-in-Err g c = omega (arith, request_small c.requires.whole.slot.held.items c.args.span.now c.args.count c.requires.whole.whole)

pub returns-in-Ok-clause-paired : goal.returns-in-Ok-clause-paired
returns-in-Ok-clause-paired g c =
    queue_paired (g.L.Links.links c.args.links.now) c.args.front.now (record { slots = c.split.new.slots; queue = c.args.front.now.queue; turn = c.args.front.now.turn; took = c.args.front.now.took; journal = c.args.front.now.journal }) c.queue_up.new.front c.args.link c.args.count c.args.span.now.close c.in_ok-bytes.bytes.items c.in-Ok.request c.queue_up.result
    c.requires.paired c.requires.idle c.in_ok-bytes.ensures refl c.queue_up.ensures.ok

pub returns-in-Ok-clause-went : goal.returns-in-Ok-clause-went
returns-in-Ok-clause-went g c =
    queue_went g.L.Links.tells (g.L.Links.to_come c.args.links.now) (g.L.Links.links c.args.links.now) c.args.front.now (record { slots = c.split.new.slots; queue = c.args.front.now.queue; turn = c.args.front.now.turn; took = c.args.front.now.took; journal = c.args.front.now.journal }) c.queue_up.new.front c.args.link c.args.count c.args.span.now c.in_ok-bytes.bytes.items c.in-Ok.request c.queue_up.result
    c.requires.paired c.requires.idle c.requires.whole c.in_ok-bytes.ensures refl refl refl (subst (λ (x : List ℕ). Routes x c.args.span.now (Ok c.in-Ok.request)) c.as_slice.ensures.value c.in-Ok.ensures) c.queue_up.ensures.ok c.queue_up.ensures.err

pub refuse-requires : goal.refuse-requires
refuse-requires g c = omega (arith, slice_get_within c.args.front.now.slots.items c.args.link c.requires.idle.slot c.requires.idle.there, length-change c.args.link c.args.front.now.slots.items c.split.new.slots.items _ c.in_ok-bytes.ensures)

pub returns-clause-paired : goal.returns-clause-paired
returns-clause-paired g c =
    refuse_paired (g.L.Links.links c.args.links.now) c.args.front.now (record { slots = c.split.new.slots; queue = c.args.front.now.queue; turn = c.args.front.now.turn; took = c.args.front.now.took; journal = c.args.front.now.journal }) c.refuse.new.front c.args.link c.args.count c.args.span.now.close c.in_ok-bytes.bytes.items c.in-Err.fault c.refuse.result
    c.requires.paired c.in_ok-bytes.ensures refl c.refuse.ensures.ok

pub returns-clause-went : goal.returns-clause-went
returns-clause-went g c =
    refuse_went g.L.Links.tells (g.L.Links.to_come c.args.links.now) (g.L.Links.links c.args.links.now) c.args.front.now (record { slots = c.split.new.slots; queue = c.args.front.now.queue; turn = c.args.front.now.turn; took = c.args.front.now.took; journal = c.args.front.now.journal }) c.refuse.new.front c.args.link c.args.count c.args.span.now c.in_ok-bytes.bytes.items c.in-Err.fault c.refuse.result
    c.requires.paired c.requires.idle c.requires.whole c.in_ok-bytes.ensures refl refl refl (subst (λ (x : List ℕ). Routes x c.args.span.now (Err c.in-Err.fault)) c.as_slice.ensures.value c.in-Err.ensures) c.refuse.ensures.ok c.refuse.ensures.err
