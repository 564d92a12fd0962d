use Rattle.std.proofs.Common.{◌≡◌, ◌≤◌, List, ℕ, length, slice_get, refl, sym, ap, ◌∙◌, subst}
use Rattle.std.proofs.lemmas.Option.{get_or_from_slice_get}
use Rattle.ante_links.specs.LinkStates.{LinkState}
use Rattle.ante_journal.specs.Desk.{sending}
use Rattle.ante_driver.specs.declared.front.Slot.{Slot}
use Rattle.ante_driver.proofs.Paired.{same_paired}
use Rattle.ante_driver.proofs.Went.{send_went, send_paired, send_calm, moved_none, stay_leads}
use Rattle.ante_driver.proofs.sending.send_once.Goals as goal

pub returns-then-is_empty-clause-went : goal.returns-then-is_empty-clause-went
returns-then-is_empty-clause-went g c =
    λ told. stay_leads (g.L.Links.to_come c.args.links.now) (g.L.Links.to_come c.args.links.now) (g.L.Links.links c.args.links.now) (g.L.Links.links c.args.links.now) c.args.front.now sending refl refl

pub sent_front-requires-clause-count : goal.sent_front-requires-clause-count
sent_front-requires-clause-count g c = λ d.
    let s = c.requires.calm in
    let b : c.output_of-output.result.now ≡ (s.slot).output.items = c.output_of-output.ensures s.slot (ap (λ (l : List Slot). slice_get l c.args.link) c.as_slice.ensures.value ∙ s.there) in
    let h = c.in-Wrote.ensures.change in
    subst (λ (x : Slot). c.in-Wrote.count ≤ length x.output.items) (sym (get_or_from_slice_get c.args.front.now.slots.items c.args.link s.slot d s.there)) (subst (λ (l : List ℕ). c.in-Wrote.count ≤ length l) b h.how.1)

pub returns-in-Wrote-clause-paired : goal.returns-in-Wrote-clause-paired
returns-in-Wrote-clause-paired g c =
    send_paired (g.L.Links.links c.args.links.now) (g.L.Links.links c.write.new.self) c.args.front.now c.sent_front.new.front c.args.link c.in-Wrote.count _ c.sent_front.result c.requires.paired c.in-Wrote.ensures.change c.sent_front.ensures.ok

pub returns-in-Wrote-clause-calm : goal.returns-in-Wrote-clause-calm
returns-in-Wrote-clause-calm g c = send_calm c.args.front.now c.sent_front.new.front c.args.link c.in-Wrote.count c.sent_front.result c.requires.calm c.sent_front.ensures.ok

pub returns-in-Wrote-clause-went : goal.returns-in-Wrote-clause-went
returns-in-Wrote-clause-went g c =
    let s = c.requires.calm in
    let b : c.output_of-output.result.now ≡ (s.slot).output.items = c.output_of-output.ensures s.slot (ap (λ (l : List Slot). slice_get l c.args.link) c.as_slice.ensures.value ∙ s.there) in
    send_went g.L.Links.tells (g.L.Links.to_come c.args.links.now) (g.L.Links.to_come c.write.new.self) (g.L.Links.links c.args.links.now) (g.L.Links.links c.write.new.self) c.args.front.now c.sent_front.new.front c.args.link c.in-Wrote.count s.slot c.output_of-output.result.now c.sent_front.result
    c.requires.paired c.write.ensures.come s.there b c.in-Wrote.ensures.change c.sent_front.ensures.ok c.sent_front.ensures.err

pub returns-in-NotReady-clause-paired : goal.returns-in-NotReady-clause-paired
returns-in-NotReady-clause-paired g c = same_paired c.args.front.now.slots.items c.args.front.now.queue.items (g.L.Links.links c.args.links.now) (g.L.Links.links c.write.new.self) c.args.link _ c.requires.paired c.in-NotReady.ensures.change

pub returns-in-NotReady-clause-went : goal.returns-in-NotReady-clause-went
returns-in-NotReady-clause-went g c =
    let d = c.in-NotReady.ensures.change in
    λ told. moved_none (g.L.Links.to_come c.args.links.now) (g.L.Links.to_come c.write.new.self) (g.L.Links.links c.args.links.now) (g.L.Links.links c.write.new.self) c.args.front.now sending c.args.link _ c.write.ensures.come d (ap (λ (x : LinkState). x.left) d.how.0) (ap (λ (x : LinkState). x.written) d.how.0)

pub returns-in-Failed-clause-paired : goal.returns-in-Failed-clause-paired
returns-in-Failed-clause-paired g c = same_paired c.args.front.now.slots.items c.args.front.now.queue.items (g.L.Links.links c.args.links.now) (g.L.Links.links c.write.new.self) c.args.link _ c.requires.paired c.in-Failed.ensures.change

pub returns-in-Failed-clause-went : goal.returns-in-Failed-clause-went
returns-in-Failed-clause-went g c =
    let d = c.in-Failed.ensures.change in
    λ told. moved_none (g.L.Links.to_come c.args.links.now) (g.L.Links.to_come c.write.new.self) (g.L.Links.links c.args.links.now) (g.L.Links.links c.write.new.self) c.args.front.now sending c.args.link _ c.write.ensures.come d (ap (λ (x : LinkState). x.left) d.how.0) (ap (λ (x : LinkState). x.written) d.how.0)
