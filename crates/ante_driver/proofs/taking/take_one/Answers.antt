use Rattle.std.proofs.Common.{List, ℕ, slice_get, refl, ap, ◌∙◌, subst}
use Rattle.ante_http.specs.Requests.{IsRequest, IsBad}
use Rattle.ante_journal.specs.Desk.{taking}
use Rattle.ante_driver.specs.declared.front.Slot.{Slot}
use Rattle.ante_driver.proofs.Went.{stay_leads}
use Rattle.ante_driver.proofs.taking.take_one.Goals as goal

pub take_whole-requires-clause-whole : goal.take_whole-requires-clause-whole
take_whole-requires-clause-whole g c =
    let s = c.requires.idle in
    let h = c.held_of.ensures s.slot (ap (λ (l : List Slot). slice_get l c.args.link) c.as_slice.ensures.value ∙ s.there) in
    record { slot = s.slot; there = s.there; whole = subst (λ (x : List ℕ). IsRequest x c.in-Request.request c.in-Request.length) h c.in-Request.ensures }

pub take_bad-requires-clause-bad : goal.take_bad-requires-clause-bad
take_bad-requires-clause-bad g c =
    let s = c.requires.idle in
    let h = c.held_of.ensures s.slot (ap (λ (l : List Slot). slice_get l c.args.link) c.as_slice.ensures.value ∙ s.there) in
    record { slot = s.slot; there = s.there; bad = subst (λ (x : List ℕ). IsBad x c.in-Bad.kind c.in-Bad.length) h c.in-Bad.ensures }

pub returns-in-Need-clause-went : goal.returns-in-Need-clause-went
returns-in-Need-clause-went g c =
    λ told. stay_leads (g.L.Links.to_come c.args.links.now) (g.L.Links.to_come c.args.links.now) (g.L.Links.links c.args.links.now) (g.L.Links.links c.args.links.now) c.args.front.now taking refl refl
