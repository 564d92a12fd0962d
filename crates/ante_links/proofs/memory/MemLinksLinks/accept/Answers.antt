use Rattle.std.proofs.Common.{rules, ◌≡◌, List, [], ◌∷◌, ◌++◌, subst, sym, ap, ◌∙◌}
use Rattle.std.specs.List.{AllByRecursion}
use Rattle.ante_links.specs.Memory.{LinkSet, IsFresh}
use Rattle.ante_links.proofs.Coming.{next_link}
use Rattle.ante_links.proofs.memory.MemLinksLinks.accept.Goals as goal

pub returns-clause-link : goal.returns-clause-link
returns-clause-link c =
    let coming = ap (λ (s : LinkSet). s.coming) c.self.view_is in
    let pushed : c.push.new.self.items ≡ c.args.self.now.given ++ c.in-Some-Some.link ∷ [] = search rules in
    let next = next_link c.args.self.now.given c.push.new.self.items c.args.self.now.coming c.pop_front.new.self.items c.in-Some-Some.link
    (sym coming ∙ c.in-Some-Some.ensures.items ∙ ap (λ o. o ∷ c.pop_front.new.self.items) c.in-Some-Some.field-0-is)
    (subst (AllByRecursion IsFresh) coming c.self.invariant) pushed in
    (c.in-Some-Some.link.left, search rules, search rules, next.0, (λ told. next.1))
