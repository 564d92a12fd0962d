use Rattle.ante_wtree.specs.Trees.{tree_of}
use Rattle.ante_wdecode.specs.Sections.{section_of}
use Rattle.ante_wdecode.proofs.Order.{section_shorter, goes_on}
use Rattle.ante_wdecode.proofs.whole.read_sections.Goals as goal

pub sections-smaller : goal.sections-smaller
sections-smaller c = section_shorter c.sections.last (tree_of c.sections.module) c.sections.rest.now ((c.in_ok-id.id, section_of c.in_ok-id.contents), c.in_ok-id.after.now) c.in_ok-id.ensures

pub sections-preserved : goal.sections-preserved
sections-preserved c =
    let i = c.sections.invariant in
    rw (c.add_section.ensures, c.last_number-last.ensures)
    (goes_on i.0 c.sections.last (tree_of c.sections.module) c.sections.rest.now ((c.in_ok-id.id, section_of c.in_ok-id.contents), c.in_ok-id.after.now) _ i.1 i.2 c.in_ok-id.ensures)
