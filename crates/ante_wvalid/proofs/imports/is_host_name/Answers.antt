use Rattle.std.proofs.Common.{refl}
use Rattle.ante_wvalid.proofs.imports.is_host_name.Goals as goal

pub returns-in-Some : goal.returns-in-Some
returns-in-Some c = (λ e. (c.in-Some.field-0, (c.in-Some.ensures c.in-Some.field-0).0 refl), λ h. refl)

pub returns-in-None : goal.returns-in-None
returns-in-None c = (λ e. cc, λ h. let e = (c.in-None.ensures h.0).1 h.1 in cc)
