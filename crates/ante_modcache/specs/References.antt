-- What an answer of the cache holds.
use Rattle.ante_wtree.specs.declared.modules.Module.{Module}
use Rattle.ante_modcache.specs.declared.cache.ModuleRef.{ModuleRef}
use Rattle.ante_modcache.specs.declared.cache.ModuleRef.TheVariants.{Place, Own}

-- the module that the cache keeps, or the answer's own
abbrev pub module_in : ModuleRef → Module
module_in (Place m) = m.now
module_in (Own m) = m
