-- What a listener's log is after an event.
use Rattle.std.specs.Prelude.{◌≡◌, List, [], ◌∷◌, ◌++◌, Option, Some, None}
use Rattle.ante_heads.specs.declared.listener.HeadEvent.{HeadEvent}
use Rattle.ante_heads.specs.declared.listener.Hearing.{Hearing}
use Rattle.ante_heads.specs.declared.listener.Hearing.TheVariants.{On, Enough, OutOfMemory}

-- the events that an answer says were heard
abbrev pub heard : HeadEvent → Hearing → List HeadEvent
heard event On = event ∷ []
heard event Enough = event ∷ []
heard event OutOfMemory = []

-- A listener that tells its log has grown by what it heard.
abbrev pub Hears : HeadEvent → (old new : Option (List HeadEvent)) → Hearing → Type 0
Hears event None new answer = Unit {0}
Hears event (Some log) new answer = new ≡ Some (log ++ heard event answer)
