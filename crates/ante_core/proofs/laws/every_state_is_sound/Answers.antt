use Rattle.ante_core.proofs.History.{history}
use Rattle.ante_core.proofs.laws.every_state_is_sound.Goals as goal

pub returns : goal.returns
returns g c = λ world events. (history _ world events).sound
