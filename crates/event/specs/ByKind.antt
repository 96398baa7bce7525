-- What decides an event of some kinds. Who waits is no matter to a forward (`forward_same`), neither another gateway nor who waits is to
-- what is neither a forward nor a barrier message (`other_same`), and no gateway is to what is no forward (`gate_same`).
use Rattle.std.specs.Prelude.{Bool, List, []}
use Rattle.event.specs.declared.Head.{Head}
use Rattle.event.specs.declared.Setup.{Setup}
use Rattle.event.specs.declared.Gateway.{Gateway}
use Rattle.event.specs.Decision.{Decision}
use Rattle.event.specs.Gateways.{closed}
use Rattle.event.specs.Outcomes.{decision_of}

-- a forward, by its recipient's gateway
abbrev pub decision_through : Head → Setup → Gateway → Decision
decision_through h s g = decision_of h s g []

-- a barrier message, by who waits
abbrev pub decision_among : Head → Setup → List Bool → Decision
decision_among h s waits = decision_of h s closed waits

-- any other
abbrev pub decision_alone : Head → Setup → Decision
decision_alone h s = decision_of h s closed []
