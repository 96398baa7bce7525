-- What a forward needs: an event of 48 bytes, a gateway whose window lies in its thread's registers, and lent buffers as long as row 16
-- leaves them. Its rules are those of crates event and effects.
use Rattle.std.specs.Prelude.{◌≡◌, List, ℕ, ◌*◌, ◌≤◌, length}
use Rattle.event.specs.declared.Setup.{Setup}
use Rattle.event.specs.declared.Gateway.{Gateway}
use Rattle.event.specs.Gateways.{Window}
use Rattle.effects.specs.Effects.{CountRoom}

pub record ForwardRoom (s : Setup) (g : Gateway) (ev registers counts : List ℕ) : Type 0 where
  pub few : s.threads ≤ 16
  pub window : Window g
  pub event : length ev ≡ 48
  pub own : length registers ≡ 4096 * s.threads
  pub room : CountRoom s counts
