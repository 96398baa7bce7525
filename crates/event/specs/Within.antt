-- Where a decision may reach: within the threads, the barriers and the recipient's own registers.
use Rattle.std.specs.Prelude.{ℕ, ◌+◌, ◌*◌, ◌≤◌, ◌<◌}
use Rattle.event.specs.declared.Setup.{Setup}
use Rattle.event.specs.Decision.{Decision, Refused, OpenOrClose, Forward, Wait, Release, Update}
use Rattle.event.specs.Gateways.{Window}

-- n bytes from a on lie in the registers of thread r: 4,096 bytes from 4,096 x r on
pub record OwnBytes (r a n : ℕ) : Type 0 where
  pub from : 4096 * r ≤ a
  pub to : a + n ≤ 4096 * r + 4096

unfoldable pub Within : Setup → Decision → Type 0
Within s (Refused n) = (31 ≤ n) × (n ≤ 39)
Within s (OpenOrClose t g) = (t < s.threads) × Window g
Within s (Forward r a n m) = (r < s.threads) × (n ≤ 32) × OwnBytes r a n
Within s (Wait t) = t < s.threads
Within s (Release g) = Unit {0}
Within s (Update b v) = b < 16
