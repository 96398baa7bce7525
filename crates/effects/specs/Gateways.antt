-- How the code keeps the gateways: four words a thread, for sixteen threads.
use Rattle.std.specs.Prelude.{ℕ, ◌+◌, ◌*◌, List, get_or, replicate}
use Rattle.laws.specs.Filled.{filled}
use Rattle.event.specs.declared.Gateway.{Gateway}
use Rattle.event.specs.Gateways.{closed}

-- thread t's
abbrev pub gateway_in : List ℕ → ℕ → Gateway
gateway_in words t =
    record { live = get_or words (4 * t) 0; base = get_or words (4 * t + 1) 0; size = get_or words (4 * t + 2) 0; key = get_or words (4 * t + 3) 0 }

unfoldable pub gateways_in : List ℕ → List Gateway
gateways_in words = filled (gateway_in words) 16 (replicate 16 closed)
