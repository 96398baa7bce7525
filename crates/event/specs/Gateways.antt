-- A thread's gateway: document 01, "A gateway is open or closed, with base, size and key".
use Rattle.std.specs.Prelude.{List, ℕ, ◌+◌, ◌≤◌, get_or}
use Rattle.event.specs.declared.Gateway.{Gateway}
use Rattle.event.specs.Codes.{count_of}

abbrev pub closed : Gateway
closed = record { live = 0; base = 0; size = 0; key = 0 }

abbrev pub opened : ℕ → ℕ → ℕ → Gateway
opened base size key = record { live = 1; base = base; size = size; key = key }

-- thread t's; above the threads there is none, which is a closed one
abbrev pub gateway_at : List Gateway → ℕ → Gateway
gateway_at gateways t = get_or gateways t closed

-- a gateway whose window lies in its thread's 128 registers, as 31 and 33 leave every open one
pub record Window (g : Gateway) : Type 0 where
  pub code : g.size ≤ 5
  pub fits : g.base + count_of g.size ≤ 128
