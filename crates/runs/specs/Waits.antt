-- The words of the laws of a run: X, Y, colours, states and whole-number deltas, and nothing of how one searches.
use Rattle.std.specs.Prelude.{ℕ, ◌+◌, ◌*◌, ◌<◌, ◌≤◌, ◌≡◌, true, get_or, take, pos, ◌+ℤ◌}
use mathlib.Core.List.{List, Memᴰ}
use Rattle.objects.specs.Objects.{Delta, Object, object_at}
use Rattle.runs.specs.Run.{state_at, run_from}

-- "j's X and Y equal k's plus a delta in play, as whole numbers"
pub record Leads (k j : Object) (d : Delta) : Type 0 where
  pub in_play : Memᴰ d k.in_play
  pub to_x : pos k.x +ℤ d.dx ≡ pos j.x
  pub to_y : pos k.y +ℤ d.dy ≡ pos j.y

-- "Object k waits for object j"
pub record Waits (objects : List Object) (states : List ℕ) (k j : ℕ) : Type 0 where
  pub earlier : j < k
  pub unfinished : state_at states j ≡ 2 → ⊥
  pub uses : (object_at objects j).uses ≡ true
  pub colour : (object_at objects j).colour ≡ (object_at objects k).colour
  pub by : Delta
  pub leads : Leads (object_at objects k) (object_at objects j) by

-- What 24 names: "it uses a scoreboard of type 0 and an earlier object is in state 0 (names the lowest)".
pub record Stalls (objects : List Object) (states : List ℕ) (k j : ℕ) : Type 0 where
  pub uses : (object_at objects k).uses ≡ true
  pub type : (object_at objects k).type ≡ 0
  pub earlier : j < k
  pub waiting : state_at states j ≡ 0
  pub lowest : (i : ℕ) → i < j → state_at states i ≡ 0 → ⊥

-- What 25 names: "it waits (names the lowest j and the lowest delta at it)". Here n is the delta's number.
pub record Blocks (objects : List Object) (states : List ℕ) (k j n : ℕ) : Type 0 where
  pub waits : Waits objects states k j
  pub lowest : (i : ℕ) → i < j → Waits objects states k i → ⊥
  pub by : Delta
  pub leads : Leads (object_at objects k) (object_at objects j) by
  pub number : by.index ≡ n
  pub lowest_delta : (d : Delta) → Leads (object_at objects k) (object_at objects j) d → n ≤ d.index

-- Object k started in a run of the events from position i on: at an accepted event, and then neither 24 nor 25 held of it.
pub record Started (objects : List Object) (events : List ℕ) (i : ℕ) (states : List ℕ) (k : ℕ) : Type 0 where
  pub at : ℕ
  pub accepted : i + at < (run_from objects events i states).position
  pub event : get_or events at 0 ≡ 2 * k
  pub unstalled : (j : ℕ) → Stalls objects (run_from objects (take at events) i states).states k j → ⊥
  pub clear : (j : ℕ) → Waits objects (run_from objects (take at events) i states).states k j → ⊥
