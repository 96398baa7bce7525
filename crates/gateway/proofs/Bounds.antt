-- What holds after every event: each gateway's window lies in its thread's registers, and no count is above the number of events. Assumes nothing.
use mathlib.Core.Path.{◌≡◌, subst}
use mathlib.Core.List.{List, [], ◌∷◌}
use Prim.Native.Nat.{ℕ, zero, suc, ◌+◌, ◌*◌, ◌≤◌, ◌<◌}
use native.Mathlib.Omega.{arith}
use lib.Dec.{eqb}
use lib.ListN.{get_or, set, replicate}
use Rattle.laws.proofs.Choices.{by_cond}
use Rattle.event.specs.declared.Setup.{Setup}
use Rattle.event.specs.declared.Gateway.{Gateway}
use Rattle.event.specs.Decision.{Decision}
use Rattle.event.specs.Head.{head_of}
use Rattle.event.specs.Gateways.{closed, gateway_at, Window}
use Rattle.event.specs.Groups.{group_of, over_members}
use Rattle.event.specs.Within.{Within}
use Rattle.event.proofs.Decisions.{by_open_or_close, by_forward, by_release}
use Rattle.event.proofs.Reach.{closed_window, decision_within}
use Rattle.recording.specs.Recording.{event_at}
use Rattle.effects.specs.Effects.{gateways_after, notified, group_notified, counts_after}
use Rattle.gateway.specs.Replay.{World, decision_in, step_of, run_of}
use Rattle.barriers.proofs.Waits.{replicated}
use Rattle.effects.proofs.CountLaws.{group_notified_later}

-- what holds of each element, and of the default, holds after a store of what it holds of
all_set : {A : Type 0} (P : A → Type 0) (l : List A) (d : A) (w : ℕ) (v : A) → ((i : ℕ) → P (get_or l i d)) → P v → (i : ℕ) → P (get_or (set l w v) i d)
all_set P [] d w v h p i = h i
all_set P (x ∷ xs) d zero v h p zero = p
all_set P (x ∷ xs) d zero v h p (suc i) = h (suc i)
all_set P (x ∷ xs) d (suc w) v h p zero = h zero
all_set P (x ∷ xs) d (suc w) v h p (suc i) = all_set P xs d w v (λ k. h (suc k)) p i

-- ---- windows

abbrev pub Windows : List Gateway → Type 0
Windows gs = (t : ℕ) → Window (gateway_at gs t)

pub start_windows : Windows (replicate 16 closed)
start_windows t = rw (replicated closed 16 t) closed_window

windows_after : (s : Setup) (d : Decision) (gs : List Gateway) → Within s d → Windows gs → Windows (gateways_after d gs)
unfolding Within gateways_after
windows_after s d gs w v = by_open_or_close Windows d _ gs (λ t g e. all_set Window gs closed t g v (subst (Within s) e w).1) v

module _ (rec : List ℕ) (s : Setup) where
  pub run_windows : (n : ℕ) (w : World) → Windows w.state.gateways → Windows (run_of rec s n w).state.gateways
  unfolding run_of step_of
  run_windows zero w v = v
  run_windows (suc n) w v =
      let q = (run_of rec s n w).state in
      let u = run_windows n w v in
      let h = head_of (event_at rec n) in
      windows_after s (decision_in s (event_at rec n) q) q.gateways (decision_within h s (gateway_at q.gateways h.target) q.waits (u h.target)) u

  -- the gateways that event n meets
  pub met_windows : (n : ℕ) (w : World) (gs : List Gateway) → Windows w.state.gateways → gs ≡ (run_of rec s n w).state.gateways → Windows gs
  met_windows n w gs v e t = rw e (run_windows n w v t)

-- ---- counts

abbrev Most : ℕ → List ℕ → Type 0
Most n cs = (k : ℕ) → get_or cs k 0 ≤ n

set_most : (cs : List ℕ) (n j v : ℕ) → Most n cs → v ≤ n → Most n (set cs j v)
set_most cs n j v h p = all_set (λ (x : ℕ). x ≤ n) cs 0 j v h p

more : (n : ℕ) (cs : List ℕ) → Most n cs → Most (n + 1) cs
more n cs h k = omega (arith, h k)

notified_most : (r m n : ℕ) (cs : List ℕ) → Most n cs → Most (n + 1) (notified r m cs)
unfolding notified
notified_most r m n cs h =
    by_cond (Most (n + 1)) (eqb m 1) _ _ (λ _. set_most cs (n + 1) (2 * r) _ (more n cs h) (omega (arith, h (2 * r)))) λ _.
    by_cond (Most (n + 1)) (eqb m 2) _ _ (λ _. set_most cs (n + 1) (2 * r + 1) _ (more n cs h) (omega (arith, h (2 * r + 1)))) λ _. more n cs h

group_notified_most : (groups : List ℕ) (g : ℕ) (cs : List ℕ) (n m : ℕ) → Most n cs → Most (n + 1) (group_notified m groups g cs)
unfolding over_members
group_notified_most groups g cs n zero h = more n cs h
group_notified_most groups g cs n (suc m) h =
    let ih = group_notified_most groups g cs n m h in
    by_cond (Most (n + 1)) (eqb (group_of groups m) g) _ _
    (λ _. set_most (group_notified m groups g cs) (n + 1) (2 * m) _ ih (omega (arith, group_notified_later groups g cs m (2 * m) (omega arith), h (2 * m)))) (λ _. ih)

counts_most : (d : Decision) (s : Setup) (cs : List ℕ) (n : ℕ) → Most n cs → Most (n + 1) (counts_after d s cs)
unfolding counts_after
counts_most d s cs n h =
    by_forward (Most (n + 1)) d _ _ (λ r a x m _. notified_most r m n cs h)
    (by_release (Most (n + 1)) d _ cs (λ g _. group_notified_most s.groups g cs n s.threads h) (more n cs h))

module _ (rec : List ℕ) (s : Setup) (w : World) (clear : (k : ℕ) → get_or w.counts k 0 ≡ 0) where
  run_most : (n : ℕ) → Most n (run_of rec s n w).counts
  unfolding run_of step_of
  run_most zero = λ k. omega (arith, clear k)
  run_most (suc n) = λ k.
      let q = run_of rec s n w in
      omega (arith, counts_most (decision_in s (event_at rec n) q.state) s q.counts n (run_most n) k)

  -- no count can wrap
  pub run_low : (n : ℕ) (cs : List ℕ) → cs ≡ (run_of rec s n w).counts → n < 65536 → (k : ℕ) → get_or cs k 0 < 4294967295
  run_low n cs e h k = rw e (omega (arith, run_most n k))
