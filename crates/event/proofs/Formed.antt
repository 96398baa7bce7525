-- What an event that is not malformed keeps to. Assumes nothing.
use mathlib.Core.Path.{◌≡◌}
use mathlib.Core.Bool.{true, false}
use Prim.Native.Nat.{ℕ, ◌<◌, ◌≤◌}
use borrow.Author.Tests.{ltb-false, leb-false, ne_eqb}
use Rattle.laws.proofs.Choices.{none_of}
use Rattle.event.specs.declared.Head.{Head}
use Rattle.event.specs.Outcomes.{counted_ack, forward_faults, forward_malformed, open_faults, open_malformed, ack_malformed, faults, malformed}

module _ (k : ℕ) (h : Head) (threads : ℕ) (f : malformed k h threads ≡ false) where
  pub formed_kind : k ≤ 6
  unfolding malformed
  formed_kind = ltb-false 6 k (none_of (faults k h threads) 0 f)

  pub formed_sender : h.sender < threads
  unfolding malformed
  formed_sender = leb-false threads h.sender (none_of (faults k h threads) 1 f)

  pub formed_register : counted_ack k h ≡ true → h.register ≤ 127
  unfolding malformed ack_malformed
  formed_register a = ltb-false 127 h.register (simp a at (none_of (faults k h threads) 6 f))

module _ (h : Head) (threads : ℕ) where
  pub forward_code : malformed 2 h threads ≡ false → h.code ≤ 5
  unfolding malformed forward_malformed
  forward_code f = ltb-false 5 h.code (none_of (forward_faults h) 1 (none_of (faults 2 h threads) 4 f))

  pub forward_offset : malformed 2 h threads ≡ false → h.place ≤ 8191
  unfolding malformed forward_malformed
  forward_offset f = ltb-false 8191 h.place (none_of (forward_faults h) 2 (none_of (faults 2 h threads) 4 f))

  pub open_base : malformed 0 h threads ≡ false → (h.ending ≡ 1 → ⊥) → h.place ≤ 127
  unfolding malformed open_malformed
  open_base f n = ltb-false 127 h.place (none_of (open_faults h) 0 (simp (ne_eqb _ _ n) at (none_of (faults 0 h threads) 5 f)))

  pub open_code : malformed 0 h threads ≡ false → (h.ending ≡ 1 → ⊥) → h.code ≤ 5
  unfolding malformed open_malformed
  open_code f n = ltb-false 5 h.code (none_of (open_faults h) 1 (simp (ne_eqb _ _ n) at (none_of (faults 0 h threads) 5 f)))

  pub update_barrier : malformed 5 h threads ≡ false → h.target ≤ 15
  unfolding malformed
  update_barrier f = ltb-false 15 h.target (none_of (faults 5 h threads) 8 f)
