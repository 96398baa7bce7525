-- A forward that passes: where it writes, and what it counts. Assumes nothing.
use mathlib.Core.Path.{◌≡◌, sym, ap, subst, ◌∙◌}
use mathlib.Core.List.{List, []}
use Prim.Native.Nat.{ℕ, ◌+◌, ◌*◌, ◌%◌, ◌^◌, ◌≤◌, ◌<◌}
use native.Mathlib.Omega.{arith}
use lib.Dec.{eqb}
use lib.ListN.{drop}
use lib.Pow.{pow_mono}
use lib.Seq.{paste}
use borrow.Author.Tests.{eqb-true, eqb-false}
use Rattle.laws.proofs.Choices.{by_test}
use Rattle.event.specs.declared.Head.{Head}
use Rattle.event.specs.declared.Setup.{Setup}
use Rattle.event.specs.declared.Gateway.{Gateway}
use Rattle.event.specs.Decision.{Decision, Forward}
use Rattle.event.specs.Gateways.{Window}
use Rattle.event.specs.Outcomes.{window_start, outcome_of}
use Rattle.event.specs.ByKind.{decision_through}
use Rattle.event.specs.Within.{Within}
use Rattle.event.proofs.Formed.{forward_code}
use Rattle.event.proofs.Reach.{decision_within, formed_of}
use Rattle.event.proofs.ByKind.{formed_as}
use Rattle.event.proofs.Passed.{passed_as}
use Rattle.effects.specs.Effects.{notified, counts_after, forwarded, with_ack}

abbrev pub placed : Head → Setup → Gateway → ℕ
placed h s g = 4096 * h.target + window_start s g + h.place

-- the recipient is a thread, and the bytes are its own
pub record Fits (h : Head) (s : Setup) (g : Gateway) : Type 0 where
  pub code : h.code ≤ 5
  pub thread : h.target < s.threads
  pub few : 2 ^ h.code ≤ 32
  pub own : placed h s g + 2 ^ h.code ≤ 4096 * h.target + 4096

module _ (h : Head) (s : Setup) (g : Gateway) (k : h.kind ≡ 2) {number : ℕ} (by : number ≡ outcome_of (decision_through h s g)) (zero : number ≡ 0) where
  o : outcome_of (decision_through h s g) ≡ 0
  o = sym by ∙ zero

  delivered : decision_through h s g ≡ Forward h.target (placed h s g) (2 ^ h.code) h.notify
  delivered = passed_as h s g [] 2 k o

  pub fits : Window g → Fits h s g
  unfolding Within
  fits v =
      let w : Within s (Forward h.target (placed h s g) (2 ^ h.code) h.notify) = subst (Within s) delivered (decision_within h s g [] v) in
      record {
        code = forward_code h s.threads (formed_as h s.threads 2 k (formed_of h s g [] (λ e. omega (arith, o))));
        thread = w.0;
        few = w.1;
        own = w.2.to;
      }

  -- at a thread's last 31 bytes it has sixteen at most
  pub last : Window g → 4064 < placed h s g % 4096 → 2 ^ h.code ≤ 16
  last v near =
      let f = fits v in
      let own = f.own in
      by_test (eqb h.code 5)
      (λ q. let e : 2 ^ h.code ≡ 32 = ap (λ (n : ℕ). 2 ^ n) (eqb-true h.code 5 q) in absurd (omega arith))
      (λ q. let z = eqb-false h.code 5 q in pow_mono {i = h.code} {j = 4} (omega (arith, f.code, z)))

  pub forwarded_by : (ev rs : List ℕ) {rs' : List ℕ} {w n : ℕ} → w ≡ window_start s g → n ≡ 2 ^ h.code
      → rs' ≡ paste rs (4096 * h.target + w + h.place) (drop 16 ev) n → rs' ≡ forwarded (decision_through h s g) ev rs
  unfolding forwarded
  forwarded_by ev rs ew en e =
      e ∙ (λ j. paste rs (4096 * h.target + ew j + h.place) (drop 16 ev) (en j)) ∙ ap (λ (x : Decision). forwarded x ev rs) (sym delivered)

  pub counted_by : (cs : List ℕ) {cs' : List ℕ} → cs' ≡ notified h.target h.notify cs → cs' ≡ counts_after (decision_through h s g) s cs
  unfolding counts_after
  counted_by cs e = e ∙ ap (λ (x : Decision). counts_after x s cs) (sym delivered)

  -- with its acknowledgement
  pub acked_by : (ev rs : List ℕ) {rs' rs'' : List ℕ} → rs' ≡ forwarded (decision_through h s g) ev rs → rs'' ≡ with_ack h 0 rs'
      → rs'' ≡ with_ack h 0 (forwarded (decision_through h s g) ev rs)
  acked_by ev rs e a = a ∙ ap (with_ack h 0) e
