-- A forward writes its own bytes of the event's data, and no other. Assumes nothing.
use mathlib.Core.Path.{◌≡◌, refl, subst, ◌∙◌}
use mathlib.Core.List.{List}
use Prim.Native.Nat.{ℕ, ◌+◌, ◌*◌, ◌≤◌}
use native.Mathlib.Omega.{arith}
use lib.ListN.{length, drop, length-drop}
use lib.Seq.{get_or-drop, length-paste}
use Rattle.laws.proofs.Paste.{paste_before, paste_in, paste_after}
use Rattle.event.specs.declared.Setup.{Setup}
use Rattle.event.specs.Decision.{Decision, Forward}
use Rattle.event.specs.Within.{Within}
use Rattle.event.proofs.Decisions.{by_forward}
use Rattle.effects.specs.Effects.{forwarded, Written}

pub written : (r a n m : ℕ) (ev rs : List ℕ) → n ≤ 32 → length ev ≡ 48 → a + n ≤ length rs → Written a n ev rs (forwarded (Forward r a n m) ev rs)
unfolding forwarded
written r a n m ev rs few event room =
    let held : n ≤ length (drop 16 ev) = simp length-drop (omega arith) in
    record {
      inside = λ j l. paste_in 0 rs a (drop 16 ev) n room held j l ∙ get_or-drop 16 ev j 0;
      before = λ p l. paste_before 0 rs a (drop 16 ev) n room held p l;
      after = λ p l. paste_after 0 rs a (drop 16 ev) n room held p l;
      long = length-paste rs a (drop 16 ev) n room held;
    }

-- registers keep their length
pub forwarded_long : (s : Setup) (d : Decision) (ev rs : List ℕ) → Within s d → length ev ≡ 48 → length rs ≡ 4096 * s.threads → length (forwarded d ev rs) ≡ length rs
unfolding Within forwarded
forwarded_long s d ev rs w e l =
    by_forward (λ (x : List ℕ). length x ≡ length rs) d _ rs
    (λ r a n m q. let u = subst (Within s) q w in (written r a n m ev rs u.1 e (omega (arith, u.0, u.2.to))).long) refl
