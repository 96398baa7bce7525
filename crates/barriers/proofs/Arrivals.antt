-- A barrier message, by what the code asks of the masks in turn. Assumes nothing.
use mathlib.Core.Path.{◌≡◌, refl, sym, ap, subst, ◌∙◌}
use mathlib.Core.Bool.{Bool, true, false}
use mathlib.Core.List.{List}
use Prim.Native.Nat.{ℕ, ◌+◌, ◌/◌, ◌%◌, ◌^◌, ◌<◌}
use native.Mathlib.Omega.{arith}
use lib.Dec.{eqb}
use lib.ListN.{get_or, set}
use lib.Seq.{get_or-set_other}
use borrow.Author.Tests.{eq-eqb, ne_eqb, eqb-true, eqb-false}
use Rattle.laws.proofs.Choices.{by_test}
use Rattle.event.specs.declared.Head.{Head}
use Rattle.event.specs.declared.Setup.{Setup}
use Rattle.event.specs.Decision.{Decision, Refused, Wait, Release}
use Rattle.event.specs.Gateways.{closed}
use Rattle.event.specs.Groups.{no_group, group_of, waits_of, own_group, whole_with, Grouped}
use Rattle.event.specs.Outcomes.{malformed, ruled_of, outcome_of}
use Rattle.event.proofs.Formed.{formed_sender}
use Rattle.event.proofs.Groups.{group_read}
use Rattle.event.proofs.Reach.{decided_31, decided_formed}
use Rattle.effects.specs.Effects.{one_more, released, waits_after}
use Rattle.effects.specs.Releases.{releases_after}
use Rattle.effects.proofs.Waits.{released_at, released_other}
use Rattle.barriers.specs.Barriers.{member_mask, waiting_of, waiting_in, waits_in, message_decision, Masked}
use Rattle.barriers.proofs.MemberMasks.{mask_at, masks_set}
use Rattle.barriers.proofs.Masks.{bit_tells, none_waiting, whole_mask, waiting_same, waiting_set}
use Rattle.barriers.proofs.Waits.{waits_in_long}

-- a sender's group, as the code reads it in the groups that are lent
pub group_is : (h : Head) (s : Setup) (groups : List ℕ) → Grouped s → groups ≡ s.groups → malformed h.kind h s.threads ≡ false → get_or groups h.sender 0 ≡ own_group h s
group_is h s groups grouped e f =
    ap (λ (l : List ℕ). get_or l h.sender 0) e ∙ group_read s h.sender grouped.all (omega (arith, grouped.few, formed_sender h.kind h s.threads f))

module _ (h : Head) (s : Setup) (members m rs : List ℕ) (kind : h.kind ≡ 4) (grouped : Grouped s) (kept : Masked s members m) where
  abbrev ws : List Bool
  ws = waits_in s m

  abbrev d : Decision
  d = message_decision h s m

  abbrev own : ℕ
  own = own_group h s

  abbrev mask_of : List Bool → ℕ → ℕ
  mask_of waits b = waiting_of s.threads s.groups b waits

  -- what it answers and leaves
  abbrev Left : ℕ → List ℕ → List ℕ → Decision → Type 0
  Left o m' rs' e = (o ≡ outcome_of e) × (m' ≡ waiting_in s (waits_after e s ws)) × (rs' ≡ releases_after e rs)

  refused_left : (n : ℕ) → Left n m rs (Refused n)
  unfolding outcome_of waits_after releases_after
  refused_left n = (refl, kept.own_waiting, refl)

  pub left_31 : malformed h.kind h s.threads ≡ true → Left 31 m rs d
  left_31 f = subst (Left 31 m rs) (sym (decided_31 h s closed ws f)) (refused_left 31)

  -- the sender is a thread; x is its group, as the code read it
  module _ (f : malformed h.kind h s.threads ≡ false) {x : ℕ} (read : x ≡ own) where
    sender_thread : h.sender < s.threads
    sender_thread = formed_sender h.kind h s.threads f

    ruled : ruled_of 4 h s closed ws ≡ d
    ruled = ap (λ (k : ℕ). ruled_of k h s closed ws) (sym kind) ∙ sym (decided_formed h s closed ws f)

    no_barrier : 15 < x → own ≡ no_group
    no_barrier e = by_test (eqb own 255) (λ q. eqb-true own 255 q) (λ q. absurd (omega (arith, read, grouped.known h.sender sender_thread (eqb-false own 255 q))))

    pub left_38 : 15 < x → Left 38 m rs d
    unfolding ruled_of
    left_38 e = subst (Left 38 m rs) (simp (eq-eqb own 255 (no_barrier e)) refl ∙ ruled) (refused_left 38)

    -- it has a group
    module _ (n : x < 16) where
      has_group : own ≡ no_group → ⊥
      has_group e = omega (arith, read ∙ e)

      below : own < 16
      below = omega arith

      kept_mask : get_or m x 0 ≡ mask_of ws own
      kept_mask = (λ j. get_or (kept.own_waiting j) (read j) 0) ∙ mask_at (mask_of ws) own below

      kept_members : get_or members x 0 ≡ member_mask s.threads s.groups own
      kept_members = (λ j. get_or (kept.own_members j) (read j) 0) ∙ mask_at (member_mask s.threads s.groups) own below

      waits_is : eqb (get_or m x 0 / 2 ^ h.sender % 2) 1 ≡ waits_of ws h.sender
      waits_is = ap (λ (y : ℕ). eqb (y / 2 ^ h.sender % 2) 1) kept_mask ∙ bit_tells s.groups own ws s.threads h.sender sender_thread refl

      pub left_39 : eqb (get_or m x 0 / 2 ^ h.sender % 2) 1 ≡ true → Left 39 m rs d
      unfolding ruled_of
      left_39 e = subst (Left 39 m rs) (simp (ne_eqb own 255 has_group, sym waits_is ∙ e) refl ∙ ruled) (refused_left 39)

      -- it does not wait yet
      module _ (new : eqb (get_or m x 0 / 2 ^ h.sender % 2) 1 ≡ false) {y : ℕ} (bit : y ≡ 2 ^ h.sender) where
        waits_not : waits_of ws h.sender ≡ false
        waits_not = sym waits_is ∙ new

        one_more_lem : get_or m x 0 + y ≡ mask_of (set ws h.sender true) own
        one_more_lem =
            (λ j. kept_mask j + bit j)
            ∙ sym (waiting_set s.groups own ws h.sender refl waits_not (omega (arith, waits_in_long s m, sender_thread, grouped.few)) s.threads sender_thread)

        whole_is : eqb (get_or m x 0 + y) (get_or members x 0) ≡ whole_with h s ws
        whole_is = (λ j. eqb (one_more_lem j) (kept_members j)) ∙ sym (whole_mask s.groups own (set ws h.sender true) s.threads)

        decides : (e : Decision) → ruled_of 4 h s closed ws ≡ e → {o : ℕ} {m' rs' : List ℕ} → Left o m' rs' e → Left o m' rs' d
        decides e q {o} {m'} {rs'} l = subst (Left o m' rs') (sym q ∙ ruled) l

        released_then : set m x 0 ≡ waiting_in s (released s.threads s.groups own ws)
        released_then =
            let freed : List Bool = released s.threads s.groups own ws in
            (λ j. set (kept.own_waiting j) (read j) (sym (none_waiting s.groups own freed s.threads (λ t l e. released_at s.groups own ws s.threads t l e)) j))
            ∙ masks_set (mask_of ws) (mask_of freed) own below
            (λ b z. waiting_same s.groups b ws freed s.threads (λ u l e. sym (released_other s.groups own ws s.threads u (λ q. z (sym e ∙ q)))))

        waits_then : set m x (get_or m x 0 + y) ≡ waiting_in s (set ws h.sender true)
        waits_then =
            (λ j. set (kept.own_waiting j) (read j) (one_more_lem j))
            ∙ masks_set (mask_of ws) (mask_of (set ws h.sender true)) own below
            (λ b z. waiting_same s.groups b ws (set ws h.sender true) s.threads
            (λ u l e. sym (get_or-set_other ws h.sender u true false (λ q. z (sym e ∙ ap (group_of s.groups) q)))))

        pub left_whole : {rs' : List ℕ} → get_or m x 0 + y ≡ get_or members x 0 → rs' ≡ one_more rs x → Left 0 (set m x 0) rs' d
        unfolding ruled_of outcome_of waits_after releases_after
        left_whole e p =
            decides (Release own) (simp (ne_eqb own 255 has_group, waits_not, sym whole_is ∙ eq-eqb _ _ e) refl)
            (refl, released_then, p ∙ ap (one_more rs) read)

        pub left_waits : (get_or m x 0 + y ≡ get_or members x 0 → ⊥) → Left 0 (set m x (get_or m x 0 + y)) rs d
        unfolding ruled_of outcome_of waits_after releases_after
        left_waits e = decides (Wait h.sender) (simp (ne_eqb own 255 has_group, waits_not, sym whole_is ∙ ne_eqb _ _ e) refl) (refl, waits_then, refl)
