-- How the code keeps who waits: a mask for each barrier, bit t set where thread t waits at it. The rules say who waits by thread (crates
-- event and effects), and the contracts cite them by `waits_in`, who waits by the masks.
use Rattle.std.specs.Prelude.{◌≡◌, ℕ, ◌*◌, ◌/◌, ◌%◌, ◌^◌, Bool, false, ◌&&◌, List, eqb, ltb, length, get_or, replicate}
use Rattle.laws.specs.Filled.{filled}
use Rattle.event.specs.declared.Head.{Head}
use Rattle.event.specs.declared.Setup.{Setup}
use Rattle.event.specs.Decision.{Decision}
use Rattle.event.specs.Groups.{group_of, waits_of, bits_where, Grouped}
use Rattle.event.specs.Outcomes.{outcome_of}
use Rattle.event.specs.ByKind.{decision_among}
use Rattle.effects.specs.Effects.{bytes_after, waits_after, with_ack}
use Rattle.effects.specs.Releases.{releases_after, ReleaseRoom}

-- a mask for each of the sixteen barriers
unfoldable pub masks : (ℕ → ℕ) → List ℕ
masks f = filled f 16 (replicate 16 0)

-- the members of group b among the first n threads
abbrev pub member_mask : ℕ → List ℕ → ℕ → ℕ
member_mask n groups b = bits_where (λ t. eqb (group_of groups t) b) n

abbrev pub member_masks : Setup → List ℕ
member_masks s = masks (member_mask s.threads s.groups)

-- those of them who wait
abbrev pub waiting_of : ℕ → List ℕ → ℕ → List Bool → ℕ
waiting_of n groups b waits = bits_where (λ t. eqb (group_of groups t) b && waits_of waits t) n

abbrev pub waiting_in : Setup → List Bool → List ℕ
waiting_in s waits = masks (λ b. waiting_of s.threads s.groups b waits)

-- and the other way: a thread waits where its bit is set in its barrier's mask
abbrev pub waits_by : Setup → List ℕ → ℕ → Bool
waits_by s waiting t = ltb t s.threads && eqb (get_or waiting (group_of s.groups t) 0 / 2 ^ t % 2) 1

unfoldable pub waits_in : Setup → List ℕ → List Bool
waits_in s waiting = filled (waits_by s waiting) 16 (replicate 16 false)

-- the masks of the members, and those of who waits, which have no other bit
pub record Masked (s : Setup) (members waiting : List ℕ) : Type 0 where
  pub own_members : members ≡ member_masks s
  pub own_waiting : waiting ≡ waiting_in s (waits_in s waiting)

-- What `message` needs: a setup as the header's rows leave it, its groups, masks, sixteen barrier bytes, registers as long as row 16 leaves
-- them, and a number of releases for each barrier.
pub record BarrierRoom (s : Setup) (groups members waiting bytes registers releases : List ℕ) : Type 0 where
  pub grouped : Grouped s
  pub own_groups : groups ≡ s.groups
  pub masked : Masked s members waiting
  pub sixteen : length bytes ≡ 16
  pub own : length registers ≡ 4096 * s.threads
  pub room : ReleaseRoom s releases

-- the decision of an event that is no forward, by the masks, and the masks after it
abbrev pub message_decision : Head → Setup → List ℕ → Decision
message_decision h s waiting = decision_among h s (waits_in s waiting)

abbrev pub waiting_after : Head → Setup → List ℕ → List ℕ
waiting_after h s waiting = waiting_in s (waits_after (message_decision h s waiting) s (waits_in s waiting))

-- What an event that is neither an open, a close nor a forward leaves: its outcome, and each buffer at exit (') by the same at entry.
pub record MessageLeft (h : Head) (s : Setup) (outcome : ℕ)
    (waiting bytes registers releases waiting' bytes' registers' releases' : List ℕ) : Type 0 where
  pub its_outcome : outcome ≡ outcome_of (message_decision h s waiting)
  pub its_waits : waits_in s waiting' ≡ waits_after (message_decision h s waiting) s (waits_in s waiting)
  pub its_masks : waiting' ≡ waiting_in s (waits_in s waiting')
  pub its_bytes : bytes' ≡ bytes_after (message_decision h s waiting) bytes
  pub its_registers : registers' ≡ with_ack h outcome registers
  pub its_releases : releases' ≡ releases_after (message_decision h s waiting) releases
