-- Barrier groups: document 01, "one barrier group byte per thread (0 to 15, or 255 for none)". A thread has one group, so who waits is said
-- by thread: it waits at its group's barrier, whose number is the group byte.
use Rattle.std.specs.Prelude.{◌≡◌, ℕ, zero, suc, ◌+◌, ◌^◌, ◌≤◌, ◌<◌, Bool, true, false, cond, ◌&&◌, List, eqb, length, get_or, set}
use Rattle.event.specs.declared.Head.{Head}
use Rattle.event.specs.declared.Setup.{Setup}

abbrev pub no_group : ℕ
no_group = 255

-- the group of thread t, and whether it waits; who is no thread has no group, and does not wait
abbrev pub group_of : List ℕ → ℕ → ℕ
group_of groups t = get_or groups t no_group

abbrev pub waits_of : List Bool → ℕ → Bool
waits_of waits t = get_or waits t false

-- What the header's rows leave of every setup: at most sixteen threads, a group byte for each of sixteen, and each thread's is a barrier's
-- number or 255.
pub record Grouped (s : Setup) : Type 0 where
  pub few : s.threads ≤ 16
  pub all : length s.groups ≡ 16
  pub known : (t : ℕ) → t < s.threads → (group_of s.groups t ≡ no_group → ⊥) → group_of s.groups t < 16

-- bit t set for each thread t, of the first n, that passes a test
unfoldable pub bits_where : (ℕ → Bool) → ℕ → ℕ
bits_where test zero = 0
bits_where test (suc n) = cond (test n) (bits_where test n + 2 ^ n) (bits_where test n)

-- f of each member of group g among the first n threads, one after the other, from x on
unfoldable pub over_members : {A : Type 0} → ℕ → List ℕ → ℕ → (ℕ → A → A) → A → A
over_members zero groups g f x = x
over_members (suc n) groups g f x = cond (eqb (group_of groups n) g) (f n (over_members n groups g f x)) (over_members n groups g f x)

-- does every member of group g among the first n threads wait?
abbrev pub all_wait : ℕ → List ℕ → ℕ → List Bool → Bool
all_wait n groups g waits = over_members n groups g (λ t all. waits_of waits t && all) true

-- how many of the first n threads are members of group g
abbrev pub members_of : ℕ → List ℕ → ℕ → ℕ
members_of n groups g = over_members n groups g (λ t count. count + 1) 0

-- "When every member of a group waits"
abbrev pub whole_of : Setup → ℕ → List Bool → Bool
whole_of s g waits = all_wait s.threads s.groups g waits

-- the group's size
abbrev pub group_size : Setup → ℕ → ℕ
group_size s g = members_of s.threads s.groups g

-- the sender's group, and whether it waits whole once the sender does
abbrev pub own_group : Head → Setup → ℕ
own_group h s = group_of s.groups h.sender

abbrev pub whole_with : Head → Setup → List Bool → Bool
whole_with h s waits = whole_of s (own_group h s) (set waits h.sender true)
