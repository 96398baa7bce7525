-- What a recording that is not refused keeps to. Assumes nothing.
use mathlib.Core.Path.{◌≡◌, ap, ◌∙◌}
use mathlib.Core.Bool.{false}
use mathlib.Core.List.{List, ◌++◌}
use Prim.Native.Nat.{ℕ, ◌+◌, ◌*◌, ◌-◌, ◌≤◌, ◌<◌}
use native.Mathlib.Omega.{arith}
use lib.Dec.{ltb}
use lib.ListN.{length, take, drop, replicate, length-append, length-replicate, length-take, length-drop, get_or-append}
use lib.Seq.{get_or-take, get_or-drop}
use borrow.Author.Tests.{ltb-false, eqb-true, ne_eqb, not-false}
use Rattle.laws.specs.Rows.{Row}
use Rattle.laws.proofs.Choices.{by_test, not_both}
use Rattle.laws.proofs.Find.{find_before}
use Rattle.laws.proofs.Rows.{holds_at, no_row}
use Rattle.event.specs.declared.Setup.{Setup}
use Rattle.event.specs.Groups.{no_group, group_of, Grouped}
use Rattle.event.proofs.Groups.{in_list}
use Rattle.recording.specs.Recording.{header_rows, length_rows, threads_of, events_of, group_byte, stray_group, stray_group_of, groups_of, setup_of, refusal_of}

-- the group of a thread is its byte
pub group_is : (rec : List ℕ) (t : ℕ) → t < threads_of rec → 10 + threads_of rec ≤ length rec → group_of (groups_of rec) t ≡ group_byte rec t
unfolding groups_of
group_is rec t h l =
    get_or-append (take (threads_of rec) (drop 10 rec)) (replicate (16 - threads_of rec) no_group) no_group t (simp (length-take, length-drop) (omega arith))
    ∙ get_or-take (threads_of rec) (drop 10 rec) t no_group h
    ∙ get_or-drop 10 rec t no_group
    ∙ in_list no_group 0 rec (10 + t) (omega arith)

module _ (rec : List ℕ) (registers counts outcomes : ℕ) (passed : refusal_of rec registers counts outcomes ≡ 0) where
  abbrev rows : List (Row ℕ)
  rows = header_rows rec ++ length_rows rec registers counts outcomes

  pub passes : (i : ℕ) → holds_at rows i ≡ false
  unfolding refusal_of
  passes i = no_row (λ n. n) 0 rows tt passed i

  pub has_header : 10 ≤ length rec
  has_header = ltb-false (length rec) 10 (passes 0)

  pub few_threads : threads_of rec ≤ 16
  few_threads = ltb-false 16 (threads_of rec) (passes 4)

  pub events_fill : length rec ≡ 10 + threads_of rec + 48 * events_of rec
  events_fill = eqb-true _ _ (not-false _ (passes 7))

  -- a thread's group byte is a barrier's number or 255
  pub groups_known : (t : ℕ) → t < threads_of rec → (group_byte rec t ≡ no_group → ⊥) → group_byte rec t < 16
  unfolding stray_group_of
  groups_known t h n =
      let f = find_before (stray_group rec) (threads_of rec) t (omega (arith, ltb-false (stray_group_of rec) (threads_of rec) (passes 8))) in
      by_test (ltb 15 (group_byte rec t))
      (λ q. absurd (not_both (stray_group rec t) (simp (q, ne_eqb (group_byte rec t) no_group n)) f))
      (λ q. let l = ltb-false 15 (group_byte rec t) q in omega arith)

  pub registers_own : registers ≡ 4096 * threads_of rec
  registers_own = eqb-true _ _ (not-false _ (passes 9))

  pub counts_two : counts ≡ 2 * threads_of rec
  counts_two = eqb-true _ _ (not-false _ (passes 10))

  pub outcomes_room : events_of rec ≤ outcomes
  outcomes_room = ltb-false outcomes (events_of rec) (passes 11)

  -- all of the above, of the setup
  module _ (s : Setup) (is : s ≡ setup_of rec) where
    pub threads_is : s.threads ≡ threads_of rec
    unfolding setup_of
    threads_is = ap (λ (x : Setup). x.threads) is

    pub header_room : 10 + threads_of rec ≤ length rec
    header_room = omega (arith, events_fill)

    pub grouped : Grouped s
    unfolding setup_of groups_of
    grouped =
        rw is (record {
          few = few_threads;
          all = simp (length-append, length-take, length-drop, length-replicate) (omega (arith, few_threads, header_room));
          known = λ t h n. rw (group_is rec t h header_room) (groups_known t h (λ q. n (group_is rec t h header_room ∙ q)));
        })
