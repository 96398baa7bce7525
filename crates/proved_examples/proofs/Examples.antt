-- Every case of the table holds, by computation. Assumes nothing.
use mathlib.Core.Path.{refl}
use Rattle.laws.specs.Find.{first_from, find_first}
use Rattle.laws.specs.BitRanges.{field, any_set}
use Rattle.laws.specs.Filled.{filled}
use Rattle.command.specs.Kinds.{kind_of, length_allowed, total_of, own_dwords}
use Rattle.command.specs.Kinds as commandKinds
use Rattle.masks.specs.MustBeZero.{marks, marked_bits}
use Rattle.command.specs.Order.{stands_since, count_loaded, state_in_force, vfe_in_force, state_of, state_after}
use Rattle.judge.specs.Refusals.{judge_of}
use Rattle.reading.specs.Reading.{read, reading_of}
use Rattle.reading.specs.Decision.{decided}
use Rattle.chips.specs.Chips.{named_by}
use Rattle.batch.specs.Answers.{answer_for, answer_of}
use Rattle.deltas.specs.Deltas.{delta_of, delta_dword, delta_x, delta_y}
use Rattle.deltas.specs.InPlay.{uses_scoreboard, type_of, set_in_both, in_play_of}
use Rattle.deltas.specs.Meets.{reaches, meets_at}
use Rattle.objects.specs.Objects.{object_with, objects_of}
use Rattle.runs.specs.Run.{waits_for, lowest_waited, lowest_delta, lowest_waiting, verdict_of, after, run_from, begun}
use Rattle.scoreboard.specs.Answers.{order_in, order_for, order_of}
use Rattle.event.specs.Head as eventHead
use Rattle.event.specs.Groups.{over_members, bits_where}
use Rattle.event.specs.Outcomes.{counted_ack, end_malformed, forward_malformed, open_malformed, ack_malformed, malformed, decided_of, decision_of, outcome_of}
use Rattle.recording.specs.Recording.{groups_of, setup_of, stray_group_of, refusal_of}
use Rattle.effects.specs.Effects.{gateways_after, bytes_after, waits_after, notified, counts_after, forwarded, with_ack}
use Rattle.gateway.specs.Replay.{step_of, run_of, barriers_of, run_whole, replay_of}
use Rattle.proved_examples.specs.Cases.{Each, table}

-- each case: one number, one answer, an answer and its states, or an answer with outcomes, counts and registers
pub all_hold : Each table
unfolding first_from find_first field any_set filled kind_of length_allowed total_of own_dwords commandKinds.head_of marks marked_bits stands_since count_loaded state_in_force vfe_in_force state_of state_after judge_of read reading_of decided named_by answer_for answer_of delta_of delta_dword delta_x delta_y uses_scoreboard type_of set_in_both in_play_of reaches meets_at object_with objects_of waits_for lowest_waited lowest_delta lowest_waiting verdict_of after run_from begun order_in order_for order_of eventHead.head_of over_members counted_ack end_malformed forward_malformed open_malformed ack_malformed malformed decided_of decision_of outcome_of groups_of setup_of stray_group_of refusal_of gateways_after bytes_after waits_after notified counts_after forwarded with_ack step_of run_of bits_where barriers_of run_whole replay_of
all_hold = (refl, (refl, (refl, (refl, (refl, (refl, ((refl, refl), ((refl, refl), ((refl, refl, refl, refl), ((refl, refl, refl, refl), ((refl, refl, refl, refl), ((refl, refl, refl, refl), ((refl, refl, refl, refl), ((refl, refl, refl, refl), ((refl, refl, refl, refl), ((refl, refl, refl, refl), ((refl, refl, refl, refl), ((refl, refl, refl, refl), tt))))))))))))))))))
