-- The replay of a recording that is refused, and of one that is not. Assumes nothing.
use mathlib.Core.Path.{◌≡◌, sym, ap, ◌∙◌}
use mathlib.Core.List.{List}
use Prim.Native.Nat.{ℕ, ◌+◌, ◌*◌, ◌≤◌, ◌<◌}
use native.Mathlib.Omega.{arith}
use lib.ListN.{length, get_or, replicate, length-replicate}
use borrow.Author.Tests.{eq-eqb, ne_eqb}
use Rattle.event.specs.declared.Setup.{Setup}
use Rattle.recording.specs.Recording.{threads_of, events_of, setup_of, refusal_of}
use Rattle.recording.proofs.Accepted.{has_header, few_threads, events_fill, registers_own, counts_two, outcomes_room, threads_is, grouped}
use Rattle.barriers.proofs.Waits.{replicated}
use Rattle.gateway.specs.declared.Replayed.{Replayed}
use Rattle.gateway.specs.Steps.{Running}
use Rattle.gateway.specs.Replay.{World, start_over, run_of, Replay, refused_answer, ended, run_whole, replay_of}

module _ (rec registers counts outcomes : List ℕ) where
  abbrev number : ℕ
  number = refusal_of rec (length registers) (length counts) (length outcomes)

  pub set_up : number ≡ 0 → (10 ≤ length rec) × (threads_of rec ≤ 16) × (10 + threads_of rec ≤ length rec)
  set_up z =
      let e = events_fill rec (length registers) (length counts) (length outcomes) z in
      (has_header rec _ _ _ z, few_threads rec _ _ _ z, omega arith)

  pub running : number ≡ 0 → (s : Setup) (events : ℕ) (cleared : List ℕ) → s ≡ setup_of rec → events ≡ events_of rec → events < 65536 → cleared ≡ replicate (length counts) 0
      → Running rec s events registers cleared outcomes
  running z s events cleared es ee most ec =
      let t : s.threads ≡ threads_of rec = threads_is rec _ _ _ z s es in
      record {
        grouped = grouped rec _ _ _ z s es;
        same = t;
        whole = events_fill rec _ _ _ z ∙ (λ j. 10 + sym t j + 48 * sym ee j);
        most = most;
        own = registers_own rec _ _ _ z ∙ ap (λ (n : ℕ). 4096 * n) (sym t);
        two = ap length ec ∙ length-replicate (length counts) 0 ∙ counts_two rec _ _ _ z ∙ ap (λ (n : ℕ). 2 * n) (sym t);
        clear = λ k. ap (λ (l : List ℕ). get_or l k 0) ec ∙ replicated 0 (length counts) k;
        room = rw ee (outcomes_room rec _ _ _ z);
      }

  pub refused_whole : {n : ℕ} {r : Replayed} → n ≡ number → (n ≡ 0 → ⊥) → r ≡ refused_answer n
      → ◌≡◌ {A = Replay} (record { answer = r; registers = registers; counts = counts; outcomes = outcomes }) (replay_of rec registers counts outcomes)
  unfolding replay_of
  refused_whole e p a =
      simp (ne_eqb number 0 (λ q. p (e ∙ q))) (λ j. record { answer = (a ∙ ap refused_answer e) j; registers = registers; counts = counts; outcomes = outcomes })

  pub replayed_whole : {n : ℕ} → n ≡ number → n ≡ 0 → (s : Setup) (events : ℕ) (cleared : List ℕ) (w : World)
      → s ≡ setup_of rec → events ≡ events_of rec → cleared ≡ replicate (length counts) 0
      → w ≡ run_of rec s events (start_over registers cleared outcomes)
      → ended s w ≡ replay_of rec registers counts outcomes
  unfolding replay_of run_whole
  replayed_whole e z s events cleared w es ee ec ew =
      simp (eq-eqb number 0 (sym e ∙ z))
      (λ j. ended (es j) ((ew ∙ (λ k. run_of rec (es k) (ee k) (start_over registers (ec k) outcomes))) j))
