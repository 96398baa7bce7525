-- Two batches that agree on every dword that is read have one reading. Assumes nothing.
use mathlib.Core.Path.{◌≡◌, refl, sym, ap, ap₂, subst, ◌∙◌}
use mathlib.Core.Logic.{◌⊎◌, inl, inr, ⊎_elim}
use Prim.Native.Nat.{ℕ, zero, suc, ◌+◌, ◌-◌, ◌<◌, ◌≤◌}
use native.Mathlib.Nat.{zero-add}
use native.Mathlib.Omega.{arith}
use mathlib.Core.List.{List, [], ◌∷◌}
use lib.ListN.{length, get_or}
use Rattle.chips.specs.declared.Target.{Target}
use Rattle.command.specs.declared.State.{State}
use Rattle.command.specs.Kinds.{kind_of, total_of, head_of, own_dwords}
use Rattle.command.specs.Order.{Command, command_of, state_of, state_after}
use Rattle.chips.specs.Refusals.{number_of_refusal}
use Rattle.judge.specs.Refusals.{Verdict, no_fault, judge_of}
use Rattle.command.proofs.Heads.{own_pos, own_object, own_end, head_same}
use Rattle.judge.proofs.Judged.{own_in_total, passed_header, total_pos}
use Rattle.reading.specs.Turns.{walk}
use Rattle.reading.specs.Reading.{ended, stopped, Reading, reading, and_then, command_at, after_verdict, reading_of}
use Rattle.reading.specs.Decision.{decided}
use Rattle.reading.specs.Unread.{InlineData, Unread}
use Rattle.reading.proofs.Verdicts.{by_verdicts, by_verdict_lem}
use Rattle.reading.proofs.Walk.{reading_walk}

-- what is unread at a refusal, after END, and after one command more
none_unread : (m p i : ℕ) → Unread (reading [] (stopped m p)) i → ⊥
none_unread m p i (inl u) = u
none_unread m p i (inr u) = u

unread_end : (c : Command) (d i : ℕ) → Unread (reading (c ∷ []) (ended d)) i → InlineData c i ⊎ (d ≤ i)
unread_end c d i (inl (inl u)) = inl u
unread_end c d i (inl (inr u)) = absurd u
unread_end c d i (inr u) = inr u

unread_then : (c : Command) (r : Reading) (i : ℕ) → Unread (and_then c r) i → InlineData c i ⊎ Unread r i
unread_then c r i (inl (inl d)) = inl d
unread_then c r i (inl (inr d)) = inr (inl d)
unread_then c r i (inr d) = inr (inr d)

-- the rest of a list that starts with the dword d, after its command
abbrev rest : ℕ → List ℕ → ℕ → State → Reading
rest d ds at st = walk ds (total_of (kind_of st.chip d) d - 1) (at + 1) (state_after (kind_of st.chip d) (head_of (kind_of st.chip d) (d ∷ ds)) st)

-- nothing before what is left of the last command is unread
unread_from : (l : List ℕ) (n at : ℕ) (st : State) (i : ℕ) → Unread (walk l n at st) i → at + n ≤ i
unfolding walk
unread_from [] n at st i u = absurd (none_unread 2 at i u)
unread_from (d ∷ ds) (suc n) at st i u = let z = unread_from ds n (at + 1) st i u in omega arith
unread_from (d ∷ ds) zero at st i u =
    let k = kind_of st.chip d in
    let c = command_at k (d ∷ ds) at st in
    by_verdict_lem (λ (r : Reading). Unread r i → at + 0 ≤ i) k (judge_of k (suc (length ds)) (head_of k (d ∷ ds)) st) _ _ _
    (λ f e w. absurd (none_unread (number_of_refusal f.refusal) (at + f.skip) i w))
    (λ e q w. ⊎_elim (λ (x : InlineData c i). let z = x.1 in omega arith) (λ x. omega arith) (unread_end c (at + 1) i w))
    (λ e q w. ⊎_elim (λ (x : InlineData c i). let z = x.1 in omega arith)
    (λ x. let z = unread_from ds (total_of k d - 1) (at + 1) (state_after k (head_of k (d ∷ ds)) st) i x in omega arith) (unread_then c (rest d ds at st) i w))
    u

-- a command's own dwords are read
module _ (d : ℕ) (ds : List ℕ) (at : ℕ) (st : State) where
  abbrev k : ℕ
  k = kind_of st.chip d

  abbrev c : Command
  c = command_at (kind_of st.chip d) (d ∷ ds) at st

  own_inline : (j : ℕ) → j < own_dwords k → InlineData c (at + j) → ⊥
  own_inline j p u =
      let e : own_dwords k ≡ 6 = ap own_dwords u.0 ∙ own_object in
      let q = u.1 in omega arith

  own_read : (v : Verdict) → (v ≡ no_fault → own_dwords k ≤ total_of k d) → (j : ℕ) → j < own_dwords k → Unread (after_verdict v c (rest d ds at st)) (at + j) → ⊥
  own_read v h j p =
      by_verdict_lem (λ (r : Reading). Unread r (at + j) → ⊥) k v _ _ _
      (λ f e. none_unread (number_of_refusal f.refusal) (at + f.skip) (at + j))
      (λ e q u. ⊎_elim (own_inline j p) (λ x. let y : own_dwords k ≡ 1 = ap own_dwords q ∙ own_end in omega arith) (unread_end c (at + 1) (at + j) u))
      (λ e q u. ⊎_elim (own_inline j p) (λ x. after (h e) x) (unread_then c (rest d ds at st) (at + j) u))
    where
      after : own_dwords k ≤ total_of k d → Unread (rest d ds at st) (at + j) → ⊥
      after o u =
          let z = unread_from ds (total_of k d - 1) (at + 1) (state_after k (head_of k (d ∷ ds)) st) (at + j) u in
          let t = total_pos k d in omega arith

-- the same command, then rests that agree where the first is read
module _ (ds ds' : List ℕ) (c : Command) (r r' : Reading) (pos : 1 ≤ c.total)
    (ih : ((i : ℕ) → c.total - 1 ≤ i → (Unread r (c.place + 1 + i) → ⊥) → get_or ds i 0 ≡ get_or ds' i 0) → r ≡ r') where
  abbrev Agree : Reading → Type 0
  Agree w = (i : ℕ) → c.total - 1 ≤ i → (Unread w (c.place + suc i) → ⊥) → get_or ds i 0 ≡ get_or ds' i 0

  not_unread : (i : ℕ) → c.total - 1 ≤ i → (Unread r (c.place + 1 + i) → ⊥) → InlineData c (c.place + suc i) ⊎ Unread r (c.place + suc i) → ⊥
  not_unread i p u (inl w) = let z = w.2 in omega arith
  not_unread i p u (inr w) = u (subst (Unread r) (omega arith) w)

  same_verdict : (v : Verdict) → Agree (after_verdict v c r) → after_verdict v c r ≡ after_verdict v c r'
  same_verdict v =
      by_verdicts (λ (x y : Reading). Agree x → x ≡ y) c.kind v _ _ _ _ _ _ (λ f e h. refl) (λ e q h. refl)
      (λ e q h. ap (and_then c) (ih (λ i p u. h i p (λ w. not_unread i p u (unread_then c r (c.place + suc i) w)))))

-- two lists that start with one command
module _ (d : ℕ) (ds : List ℕ) (d' : ℕ) (ds' : List ℕ) (at : ℕ) (st : State) (e : length ds ≡ length ds')
    (h : (i : ℕ) → (Unread (after_verdict (judge_of (kind_of st.chip d) (suc (length ds)) (head_of (kind_of st.chip d) (d ∷ ds)) st) (command_at (kind_of st.chip d) (d ∷ ds) at st) (rest d ds at st)) (at + i) → ⊥) → get_or (d ∷ ds) i 0 ≡ get_or (d' ∷ ds') i 0)
    (ih : (n a : ℕ) (s : State) → ((i : ℕ) → n ≤ i → (Unread (walk ds n a s) (a + i) → ⊥) → get_or ds i 0 ≡ get_or ds' i 0) → walk ds n a s ≡ walk ds' n a s) where
  abbrev verdict : Verdict
  verdict = judge_of (kind_of st.chip d) (suc (length ds)) (head_of (kind_of st.chip d) (d ∷ ds)) st

  own_passed : verdict ≡ no_fault → own_dwords (kind_of st.chip d) ≤ total_of (kind_of st.chip d) d
  unfolding head_of
  own_passed p = own_in_total (kind_of st.chip d) d (suc (length ds)) (passed_header (kind_of st.chip d) (suc (length ds)) (head_of (kind_of st.chip d) (d ∷ ds)) st p)

  agree : (j : ℕ) → j < own_dwords (kind_of st.chip d) → get_or (d ∷ ds) j 0 ≡ get_or (d' ∷ ds') j 0
  agree j p = h j (own_read d ds at st verdict own_passed j p)

  first : d ≡ d'
  first = agree 0 (own_pos (kind_of st.chip d))

  heads : head_of (kind_of st.chip d) (d ∷ ds) ≡ head_of (kind_of st.chip d) (d ∷ ds')
  heads = head_same (kind_of st.chip d) (d ∷ ds) (d' ∷ ds') agree ∙ ap (λ (x : ℕ). head_of (kind_of st.chip d) (x ∷ ds')) (sym first)

  -- the reading of a list that starts with x, by its own dwords and its rest
  abbrev by : ℕ → List ℕ → List ℕ → ℕ → Reading
  by x g l n =
      after_verdict (judge_of (kind_of st.chip x) (suc n) g st) (command_of (kind_of st.chip x) at (total_of (kind_of st.chip x) x) g st)
      (walk l (total_of (kind_of st.chip x) x - 1) (at + 1) (state_after (kind_of st.chip x) g st))

  rests : by d (head_of (kind_of st.chip d) (d ∷ ds)) ds (length ds) ≡ by d (head_of (kind_of st.chip d) (d ∷ ds)) ds' (length ds)
  rests =
      let g = head_of (kind_of st.chip d) (d ∷ ds) in
      let s = state_after (kind_of st.chip d) g st in
      let n = total_of (kind_of st.chip d) d - 1 in
      same_verdict ds ds' (command_at (kind_of st.chip d) (d ∷ ds) at st) (walk ds n (at + 1) s) (walk ds' n (at + 1) s) (total_pos (kind_of st.chip d) d)
      (λ q. ih n (at + 1) s q) verdict (λ i p u. h (suc i) u)

  same_here : by d (head_of (kind_of st.chip d) (d ∷ ds)) ds (length ds) ≡ by d' (head_of (kind_of st.chip d') (d' ∷ ds')) ds' (length ds')
  same_here =
      rests
      ∙ ap₂ (λ (g : List ℕ) (n : ℕ). by d g ds' n) heads e
      ∙ ap (λ (x : ℕ). by x (head_of (kind_of st.chip x) (x ∷ ds')) ds' (length ds')) first

-- the deciding induction
same_walk : (l l' : List ℕ) (n at : ℕ) (st : State) → length l ≡ length l' →
    ((i : ℕ) → n ≤ i → (Unread (walk l n at st) (at + i) → ⊥) → get_or l i 0 ≡ get_or l' i 0) → walk l n at st ≡ walk l' n at st
unfolding walk
same_walk [] [] n at st e h = refl
same_walk [] (d' ∷ ds') n at st e h = absurd (omega arith)
same_walk (d ∷ ds) [] n at st e h = absurd (omega arith)
same_walk (d ∷ ds) (d' ∷ ds') (suc n) at st e h =
    same_walk ds ds' n (at + 1) st (omega arith)
    (λ i p u. h (suc i) (omega arith) (λ w. u (subst (λ (j : ℕ). Unread (walk ds n (at + 1) st) j) (omega arith) w)))
same_walk (d ∷ ds) (d' ∷ ds') zero at st e h =
    same_here d ds d' ds' at st (omega arith) (λ i. h i (omega arith)) (λ n a s q. same_walk ds ds' n a s (omega arith) q)

-- Two batches of one length that agree on all but unread dwords of the first have one reading.
pub same_reading : (target : Target) (b b' : List ℕ) → length b ≡ length b' →
    ((i : ℕ) → (Unread (reading_of target b) i → ⊥) → get_or b i 0 ≡ get_or b' i 0) → reading_of target b ≡ reading_of target b'
same_reading target b b' e h =
    let st = state_of target [] in
    reading_walk target b
    ∙ same_walk b b' 0 0 st e
    (λ i p u. h i (λ w. u (subst (λ (r : Reading). Unread r (0 + i)) (reading_walk target b) (subst (Unread (reading_of target b)) (sym (zero-add i)) w))))
    ∙ sym (reading_walk target b')

-- One decision goes by the length and the reading alone, if what is given back on acceptance does.
pub same_decision : {A : Type 0} (refused : ℕ → ℕ → A) (accepted : Reading → ℕ → ℕ → A) (target : Target) (room : ℕ) (b b' : List ℕ) → length b ≡ length b' → reading_of target b ≡ reading_of target b'
    → decided refused (accepted (reading_of target b)) target room b ≡ decided refused (accepted (reading_of target b')) target room b'
unfolding decided
same_decision refused accepted target room b b' e q = simp (e, q)
