-- What a call shows, over plain values. Assumes nothing.
use mathlib.Core.Path.{◌≡◌, refl, sym, ap, ap₂, subst, ◌∙◌}
use mathlib.Core.Bool.{Bool, true, false, cond, ◌&&◌}
use Prim.Native.Nat.{ℕ, ◌+◌, ◌-◌, ◌*◌, ◌/◌, ◌<◌, ◌≤◌}
use native.Mathlib.Omega.{arith}
use mathlib.Core.List.{List, [], ◌∷◌, append-nil}
use lib.ListN.{length, get_or, take}
use lib.Seq.{length-take-le, take_all}
use lib.Dec.{ltb, leb, eqb}
use borrow.Author.Tests.{lt-ltb, le-ltb, ltb-true, ltb-false, leb-true, eq-eqb, ne_eqb, eqb-true}
use Rattle.laws.proofs.Choices.{by_test, and_left, and_right}
use Rattle.chips.specs.declared.Target.{Target}
use Rattle.chips.specs.Chips.{target_of, named_by}
use Rattle.chips.specs.declared.Chip.{Chip}
use Rattle.std.specs.Prelude.{Result, Ok, Err}
use Rattle.chips.specs.declared.Refusal.{Refusal}
use Rattle.chips.proofs.Chips.{chip_unknown, chip_known}
use Rattle.batch.specs.declared.Answer.{Answer}
use Rattle.batch.specs.Answers.{refused_answer, accepted_answer}
use Rattle.progress.specs.declared.Progress.{Progress}
use Rattle.progress.specs.Steps.{kind_in, total_in, Stage, stage, stage_after, stop_by}
use Rattle.progress.specs.Parts.{gathered_in, dwords_left}
use Rattle.progress.specs.Sound.{Sound}
use Rattle.progress.proofs.Gathers.{gathered_all, gathered_in_lem, gather_over}
use Rattle.progress.proofs.Runs.{held, run, run_held}
use Rattle.progress.proofs.Stages.{stage_same}
use Rattle.chunks.specs.Turns.{Ready}
use Rattle.chunks.proofs.Turns.{left_short}
use Rattle.command.specs.declared.State.{State}
use Rattle.command.specs.Kinds.{total_of, own_dwords}
use Rattle.feed.specs.declared.Order.{Order}
use Rattle.feed.specs.declared.Carried.{Carried}
use Rattle.feed.specs.declared.Fed.{Fed}
use Rattle.feed.specs.Feeding.{state_by, order_by, resumed, carried_by, taken, Left, left, left_by, chunk_taken, refused_by, after_chunk, answer_at, is_stop, read_of, goes_on, usable, gives, answered, fed_of, late_fed, result_of, feed_of}
use Rattle.feed.specs.Counting.{read_count, dwords_after, InInlineData, passed_over}
use Rattle.feed.proofs.Counting.{read_few, read_take, take_chunk_lem}

-- the carried state and the reading
pub resume_is : (target : Target) (c : Carried) (st : State) → st ≡ state_by target c.order
    → record { st = st; own = c.own; place = c.place; got = c.got; stop = c.stop } ≡ resumed target c
resume_is target c st e = ap (λ (x : State). record { st = x; own = c.own; place = c.place; got = c.got; stop = c.stop }) e

pub carry_is : (n : ℕ) (p : Progress) (o : Order) → o ≡ order_by p.st
    → record { answered = 0; dwords = n; stop = p.stop; place = p.place; got = p.got; own = p.own; order = o } ≡ carried_by n p
carry_is n p o e = ap (λ (x : Order). record { answered = 0; dwords = n; stop = p.stop; place = p.place; got = p.got; own = p.own; order = x }) e

-- how far reading has come, or how it stopped
abbrev rest : Carried → Bool
rest c = cond (eqb c.stop 0) (goes_on c) (is_stop c.stop)

pub usable_answered : (c : Carried) → (c.answered ≡ 0 → ⊥) → false ≡ usable c
unfolding usable
usable_answered c n = simp (ne_eqb c.answered 0 n)

-- what a carried state that can be gone on from keeps to
module _ (c : Carried) (u : usable c ≡ true) where
  abbrev one : Bool
  one = eqb c.answered 0

  abbrev two : Bool
  two = leb c.dwords 16385

  first_two : one && two ≡ true
  unfolding usable
  first_two = and_left (one && two) (rest c) u

  last_one : rest c ≡ true
  unfolding usable
  last_one = and_right (one && two) (rest c) u

  pub usable_open : c.answered ≡ 0
  usable_open = eqb-true c.answered 0 (and_left one two first_two)

  pub usable_few : c.dwords ≤ 16385
  usable_few = leb-true c.dwords 16385 (and_right one two first_two)

  pub usable_rest_on : eqb c.stop 0 ≡ false → is_stop c.stop ≡ true
  usable_rest_on e = ap (λ (t : Bool). cond t (goes_on c) (is_stop c.stop)) (sym e) ∙ last_one

  module _ (o : c.stop ≡ 0) where
    going : goes_on c ≡ true
    going = ap (λ (t : Bool). cond t (goes_on c) (is_stop c.stop)) (sym (eq-eqb c.stop 0 o)) ∙ last_one

    abbrev p : Bool
    p = leb (c.place + c.got) (read_of c.dwords)

    abbrev q : Bool
    q = leb c.order.commands c.place

    abbrev r : Bool
    r = leb c.order.objects c.place

    going_come : c.place + c.got ≤ read_of c.dwords
    going_come = leb-true _ _ (and_left p q (and_left (p && q) r going))

    going_commands : c.order.commands ≤ c.place
    going_commands = leb-true _ _ (and_right p q (and_left (p && q) r going))

    going_objects : c.order.objects ≤ c.place
    going_objects = leb-true _ _ (and_right (p && q) r going)

  pub usable_sound : (target : Target) → Sound (read_of c.dwords) (resumed target c)
  usable_sound target = record { come = going_come; commands = going_commands; objects = going_objects }

read_left : (s n m : ℕ) → n ≡ read_count s m → read_of s ≤ 16384 - n
read_left s n m e =
    by_test (ltb 16384 s)
    (λ p. let y = ltb-true 16384 s p in let z = read_few s m in let w : read_of s ≡ 16384 = simp p in omega (arith, z.1))
    (λ p. let y = ltb-false 16384 s p in let z = read_few s m in let w : read_of s ≡ s = simp p in omega (arith, z.1))

-- the part of a chunk that is read
module _ (target : Target) (c : Carried) (l : List ℕ) (n : ℕ) (en : n ≡ read_count c.dwords (length l)) (u : usable c ≡ true) where
  pub part_length : n ≤ length l
  part_length = let z = read_few c.dwords (length l) in omega (arith, z.0)

  abbrev part : List ℕ
  part = take n l

  part_count : length part ≡ n
  part_count = length-take-le n l part_length

  pub part_ready : (from : Progress) → from ≡ resumed target c → Ready part 0 from
  part_ready from ef =
      let z = read_few c.dwords (length l) in
      let y = part_count in
      let s = usable_sound c u target in
      let w = read_left c.dwords n (length l) en in
      let few : length part ≤ 16384 = omega (arith, z.1) in
      let past : read_of c.dwords ≤ 16384 - length part + 0 = omega arith in
      subst (λ (x : Progress). Ready part 0 x) (sym ef)
      (record {
        inside = omega arith;
        few = few;
        sound = record { come = λ e. let a = s.come e in omega arith; commands = s.commands; objects = s.objects };
      })

  pub part_there : n ≡ length (take n l)
  part_there = sym part_count

  pub taken_is : (from p : Progress) (r r' : List ℕ) (m : ℕ) (c' : Carried) → from ≡ resumed target c → stage p r' ≡ stage_after (stage from r) (take n l)
      → m ≡ dwords_after c.dwords (length l) → c' ≡ carried_by m p → left c' r' ≡ chunk_taken target c l r
  unfolding chunk_taken
  taken_is from p r r' m c' ef es em ec =
      ap (λ (x : Carried). left x r') ec
      ∙ ap (λ (x : ℕ). left (carried_by x p) r') em
      ∙ ap (λ (s : Stage). left_by (taken (dwords_after c.dwords (length l)) s))
      (es ∙ ap (λ (x : Progress). stage_after (stage x r) part) ef ∙ ap (stage_after (stage (resumed target c) r)) (ap (λ (x : ℕ). take x l) en ∙ read_take c.dwords l))
      ∙ sym (ap left_by (take_chunk_lem l c.dwords (stage (resumed target c) r) (usable_few c u)))

-- inline data of an OBJECT that needs more
abbrev over : Progress → ℕ → Progress
over p n = record { st = p.st; own = p.own; place = p.place; got = p.got + n; stop = p.stop }

over_all : (l r : List ℕ) (p : Progress) (m : ℕ) → p.stop ≡ 0 → 7 ≡ kind_in p.st p.own → 6 ≤ p.got → m ≡ total_of 7 (get_or p.own 0 0)
    → length l < dwords_left m p.got → stage_after (stage p r) l ≡ stage (over p (length l)) r
unfolding stage_after own_dwords
over_all [] r p m o k g e q =
    let z : p.got ≡ p.got + 0 = omega arith in
    ap (λ (n : ℕ). stage (record { st = p.st; own = p.own; place = p.place; got = n; stop = p.stop }) r) z
over_all (d ∷ ds) r p m o k g e q =
    let l = d ∷ ds in
    let n : p.got ≡ 0 → ⊥ = λ x. omega arith in
    let y : total_in p.st p.own ≡ m = ap (λ (x : ℕ). total_of x (get_or p.own 0 0)) (sym k) ∙ sym e in
    let z = left_short m p.got (length l) (omega arith) q in
    sym (stage_same p (over p (length l)) l [] refl
    (ap (λ (x : ℕ). run (record { st = p.st; own = p.own; place = p.place; got = p.got; stop = x }) l) o
    ∙ ap (run (held p.st p.place p.own p.got)) (sym (append-nil l))
    ∙ run_held p.st p.place l p.own p.got [] n (omega arith)
    ∙ ap (λ (h : List ℕ). run (held p.st p.place h (p.got + length l)) []) (all_come l n)
    ∙ ap (λ (x : ℕ). run (record { st = p.st; own = p.own; place = p.place; got = p.got + length l; stop = x }) []) (sym o)) r)
  where
    all_come : (l : List ℕ) → (p.got ≡ 0 → ⊥) → gathered_all p.st p.own p.got l ≡ p.own
    all_come l n =
        gathered_in_lem p.st l p.own p.got n ∙ ap (λ (x : ℕ). gathered_in (own_dwords x) p.own p.got l) (sym k) ∙ gather_over 6 l p.own p.got g

pub more_left : (d t g m n : ℕ) → t ≡ total_of 7 d → m ≡ dwords_left t g → n < m → n < dwords_left (total_of 7 d) g
more_left d t g m n et em q = let z : m ≡ dwords_left (total_of 7 d) g = em ∙ ap (λ (x : ℕ). dwords_left x g) et in omega arith

-- its counts stay small
pub over_small : (ch : Chip) (c : Carried) (n : ℕ) → usable c ≡ true → InInlineData ch c n → c.got + n ≤ 32768
over_small ch c n u w =
    let z = w.read in
    let y = going_come c u w.goes in
    let x : read_of c.dwords ≤ 16384 = few in
    omega arith
  where
    few : read_of c.dwords ≤ 16384
    few = by_test (ltb 16384 c.dwords) (λ e. simp e (omega arith)) (λ e. let y = ltb-false 16384 c.dwords e in simp e y)

-- the reading goes on in it, and nothing else changes
pub over_taken : (target : Target) (c : Carried) (l r : List ℕ) → usable c ≡ true → InInlineData target.chip c (length l) → (c' : Carried)
    → c' ≡ passed_over c (length l) → left c' r ≡ chunk_taken target c l r
unfolding chunk_taken
over_taken target c l r u w c' ec =
    let z = w.read in
    let all : take (16384 - c.dwords) l ≡ l = take_all (16384 - c.dwords) l (omega arith) in
    let count : dwords_after c.dwords (length l) ≡ c.dwords + length l = simp (le-ltb 16384 (c.dwords + length l) z) in
    ap (λ (x : Carried). left x r) ec
    ∙ ap (λ (a : ℕ). left (record { answered = a; dwords = c.dwords + length l; stop = c.stop; place = c.place; got = c.got + length l; own = c.own; order = c.order }) r) (usable_open c u)
    ∙ ap (λ (s : Stage). left_by (taken (c.dwords + length l) s))
    (sym (over_all l r (resumed target c) (total_of 7 (get_or c.own 0 0)) w.goes w.kind w.inline refl w.more))
    ∙ ap₂ (λ (n : ℕ) (x : List ℕ). left_by (taken n (stage_after (stage (resumed target c) r) x))) (sym count) (sym all)
    ∙ sym (ap left_by (take_chunk_lem l c.dwords (stage (resumed target c) r) (usable_few c u)))

-- after a chunk, by what chip is named
module _ (chip capacity : ℕ) (c : Carried) (l r : List ℕ) (n : Result Chip Refusal) (en : n ≡ named_by chip) where
  pub chunk_unnamed : (c' : Carried) (f : Refusal) → n ≡ Err f → c' ≡ refused_by 18 0 c → left c' r ≡ after_chunk chip capacity c l r
  unfolding after_chunk
  chunk_unnamed c' f e ec = chip_unknown (λ m p. left (refused_by m p c) r) (λ ch. chunk_taken (target_of ch capacity) c l r) chip n en (left c' r) f e (ap (λ (x : Carried). left x r) ec)

  pub chunk_named : (ch : Chip) (s : Left) → n ≡ Ok ch → s ≡ chunk_taken (target_of ch capacity) c l r → s ≡ after_chunk chip capacity c l r
  unfolding after_chunk
  chunk_named ch s e es = chip_known (λ m p. left (refused_by m p c) r) (λ x. chunk_taken (target_of x capacity) c l r) chip n en s ch e es

pub ruleset chunk_laws = (chunk_unnamed, chunk_named)

-- the answer, by refusals' numbers as the code asks them: u is 18
module _ (c : Carried) (room u : ℕ) (eu : u ≡ 18) (a : Answer) where
  pub answer_chip : (n : ℕ) → c.stop ≡ u → n ≡ 18 → a ≡ refused_answer n 0 → a ≡ answer_at room c
  unfolding answer_at
  answer_chip n e en q = simp (eq-eqb c.stop 18 (e ∙ eu)) (q ∙ ap (λ (x : ℕ). refused_answer x 0) en)

  module _ (nu : c.stop ≡ u → ⊥) where
    not_chip : c.stop ≡ 18 → ⊥
    not_chip e = nu (e ∙ sym eu)

    pub answer_long : (n : ℕ) → 16384 < c.dwords → n ≡ 1 → a ≡ refused_answer n 0 → a ≡ answer_at room c
    unfolding answer_at
    answer_long n p en q = simp (ne_eqb c.stop 18 not_chip, lt-ltb 16384 c.dwords p) (q ∙ ap (λ (x : ℕ). refused_answer x 0) en)

    module _ (f : c.dwords ≤ 16384) where
      pub answer_used : (n : ℕ) → c.stop ≡ 0 → c.got ≡ 0 → n ≡ 2 → a ≡ refused_answer n c.place → a ≡ answer_at room c
      unfolding answer_at stop_by
      answer_used n o g en q =
          simp (ne_eqb c.stop 18 not_chip, le-ltb 16384 c.dwords f, eq-eqb c.stop 0 o, eq-eqb c.got 0 g) (q ∙ ap (λ (x : ℕ). refused_answer x c.place) en)

      pub answer_past : (n : ℕ) → c.stop ≡ 0 → (c.got ≡ 0 → ⊥) → n ≡ 5 → a ≡ refused_answer n c.place → a ≡ answer_at room c
      unfolding answer_at stop_by
      answer_past n o g en q =
          simp (ne_eqb c.stop 18 not_chip, le-ltb 16384 c.dwords f, eq-eqb c.stop 0 o, ne_eqb c.got 0 g) (q ∙ ap (λ (x : ℕ). refused_answer x c.place) en)

      pub answer_fault : (c.stop ≡ 0 → ⊥) → (c.stop ≡ 255 → ⊥) → a ≡ refused_answer c.stop c.place → a ≡ answer_at room c
      unfolding answer_at stop_by
      answer_fault o e q = simp (ne_eqb c.stop 18 not_chip, le-ltb 16384 c.dwords f, ne_eqb c.stop 0 o, ne_eqb c.stop 255 e) q

      module _ (e : c.stop ≡ 255) where
        on : c.stop ≡ 0 → ⊥
        on z = omega arith

        pub answer_room : (n : ℕ) → room / 16 < c.order.commands → n ≡ 10 → a ≡ refused_answer n c.place → a ≡ answer_at room c
        unfolding answer_at stop_by
        answer_room n p en q =
            simp (
              ne_eqb c.stop 18 not_chip,
              le-ltb 16384 c.dwords f,
              ne_eqb c.stop 0 on,
              eq-eqb c.stop 255 e,
              lt-ltb room (16 * c.order.commands) (omega arith),
            ) (q ∙ ap (λ (x : ℕ). refused_answer x c.place) en)

        pub answer_all : c.order.commands ≤ room / 16 → a ≡ accepted_answer c.order.commands c.place → a ≡ answer_at room c
        unfolding answer_at stop_by
        answer_all p q =
            simp (
              ne_eqb c.stop 18 not_chip,
              le-ltb 16384 c.dwords f,
              ne_eqb c.stop 0 on,
              eq-eqb c.stop 255 e,
              le-ltb room (16 * c.order.commands) (omega arith),
            ) q

-- what a call says
pub say_last : (last : Bool) (room : ℕ) (c k : Carried) (a : Answer) → last ≡ true → k ≡ answered c → a ≡ answer_at room c → gives k a ≡ fed_of last room c
say_last last room c k a e ek ea = ap₂ gives ek ea ∙ sym (ap (λ (t : Bool). fed_of t room c) e)

pub say_more : (last : Bool) (room : ℕ) (c : Carried) (a : Answer) → last ≡ false → a ≡ accepted_answer 0 0 → record { carried = c; more = 1; answer = a } ≡ fed_of last room c
say_more last room c a e ea = ap (λ (x : Answer). record { carried = c; more = 1; answer = x }) ea ∙ sym (ap (λ (t : Bool). fed_of t room c) e)

pub ruleset says = (say_last, say_more)

pub late_is : (c : Carried) (a : Answer) → a ≡ refused_answer 19 0 → record { carried = c; more = 0; answer = a } ≡ late_fed c
late_is c a e = ap (gives c) e

-- a call
module _ (chip capacity : ℕ) (c : Carried) (l : List ℕ) (last : Bool) (r : List ℕ) (u : Bool) (eu : u ≡ usable c) where
  pub goes_usable : u ≡ true → usable c ≡ true
  goes_usable e = sym eu ∙ e

  pub feed_taken : (c' : Carried) (r' : List ℕ) (f : Fed) → u ≡ true → length r' ≡ length r → left c' r' ≡ after_chunk chip capacity c l r
      → f ≡ fed_of last (length r') c' → result_of f r' ≡ feed_of chip capacity c l last r
  unfolding feed_of
  feed_taken c' r' f e z es ef =
      simp (sym eu ∙ e)
      (ap (λ (x : Fed). result_of x r') (ef ∙ ap (λ (n : ℕ). fed_of last n c') z)
      ∙ ap (λ (x : Left). result_of (fed_of last (length r) x.carried) x.records) es)

  pub feed_late : (f : Fed) → u ≡ false → f ≡ late_fed c → result_of f r ≡ feed_of chip capacity c l last r
  unfolding feed_of
  feed_late f e ef = simp (sym eu ∙ e) (ap (λ (x : Fed). result_of x r) ef)
