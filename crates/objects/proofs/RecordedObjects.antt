-- The records hold the objects of the batch. Assumes nothing.
use mathlib.Core.Path.{◌≡◌, refl, sym, ap, ◌∙◌}
use mathlib.Core.Bool.{Bool, true, false, cond}
use mathlib.Core.List.{List, [], ◌∷◌}
use Prim.Native.Nat.{ℕ, zero, suc, ◌+◌, ◌*◌, ◌<◌, ◌≤◌}
use native.Mathlib.Numerals.{add-one}
use native.Mathlib.Omega.{arith}
use lib.Dec.{eqb}
use lib.ListN.{length, get_or, set, drop, drop_of_length-le}
use lib.Seq.{drop-cons}
use borrow.Author.Tests.{eqb-true}
use Rattle.chips.specs.declared.Target.{Target}
use Rattle.command.specs.Order.{Command, object_count, state_of}
use Rattle.command.specs.Fields as fields
use Rattle.command.specs.Fields.{dword}
use Rattle.record.specs.Record.{record_of}
use Rattle.reading.specs.Reading.{Stop, reading_of}
use Rattle.reading.specs.EndToEnd.{EndToEnd, used_up, faulty, last, next}
use Rattle.reading.proofs.EndToEnd.{reading_laid}
use Rattle.reading.specs.Vfes.{no_command, command_number, UnderVfe}
use Rattle.records.specs.Records.{written, recorded}
use Rattle.records.proofs.Slots.{word_at_lem}
use Rattle.objects.specs.Objects.{Object, object_of, objects_of}
use Rattle.objects.specs.Recorded.{word_at, vfe_word_at, is_object, object_recorded, recorded_from, objects_recorded, Numbered}

-- there are as many objects as the first pass counts
pub objects_count : (all cs : List Command) → object_count cs ≡ length (objects_of all cs)
unfolding object_count objects_of
objects_count all [] = refl
objects_count all (c ∷ cs) = go (eqb c.kind 7) _ (objects_count all cs)
  where
    go : (t : Bool) (o : Object) → object_count cs ≡ length (objects_of all cs)
        → cond t (object_count cs + 1) (object_count cs) ≡ length (cond t (o ∷ objects_of all cs) (objects_of all cs))
    go true o e = add-one (object_count cs) ∙ ap suc e
    go false o e = e

-- commands with the numbers of their objects, the first of which is m
abbrev Counted : ℕ → List Command → Type 0
Counted m [] = Unit
Counted m (c ∷ cs) = (c.object ≡ m) × Counted (cond (eqb c.kind 7) (m + 1) m) cs

-- reading counts them
counted : (target : Target) (b : List ℕ) {cs : List Command} {at : ℕ} {xs : List Command} {stop : Stop} → EndToEnd target b cs at xs stop → Counted (object_count cs) xs
unfolding state_of object_count
counted target b used_up = tt
counted target b (faulty p v) = tt
counted target b (last p s q) = (ap (λ (c : Command). c.object) s.is, tt)
counted target b (next p s n r) = (ap (λ (c : Command). c.object) s.is, counted target b r)

-- d holds the records of the commands `all`
module _ (all : List Command) (d : List ℕ) (held : (i f : ℕ) → i < length all → f < 16 → word_at d i f ≡ get_or (record_of (command_number all i)) f 0) where
  kind_is : (i : ℕ) → i < length all → is_object d i ≡ eqb (command_number all i).kind 7
  unfolding is_object record_of
  kind_is i h = ap (λ (k : ℕ). eqb k 7) (held i 0 h (omega arith))

  word : (i : ℕ) → i < length all → (f v : ℕ) → f < 16 → get_or (record_of (command_number all i)) f 0 ≡ v → word_at d i f ≡ v
  word i h f v q r = held i f h q ∙ r

  -- where the commands from record s on are numbered from m, each has the number of the objects before it
  numbers : (cs : List Command) (s m : ℕ) → ((j : ℕ) → j < length cs → is_object d (s + j) ≡ eqb (command_number cs j).kind 7) → Counted m cs
      → (i : ℕ) → i < length cs → (command_number cs i).object ≡ m + length (recorded_from d s i)
  unfolding recorded_from
  numbers [] s m k u i h = absurd (omega arith)
  numbers (c ∷ cs) s m k u zero h = let z : m ≡ m + 0 = omega arith in u.0 ∙ z
  numbers (c ∷ cs) s m k u (suc i) h =
      go (eqb c.kind 7) (ap (is_object d) (let z : s ≡ s + 0 = omega arith in z) ∙ k 0 (omega arith))
      (numbers cs (s + 1) (cond (eqb c.kind 7) (m + 1) m)
      (λ j l. ap (is_object d) (let z : s + 1 + j ≡ s + suc j = omega arith in z) ∙ k (suc j) (omega arith)) u.1 i (omega arith))
    where
      go : (t : Bool) → is_object d s ≡ t → (command_number cs i).object ≡ cond t (m + 1) m + length (recorded_from d (s + 1) i)
          → (command_number cs i).object ≡ m + length (cond (is_object d s) (object_recorded d s ∷ recorded_from d (s + 1) i) (recorded_from d (s + 1) i))
      go true e q = simp e (let z : m + 1 + length (recorded_from d (s + 1) i) ≡ m + suc (length (recorded_from d (s + 1) i)) = omega arith in q ∙ z)
      go false e q = simp e q

  numbered : Counted 0 all → Numbered d (length all)
  unfolding record_of
  numbered u r h e =
      let k : (command_number all r).kind ≡ 7 = eqb-true (command_number all r).kind 7 (sym (kind_is r h) ∙ e) in
      let z : 0 + length (recorded_from d 0 r) ≡ length (recorded_from d 0 r) = omega arith in
      word r h 15 (command_number all r).object (omega arith) (simp k)
      ∙ numbers all 0 0 (λ j l. ap (is_object d) (let y : 0 + j ≡ j = omega arith in y) ∙ kind_is j l) u r h
      ∙ z

  module _ (u : UnderVfe all) where
    module _ (i : ℕ) (h : i < length all) (e : (command_number all i).kind ≡ 7) where
      abbrev c : Command
      c = command_number all i

      vfe_number : word_at d i 14 ≡ c.vfe
      unfolding record_of
      vfe_number = word i h 14 c.vfe (omega arith) (simp e)

      vfe_word : (f v : ℕ) → f < 16 → get_or (record_of (command_number all c.vfe)) f 0 ≡ v → vfe_word_at d i f ≡ v
      unfolding vfe_word_at
      vfe_word f v q r = let b = (u i h e).before in ap (λ (x : ℕ). word_at d x f) vfe_number ∙ held c.vfe f (omega arith) q ∙ r

      object_is : object_recorded d i ≡ object_of c.head (command_number all c.vfe).head
      unfolding object_recorded record_of
      object_is =
          let z = (u i h e).vfe in
          simp (
            word i h 7 (fields.position_x c.head) (omega arith) (simp e),
            word i h 8 (fields.position_y c.head) (omega arith) (simp e),
            word i h 9 (fields.colour c.head) (omega arith) (simp e),
            word i h 4 (fields.scoreboard_use c.head) (omega arith) (simp e),
            word i h 10 (fields.scoreboard_mask c.head) (omega arith) (simp e),
            vfe_word 8 (dword (command_number all c.vfe).head 5) (omega arith) (simp z),
            vfe_word 9 (dword (command_number all c.vfe).head 6) (omega arith) (simp z),
            vfe_word 10 (dword (command_number all c.vfe).head 7) (omega arith) (simp z),
          )

    from : (m i : ℕ) → i + m ≡ length all → recorded_from d i m ≡ objects_of all (drop i all)
    unfolding recorded_from objects_of
    from zero i e = sym (ap (objects_of all) (drop_of_length-le all (let z : length all ≤ i = omega arith in z)))
    from (suc m) i e =
        let h : i < length all = omega arith in
        go (eqb (command_number all i).kind 7) refl h (from m (i + 1) (omega arith) ∙ ap (λ (x : ℕ). objects_of all (drop x all)) (add-one i))
        ∙ ap (objects_of all) (sym (drop-cons all i no_command h))
      where
        go : (t : Bool) → eqb (command_number all i).kind 7 ≡ t → (h : i < length all) → recorded_from d (i + 1) m ≡ objects_of all (drop (suc i) all)
            → cond (is_object d i) (object_recorded d i ∷ recorded_from d (i + 1) m) (recorded_from d (i + 1) m) ≡ objects_of all (command_number all i ∷ drop (suc i) all)
        go true q h ih = simp (kind_is i h ∙ q, q, object_is i h (eqb-true (command_number all i).kind 7 q), ih)
        go false q h ih = simp (kind_is i h ∙ q, q) ih

-- LAW: the objects out of the records are those of the commands
pub recorded_objects : (cs : List Command) (r : List ℕ) → UnderVfe cs → 16 * length cs ≤ length r → objects_recorded (written set cs 0 r) (length cs) ≡ objects_of cs cs
unfolding word_at
recorded_objects cs r u h = from cs (written set cs 0 r) (λ i f p q. word_at_lem cs r i f no_command h p q) u (length cs) 0 (omega arith)

-- LAW: every OBJECT's record has the object's number
pub recorded_numbers : (target : Target) (b r : List ℕ) → 16 * length (reading_of target b).passed ≤ length r
    → Numbered (recorded set target b r) (length (reading_of target b).passed)
unfolding word_at object_count
recorded_numbers target b r h =
    let cs = (reading_of target b).passed in
    numbered cs (written set cs 0 r) (λ i f p q. word_at_lem cs r i f no_command h p q) (counted target b (reading_laid target b))
