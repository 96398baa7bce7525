-- What commands set, one at a time, is what their list says. Assumes nothing.
use mathlib.Core.Path.{◌≡◌, refl, sym, ap, ◌∙◌}
use mathlib.Core.Bool.{Bool, true, false, cond, ◌||◌}
use Prim.Native.Nat.{ℕ, ◌+◌}
use native.Mathlib.Numerals.{add-one}
use mathlib.Core.List.{List, [], ◌∷◌, ◌++◌}
use lib.ListN.{get_or}
use lib.Dec.{leb, eqb}
use borrow.Author.Tests.{eqb-true, ne_eqb}
use Rattle.laws.proofs.Choices.{not_both}
use Rattle.chips.specs.declared.Target.{Target}
use Rattle.command.specs.declared.State.{State}
use Rattle.command.specs.Order.{Command, among, since, flag, is_set, stands_since, earlier_vfe, media_kinds, full_flush, either_flush, object_kinds, media_since_flush, media_since_either, object_since_flush, NoStateFlush, count_loaded, state_in_force, vfe_in_force, object_count, state_of, StateTells, with_media, state_flushed, standing_after, state_after}

flag_since : (kinds last : List ℕ) (k : ℕ) (t : Bool) → flag (since false true kinds last k t) ≡ since 0 1 kinds last k (flag t)
flag_since kinds last k t = go (among k last) (among k kinds)
  where
    go : (a b : Bool) → flag (cond a false (cond b true t)) ≡ cond a 0 (cond b 1 (flag t))
    go true b = refl
    go false true = refl
    go false false = refl

-- of one of two lists of dwords, by a test
dword_of : (t : Bool) (h h' : List ℕ) (i : ℕ) → get_or (cond t h h') i 0 ≡ cond t (get_or h i 0) (get_or h' i 0)
dword_of true h h' i = refl
dword_of false h h' i = refl

among_more : (k : ℕ) (xs more : List ℕ) → among k xs ≡ true → among k (xs ++ more) ≡ true
among_more k [] more e = absurd (not_both false e refl)
among_more k (x ∷ xs) more e = go (eqb k x) (among_more k xs more) e
  where
    go : (t : Bool) → (among k xs ≡ true → among k (xs ++ more) ≡ true) → t || among k xs ≡ true → t || among k (xs ++ more) ≡ true
    go true ih e = refl
    go false ih e = ih e

-- where nothing stands since the last of some kinds, nothing stands since the last of those and more
pub fewer_stand : (kinds last more : List ℕ) (cs : List Command) → stands_since kinds last cs ≡ false → stands_since kinds (last ++ more) cs ≡ false
unfolding stands_since
fewer_stand kinds last more [] e = refl
fewer_stand kinds last more (c ∷ cs) e =
    go (among c.kind last) (among c.kind (last ++ more)) (among c.kind kinds) (among_more c.kind last more) (fewer_stand kinds last more cs) e
  where
    go : (a a' b : Bool) → (a ≡ true → a' ≡ true) → (stands_since kinds last cs ≡ false → stands_since kinds (last ++ more) cs ≡ false)
        → cond a false (cond b true (stands_since kinds last cs)) ≡ false → cond a' false (cond b true (stands_since kinds (last ++ more) cs)) ≡ false
    go a true b p ih e = refl
    go true false b p ih e = absurd (not_both false (p refl) refl)
    go false false true p ih e = absurd (not_both true refl e)
    go false false false p ih e = ih e

-- .. and nothing of fewer kinds: where a kind is one of others, none of it stands where none of those does
pub none_stands : (k : ℕ) (kinds last : List ℕ) (cs : List Command) → among k kinds ≡ true → stands_since kinds last cs ≡ false
    → stands_since (k ∷ []) last cs ≡ false
unfolding stands_since
none_stands k kinds last [] m e = refl
none_stands k kinds last (c ∷ cs) m e =
    go (among c.kind last) (eqb c.kind k) (among c.kind kinds) (λ q. ap (λ (x : ℕ). among x kinds) (eqb-true c.kind k q) ∙ m) (none_stands k kinds last cs m) e
  where
    go : (a b b' : Bool) → (b ≡ true → b' ≡ true) → (stands_since kinds last cs ≡ false → stands_since (k ∷ []) last cs ≡ false)
        → cond a false (cond b' true (stands_since kinds last cs)) ≡ false → cond a false (cond (b || false) true (stands_since (k ∷ []) last cs)) ≡ false
    go true b b' p ih e = refl
    go false b true p ih e = absurd (not_both true refl e)
    go false true false p ih e = absurd (not_both false (p refl) refl)
    go false false false p ih e = ih e

-- where no state flush stands, either flush is an MI_FLUSH
pub no_state_flush : (cs : List Command) → NoStateFlush cs → media_since_either cs ≡ media_since_flush cs
unfolding stands_since
no_state_flush [] n = refl
no_state_flush (c ∷ cs) n = simp (ne_eqb c.kind 6 n.0, no_state_flush cs n.1)

-- What stands, as one number: three flags of which each says those before it.
pub record Nested (full either object : Bool) : Type 0 where
  pub full_first : full ≡ false → either ≡ false
  pub either_first : either ≡ false → object ≡ false

nested : (cs : List Command) → Nested (media_since_flush cs) (media_since_either cs) (object_since_flush cs)
nested cs =
    record {
      full_first = fewer_stand media_kinds full_flush (6 ∷ []) cs;
      either_first = none_stands 7 media_kinds either_flush cs refl;
    }

-- so there are four cases
by_nested : (P : Bool → Bool → Bool → Type 0) (a b o : Bool) → Nested a b o → P false false false → P true false false → P true true false → P true true true → P a b o
by_nested P false false false n p q r s = p
by_nested P false false true n p q r s = absurd (not_both true refl (n.either_first refl))
by_nested P false true o n p q r s = absurd (not_both true refl (n.full_first refl))
by_nested P true false false n p q r s = q
by_nested P true false true n p q r s = absurd (not_both true refl (n.either_first refl))
by_nested P true true false n p q r s = r
by_nested P true true true n p q r s = s

-- a flag tells what it was made of
pub set_flag : (t : Bool) → is_set (flag t) ≡ t
set_flag true = refl
set_flag false = refl

-- LAW
pub state_tells : (target : Target) (cs : List Command) → StateTells target cs
unfolding state_of
state_tells target cs =
    record {
      vfe = set_flag (earlier_vfe cs);
      count = refl;
      media = by_nested (λ (a b o : Bool). leb 1 (flag a + flag b + flag o) ≡ a) _ _ _ (nested cs) refl refl refl refl;
      either = by_nested (λ (a b o : Bool). leb 2 (flag a + flag b + flag o) ≡ b) _ _ _ (nested cs) refl refl refl refl;
      object = by_nested (λ (a b o : Bool). leb 3 (flag a + flag b + flag o) ≡ o) _ _ _ (nested cs) refl refl refl refl;
      curbe = refl;
    }

-- one command more: whether it is an MI_FLUSH, a state flush, an OBJECT, one of the kinds
module _ (a b o : Bool) (n : Nested a b o) where
  abbrev so_far : ℕ
  so_far = flag a + flag b + flag o

  one_of_kinds : (media : Bool) → flag (cond media true a) + flag (cond media true b) + flag o ≡ cond media (with_media so_far) so_far
  one_of_kinds true = by_nested (λ (x y z : Bool). 1 + 1 + flag z ≡ with_media (flag x + flag y + flag z)) a b o n refl refl refl refl
  one_of_kinds false = refl

  one_more_lem : (flush state object media : Bool) → (state ≡ true → media ≡ false) → (object ≡ true → media ≡ true)
      → flag (cond (flush || false) false (cond media true a)) + flag (cond (flush || (state || false)) false (cond media true b))
      + flag (cond (flush || (state || false)) false (cond (object || false) true o))
      ≡ cond flush 0 (cond state (state_flushed so_far) (cond object 3 (cond media (with_media so_far) so_far)))
  one_more_lem true state object media p q = refl
  one_more_lem false true object true p q = absurd (not_both true refl (p refl))
  one_more_lem false true object false p q = by_nested (λ (x y z : Bool). flag x + 0 + 0 ≡ state_flushed (flag x + flag y + flag z)) a b o n refl refl refl refl
  one_more_lem false false true true p q = refl
  one_more_lem false false true false p q = absurd (not_both false (q refl) refl)
  one_more_lem false false false media p q = one_of_kinds media

standing_after_lem : (k : ℕ) (a b o : Bool) → Nested a b o
    → flag (since false true media_kinds full_flush k a) + flag (since false true media_kinds either_flush k b) + flag (since false true object_kinds either_flush k o)
    ≡ standing_after k (flag a + flag b + flag o)
standing_after_lem k a b o n =
    one_more_lem a b o n (eqb k 1) (eqb k 6) (eqb k 7) (among k media_kinds)
    (λ e. ap (λ (x : ℕ). among x media_kinds) (eqb-true k 6 e)) (λ e. ap (λ (x : ℕ). among x media_kinds) (eqb-true k 7 e))

pub state_after_lem : (target : Target) (c : Command) (cs : List Command) → state_of target (c ∷ cs) ≡ state_after c.kind c.head (state_of target cs)
unfolding state_of state_after stands_since count_loaded state_in_force vfe_in_force object_count
state_after_lem target c cs = simp (add-one, flag_since (3 ∷ []) [] c.kind (earlier_vfe cs), dword_of, standing_after_lem c.kind _ _ _ (nested cs))

pub after_kind : (k n : ℕ) (h : List ℕ) (st r : State) → k ≡ n → r ≡ state_after n h st → r ≡ state_after k h st
after_kind k n h st r p e = e ∙ ap (λ (x : ℕ). state_after x h st) (sym p)

-- chip and capacity are what they were
pub state_chip : (target : Target) (cs : List Command) → (state_of target cs).chip ≡ target.chip
unfolding state_of
state_chip target cs = refl

pub state_capacity : (target : Target) (cs : List Command) → (state_of target cs).capacity ≡ target.capacity
unfolding state_of
state_capacity target cs = refl

module _ (k : ℕ) (h : List ℕ) (st : State) where
  pub after_chip : (state_after k h st).chip ≡ st.chip
  unfolding state_after
  after_chip = refl

  pub after_commands : (state_after k h st).commands ≡ st.commands + 1
  unfolding state_after
  after_commands = refl

  pub after_objects : (state_after k h st).objects ≡ cond (eqb k 7) (st.objects + 1) st.objects
  unfolding state_after
  after_objects = refl
