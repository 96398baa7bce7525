-- What the commands before a command have set: document 01, "Order (H where stricter than 003)"; document 02, One, of kind 8: "it is
-- ordered as kind 4 is, counting with it before a VFE (H)"; document 02, Two, "the VFE state in force" and "the last kind 1 or kind 6".
use Rattle.std.specs.Prelude.{ℕ, ◌+◌, Bool, true, false, cond, not, ◌||◌, List, [], ◌∷◌, ◌≡◌, length, leb, eqb}
use Rattle.laws.specs.BitRanges.{bits, field}
use Rattle.chips.specs.declared.Target.{Target}
use Rattle.command.specs.declared.State.{State}
use Rattle.command.specs.Fields.{dword, curbe_size, load_count}

-- A command that was passed: "A command is passed when neither it nor an earlier one is faulty, whatever 1, 10 and 17 say". Its kind, its
-- place, its total, its own dwords, and for its record the number of the VFE's record in force and of the objects before it.
pub record Command : Type 0 where
  pub kind : ℕ
  pub place : ℕ
  pub total : ℕ
  pub head : List ℕ
  pub vfe : ℕ
  pub object : ℕ

-- Below, a list holds the commands before the one that is judged, the nearest first.

abbrev pub among : ℕ → List ℕ → Bool
among k [] = false
among k (x ∷ xs) = eqb k x || among k xs

-- one command of kind k more, after what `before` says: `off` after one of the kinds in `last`, `on` after one of `kinds`
abbrev pub since : {A : Type 0} → A → A → List ℕ → List ℕ → ℕ → A → A
since off on kinds last k before = cond (among k last) off (cond (among k kinds) on before)

-- does a command of the kinds stand since the last of the kinds in `last`, or since the start?
unfoldable pub stands_since : List ℕ → List ℕ → List Command → Bool
stands_since kinds last [] = false
stands_since kinds last (c ∷ cs) = since false true kinds last c.kind (stands_since kinds last cs)

-- "need an earlier VFE"
abbrev pub earlier_vfe : List Command → Bool
earlier_vfe cs = stands_since (3 ∷ []) [] cs

-- "no command of kind 3, 4, 5 or 7 stands since the last MI_FLUSH or the start": those kinds and kind 8, and the kind of the flush
abbrev pub media_kinds : List ℕ
media_kinds = 3 ∷ 4 ∷ 5 ∷ 7 ∷ 8 ∷ []

abbrev pub full_flush : List ℕ
full_flush = 1 ∷ []

abbrev pub media_since_flush : List Command → Bool
media_since_flush cs = stands_since media_kinds full_flush cs

-- "since the last kind 1 or 6", and document 02, Two, "since the last kind 1 or kind 6": an MI_FLUSH or a state flush
abbrev pub either_flush : List ℕ
either_flush = 1 ∷ 6 ∷ []

-- document 02, Two: "no command of kind 3, 4, 5, 7 or 8 stands since the last kind 1 or kind 6"
abbrev pub media_since_either : List Command → Bool
media_since_either cs = stands_since media_kinds either_flush cs

-- "no OBJECT stands since the last kind 1 or 6"
abbrev pub object_kinds : List ℕ
object_kinds = 7 ∷ []

abbrev pub object_since_flush : List Command → Bool
object_since_flush cs = stands_since object_kinds either_flush cs

-- no state flush is among them
abbrev pub NoStateFlush : List Command → Type 0
NoStateFlush [] = Unit
NoStateFlush (c ∷ cs) = (c.kind ≡ 6 → ⊥) × NoStateFlush cs

-- "the count last loaded; a VFE keeps that count"
unfoldable pub count_loaded : List Command → ℕ
count_loaded [] = 0
count_loaded (c ∷ cs) = cond (eqb c.kind 5) (load_count c.head) (count_loaded cs)

-- document 02, Two, "the VFE state in force": the own dwords of the last VFE
unfoldable pub state_in_force : List Command → List ℕ
state_in_force [] = []
state_in_force (c ∷ cs) = cond (eqb c.kind 3) c.head (state_in_force cs)

-- the "record number of the VFE in force": how many commands stand before it
unfoldable pub vfe_in_force : List Command → ℕ
vfe_in_force [] = 0
vfe_in_force (c ∷ cs) = cond (eqb c.kind 3) (length cs) (vfe_in_force cs)

-- the number of the next object: "Numbering starts at 0"
unfoldable pub object_count : List Command → ℕ
object_count [] = 0
object_count (c ∷ cs) = cond (eqb c.kind 7) (object_count cs + 1) (object_count cs)

-- a flag is 1 where something is so, else 0
abbrev pub flag : Bool → ℕ
flag t = cond t 1 0

abbrev pub is_set : ℕ → Bool
is_set n = not (eqb n 0)

-- What stands, as one number: 1, 2 or 3 where one of the kinds stands since the last MI_FLUSH, where one stands since the last of either
-- flush, where an OBJECT does. Each implies those before it, so that the sum of the flags tells them all: `StateTells`, below.
abbrev standing_in : List Command → ℕ
standing_in cs = flag (media_since_flush cs) + flag (media_since_either cs) + flag (object_since_flush cs)

-- all of that, with what the batch is judged for
unfoldable pub state_of : Target → List Command → State
state_of target cs =
    record {
      chip = target.chip;
      capacity = target.capacity;
      earlier_vfe = flag (earlier_vfe cs);
      vfe_in_force = vfe_in_force cs;
      vfe_dword1 = dword (state_in_force cs) 1;
      vfe_dword2 = dword (state_in_force cs) 2;
      vfe_dword3 = dword (state_in_force cs) 3;
      vfe_dword4 = dword (state_in_force cs) 4;
      count_loaded = count_loaded cs;
      standing = standing_in cs;
      commands = length cs;
      objects = object_count cs;
    }

-- What a state tells of the commands before. Does one of the kinds stand since the last MI_FLUSH?
abbrev pub media_stands : State → Bool
media_stands st = leb 1 st.standing

-- since the last of either flush?
abbrev pub media_stands_either : State → Bool
media_stands_either st = leb 2 st.standing

-- does an OBJECT, since the last of either?
abbrev pub object_stands : State → Bool
object_stands st = leb 3 st.standing

-- the "CURBE size in force": that of the VFE in force, bits 15:0 of its dword 4
abbrev pub curbe_in_force : State → ℕ
curbe_in_force st = field (bits 15 0) st.vfe_dword4

-- What a state tells is what the list says: a law for every list.
pub record StateTells (target : Target) (cs : List Command) : Type 0 where
  pub vfe : is_set (state_of target cs).earlier_vfe ≡ earlier_vfe cs
  pub count : (state_of target cs).count_loaded ≡ count_loaded cs
  pub media : media_stands (state_of target cs) ≡ media_since_flush cs
  pub either : media_stands_either (state_of target cs) ≡ media_since_either cs
  pub object : object_stands (state_of target cs) ≡ object_since_flush cs
  pub curbe : curbe_in_force (state_of target cs) ≡ curbe_size (state_in_force cs)

-- The same one command at a time: what stands after a command of kind 3, 4, 5 or 8, after a state flush, after one of kind k ..
abbrev pub with_media : ℕ → ℕ
with_media n = cond (leb 2 n) n 2

abbrev pub state_flushed : ℕ → ℕ
state_flushed n = cond (leb 1 n) 1 n

abbrev pub standing_after : ℕ → ℕ → ℕ
standing_after k n =
    cond (eqb k 1) 0 (cond (eqb k 6) (state_flushed n) (cond (eqb k 7) 3 (cond (among k media_kinds) (with_media n) n)))

-- .. and all that is set after a command of kind k with own dwords h. `state_after_lem` of proofs/Order.antt shows that it is `state_of` of the
-- longer list.
unfoldable pub state_after : ℕ → List ℕ → State → State
state_after k h st =
    record {
      chip = st.chip;
      capacity = st.capacity;
      earlier_vfe = since 0 1 (3 ∷ []) [] k st.earlier_vfe;
      vfe_in_force = cond (eqb k 3) st.commands st.vfe_in_force;
      vfe_dword1 = cond (eqb k 3) (dword h 1) st.vfe_dword1;
      vfe_dword2 = cond (eqb k 3) (dword h 2) st.vfe_dword2;
      vfe_dword3 = cond (eqb k 3) (dword h 3) st.vfe_dword3;
      vfe_dword4 = cond (eqb k 3) (dword h 4) st.vfe_dword4;
      count_loaded = cond (eqb k 5) (load_count h) st.count_loaded;
      standing = standing_after k st.standing;
      commands = st.commands + 1;
      objects = cond (eqb k 7) (st.objects + 1) st.objects;
    }

-- the command of kind k at a place, with what the commands before it have set
abbrev pub command_of : ℕ → ℕ → ℕ → List ℕ → State → Command
command_of k at total h st = record { kind = k; place = at; total = total; head = h; vfe = st.vfe_in_force; object = st.objects }
