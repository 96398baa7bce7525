-- The objects of a batch, as document 01, "Who waits for whom", speaks of them: an `Object` holds no record and no dword.
use Rattle.std.specs.Prelude.{ℕ, Bool, false, cond, List, [], ◌∷◌, map, eqb, ℤ, get_or}
use Rattle.command.specs.Fields as fields
use Rattle.command.specs.Fields.{dword}
use Rattle.command.specs.Order.{Command}
use Rattle.reading.specs.Vfes.{command_number}
use Rattle.deltas.specs.Meets.{meets_at}
use Rattle.deltas.specs.Deltas.{delta_x, delta_y}
use Rattle.deltas.specs.InPlay.{uses_scoreboard, type_of, in_play_of}

-- a delta in play: which of the eight it is, and its parts
pub record Delta : Type 0 where
  pub index : ℕ
  pub dx : ℤ
  pub dy : ℤ

pub record Object : Type 0 where
  pub x : ℕ
  pub y : ℕ
  pub colour : ℕ
  -- "An object uses a scoreboard when its own bit and its VFE's enable are both set"
  pub uses : Bool
  -- its VFE's "type (0 stalling, 1 not)"
  pub type : ℕ
  -- "the deltas in play"
  pub in_play : List Delta

-- "j's X and Y equal k's plus a delta"
abbrev pub meets : Object → Object → Delta → Bool
meets k j d = meets_at k.x k.y d.dx d.dy j.x j.y

-- delta i of a VFE with dwords 6 and 7
abbrev pub delta_at : ℕ → ℕ → ℕ → Delta
delta_at d6 d7 i = record { index = i; dx = delta_x d6 d7 i; dy = delta_y d6 d7 i }

-- the object at (x, y) with its colour, own scoreboard bit and mask, under a VFE with dwords 5, 6 and 7
unfoldable pub object_with : (x y colour own mask d5 d6 d7 : ℕ) → Object
object_with x y colour own mask d5 d6 d7 =
    record {
      x = x;
      y = y;
      colour = colour;
      uses = uses_scoreboard own d5;
      type = type_of d5;
      in_play = map (delta_at d6 d7) (in_play_of own mask d5);
    }

-- the object of an OBJECT with own dwords h, under a VFE with own dwords v
abbrev pub object_of : List ℕ → List ℕ → Object
object_of h v =
    object_with (fields.position_x h) (fields.position_y h) (fields.colour h) (fields.scoreboard_use h) (fields.scoreboard_mask h)
    (dword v 5) (dword v 6) (dword v 7)

-- The objects of a batch: one for each OBJECT of the commands passed, each with its VFE, which the command names by its record number.
-- "Numbering starts at 0": object k is the k-th of the list.
unfoldable pub objects_of : List Command → List Command → List Object
objects_of all [] = []
objects_of all (c ∷ cs) =
    cond (eqb c.kind 7) (object_of c.head (command_number all c.vfe).head ∷ objects_of all cs) (objects_of all cs)

-- what no object of a list is
abbrev pub no_object : Object
no_object = record { x = 0; y = 0; colour = 0; uses = false; type = 0; in_play = [] }

abbrev pub object_at : List Object → ℕ → Object
object_at objects k = get_or objects k no_object
