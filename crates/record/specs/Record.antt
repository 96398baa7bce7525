-- A record: document 01, "A record is 16 words: kind, place, total, then fields, then zeros."
use Rattle.std.specs.Prelude.{ℕ, zero, suc, ◌-◌, cond, List, [], ◌∷◌, eqb}
use Rattle.command.specs.Kinds.{inline_from}
use Rattle.command.specs.Order.{Command}
use Rattle.command.specs.Fields.{dword, thread_field, urb_entries, gateway_bypass, entry_size, curbe_size, load_length, load_address, load_count}
use Rattle.command.specs.Fields.{descriptor_index, children, synchronised, scoreboard_use, indirect_length, indirect_address}
use Rattle.command.specs.Fields.{position_x, position_y, colour, scoreboard_mask}

-- "VFE: thread field, entries, bypass, entry size, CURBE size, dwords 5, 6, 7"
abbrev vfe_fields : Command → List ℕ
vfe_fields c =
    thread_field c.head
    ∷ urb_entries c.head
    ∷ gateway_bypass c.head
    ∷ entry_size c.head
    ∷ curbe_size c.head
    ∷ dword c.head 5
    ∷ dword c.head 6
    ∷ dword c.head 7
    ∷ []

-- "OBJECT: index, scoreboard use, children, synchronised, X, Y, colour, mask, inline count, indirect length, indirect address, record
-- number of the VFE in force, object number"
abbrev object_fields : Command → List ℕ
object_fields c =
    descriptor_index c.head
    ∷ scoreboard_use c.head
    ∷ children c.head
    ∷ synchronised c.head
    ∷ position_x c.head
    ∷ position_y c.head
    ∷ colour c.head
    ∷ scoreboard_mask c.head
    ∷ (c.total - inline_from)
    ∷ indirect_length c.head
    ∷ indirect_address c.head
    ∷ c.vfe
    ∷ c.object
    ∷ []

-- "CURBE: length, address. Descriptor load: count (length / 32), address. State flush: dword 1." Of kind 8 document 02 says: "its record
-- holds the dwords after its header". The other kinds have none.
abbrev fields_of : Command → List ℕ
fields_of c =
    cond (eqb c.kind 3) (vfe_fields c)
    (cond (eqb c.kind 4) (load_length c.head ∷ load_address c.head ∷ [])
    (cond (eqb c.kind 5) (load_count c.head ∷ load_address c.head ∷ [])
    (cond (eqb c.kind 6) (dword c.head 1 ∷ [])
    (cond (eqb c.kind 7) (object_fields c)
    (cond (eqb c.kind 8) (dword c.head 1 ∷ [])
    [])))))

-- the first n words of a list, then zeros
abbrev pub padded : ℕ → List ℕ → List ℕ
padded zero ws = []
padded (suc n) [] = 0 ∷ padded n []
padded (suc n) (w ∷ ws) = w ∷ padded n ws

unfoldable pub record_of : Command → List ℕ
record_of c = c.kind ∷ c.place ∷ c.total ∷ padded 13 (fields_of c)
