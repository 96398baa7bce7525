-- The lines of a listing, as ASCII codes: document 01, "The listing".
use Rattle.std.specs.Prelude.{ℕ, zero, suc, ◌+◌, ◌/◌, ◌%◌, cond, List, [], ◌∷◌, ◌++◌, ltb, get_or}

-- a number's decimal digits, the most significant first: the last k of them
unfoldable pub spell : ℕ → ℕ → List ℕ
spell zero n = []
spell (suc k) n = cond (ltb n 10) ((48 + n) ∷ []) (spell k (n / 10) ++ ((48 + n % 10) ∷ []))

-- a number of 64 bits has no more than 20
unfoldable pub number_of : ℕ → List ℕ
number_of n = spell 20 n

abbrev pub space : List ℕ
space = 32 ∷ []

abbrev pub newline : List ℕ
newline = 10 ∷ []

-- by kind: NOP FLU END VFE CUR IDL SFL OBJ; document 02, One: "kind 8, listed GWS"
abbrev pub names : List (List ℕ)
names =
    (78 ∷ 79 ∷ 80 ∷ [])
    ∷ (70 ∷ 76 ∷ 85 ∷ [])
    ∷ (69 ∷ 78 ∷ 68 ∷ [])
    ∷ (86 ∷ 70 ∷ 69 ∷ [])
    ∷ (67 ∷ 85 ∷ 82 ∷ [])
    ∷ (73 ∷ 68 ∷ 76 ∷ [])
    ∷ (83 ∷ 70 ∷ 76 ∷ [])
    ∷ (79 ∷ 66 ∷ 74 ∷ [])
    ∷ (71 ∷ 87 ∷ 83 ∷ [])
    ∷ []

-- a kind that is none of those has no name: `kinds_known` of reading shows that no command passed is of such a kind
unfoldable pub name_of : ℕ → List ℕ
name_of kind = get_or names kind []

-- "12 OBJ 6": place, name and total
unfoldable pub line_of : ℕ → ℕ → ℕ → List ℕ
line_of place kind total = number_of place ++ space ++ name_of kind ++ space ++ number_of total ++ newline

-- "accepted 4 19": commands and dwords read
unfoldable pub accepted_line : ℕ → ℕ → List ℕ
accepted_line commands dwords =
    (97 ∷ 99 ∷ 99 ∷ 101 ∷ 112 ∷ 116 ∷ 101 ∷ 100 ∷ 32 ∷ []) ++ number_of commands ++ space ++ number_of dwords ++ newline

-- "refused N at P"
unfoldable pub refused_line : ℕ → ℕ → List ℕ
refused_line number place =
    (114 ∷ 101 ∷ 102 ∷ 117 ∷ 115 ∷ 101 ∷ 100 ∷ 32 ∷ []) ++ number_of number ++ (32 ∷ 97 ∷ 116 ∷ 32 ∷ []) ++ number_of place ++ newline

-- "MPL 1"
abbrev pub mark_line : List ℕ
mark_line = 77 ∷ 80 ∷ 76 ∷ 32 ∷ 49 ∷ 10 ∷ []
