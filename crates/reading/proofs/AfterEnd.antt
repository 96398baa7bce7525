-- "Dwords after END are not read." Assumes nothing.
use mathlib.Core.Path.{◌≡◌, sym, ap, subst, ◌∙◌}
use mathlib.Core.Logic.{inr}
use mathlib.Core.List.{List, [], ◌++◌}
use Prim.Native.Nat.{ℕ, ◌*◌, ◌<◌, ◌≤◌}
use native.Mathlib.Omega.{arith}
use lib.ListN.{length, get_or, take, get_or-append}
use lib.Seq.{get_or-take, length-take-le}
use Rattle.chips.specs.declared.Target.{Target}
use Rattle.words.specs.Dwords.{dwords_of}
use Rattle.words.specs.Lengths.{length_dwords}
use Rattle.command.specs.Order.{Command}
use Rattle.reading.specs.Reading.{Stop, ended, Reading, reading_of}
use Rattle.reading.specs.EndToEnd.{EndToEnd, last, next}
use Rattle.reading.specs.Unread.{AfterEnd, Unread}
use Rattle.reading.proofs.EndToEnd.{laid_reading}
use Rattle.reading.proofs.Same.{same_reading}
use Rattle.reading.proofs.Isolation.{dwords_count, dword_same}

-- END stands inside the batch
within : (target : Target) (b : List ℕ) {cs : List Command} {at : ℕ} {xs : List Command} {d : ℕ} → EndToEnd target b cs at xs (ended d) → d ≤ length b
within target b (last p s q) = omega arith
within target b (next p s n r) = within target b r

-- a list of one length that starts with the first d of another
others_before : (l others : List ℕ) (d i : ℕ) → d ≤ length l → i < d → get_or l i 0 ≡ get_or (take d l ++ others) i 0
others_before l others d i h p =
    let z = length-take-le d l h in
    sym (get_or-append (take d l) others 0 i (omega arith) ∙ get_or-take d l i 0 p)

-- the same dwords up to END, and one length: one reading
module _ (target : Target) (b b' : List ℕ) (cs : List Command) (d : ℕ) (laid : EndToEnd target b [] 0 cs (ended d)) (e : length b ≡ length b')
    (same : (i : ℕ) → i < d → get_or b i 0 ≡ get_or b' i 0) where
  ends : (reading_of target b).stop ≡ ended d
  ends = ap (λ (r : Reading). r.stop) (laid_reading target b cs (ended d) laid)

  before_end : (i : ℕ) → (Unread (reading_of target b) i → ⊥) → i < d
  before_end i u = let z : d ≤ i → ⊥ = λ p. u (inr (subst (λ (s : Stop). AfterEnd s i) (sym ends) p)) in omega arith

  one_reading : reading_of target b ≡ reading_of target b'
  one_reading = same_reading target b b' e (λ i u. same i (before_end i u))

-- LAW: any other dwords after END, the length kept, have one reading
pub after_end_lem : (target : Target) (b : List ℕ) (cs : List Command) (d : ℕ) → EndToEnd target b [] 0 cs (ended d) → (others : List ℕ)
    → length b ≡ length (take d b ++ others) → reading_of target b ≡ reading_of target (take d b ++ others)
after_end_lem target b cs d laid others e =
    one_reading target b (take d b ++ others) cs d laid e (λ i p. others_before b others d i (within target b laid) p)

-- LAW: the same over bytes
pub bytes_after_end_lem : (target : Target) (b : List ℕ) (cs : List Command) (d : ℕ) → EndToEnd target (dwords_of b) [] 0 cs (ended d) → (others : List ℕ)
    → length b ≡ length (take (4 * d) b ++ others) → reading_of target (dwords_of b) ≡ reading_of target (dwords_of (take (4 * d) b ++ others))
bytes_after_end_lem target b cs d laid others e =
    let b' = take (4 * d) b ++ others in
    let w = within target (dwords_of b) laid in
    let n = length_dwords b in
    one_reading target (dwords_of b) (dwords_of b') cs d laid (dwords_count b b' e)
    (λ i p. dword_same b b' e i (λ k q. others_before b others (4 * d) k (omega arith) (omega arith)))
