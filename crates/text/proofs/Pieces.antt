-- Pieces of text, one after the other. Assumes nothing.
use mathlib.Core.Path.{◌≡◌, refl, sym, ap, ap₂, ◌∙◌}
use mathlib.Core.List.{List, [], ◌++◌, append_assoc}
use Prim.Native.Nat.{ℕ, ◌+◌, ◌≤◌}
use native.Mathlib.Nat.{add_assoc}
use native.Mathlib.Omega.{arith}
use lib.ListN.{length, take, drop, length-append}
use lib.Seq.{paste, paste-zero, take-paste, drop-paste, take-length, drop-drop}
use Rattle.text.specs.declared.Page.{Page}
use Rattle.text.specs.Writing.{over, Wrote}

-- nothing is written yet
pub none : (p : Page) → Wrote p [] p
none p = record { bytes = paste-zero p.text.now p.at []; next = omega arith; long = refl; same = refl }

-- a piece and then a piece are one piece
chain : (o a b : List ℕ) (i : ℕ) → i ≤ length o → over (over o i a) (i + length a) b ≡ over o i (a ++ b)
chain o a b i h =
    let w : List ℕ = over o i a in
    let v : over o i a ≡ paste o i a (length a) = simp take-length in
    let t : take (i + length a) w ≡ take i o ++ a = ap (take (i + length a)) v ∙ take-paste o i a (length a) h (omega arith) ∙ ap (λ (l : List ℕ). take i o ++ l) (take-length a) in
    let d : drop (i + length a) w ≡ drop (i + length a) o = ap (drop (i + length a)) v ∙ drop-paste o i a (length a) h (omega arith) in
    let e : drop (i + length a + length b) w ≡ drop (i + length (a ++ b)) o =
    sym (drop-drop (length b) (i + length a) w) ∙ ap (drop (length b)) d ∙ drop-drop (length b) (i + length a) o
    ∙ ap (λ (k : ℕ). drop k o) (add_assoc i (length a) (length b) ∙ ap (λ (k : ℕ). i + k) (sym (length-append a b))) in
    ap₂ (λ (p q : List ℕ). (p ++ b) ++ q) t e ∙ ap (λ (l : List ℕ). l ++ drop (i + length (a ++ b)) o) (append_assoc (take i o) a b)

pub then : {p q r : Page} {a b : List ℕ} → p.at ≤ length p.text.now → Wrote p a q → Wrote q b r → Wrote p (a ++ b) r
then {p} {q} {r} {a} {b} h u v = record {
  bytes = v.bytes ∙ ap₂ (λ (l : List ℕ) (x : ℕ). over l x b) u.bytes u.next ∙ chain p.text.now a b p.at h;
  next = v.next ∙ ap (λ (x : ℕ). x + length b) u.next ∙ add_assoc p.at (length a) (length b) ∙ ap (λ (x : ℕ). p.at + x) (sym (length-append a b));
  long = v.long ∙ u.long;
  same = v.same ∙ u.same;
}

-- a piece by another name
pub known_as : {p q : Page} {a b : List ℕ} → a ≡ b → Wrote p a q → Wrote p b q
known_as e w = rw e at w
