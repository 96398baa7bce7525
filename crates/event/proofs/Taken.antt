-- The head of an event, from what the code reads. Assumes nothing.
use mathlib.Core.Path.{◌≡◌, sym, ap, ◌∙◌}
use mathlib.Core.List.{List}
use Prim.Native.Nat.{ℕ, ◌/◌}
use lib.Bits.{bit_and}
use Rattle.laws.proofs.BitRanges.{taken, taken_low}
use Rattle.event.specs.declared.Head.{Head}
use Rattle.event.specs.Head.{byte_at, half_at, padding_of, head_of}

pub made : (ev : List ℕ) {flags kind sender register target code key place padding : ℕ}
    → flags ≡ byte_at ev 2 → kind ≡ byte_at ev 0 → sender ≡ byte_at ev 1 → register ≡ byte_at ev 3 → target ≡ byte_at ev 4 → code ≡ byte_at ev 5
    → key ≡ half_at ev 6 → place ≡ half_at ev 8 → padding ≡ padding_of ev
    → ◌≡◌ {A = Head} (record {
      kind = kind;
      sender = sender;
      ack = bit_and flags 1;
      notify = bit_and (flags / 2) 3;
      ending = bit_and (flags / 8) 1;
      stray = bit_and (flags / 16) 15;
      register = register;
      target = target;
      code = code;
      key = key;
      place = place;
      padding = padding;
    })
    (head_of ev)
unfolding head_of
made ev flags kind sender register target code key place padding = λ j.
    record {
      kind = kind j;
      sender = sender j;
      ack = (ap (λ (x : ℕ). bit_and x 1) flags ∙ sym (taken_low 0 (byte_at ev 2))) j;
      notify = (ap (λ (x : ℕ). bit_and (x / 2) 3) flags ∙ sym (taken 2 1 (byte_at ev 2))) j;
      ending = (ap (λ (x : ℕ). bit_and (x / 8) 1) flags ∙ sym (taken 3 3 (byte_at ev 2))) j;
      stray = (ap (λ (x : ℕ). bit_and (x / 16) 15) flags ∙ sym (taken 7 4 (byte_at ev 2))) j;
      register = register j;
      target = target j;
      code = code j;
      key = key j;
      place = place j;
      padding = padding j;
    }
