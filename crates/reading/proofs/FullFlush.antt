-- A batch that passed by the rule before document 02's Two passes still, and is read alike. Assumes nothing.
use mathlib.Core.Path.{◌≡◌, refl, sym, ap, subst, subst₂, ◌∙◌}
use mathlib.Core.Bool.{Bool, true, false, not, ◌&&◌, ◌||◌}
use mathlib.Core.List.{List, [], ◌∷◌}
use Prim.Native.Nat.{ℕ, ◌+◌}
use lib.ListN.{length, get_or, drop}
use Rattle.laws.proofs.Choices.{not_both}
use Rattle.chips.specs.declared.Target.{Target}
use Rattle.command.specs.Kinds.{kind_of, head_of}
use Rattle.command.specs.Order.{Command, media_since_flush, NoStateFlush, state_of, media_stands, media_stands_either}
use Rattle.command.proofs.Order.{no_state_flush, state_tells}
use Rattle.judge.specs.Refusals.{no_fault, scoreboard_only}
use Rattle.judge.proofs.FullFlush.{still_passes, passed_flushed, before_flushed, passed_before}
use Rattle.reading.specs.Reading.{Stop, ended, stopped, Whole, Reading, reading, reading_of}
use Rattle.reading.specs.EndToEnd.{command_in, verdict_in, EndToEnd, used_up, faulty}
use Rattle.reading.specs.EndToEnd as laid
use Rattle.reading.specs.FullFlush.{verdict_by_full_flush, PassedByFullFlush, last, next, FullyFlushed, NothingLost}
use Rattle.reading.proofs.EndToEnd.{stands_at, reading_laid, laid_reading}

-- one command, by both rules
module _ (target : Target) (b : List ℕ) (cs : List Command) (at : ℕ) where
  abbrev l : List ℕ
  l = drop at b

  abbrev k : ℕ
  k = kind_of target.chip (get_or l 0 0)

  still_faultless : verdict_by_full_flush target b cs at ≡ no_fault → verdict_in target b cs at ≡ no_fault
  still_faultless = still_passes k (length l) (head_of k l) (state_of target cs)

  was_flushed : verdict_by_full_flush target b cs at ≡ no_fault → k ≡ 3 → media_since_flush cs ≡ false
  was_flushed e q = sym (state_tells target cs).media ∙ before_flushed k (length l) (head_of k l) (state_of target cs) e q

  faultless_before : verdict_in target b cs at ≡ no_fault → (k ≡ 3 → media_since_flush cs ≡ false) → verdict_by_full_flush target b cs at ≡ no_fault
  faultless_before e p = passed_before k (length l) (head_of k l) (state_of target cs) e (λ q. (state_tells target cs).media ∙ p q)

still_laid : (target : Target) (b : List ℕ) {cs : List Command} {at : ℕ} {xs : List Command} {d : ℕ} → PassedByFullFlush target b cs at xs d
    → EndToEnd target b cs at xs (ended d)
still_laid target b (last {cs} {at} p v q) = laid.last p (stands_at target b cs at p (still_faultless target b cs at v)) q
still_laid target b (next {cs} {at} p v n r) = laid.next p (stands_at target b cs at p (still_faultless target b cs at v)) n (still_laid target b r)

all_flushed : (target : Target) (b : List ℕ) {cs : List Command} {at : ℕ} {xs : List Command} {d : ℕ} → PassedByFullFlush target b cs at xs d
    → FullyFlushed cs xs
all_flushed target b (last {cs} {at} p v q) = (was_flushed target b cs at v, tt)
all_flushed target b (next {cs} {at} p v n r) = (was_flushed target b cs at v, all_flushed target b r)

abbrev dwords_of : Stop → ℕ
dwords_of (ended d) = d
dwords_of (stopped m p) = 0

laid_before : (target : Target) (b : List ℕ) {cs : List Command} {at : ℕ} {xs : List Command} {stop : Stop} → EndToEnd target b cs at xs stop
    → (d : ℕ) → stop ≡ ended d → FullyFlushed cs xs → PassedByFullFlush target b cs at xs d
laid_before target b (used_up {cs}) d e f = absurd (subst Whole (sym e) tt)
laid_before target b (faulty {cs} {at} p v) d e f = absurd (subst Whole (sym e) tt)
laid_before target b (laid.last {cs} {at} {c} p s q) d e f =
    let k : (command_in target b cs at).kind ≡ c.kind = ap (λ (x : Command). x.kind) (sym s.is) in
    subst₂ (λ (x : Command) (n : ℕ). PassedByFullFlush target b cs at (x ∷ []) n) (sym s.is) (ap dwords_of e)
    (last p (faultless_before target b cs at s.faultless (λ z. f.0 (sym k ∙ z))) (k ∙ q))
laid_before target b (laid.next {cs} {at} {c} {rest} {stop} p s n r) d e f =
    let k : (command_in target b cs at).kind ≡ c.kind = ap (λ (x : Command). x.kind) (sym s.is) in
    subst (λ (x : Command). PassedByFullFlush target b cs at (x ∷ rest) d) (sym s.is)
    (next p (faultless_before target b cs at s.faultless (λ z. f.0 (sym k ∙ z))) (λ z. n (sym k ∙ z))
    (subst (λ (x : Command). PassedByFullFlush target b (x ∷ cs) (at + x.total) rest d) s.is (laid_before target b r d e f.1)))

-- where either flush is a full one, a VFE that has its flush has a full one
one_flush : (full either only : Bool) → either ≡ full → full && (either || not only) ≡ false → full ≡ false
one_flush true true only p e = absurd (not_both true refl e)
one_flush true false only p e = sym p
one_flush false either only p e = refl

flushed_at : (target : Target) (b : List ℕ) (cs : List Command) (at : ℕ) → verdict_in target b cs at ≡ no_fault → NoStateFlush cs
    → kind_of target.chip (get_or (drop at b) 0 0) ≡ 3 → media_since_flush cs ≡ false
flushed_at target b cs at e n q =
    let l = drop at b in
    let k = kind_of target.chip (get_or l 0 0) in
    let st = state_of target cs in
    let t = state_tells target cs in
    sym t.media
    ∙ one_flush (media_stands st) (media_stands_either st) (scoreboard_only (head_of k l) st) (t.either ∙ no_state_flush cs n ∙ sym t.media)
    (passed_flushed k (length l) (head_of k l) st e q)

laid_flushed : (target : Target) (b : List ℕ) {cs : List Command} {at : ℕ} {xs : List Command} {stop : Stop} → EndToEnd target b cs at xs stop
    → NoStateFlush cs → NoStateFlush xs → FullyFlushed cs xs
laid_flushed target b used_up n o = tt
laid_flushed target b (faulty p v) n o = tt
laid_flushed target b (laid.last {cs} {at} {c} p s q) n m =
    let k : (command_in target b cs at).kind ≡ c.kind = ap (λ (x : Command). x.kind) (sym s.is) in
    ((λ z. flushed_at target b cs at s.faultless n (k ∙ z)), tt)
laid_flushed target b (laid.next {cs} {at} {c} {rest} {stop} p s z r) n m =
    let k : (command_in target b cs at).kind ≡ c.kind = ap (λ (x : Command). x.kind) (sym s.is) in
    ((λ y. flushed_at target b cs at s.faultless n (k ∙ y)), laid_flushed target b r (m.0, n) m.1)

whole_laid : (target : Target) (b : List ℕ) (cs : List Command) (d : ℕ) → reading_of target b ≡ reading cs (ended d) → EndToEnd target b [] 0 cs (ended d)
whole_laid target b cs d e = subst (λ (r : Reading). EndToEnd target b [] 0 r.passed r.stop) e (reading_laid target b)

-- LAW
pub nothing_lost : NothingLost
nothing_lost =
    record {
      still = λ target b cs d r. laid_reading target b cs (ended d) (still_laid target b r);
      flushed = λ target b cs d r. all_flushed target b r;
      others =
          λ target b cs d e f.
          laid_before target b (whole_laid target b cs d e) d refl f;
      unchanged =
          λ target b cs d e n.
          let r = whole_laid target b cs d e in
          laid_before target b r d refl (laid_flushed target b r tt n);
    }
