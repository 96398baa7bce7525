-- The gateways that four words a thread hold. Assumes nothing.
use mathlib.Core.Path.{◌≡◌, refl, sym, ap, ◌∙◌}
use mathlib.Core.List.{List}
use Prim.Native.Nat.{ℕ, ◌+◌, ◌*◌, ◌≤◌, ◌<◌}
use native.Mathlib.Omega.{arith}
use lib.ListN.{length, get_or, set, replicate, length-set, get_or-eq_default}
use lib.Seq.{get_or-set_same, get_or-set_other}
use Rattle.laws.specs.Filled.{filled}
use Rattle.laws.proofs.Filled.{filled_long, filled_at, filled_set}
use Rattle.event.specs.declared.Gateway.{Gateway}
use Rattle.event.specs.Gateways.{closed, gateway_at}
use Rattle.effects.specs.Gateways.{gateway_in, gateways_in}

pub sixteen_gateways : (words : List ℕ) → length (gateways_in words) ≡ 16
unfolding gateways_in
sixteen_gateways words = filled_long (gateway_in words) (replicate 16 closed) 16

pub gateway_at_lem : (words : List ℕ) (t : ℕ) → t < 16 → gateway_in words t ≡ gateway_at (gateways_in words) t
unfolding gateways_in
gateway_at_lem words t h = sym (filled_at (gateway_in words) (replicate 16 closed) closed 16 t h (omega arith))

-- a thread above the sixteen has no gateway
pub no_gateway : (words : List ℕ) (t : ℕ) → 16 ≤ t → closed ≡ gateway_at (gateways_in words) t
no_gateway words t h = sym (get_or-eq_default (gateways_in words) closed (omega (arith, sixteen_gateways words)))

-- four stores set a thread's gateway
module _ (words : List ℕ) (t : ℕ) (g : Gateway) (long : length words ≡ 64) (h : t < 16) where
  abbrev one : List ℕ
  one = set words (4 * t) g.live

  abbrev two : List ℕ
  two = set one (4 * t + 1) g.base

  abbrev three : List ℕ
  three = set two (4 * t + 2) g.size

  abbrev four : List ℕ
  four = set three (4 * t + 3) g.key

  other : (l : List ℕ) (i v k : ℕ) → (k ≡ i → ⊥) → get_or (set l i v) k 0 ≡ get_or l k 0
  other l i v k n = get_or-set_other l i k v 0 n

  own : gateway_in four t ≡ g
  own =
      λ j.
      record {
        live =
            (other three (4 * t + 3) g.key (4 * t) (λ e. omega arith)
            ∙ other two (4 * t + 2) g.size (4 * t) (λ e. omega arith)
            ∙ other one (4 * t + 1) g.base (4 * t) (λ e. omega arith)
            ∙ get_or-set_same words (4 * t) g.live 0 (omega arith)) j;
        base =
            (other three (4 * t + 3) g.key (4 * t + 1) (λ e. omega arith)
            ∙ other two (4 * t + 2) g.size (4 * t + 1) (λ e. omega arith)
            ∙ get_or-set_same one (4 * t + 1) g.base 0 (omega (arith, length-set words (4 * t) g.live))) j;
        size =
            (other three (4 * t + 3) g.key (4 * t + 2) (λ e. omega arith)
            ∙ get_or-set_same two (4 * t + 2) g.size 0 (omega (arith, length-set words (4 * t) g.live, length-set one (4 * t + 1) g.base))) j;
        key =
            get_or-set_same three (4 * t + 3) g.key 0
            (omega (arith, length-set words (4 * t) g.live, length-set one (4 * t + 1) g.base, length-set two (4 * t + 2) g.size)) j;
      }

  -- a word that is none of the four
  far : (k : ℕ) → ((y : ℕ) → y < 4 → k ≡ 4 * t + y → ⊥) → get_or words k 0 ≡ get_or four k 0
  far k n =
      sym
      (other three (4 * t + 3) g.key k (λ e. n 3 (omega arith) e)
      ∙ other two (4 * t + 2) g.size k (λ e. n 2 (omega arith) e)
      ∙ other one (4 * t + 1) g.base k (λ e. n 1 (omega arith) e)
      ∙ other words (4 * t) g.live k (λ e. n 0 (omega arith) (omega arith)))

  others : (k : ℕ) → (k ≡ t → ⊥) → gateway_in words k ≡ gateway_in four k
  others k n =
      λ j.
      record {
        live = far (4 * k) (λ y l e. n (omega arith)) j;
        base = far (4 * k + 1) (λ y l e. n (omega arith)) j;
        size = far (4 * k + 2) (λ y l e. n (omega arith)) j;
        key = far (4 * k + 3) (λ y l e. n (omega arith)) j;
      }

  pub gateway_stored : gateways_in four ≡ set (gateways_in words) t g
  unfolding gateways_in
  gateway_stored =
      sym (filled_set (gateway_in words) (gateway_in four) (replicate 16 closed) 16 t h others)
      ∙ ap (set (gateways_in words) t) own

-- words of 0 are closed gateways
pub none_open : gateways_in (replicate 64 0) ≡ replicate 16 closed
unfolding gateways_in filled
none_open = refl
