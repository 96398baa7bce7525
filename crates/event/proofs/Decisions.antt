-- What goes by a decision, by whether it is the one named: one law for each. Assumes nothing.
use mathlib.Core.Path.{◌≡◌, refl}
use Prim.Native.Nat.{ℕ}
use Rattle.event.specs.declared.Gateway.{Gateway}
use Rattle.event.specs.Decision.{Decision, Refused, OpenOrClose, Forward, Wait, Release, Update, on_refused, on_open_or_close, on_forward, on_wait, on_release, on_update}

module _ {A : Type 0} (P : A → Type 0) where
  pub by_refused : (d : Decision) (f : ℕ → A) (x : A) → ((n : ℕ) → d ≡ Refused n → P (f n)) → P x → P (on_refused d f x)
  by_refused (Refused n) f x own other = own n refl
  by_refused (OpenOrClose t g) f x own other = other
  by_refused (Forward r a n m) f x own other = other
  by_refused (Wait t) f x own other = other
  by_refused (Release g) f x own other = other
  by_refused (Update b v) f x own other = other

  pub by_open_or_close : (d : Decision) (f : ℕ → Gateway → A) (x : A) → ((t : ℕ) (g : Gateway) → d ≡ OpenOrClose t g → P (f t g)) → P x → P (on_open_or_close d f x)
  by_open_or_close (Refused n) f x own other = other
  by_open_or_close (OpenOrClose t g) f x own other = own t g refl
  by_open_or_close (Forward r a n m) f x own other = other
  by_open_or_close (Wait t) f x own other = other
  by_open_or_close (Release g) f x own other = other
  by_open_or_close (Update b v) f x own other = other

  pub by_forward : (d : Decision) (f : ℕ → ℕ → ℕ → ℕ → A) (x : A) → ((r a n m : ℕ) → d ≡ Forward r a n m → P (f r a n m)) → P x → P (on_forward d f x)
  by_forward (Refused n) f x own other = other
  by_forward (OpenOrClose t g) f x own other = other
  by_forward (Forward r a n m) f x own other = own r a n m refl
  by_forward (Wait t) f x own other = other
  by_forward (Release g) f x own other = other
  by_forward (Update b v) f x own other = other

  pub by_wait : (d : Decision) (f : ℕ → A) (x : A) → ((t : ℕ) → d ≡ Wait t → P (f t)) → P x → P (on_wait d f x)
  by_wait (Refused n) f x own other = other
  by_wait (OpenOrClose t g) f x own other = other
  by_wait (Forward r a n m) f x own other = other
  by_wait (Wait t) f x own other = own t refl
  by_wait (Release g) f x own other = other
  by_wait (Update b v) f x own other = other

  pub by_release : (d : Decision) (f : ℕ → A) (x : A) → ((g : ℕ) → d ≡ Release g → P (f g)) → P x → P (on_release d f x)
  by_release (Refused n) f x own other = other
  by_release (OpenOrClose t g) f x own other = other
  by_release (Forward r a n m) f x own other = other
  by_release (Wait t) f x own other = other
  by_release (Release g) f x own other = own g refl
  by_release (Update b v) f x own other = other

  pub by_update : (d : Decision) (f : ℕ → ℕ → A) (x : A) → ((b v : ℕ) → d ≡ Update b v → P (f b v)) → P x → P (on_update d f x)
  by_update (Refused n) f x own other = other
  by_update (OpenOrClose t g) f x own other = other
  by_update (Forward r a n m) f x own other = other
  by_update (Wait t) f x own other = other
  by_update (Release g) f x own other = other
  by_update (Update b v) f x own other = own b v refl
