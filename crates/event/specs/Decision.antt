-- What an event does: nothing, for the reason of a number, or what its kind does.
use Rattle.std.specs.Prelude.{ℕ}
use Rattle.event.specs.declared.Gateway.{Gateway}

pub data Decision : Type 0 where
  -- number
  Refused : ℕ → Decision
  -- thread, and its gateway then
  OpenOrClose : ℕ → Gateway → Decision
  -- recipient, first byte in the registers, bytes, notify
  Forward : ℕ → ℕ → ℕ → ℕ → Decision
  -- thread, at its group's barrier
  Wait : ℕ → Decision
  -- group, every member of which has come
  Release : ℕ → Decision
  -- barrier, byte
  Update : ℕ → ℕ → Decision

-- What one of them gives by f, and any other is `other`. A rule that goes by the decision says so by these alone.
abbrev pub on_refused : {A : Type 0} → Decision → (ℕ → A) → A → A
on_refused (Refused n) f other = f n
on_refused (OpenOrClose t g) f other = other
on_refused (Forward r a n m) f other = other
on_refused (Wait t) f other = other
on_refused (Release g) f other = other
on_refused (Update b v) f other = other

abbrev pub on_open_or_close : {A : Type 0} → Decision → (ℕ → Gateway → A) → A → A
on_open_or_close (Refused n) f other = other
on_open_or_close (OpenOrClose t g) f other = f t g
on_open_or_close (Forward r a n m) f other = other
on_open_or_close (Wait t) f other = other
on_open_or_close (Release g) f other = other
on_open_or_close (Update b v) f other = other

abbrev pub on_forward : {A : Type 0} → Decision → (ℕ → ℕ → ℕ → ℕ → A) → A → A
on_forward (Refused n) f other = other
on_forward (OpenOrClose t g) f other = other
on_forward (Forward r a n m) f other = f r a n m
on_forward (Wait t) f other = other
on_forward (Release g) f other = other
on_forward (Update b v) f other = other

abbrev pub on_wait : {A : Type 0} → Decision → (ℕ → A) → A → A
on_wait (Refused n) f other = other
on_wait (OpenOrClose t g) f other = other
on_wait (Forward r a n m) f other = other
on_wait (Wait t) f other = f t
on_wait (Release g) f other = other
on_wait (Update b v) f other = other

abbrev pub on_release : {A : Type 0} → Decision → (ℕ → A) → A → A
on_release (Refused n) f other = other
on_release (OpenOrClose t g) f other = other
on_release (Forward r a n m) f other = other
on_release (Wait t) f other = other
on_release (Release g) f other = f g
on_release (Update b v) f other = other

abbrev pub on_update : {A : Type 0} → Decision → (ℕ → ℕ → A) → A → A
on_update (Refused n) f other = other
on_update (OpenOrClose t g) f other = other
on_update (Forward r a n m) f other = other
on_update (Wait t) f other = other
on_update (Release g) f other = other
on_update (Update b v) f other = f b v
