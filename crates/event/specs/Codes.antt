-- Size codes and length codes: document 01 has "2^size code" registers and "2^length code" bytes.
use Rattle.std.specs.Prelude.{ℕ, ◌^◌}

-- how many a code stands for: registers of a window, bytes of a forward
abbrev pub count_of : ℕ → ℕ
count_of code = 2 ^ code
