-- What is so of a reading that goes on after n dwords: its commands, with what has come of the one that is not whole, have at most n
-- dwords, and before that one no more commands and objects are counted than dwords.
use Rattle.std.specs.Prelude.{◌≡◌, ℕ, ◌+◌, ◌≤◌}
use Rattle.progress.specs.declared.Progress.{Progress}

pub record Sound (n : ℕ) (c : Progress) : Type 0 where
  pub come : c.stop ≡ 0 → c.place + c.got ≤ n
  pub commands : c.stop ≡ 0 → c.st.commands ≤ c.place
  pub objects : c.stop ≡ 0 → c.st.objects ≤ c.place
