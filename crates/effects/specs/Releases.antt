-- How the code counts releases: one number a barrier. At the end of the events each thread's N0 gets the releases of its barrier.
use Rattle.std.specs.Prelude.{◌≡◌, ℕ, zero, suc, ◌+◌, ◌<◌, List, length, get_or, set}
use Rattle.event.specs.declared.Setup.{Setup}
use Rattle.event.specs.Decision.{Decision, on_release}
use Rattle.event.specs.Groups.{group_of}
use Rattle.effects.specs.Effects.{n0, one_more}

-- a release counts at its barrier
unfoldable pub releases_after : Decision → List ℕ → List ℕ
releases_after d releases = on_release d (λ g. one_more releases g) releases

-- The counts of the rules, by those that the code holds and the releases: the first n threads have got theirs. A thread without a group
-- gets none.
unfoldable pub with_releases : ℕ → List ℕ → List ℕ → List ℕ → List ℕ
with_releases zero groups releases cs = cs
with_releases (suc n) groups releases cs =
    set (with_releases n groups releases cs) (n0 n) (get_or (with_releases n groups releases cs) (n0 n) 0 + get_or releases (group_of groups n) 0)

abbrev pub counts_in : Setup → List ℕ → List ℕ → List ℕ
counts_in s releases cs = with_releases s.threads s.groups releases cs

-- What a release needs: a number for each barrier, of which every thread's can take one more.
pub record ReleaseRoom (s : Setup) (releases : List ℕ) : Type 0 where
  pub sixteen : length releases ≡ 16
  pub low : (t : ℕ) → t < s.threads → get_or releases (group_of s.groups t) 0 < 4294967295
