use Rattle.std.proofs.Common.{sym, ap, ◌∙◌, List, ℕ, ◌+◌, ◌-◌, ◌++◌, get_or, set, take, drop, replicate, arith, length-drop, get_or-drop, le_antisymm}
use Rattle.recording.specs.Recording.{groups_of}
use Rattle.recording.proofs.Header.{pad_turn}
use Rattle.recording.proofs.groups.Goals as goal

pub loop-t-preserved : goal.loop-t-preserved
loop-t-preserved c =
    let l = c.loop-t in
    let a = c.args in
    let s = drop 10 a.recording.now in
    record {
      within = omega arith;
      groups =
          ap (λ (d : List ℕ). set d l.t (get_or a.recording.now (10 + l.t) 0)) l.invariant.groups
          ∙ ap (λ (v : ℕ). set (take l.t s ++ replicate (16 - l.t) 255) l.t v) (sym (get_or-drop 10 a.recording.now l.t 0))
          ∙ pad_turn s 16 255 l.t (omega arith) (simp length-drop (omega arith));
    }

pub returns : goal.returns
unfolding groups_of
returns c =
    let l = c.loop-t in
    let a = c.args in
    l.invariant.groups
    ∙ ap (λ (k : ℕ). take k (drop 10 a.recording.now) ++ replicate (16 - k) 255) (le_antisymm l.invariant.within c.loop-t-test.false ∙ c.requires.0)
