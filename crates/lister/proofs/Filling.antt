-- Reads into a buffer, one after the other. Assumes nothing.
use Rattle.std.proofs.Common.{◌≡◌, ℕ, ◌+◌, ◌≤◌, List, ◌++◌, Option, Some, None, length, take, sym, ap, ◌∙◌, subst, append_assoc}
use Rattle.std.proofs.Math.Seq.{take-append-add}
use Rattle.std.proofs.lemmas.List.{take-append-le}
use Rattle.std.specs.Io.KnownBytes.{Consumes}
use borrow.Rule.Slice.PartMut.{put_mid, post_of}
use lib.Seq.{length-take-le}

-- what is read before and after is read in all
both : (a b c : Option (List ℕ)) (xs ys : List ℕ) → Consumes a b xs → Consumes b c ys → Consumes a c (xs ++ ys)
both None b c xs ys p q = tt
both (Some l) None c xs ys p q = absurd p
both (Some l) (Some m) None xs ys p q = absurd q
both (Some l) (Some m) (Some n) xs ys p q = p ∙ ap (λ (r : List ℕ). xs ++ r) q ∙ sym (append_assoc xs ys n)

-- one read more, into the buffer from `done` on
pub read_more : (a b c : Option (List ℕ)) (buf sub : List ℕ) (done k n : ℕ) → done ≤ length buf → n ≤ length sub → Consumes a b (take done buf) → Consumes b c (take n sub)
    → Consumes a c (take (done + n) (put_mid done k buf sub))
read_more a b c buf sub done k n h l p q =
    let post = post_of done k buf in
    let e : take (done + n) (put_mid done k buf sub) ≡ take done buf ++ take n sub =
    ap (λ (i : ℕ). take (i + n) (take done buf ++ (sub ++ post))) (sym (length-take-le done buf h))
    ∙ take-append-add (take done buf) (sub ++ post) n ∙ ap (λ (s : List ℕ). take done buf ++ s) (take-append-le n sub post l) in
    subst (λ (s : List ℕ). Consumes a c s) (sym e) (both a b c (take done buf) (take n sub) p q)
