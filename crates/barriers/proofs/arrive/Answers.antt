use mathlib.Core.Path.{refl, sym, subst}
use Prim.Native.Nat.{ℕ, ◌<◌}
use native.Mathlib.Omega.{arith}
use lib.ListN.{get_or}
use Rattle.event.proofs.Formed.{formed_sender}
use Rattle.barriers.proofs.Waits.{waiting_long, waiting_low}
use Rattle.barriers.proofs.Arrivals.{group_is, left_31, left_38, left_39, left_whole, left_waits}
use Rattle.barriers.proofs.arrive.Goals as goal

pub returns-then-is_malformed : goal.returns-then-is_malformed
returns-then-is_malformed c =
    let a = c.args in
    let p = c.requires in
    left_31 a.h a.setup a.members.now a.waiting.now a.releases.now p.0 p.1 p.3 (sym c.if-is_malformed.ensures)

pub returns-then-group-gt15 : goal.returns-then-group-gt15
returns-then-group-gt15 c =
    let a = c.args in
    let p = c.requires in
    let f = sym c.if-is_malformed.ensures in
    left_38 a.h a.setup a.members.now a.waiting.now a.releases.now p.0 p.1 p.3 f (group_is a.h a.setup a.groups.now p.1 p.2 f) c.if-group-gt15.true

pub bounds-waiting-b : goal.bounds-waiting-b
bounds-waiting-b c = omega (arith, waiting_long c.args.setup c.requires.3)

pub returns-then-has_bit : goal.returns-then-has_bit
returns-then-has_bit c =
    let a = c.args in
    let p = c.requires in
    let f = sym c.if-is_malformed.ensures in
    left_39 a.h a.setup a.members.now a.waiting.now a.releases.now p.0 p.1 p.3 f (group_is a.h a.setup a.groups.now p.1 p.2 f) (omega arith)
    (sym c.if-has_bit.ensures)

pub bounds-waiting-b-2 : goal.bounds-waiting-b-2
bounds-waiting-b-2 c = omega (arith, waiting_long c.args.setup c.requires.3)

pub overflow_add-arrived : goal.overflow_add-arrived
overflow_add-arrived c =
    let a = c.args in
    let p = c.requires in
    omega (arith, waiting_low a.setup p.3 p.1.few (get_or a.groups.now a.h.sender 0), c.bit.ensures.1)

pub overflow_add-releases : goal.overflow_add-releases
overflow_add-releases c =
    let a = c.args in
    let p = c.requires in
    let f = sym c.if-is_malformed.ensures in
    omega (
      arith,
      subst (λ (g : ℕ). get_or a.releases.now g 0 < 4294967295) (sym (group_is a.h a.setup a.groups.now p.1 p.2 f)) (p.4.low a.h.sender (formed_sender _ _ _ f)),
    )

pub bounds-waiting-b-then-arrived-members : goal.bounds-waiting-b-then-arrived-members
bounds-waiting-b-then-arrived-members c = omega (arith, waiting_long c.args.setup c.requires.3)

pub returns-then-arrived-members : goal.returns-then-arrived-members
returns-then-arrived-members c =
    let a = c.args in
    let p = c.requires in
    let f = sym c.if-is_malformed.ensures in
    left_whole a.h a.setup a.members.now a.waiting.now a.releases.now p.0 p.1 p.3 f (group_is a.h a.setup a.groups.now p.1 p.2 f) (omega arith)
    (sym c.if-has_bit.ensures) c.bit.ensures.0 c.if-arrived-members.true refl

pub bounds-waiting-b-3 : goal.bounds-waiting-b-3
bounds-waiting-b-3 c = omega (arith, waiting_long c.args.setup c.requires.3)

pub returns : goal.returns
returns c =
    let a = c.args in
    let p = c.requires in
    let f = sym c.if-is_malformed.ensures in
    left_waits a.h a.setup a.members.now a.waiting.now a.releases.now p.0 p.1 p.3 f (group_is a.h a.setup a.groups.now p.1 p.2 f) (omega arith)
    (sym c.if-has_bit.ensures) c.bit.ensures.0 c.if-arrived-members.false
