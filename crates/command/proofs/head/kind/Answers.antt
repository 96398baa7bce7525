use mathlib.Core.Path.{refl, ◌∙◌}
use Rattle.command.proofs.Heads.{media_kind_lem, gateway_kind, no_gateway, no_kind_lem}
use native.Mathlib.Omega.{arith}
use Rattle.command.proofs.head.kind.Goals as goal

pub returns-then-opcodes-eq28928 : goal.returns-then-opcodes-eq28928
returns-then-opcodes-eq28928 c = media_kind_lem _ _ 0x7100 c.if-opcodes-eq28928.true (omega arith)

pub returns-then-opcodes-eq28672 : goal.returns-then-opcodes-eq28672
returns-then-opcodes-eq28672 c = media_kind_lem _ _ 0x7000 c.if-opcodes-eq28672.true (omega arith)

pub returns-then-opcodes-eq28674 : goal.returns-then-opcodes-eq28674
returns-then-opcodes-eq28674 c = media_kind_lem _ _ 0x7002 c.if-opcodes-eq28674.true (omega arith)

pub returns-then-opcodes-eq28673 : goal.returns-then-opcodes-eq28673
returns-then-opcodes-eq28673 c = media_kind_lem _ _ 0x7001 c.if-opcodes-eq28673.true (omega arith)

pub returns-then-opcodes-eq28676 : goal.returns-then-opcodes-eq28676
returns-then-opcodes-eq28676 c = media_kind_lem _ _ 0x7004 c.if-opcodes-eq28676.true (omega arith)

pub returns-then-d-lt1879310336 : goal.returns-then-d-lt1879310336
returns-then-d-lt1879310336 c =
    c.gateway_kind.ensures
    ∙ gateway_kind _ _ _ refl (omega arith) c.if-d-lt1879310336.true
    c.if-opcodes-eq28672.false c.if-opcodes-eq28673.false c.if-opcodes-eq28674.false

pub returns : goal.returns
returns c =
    no_kind_lem _ _ _ refl (λ q. omega arith) (λ q. omega arith) (λ q. omega arith)
    c.if-opcodes-eq28672.false c.if-opcodes-eq28673.false c.if-opcodes-eq28674.false (no_gateway _ (omega arith) c.ranges.d.fits) c.if-opcodes-eq28676.false
    c.if-opcodes-eq28928.false
