-- `bits::rounded` meets its contract: its three arms are those of `nearest`. Assumes nothing.
use Rattle.std.proofs.Common.{mod-lt, div-le_self, arith}
use Rattle.bits.proofs.Narrowing.{closest-down, closest-up, closest-tie}
use Rattle.bits.proofs.rounded.Goals as goal

pub overflow_mul-twice : goal.overflow_mul-twice
overflow_mul-twice c = omega (arith, mod-lt c.args.m c.requires.0)

pub overflow_add-result : goal.overflow_add-result
overflow_add-result c = omega (arith, div-le_self c.args.m c.args.unit)

pub overflow_add-result-else-unit-twice : goal.overflow_add-result-else-unit-twice
overflow_add-result-else-unit-twice c = omega (arith, div-le_self c.args.m c.args.unit)

pub returns-then-twice-unit : goal.returns-then-twice-unit
returns-then-twice-unit c = closest-down c.args.m c.args.unit c.if-twice-unit.true

pub returns-then-unit-twice : goal.returns-then-unit-twice
returns-then-unit-twice c = closest-up c.args.m c.args.unit c.if-unit-twice.true

pub returns-else-unit-twice : goal.returns-else-unit-twice
returns-else-unit-twice c = closest-tie c.args.m c.args.unit c.if-twice-unit.false c.if-unit-twice.false
