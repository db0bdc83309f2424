-- `build_group` ends: each part that it passes on is shorter than the group.
use Rattle.std.proofs.Common.{length}
use Rattle.build.proofs.+build_group.Given as goal

abbrev pub decreases-build_group : goal.decreases-build_group
decreases-build_group l = length l.indices.now
