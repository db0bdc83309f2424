-- `report`: the numbers read are the two clouds, and the match list begins without seeds.
use Prim.Native.Nat.{◌+◌, ◌*◌}
use native.Mathlib.Omega.{arith}
use mathlib.Core.Path.{◌≡◌}
use lib.ListN.{take}
use Rattle.scan.specs.Input.{source_of, target_of}
use Rattle.scan.proofs.Inputs.{numbers-front, front_length, no-matches, is-ready}
use Rattle.scan.proofs.Answers.{reports}
use Rattle.scan.proofs.report.Goals as goal
use Rattle.scan.proofs.report.Goals.{After-read_numbers-2}

source-read : (c : After-read_numbers-2) → take (3 * c.args.counts.source) c.read_numbers.new.to ≡ source_of c.args.bytes.now c.args.counts
source-read c =
    let n = c.args.counts in
    let k = c.requires.0 in
    numbers-front c.args.bytes.now 16 _ (3 * n.source) _ _ (omega arith) (omega (arith, k.whole)) c.read_numbers.ensures

target-read : (c : After-read_numbers-2) → take (3 * c.args.counts.target) c.read_numbers-2.new.to ≡ target_of c.args.bytes.now c.args.counts
target-read c =
    let n = c.args.counts in
    let k = c.requires.0 in
    numbers-front c.args.bytes.now (16 + 12 * n.source) _ (3 * n.target) _ _ (omega (arith, k.whole)) (omega (arith, k.whole)) c.read_numbers-2.ensures

pub match_and_write-requires : goal.match_and_write-requires
match_and_write-requires c =
    let B = c.args.bytes.now in
    let n = c.args.counts in
    let a = (goal.at.match_and_write-requires c).After-read_numbers-2 in
    let r = is-ready n c.requires.0 (front_length B 16 (3 * n.source) (source-read a)) (front_length B (16 + 12 * n.source) (3 * n.target) (target-read a)) (no-matches n.source 1024 c.requires.0.few_sources) in
    (r.0, r.1, c.requires.1)

pub returns : goal.returns
returns c =
    let a = (goal.at.returns c).After-read_numbers-2 in
    reports c.args.bytes.now c.args.counts (source-read a) (target-read a) c.match_and_write.ensures
