-- `Matched::sums`: the invariant is `Adding`, and each turn is one run more.
use mathlib.Core.Path.{◌≡◌, sym, ap, ◌∙◌, subst}
use Prim.Native.Nat.{ℕ, ◌+◌, ◌-◌, min}
use native.Mathlib.Omega.{arith}
use Rattle.tree.specs.Slots.{slots}
use Rattle.tree.proofs.Slots.{slots_length}
use Rattle.sums.specs.Sums.{run_length, sums}
use Rattle.sums.proofs.Runs.{Adding, adding-goes, adding-ends, run-count}
use Rattle.sums.proofs.Matched.sums.Goals as goal

-- by hand, so that of a wrong length the check shows what differs
pub sum_run-requires : goal.sum_run-requires
sum_run-requires c = omega (arith, c.min-len.ensures)

pub merge-total-requires : goal.merge-total-requires
merge-total-requires c =
    let few = c.loop-at.invariant.few in
    let run = run-count c.args.self.now.target c.sum_run.result c.min-len.result _ c.sum_run.ensures in
    omega (arith, c.min-len.ensures, c.args.self.now.accepted.few)

pub loop-at-preserved : goal.loop-at-preserved
loop-at-preserved c =
    let self = c.args.self.now in
    let turn = c.loop-at in
    let len = slots_length self.source self.matches.now in
    let whole : c.min-len.result ≡ 512 = omega (arith, c.min-len.ensures) in
    subst (λ (k : ℕ). Adding run_length self.target (slots self.source self.matches.now) c.merge-total.result (turn.at + k)) whole
    (adding-goes {n = run_length - 1} turn.invariant (omega arith) _
    (c.min-len.ensures ∙ ap (λ (k : ℕ). min run_length (k - turn.at)) (sym len))
    _ c.sum_run.ensures _ c.merge-total.ensures)

pub returns : goal.returns
unfolding sums
returns c =
    let len = slots_length c.args.self.now.source c.args.self.now.matches.now in
    adding-ends {n = run_length - 1} c.loop-at.invariant (omega arith)

-- the last run is what is left
pub returns-2 : goal.returns-2
unfolding sums
returns-2 c =
    let self = c.args.self.now in
    let turn = c.loop-at in
    let len = slots_length self.source self.matches.now in
    adding-ends {n = run_length - 1} (adding-goes {n = run_length - 1} turn.invariant (omega arith) _
    (c.min-len.ensures ∙ ap (λ (k : ℕ). min run_length (k - turn.at)) (sym len))
    _ c.sum_run.ensures _ c.merge-total.ensures) (omega (arith, c.min-len.ensures))
