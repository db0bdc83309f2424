use Prim.Native.Nat.{ℕ, ◌≤◌, ◌<◌, ◌+◌}
use native.Mathlib.Omega.{arith}
use mathlib.Core.Path.{◌≡◌, refl, sym, ap, ◌∙◌}
use mathlib.Core.List.{List}
use lib.ListN.{length, take, set, get_or}
use Rattle.tree.specs.Refuse.{overwrite, no_match}
use Rattle.matching.specs.Pairs.{Pair, pairs, pairs_from, sources_of, targets_of}
use Rattle.matching.proofs.Pairs.{nil, step-none, grows, front-le, written_one, written-length}
use Rattle.matching.proofs.write_pairs.Goals as goal
use Rattle.matching.proofs.write_pairs.Goals.{else-m, then-m}

-- at a matched entry there is room for one more
room : (M S : List ℕ) (i n : ℕ) → i < length M → (get_or M i 0 ≡ no_match → ⊥) → n ≡ length (pairs (take i M)) → length (pairs M) ≤ length S → n < length S
room M S i n h e p q = omega (arith, grows M i h e, front-le M (i + 1))

pub loop-i-init : goal.loop-i-init
unfolding pairs pairs_from
loop-i-init c = (omega arith, nil, refl, refl)

pub bounds-sources-n : goal.bounds-sources-n
bounds-sources-n c =
    let M = c.args.matches.now in
    let S = c.args.sources.now in
    let l = c.loop-i in
    let h : l.i < length M = omega arith in
    let fits : length (pairs M) ≤ length S = omega arith in
    rw (l.invariant.2, written-length (λ p. p.source) M S l.i fits) (room M S l.i l.n h c.if-m.true l.invariant.1 fits)

pub bounds-targets-n : goal.bounds-targets-n
bounds-targets-n c =
    let M = c.args.matches.now in
    let S = c.args.targets.now in
    let l = c.loop-i in
    let h : l.i < length M = omega arith in
    let fits : length (pairs M) ≤ length S = omega arith in
    rw (l.invariant.3, written-length (λ p. p.target) M S l.i fits) (room M S l.i l.n h c.if-m.true l.invariant.1 fits)

pub loop-i-preserved : goal.loop-i-preserved
loop-i-preserved c =
    let M = c.args.matches.now in
    let S = c.args.sources.now in
    let T = c.args.targets.now in
    let l = c.loop-i in
    let h : l.i < length M = omega arith in
    let s : length (pairs M) ≤ length S = omega arith in
    let t : length (pairs M) ≤ length T = omega arith in
    elim c.if-m.branch [
      | then-m w ↦ (
        omega arith,
        omega (arith, grows M l.i h w.if-m.true),
        w.sources-is ∙ ap (λ (a : List ℕ). set a l.n l.i) l.invariant.2 ∙ written_one (λ p. p.source) M S l.i l.n h w.if-m.true l.invariant.1 (room M S l.i l.n h w.if-m.true l.invariant.1 s),
        w.targets-is ∙ ap (λ (a : List ℕ). set a l.n (get_or M l.i 0)) l.invariant.3 ∙ written_one (λ p. p.target) M T l.i l.n h w.if-m.true l.invariant.1 (room M T l.i l.n h w.if-m.true l.invariant.1 t),
      )
      | else-m w ↦ let e = sym (step-none M l.i h w.if-m.false) in (
        omega arith,
        w.n-is ∙ l.invariant.1 ∙ ap length e,
        w.sources-is ∙ l.invariant.2 ∙ ap (λ (ps : List Pair). overwrite (sources_of ps) S) e,
        w.targets-is ∙ l.invariant.3 ∙ ap (λ (ps : List Pair). overwrite (targets_of ps) T) e,
      )
    ]
