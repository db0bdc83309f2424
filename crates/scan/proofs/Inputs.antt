-- Laws of the input: each way through the header's checks, and the numbers one after the other.
use Prim.Native.Nat.{ℕ, zero, suc, ◌+◌, ◌*◌, ◌/◌, ◌≤◌, ◌<◌}
use native.Mathlib.Omega.{arith}
use mathlib.Core.Path.{◌≡◌, refl, sym, ap, ◌∙◌}
use mathlib.Core.Bool.{Bool, true, false, not, ◌||◌}
use mathlib.Core.Logic.{◌⊎◌, ⊎_elim}
use mathlib.Core.List.{List, [], ◌∷◌, ◌++◌}
use lib.Dec.{ltb, eqb}
use lib.ListN.{length, get_or, take, drop, replicate, length-replicate, length-drop}
use lib.Seq.{take_at, length-take-le, get_or-take, get_or-drop}
use lib.Ieee.{Float, binary32, of_bits}
use borrow.Author.Tests.{lt-ltb, le-ltb, eq-eqb, ne_eqb, eqb-true}
use Rattle.tree.specs.Refuse.{Outcome, refused, gives, refuse, no_match, overwrite}
use Rattle.scan.specs.declared.input.Counts.{Counts}
use Rattle.scan.specs.Input.{word, numbers, most_read, header}
use Rattle.scan.specs.Promises.{Counted, Ready, Unseeded}

-- ---- the header

-- the checks of an input of n bytes whose four words are s, p, t and q
abbrev pub ruled : ℕ → ℕ → ℕ → ℕ → ℕ → Outcome Counts
ruled n s p t q =
    refuse 1 (ltb n 16)
    (refuse 2 (ltb most_read s || ltb most_read t)
    (refuse 4 (eqb s 0 || eqb t 0)
    (refuse 1 (not (eqb p 16) || not (eqb q (16 + 12 * s)) || not (eqb n (16 + 12 * s + 12 * t))) (gives (record { source = s; target = t })))))

pub header-ruled : (B : List ℕ) {s p t q : ℕ} → s ≡ word B 0 → p ≡ word B 4 → t ≡ word B 8 → q ≡ word B 12 → {o : Outcome Counts} → o ≡ ruled (length B) s p t q → o ≡ header B
unfolding header
header-ruled B es ep et eq e = rw (es, ep, et, eq) at e

pub header-short : (B : List ℕ) → length B < 16 → refused 1 ≡ header B
unfolding header
header-short B h = rw (lt-ltb _ _ h)

pub one-wrong : (a b c : Bool) → (a ≡ true → b ≡ true → c ≡ true → ⊥) → (not a || not b || not c) ≡ true
one-wrong true true true h = absurd (h refl refl refl)
one-wrong true true false h = refl
one-wrong true false c h = refl
one-wrong false b c h = refl

-- an input whose four words are s, p, t and q
module _ (B : List ℕ) {s p t q : ℕ} (es : s ≡ word B 0) (ep : p ≡ word B 4) (et : t ≡ word B 8) (eq : q ≡ word B 12) (long : 16 ≤ length B) where
  pub many-points : (1024 < s) ⊎ ((s ≤ 1024) × (1024 < t)) → refused 2 ≡ header B
  many-points e =
      header-ruled B es ep et eq
      (⊎_elim
      (λ (a : 1024 < s). rw (le-ltb _ _ long, lt-ltb _ _ a))
      (λ (b : (s ≤ 1024) × (1024 < t)). rw (le-ltb _ _ long, le-ltb _ _ b.0, lt-ltb _ _ b.1))
      e)

  module _ (few-s : s ≤ 1024) (few-t : t ≤ 1024) where
    pub no_point : (s ≡ 0) ⊎ ((s ≡ 0 → ⊥) × (t ≡ 0)) → refused 4 ≡ header B
    no_point e =
        header-ruled B es ep et eq
        (⊎_elim
        (λ (a : s ≡ 0). rw (le-ltb _ _ long, le-ltb _ _ few-s, le-ltb _ _ few-t, eq-eqb _ _ a))
        (λ (b : (s ≡ 0 → ⊥) × (t ≡ 0)). rw (le-ltb _ _ long, le-ltb _ _ few-s, le-ltb _ _ few-t, ne_eqb _ _ b.0, eq-eqb _ _ b.1))
        e)

    module _ (some-s : s ≡ 0 → ⊥) (some-t : t ≡ 0 → ⊥) where
      -- an offset or the length is another
      pub elsewhere : (p ≡ 16 → q ≡ 16 + 12 * s → length B ≡ 16 + 12 * s + 12 * t → ⊥) → refused 1 ≡ header B
      elsewhere a =
          header-ruled B es ep et eq
          (rw (le-ltb _ _ long, le-ltb _ _ few-s, le-ltb _ _ few-t, ne_eqb _ _ some-s, ne_eqb _ _ some-t, one-wrong _ _ _ λ e f g. a (eqb-true _ _ e) (eqb-true _ _ f) (eqb-true _ _ g)))

      pub all_right : p ≡ 16 → q ≡ 16 + 12 * s → length B ≡ 16 + 12 * s + 12 * t → gives (record { source = s; target = t }) ≡ header B
      all_right e f g =
          header-ruled B es ep et eq
          (rw (le-ltb _ _ long, le-ltb _ _ few-s, le-ltb _ _ few-t, ne_eqb _ _ some-s, ne_eqb _ _ some-t, eq-eqb _ _ e, eq-eqb _ _ f, eq-eqb _ _ g))

-- ---- the numbers

pub numbers-length : (B : List ℕ) (i n : ℕ) → length (numbers B i n) ≡ n
unfolding numbers
numbers-length B i zero = refl
numbers-length B i (suc n) = ap suc (numbers-length B (i + 4) n)

-- one number more
pub numbers-more : (B : List ℕ) (i n : ℕ) → numbers B i (suc n) ≡ numbers B i n ++ (of_bits binary32 (word B (i + 4 * n)) ∷ [])
unfolding numbers
numbers-more B i zero = let e : i ≡ i + 4 * 0 = omega arith in ap (λ (k : ℕ). of_bits binary32 (word B k) ∷ []) e
numbers-more B i (suc n) =
    let e : i + 4 + 4 * n ≡ i + 4 * suc n = omega arith in
    ap (λ (l : List Float). of_bits binary32 (word B i) ∷ l)
    (numbers-more B (i + 4) n ∙ ap (λ (k : ℕ). numbers B (i + 4) n ++ (of_bits binary32 (word B k) ∷ [])) e)

-- equal bytes hold equal numbers
numbers-same : (B C : List ℕ) (i j n : ℕ) → ((k : ℕ) → k < 4 * n → get_or C (j + k) 0 ≡ get_or B (i + k) 0) → numbers C j n ≡ numbers B i n
unfolding numbers word
numbers-same B C i j zero h = refl
numbers-same B C i j (suc n) h =
    let a : get_or C j 0 ≡ get_or B i 0 = let e : j ≡ j + 0 = omega arith in let f : i + 0 ≡ i = omega arith in ap (λ (k : ℕ). get_or C k 0) e ∙ h 0 (omega arith) ∙ ap (λ (k : ℕ). get_or B k 0) f in
    let rest : numbers C (j + 4) n ≡ numbers B (i + 4) n =
    numbers-same B C (i + 4) (j + 4) n λ k l.
    let e : j + 4 + k ≡ j + (4 + k) = omega arith in
    let f : i + (4 + k) ≡ i + 4 + k = omega arith in
    ap (λ (m : ℕ). get_or C m 0) e ∙ h (4 + k) (omega arith) ∙ ap (λ (m : ℕ). get_or B m 0) f in
    rw (a, h 1 (omega arith), h 2 (omega arith), h 3 (omega arith), rest)

-- the numbers of a part of the bytes
pub numbers-part : (B : List ℕ) (i m n : ℕ) → 4 * n ≤ m → numbers (take m (drop i B)) 0 n ≡ numbers B i n
numbers-part B i m n h =
    numbers-same B (take m (drop i B)) i 0 n λ k l.
    let e : 0 + k ≡ k = omega arith in
    ap (λ (j : ℕ). get_or (take m (drop i B)) j 0) e ∙ get_or-take m (drop i B) k 0 (omega arith) ∙ get_or-drop i B k 0

-- the numbers of a part of the bytes, at the front of a list
pub numbers-front : (B : List ℕ) (i m n : ℕ) (l l' : List Float) → m ≡ 4 * n → i + m ≤ length B → l' ≡ overwrite (numbers (take m (drop i B)) 0 (length (take m (drop i B)) / 4)) l
    → take n l' ≡ numbers B i n
numbers-front B i m n l l' e h r =
    let k : length (take m (drop i B)) / 4 ≡ n = omega (arith, length-take-le m (drop i B) (omega (arith, length-drop i B))) in
    ap (take n) (r ∙ ap (λ (j : ℕ). overwrite (numbers (take m (drop i B)) 0 j) l) k ∙ ap (λ (x : List Float). overwrite x l) (numbers-part B i m n (omega arith)))
    ∙ take_at (numbers B i n) _ n (numbers-length B i n)

pub front_length : (B : List ℕ) (i n : ℕ) {xs : List Float} → xs ≡ numbers B i n → n ≡ length xs
front_length B i n e = sym (ap length e ∙ numbers-length B i n)

-- ---- what the header leaves

pub no-matches : (n k : ℕ) → n ≤ k → take n (replicate k no_match) ≡ replicate n no_match
no-matches zero k h = refl
no-matches (suc n) zero h = absurd (omega arith)
no-matches (suc n) (suc k) h = ap (λ (l : List ℕ). no_match ∷ l) (no-matches n k (omega arith))

pub is-ready : (n : Counts) {bytes : ℕ} {S T : List Float} {M : List ℕ} → Counted n bytes → 3 * n.source ≡ length S → 3 * n.target ≡ length T → M ≡ replicate n.source no_match → Ready S T M × Unseeded M
is-ready n {bytes} {S} {T} {M} c l_s l_t e_m =
    let l_m : length M ≡ n.source = ap length e_m ∙ length-replicate n.source no_match in (
      record {
        each = omega arith;
        some_sources = omega (arith, c.some_sources);
        few_sources = omega (arith, c.few_sources);
        whole = omega arith;
        some_targets = omega (arith, c.some_targets);
        few_targets = omega (arith, c.few_targets);
      },
      e_m ∙ ap (λ (k : ℕ). replicate k no_match) (sym l_m),
    )
