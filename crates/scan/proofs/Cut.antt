-- An input of more bytes than the longest that is taken is refused, whatever it goes on with: so it is enough to read one byte more than that.
use Prim.Native.Nat.{ℕ, ◌+◌, ◌*◌, ◌≤◌, ◌<◌}
use native.Mathlib.Omega.{arith}
use mathlib.Core.Path.{◌≡◌, refl, sym, ap, ◌∙◌}
use mathlib.Core.Bool.{Bool, true, false, not, ◌||◌, cond}
use mathlib.Core.List.{List}
use lib.Dec.{ltb, eqb}
use lib.ListN.{length, take}
use lib.Seq.{length-take-le, get_or-take, take_all}
use borrow.Author.Tests.{le-ltb, ltb-true, ltb-false, eqb-true}
use Rattle.tree.specs.Refuse.{Outcome, refused, refuse, overwrite}
use Rattle.tree.proofs.Outside.{neither}
use Rattle.scan.specs.Input.{word}
use Rattle.scan.specs.Program.{refusal, answered, program}
use Rattle.scan.specs.Promises.{Answers, AnswersRead}
use Rattle.scan.proofs.Inputs.{ruled, header-ruled, one-wrong}

-- one byte more than the longest input, of 1,024 points in each cloud
abbrev pub enough : ℕ
enough = 24593

-- why an input is refused that is too long for any counts s and t
abbrev number : ℕ → ℕ → ℕ
number s t = cond (ltb 1024 s || ltb 1024 t) 2 (cond (eqb s 0 || eqb t 0) 4 1)

lines : {A : Type 0} (w x y z : Bool) (next : Outcome A) → w ≡ false → (x ≡ false → z ≡ true)
    → refused (cond x 2 (cond y 4 1)) ≡ refuse 1 w (refuse 2 x (refuse 4 y (refuse 1 z next)))
lines w x y z next e f = rw e (go x y f)
  where
    go : (x y : Bool) → (x ≡ false → z ≡ true) → refused (cond x 2 (cond y 4 1)) ≡ refuse 2 x (refuse 4 y (refuse 1 z next))
    go true y f = refl
    go false true f = refl
    go false false f = rw (f refl)

too_long : (n s p t q : ℕ) → enough ≤ n → refused (number s t) ≡ ruled n s p t q
too_long n s p t q h =
    lines (ltb n 16) (ltb 1024 s || ltb 1024 t) (eqb s 0 || eqb t 0) (not (eqb p 16) || not (eqb q (16 + 12 * s)) || not (eqb n (16 + 12 * s + 12 * t))) _ long last
  where
    long : ltb n 16 ≡ false
    long = let l : 16 ≤ n = omega arith in le-ltb _ _ l

    last : (ltb 1024 s || ltb 1024 t) ≡ false → (not (eqb p 16) || not (eqb q (16 + 12 * s)) || not (eqb n (16 + 12 * s + 12 * t))) ≡ true
    last e =
        let few = neither (ltb 1024 s) (ltb 1024 t) e in
        let a : s ≤ 1024 = ltb-false _ _ few.0 in
        let b : t ≤ 1024 = ltb-false _ _ few.1 in
        let c : n ≡ 16 + 12 * s + 12 * t → ⊥ = λ z. omega arith in
        one-wrong (eqb p 16) (eqb q (16 + 12 * s)) (eqb n (16 + 12 * s + 12 * t)) (λ x y z. c (eqb-true _ _ z))

long-refused : (B : List ℕ) → enough ≤ length B → refusal (number (word B 0) (word B 8)) ≡ program B
unfolding program answered
long-refused B h = ap (answered B) (header-ruled B refl refl refl refl (too_long (length B) (word B 0) (word B 4) (word B 8) (word B 12) h))

word-take : (n : ℕ) (B : List ℕ) (i : ℕ) → i + 4 ≤ n → word (take n B) i ≡ word B i
unfolding word
word-take n B i h =
    let a : i < n = omega arith in
    let b : i + 1 < n = omega arith in
    let c : i + 2 < n = omega arith in
    let d : i + 3 < n = omega arith in
    rw (get_or-take n B i 0 a, get_or-take n B (i + 1) 0 b, get_or-take n B (i + 2) 0 c, get_or-take n B (i + 3) 0 d)

-- the first bytes of an input decide what the program writes
pub enough-read : (n : ℕ) (B : List ℕ) → enough ≤ n → program (take n B) ≡ program B
enough-read n B e = go (ltb n (length B)) refl
  where
    cut : n ≤ length B → program (take n B) ≡ program B
    cut h =
        let l : enough ≤ length (take n B) = omega (arith, length-take-le n B h) in
        let m : enough ≤ length B = omega arith in
        sym (long-refused (take n B) l) ∙ ap (λ (s : ℕ). refusal (number s (word (take n B) 8))) (word-take n B 0 (omega arith))
        ∙ ap (λ (t : ℕ). refusal (number (word B 0) t)) (word-take n B 8 (omega arith))
        ∙ long-refused B m

    go : (b : Bool) → ltb n (length B) ≡ b → program (take n B) ≡ program B
    go true h = cut (omega (arith, ltb-true n (length B) h))
    go false h = ap program (take_all n B (ltb-false _ _ h))

pub answers-read : (bytes : List ℕ) (n : ℕ) {out : List ℕ} {r : ℕ} {out' : List ℕ} → enough ≤ length bytes → Answers (take n bytes) out r out' → AnswersRead bytes n out r out'
answers-read bytes n {out} {r} {out'} h a = record { front = a; whole = whole }
  where
    whole : (input : List ℕ) → take n bytes ≡ take (length bytes) input → Answers input out r out'
    whole input e =
        let p : program (take n bytes) ≡ program input = ap program e ∙ enough-read (length bytes) input h in
        record { returns = a.returns ∙ ap length p; written = a.written ∙ ap (λ (text : List ℕ). overwrite text out) p }
