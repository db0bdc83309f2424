-- Texts written one after the other are one text: laws of stores from a place on.
use Prim.Native.Nat.{ℕ, suc, ◌+◌, ◌-◌, ◌≤◌}
use native.Mathlib.Omega.{arith}
use mathlib.Core.Path.{◌≡◌, sym, ap, ap₂, ◌∙◌}
use mathlib.Core.List.{List, [], ◌∷◌, ◌++◌, append_assoc}
use lib.ListN.{length, set, take, drop, length-append, length-drop}
use lib.Seq.{sets, length-sets, sets-eq, set_comm, drop-drop, length-take-le}
use borrow.Rule.Slice.PartMut.{put_mid}
use Rattle.std.proofs.lemmas.List.{drop_all, append-nil}
use Rattle.std.specs.Borrow.{MutBor}
use Rattle.text.specs.Puts.{Puts, Begins, Writes}
use Rattle.text.specs.declared.Writer.{Writer}

-- stores from a place on, and then behind them
pub sets-append : {A : Type 0} (l : List A) (i : ℕ) (a b : List A) → sets (sets l i a) (i + length a) b ≡ sets l i (a ++ b)
sets-append l i [] b = let e : i + 0 ≡ i = omega arith in ap (λ (k : ℕ). sets l k b) e
sets-append l i (x ∷ a) b =
    let e : i + suc (length a) ≡ suc i + length a = omega arith in
    ap (λ (k : ℕ). sets (sets (set l i x) (suc i) a) k b) e ∙ sets-append (set l i x) (suc i) a b

-- the last of the stores, made first
pub sets_last : {A : Type 0} (l : List A) (i : ℕ) (a : List A) (x : A) → sets l i (a ++ (x ∷ [])) ≡ sets (set l (i + length a) x) i a
sets_last l i [] x = let e : i ≡ i + 0 = omega arith in ap (λ (k : ℕ). set l k x) e
sets_last l i (y ∷ a) x =
    let e : suc i + length a ≡ i + suc (length a) = omega arith in
    let apart : i ≡ i + suc (length a) → ⊥ = λ q. omega arith in
    sets_last (set l i y) (suc i) a x
    ∙ ap (λ (k : ℕ). sets (set (set l i y) k x) (suc i) a) e
    ∙ ap (λ (r : List _). sets r (suc i) a) (set_comm l i (i + suc (length a)) y x apart)

-- stores at the front
pub sets-front : {A : Type 0} (l a : List A) → length a ≤ length l → sets l 0 a ≡ a ++ drop (length a) l
sets-front l a h =
    let e : 0 + length a ≡ length a = omega arith in
    sets-eq a l 0 (omega arith) ∙ ap (λ (k : ℕ). a ++ drop k l) e

-- stores in every place
pub sets-whole : {A : Type 0} (l a : List A) → length a ≡ length l → sets l 0 a ≡ a
sets-whole l a e =
    let k : length l ≤ length a = omega arith in
    sets-front l a (omega arith) ∙ ap (λ (r : List _). a ++ r) (drop_all (length a) l k) ∙ append-nil a

-- how long a part is
pub part-length : {A : Type 0} (l : List A) (i n : ℕ) → i + n ≤ length l → length (take (i + n - i) (drop i l)) ≡ n
part-length l i n h = length-take-le (i + n - i) (drop i l) (omega (arith, length-drop i l)) ∙ omega arith

-- a list written over a part of another
pub put_mid-sets : {A : Type 0} (l : List A) (i : ℕ) (a : List A) {b : List A} (k : ℕ) → k ≡ length a → i + length a ≤ length l → b ≡ a → put_mid i k l b ≡ sets l i a
put_mid-sets {A} l i a k long fits e =
    ap₂ (λ (m r : List A). take i l ++ (m ++ r)) e (drop-drop k i l ∙ ap (λ (n : ℕ). drop (i + n) l) long)
    ∙ sym (sets-eq a l i fits ∙ append_assoc (take i l) a (drop (i + length a) l))

-- ---- a text that is being written

module _ {t : List ℕ} {at : ℕ} {out : List ℕ} {r : ℕ} {out' : List ℕ} (p : Puts t at out r out') where
  pub puts-length : length out' ≡ length out
  puts-length = ap length p.list ∙ length-sets out at t

  pub puts_then : {u : List ℕ} {s : ℕ} {out'' : List ℕ} → Puts u r out' s out'' → Puts (t ++ u) at out s out''
  puts_then {u} {s} {out''} q =
      record {
        fits = omega (arith, p.end, q.fits, length-append t u, puts-length);
        end = omega (arith, p.end, q.end, length-append t u);
        list = q.list ∙ ap₂ (λ (l : List ℕ) (k : ℕ). sets l k u) p.list p.end ∙ sets-append out at t u;
      }

-- the same at a writer
pub writes_then : {t u : List ℕ} {w w' w'' : Writer} → Writes t w w' → Writes u w' w'' → Writes (t ++ u) w w''
writes_then p q = record { same_reference = q.same_reference ∙ p.same_reference; put = puts_then p.put q.put }

pub writes-length : {t : List ℕ} {w w' : Writer} → Writes t w w' → length w'.out.now ≡ length w.out.now
writes-length p = puts-length p.put

-- of what a writer is to write, some is written; the text that is left is to be written now
pub record Left (whole : List ℕ) (w₀ : Writer) (text : List ℕ) (w : Writer) : Type 0 where
  pub same_reference : w.out.ghost_name ≡ w₀.out.ghost_name
  pub end : w.len + length text ≡ w₀.len + length whole
  pub list : sets w.out.now w.len text ≡ sets w₀.out.now w₀.len whole

module _ {whole : List ℕ} {w₀ : Writer} where
  pub left-none : {w : Writer} → Left whole w₀ [] w → w.len ≤ length w.out.now → Writes whole w₀ w
  left-none {w} l h =
      let e : w.len ≡ w.len + 0 = omega arith in
      let long : length w.out.now ≡ length w₀.out.now = ap length l.list ∙ length-sets w₀.out.now w₀.len whole in
      record { same_reference = l.same_reference; put = record { fits = omega (arith, l.end); end = e ∙ l.end; list = l.list } }

  -- a part of what is left is written
  pub left-some : {t u : List ℕ} {w w' : Writer} → Left whole w₀ (t ++ u) w → Writes t w w' → Left whole w₀ u w'
  left-some {t} {u} {w} {w'} l p =
      record {
        same_reference = p.same_reference ∙ l.same_reference;
        end = omega (arith, l.end, p.put.end, length-append t u);
        list = ap₂ (λ (x : List ℕ) (k : ℕ). sets x k u) p.put.list p.put.end ∙ sets-append w.out.now w.len t u ∙ l.list;
      }

-- what was written at the front
pub puts-front : {t : List ℕ} {out : List ℕ} {r : ℕ} {out' : List ℕ} → Puts t 0 out r out' → (r ≡ length t) × (out' ≡ t ++ drop (length t) out)
puts-front {t} {out} {r} {out'} p = (omega (arith, p.end), p.list ∙ sets-front out t (omega (arith, p.fits)))

-- what a writer that began at the front wrote
pub writes-front : {t : List ℕ} {out : MutBor (List ℕ)} {w w' : Writer} → Begins out w → Writes t w w' → (w'.len ≡ length t) × (w'.out.now ≡ t ++ drop (length t) out.now)
writes-front {t} {out} {w} {w'} b p =
    puts-front
    (record {
      fits = omega (arith, b.front, ap length b.bytes, p.put.fits);
      end = omega (arith, b.front, p.put.end);
      list = p.put.list ∙ ap₂ (λ (l : List ℕ) (k : ℕ). sets l k t) b.bytes b.front;
    })
