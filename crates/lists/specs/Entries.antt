-- Document 01, "k nearest" as an entry: the refusals in their order, what is returned and what each lent list holds afterwards. Definitions only.
use Rattle.std.specs.Prelude.{◌≡◌, ◌||◌, List, ℕ, min, length, Result, Float}
use Rattle.space.specs.declared.Point3f.{Point3f}
use Rattle.tree.specs.Refuse.{Outcome, refuse, gives, returned, left, on_tree, short, overwrite}
use Rattle.tree.specs.Refusal.{outcome_of}
use Rattle.tree.specs.declared.Refusal.{Refusal}
use Rattle.tree.specs.Slots.{slots}
use Rattle.tree.specs.Part.{laid, lent}
use Rattle.tree.specs.Cloud.{tree_of}
use Rattle.lists.specs.Entry.{Entry, indices_in}
use Rattle.lists.specs.KNearest.{k_nearest, k_nearest_all}

-- refusals 1 and 2 of the tree, then 3 where either list has no room for n entries
abbrev pub on_lists : {A : Type 0} → List Float → List ℕ → List ℕ → List Float → ℕ → Outcome A → Outcome A
on_lists coords indices is ds n next = on_tree coords indices (refuse 3 (short is n || short ds n) next)

-- then the entries
abbrev pub listing : List Float → List ℕ → List ℕ → List Float → ℕ → List Entry → Outcome (List Entry)
listing coords indices is ds n es = on_lists coords indices is ds n (gives es)

-- "k nearest needs min(k, m) entries .. in each list, m the length of the tree's indices"
unfoldable pub nearest_listing : List Float → List ℕ → Point3f → ℕ → List ℕ → List Float → Outcome (List Entry)
unfolding k_nearest lent
nearest_listing coords indices q k is ds = listing coords indices is ds (min k (length indices)) (k_nearest q k (lent coords indices))

-- What an entry leaves behind where its rule is `rule` and `handed` gives the distances that are handed out: the number of entries, or of the refusal;
-- the entries at the front of both lists, all beyond them as it was; on a refusal both lists as they were.
pub record Written (rule : Outcome (List Entry)) (handed : List Entry → List Float) (is : List ℕ) (ds : List Float) (r : Result ℕ Refusal) (is' : List ℕ) (ds' : List Float) : Type 0 where
  pub answer : outcome_of r ≡ returned length rule
  pub indices : is' ≡ left (λ es. overwrite (indices_in es) is) is rule
  pub distances : ds' ≡ left (λ es. overwrite (handed es) ds) ds rule

-- what the lists hold of entries es: those at the front, all beyond them as it was; and how many they are
pub record Held (es : List Entry) (handed : List Entry → List Float) (is : List ℕ) (ds : List Float) (n : ℕ) (is' : List ℕ) (ds' : List Float) : Type 0 where
  pub count : n ≡ length es
  pub indices : is' ≡ overwrite (indices_in es) is
  pub distances : ds' ≡ overwrite (handed es) ds

-- k nearest as an entry. On the slots of a cloud's tree the entries are "the first k of all indexed points with distance below infinity".
pub record NearestWritten (handed : List Entry → List Float) (coords : List Float) (indices : List ℕ) (q : Point3f) (k : ℕ) (is : List ℕ) (ds : List Float) (r : Result ℕ Refusal) (is' : List ℕ) (ds' : List Float) : Type 0 where
  pub written : Written (nearest_listing coords indices q k is ds) handed is ds r is' ds'
  pub built : (cloud : List Float) → slots coords indices ≡ laid (tree_of cloud) → k_nearest q k (lent coords indices) ≡ k_nearest_all q k (tree_of cloud)
