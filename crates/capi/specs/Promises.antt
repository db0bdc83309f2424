-- What each function promises of its code and of every lent place afterwards, where its rule comes to the outcome o: on a refusal each is as it was. Definitions only.
use Rattle.std.specs.Prelude.{ℕ, ◌≡◌, Bool, Option, List, length, Float}
use Rattle.tree.specs.Refuse.{Outcome, left, overwrite}
use Rattle.build.specs.Entries as Build
use Rattle.search.specs.declared.Nearest.{Nearest}
use Rattle.lists.specs.Entry.{Entry, indices_in}
use Rattle.matching.specs.Pairs as Pairs
use Rattle.sums.specs.declared.CorrespondenceStats.{CorrespondenceStats}
use Rattle.frame.specs.declared.LocalFrame.{LocalFrame}
use Rattle.capi.specs.Codes.{code}
use Rattle.capi.specs.Answers.{flag_of, is_found, found_index, found_distance, sum_numbers, is_far, origin_in}

pub record Builds (o : Outcome Build.Written) (r : ℕ) (cs : List Float) (is : List ℕ) (slots : ℕ) (cs' : List Float) (is' : List ℕ) (slots' : ℕ) : Type 0 where
  pub told : r ≡ code o
  pub coords : cs' ≡ left (λ w. w.coords) cs o
  pub indices : is' ≡ left (λ w. w.indices) is o
  pub count : slots' ≡ left (λ w. w.slots) slots o

pub record Checks (o : Outcome Bool) (r yes yes' : ℕ) : Type 0 where
  pub told : r ≡ code o
  pub flag : yes' ≡ left flag_of yes o

pub record Finds (o : Outcome Nearest) (r found index : ℕ) (distance : Float) (found' index' : ℕ) (distance' : Float) : Type 0 where
  pub told : r ≡ code o
  pub flag : found' ≡ left is_found found o
  pub which : index' ≡ left (found_index index) index o
  pub far : distance' ≡ left (found_distance distance) distance o

-- entries of a list, with the distances that are handed out
pub record Lists (handed : List Entry → List Float) (o : Outcome (List Entry)) (r : ℕ) (is : List ℕ) (ds : List Float) (count : ℕ) (is' : List ℕ) (ds' : List Float) (count' : ℕ) : Type 0 where
  pub told : r ≡ code o
  pub indices : is' ≡ left (λ es. overwrite (indices_in es) is) is o
  pub distances : ds' ≡ left (λ es. overwrite (handed es) ds) ds o
  pub number : count' ≡ left length count o

pub record Matches (o : Outcome (List ℕ)) (r : ℕ) (matches matches' : List ℕ) : Type 0 where
  pub told : r ≡ code o
  pub entries : matches' ≡ left (λ l. l) matches o

pub record ListsPairs (o : Outcome Pairs.Written) (r : ℕ) (sources targets : List ℕ) (count : ℕ) (sources' targets' : List ℕ) (count' : ℕ) : Type 0 where
  pub told : r ≡ code o
  pub source : sources' ≡ left (λ w. w.sources) sources o
  pub target : targets' ≡ left (λ w. w.targets) targets o
  pub number : count' ≡ left (λ w. w.number) count o

pub record Sums (o : Outcome CorrespondenceStats) (r : ℕ) (out : List Float) (count : ℕ) (out' : List Float) (count' : ℕ) : Type 0 where
  pub told : r ≡ code o
  pub numbers : out' ≡ left (λ s. overwrite (sum_numbers s) out) out o
  pub number : count' ≡ left (λ s. s.count) count o

-- a function whose answer is a few numbers
pub record Writes {A : Type 0} (numbers_of : A → List Float) (o : Outcome A) (r : ℕ) (out out' : List Float) : Type 0 where
  pub told : r ≡ code o
  pub numbers : out' ≡ left (λ a. overwrite (numbers_of a) out) out o

pub record Frames (o : Outcome (Option LocalFrame)) (r : ℕ) (out : List Float) (far : ℕ) (out' : List Float) (far' : ℕ) : Type 0 where
  pub told : r ≡ code o
  pub origin : out' ≡ left (origin_in out) out o
  pub flag : far' ≡ left is_far far o
