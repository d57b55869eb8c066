-- Joining two sheets: why it refuses, what it answers, and what is promised of it (request F-6 of document 02).
use Rattle.std.specs.Prelude.{◌≡◌, Bool, true, false, ◌&&◌, ◌++◌, ◌⊎◌, ◌↔◌, ℕ, ◌+◌, ◌-◌, ◌*◌, ◌≤◌, ◌<◌, leb, eqb, length, take, drop, replicate, Result, Ok, Err}
use Rattle.enforcement.specs.Limits.{max_count, max_transitions, max_size}
use Rattle.enforcement.specs.Automaton.{Bytes, locations, clocks, actions}
use Rattle.enforcement.specs.Reason.{Reason}
use Rattle.enforcement.specs.Reason as reason
use Rattle.enforcement.specs.Loading.{Checked, accepted}
use Rattle.enforcement.specs.Loading as loading
use Rattle.retimer.specs.Reasons.{reason_of}
use Rattle.product.specs.declared.join.Refusal as code
use Rattle.product.specs.declared.join.Refusal.TheVariants.{Length, First, Second, Actions, Size, Transitions}
use Rattle.product.specs.Product.{product_transitions, joined, Joinable, ReadsBoth, Loadable, RunsBoth}

-- ---- When joining refuses

-- A reason: one of the joining, or a sheet's own.
pub data Refusal : Type 0 where
  i_9 i_12 i_13 i_14 : Refusal
  of_first of_second : Reason → Refusal

-- The condition of each reason, for an output of m bytes and two sheets. A sheet's own refusals are those of a load at date 0.
unfoldable pub Holds : ℕ → Bytes → Bytes → Refusal → Type 0
Holds m s u i_9 = m ≡ max_size → ⊥
Holds m s u (of_first r) = loading.Holds r s 0
Holds m s u (of_second r) = loading.Holds r u 0
Holds m s u i_12 = actions s ≡ actions u → ⊥
Holds m s u i_13 = (2 < clocks s + clocks u) ⊎ (max_count < locations s * locations u)
Holds m s u i_14 = max_transitions < length (product_transitions s u)

-- The number after "I-". A sheet's own reasons are I-1 to I-6, so none of them has the number of a reason of joining (`named`).
abbrev pub number : Refusal → ℕ
number i_9 = 9
number (of_first r) = reason.number r
number (of_second r) = reason.number r
number i_12 = 12
number i_13 = 13
number i_14 = 14

-- The order in which reasons are tested. A sheet's own are numbered from 1 to 13.
abbrev pub rank : Refusal → ℕ
rank i_9 = 0
rank (of_first r) = reason.number r
rank (of_second r) = 13 + reason.number r
rank i_12 = 27
rank i_13 = 28
rank i_14 = 29

-- The reason's condition holds, and no earlier one does.
pub record Given (m : ℕ) (s u : Bytes) (r : Refusal) : Type 0 where
  pub holds : Holds m s u r
  pub none_earlier : (q : Refusal) → rank q < rank r → Holds m s u q → ⊥

-- No condition holds.
abbrev pub Joins : ℕ → Bytes → Bytes → Type 0
Joins m s u = (r : Refusal) → Holds m s u r → ⊥

-- ---- What it answers

-- The length of the joined sheet, or a reason.
pub data Outcome : Type 0 where
  written : ℕ → Outcome
  refused : Refusal → Outcome

abbrev pub unless : Bool → Refusal → Outcome → Outcome
unless true r o = o
unless false r o = refused r

-- A sheet's own refusal.
abbrev pub own : (Reason → Refusal) → Checked → Outcome → Outcome
own f (accepted k) o = o
own f (loading.refused r) o = refused (f r)

-- What the two sheets answer together, where both load.
unfoldable pub fitting : Bytes → Bytes → Outcome
fitting s u =
    unless (eqb (actions s) (actions u)) i_12
    (unless (leb (clocks s + clocks u) 2 && leb (locations s * locations u) max_count) i_13
    (unless (leb (length (product_transitions s u)) max_transitions) i_14
    (written (length (joined s u)))))

-- The answer for an output of m bytes.
unfoldable pub answer : ℕ → Bytes → Bytes → Outcome
answer m s u = unless (eqb m max_size) i_9 (own of_first (loading.check s 0) (own of_second (loading.check u 0) (fitting s u)))

-- The joined sheet, and zeros behind it up to the end of the output.
abbrev pub output : Bytes → Bytes → Bytes
output s u = joined s u ++ replicate (max_size - length (joined s u)) 0

-- ---- What is promised of the answer

-- A number that is none of a sheet's own tells the reason.
pub record Named (q : Refusal) : Type 0 where
  pub own_small : (r : Reason) → (q ≡ of_first r) ⊎ (q ≡ of_second r) → number q ≤ 6
  pub ninth : number q ≡ 9 → q ≡ i_9
  pub twelfth : number q ≡ 12 → q ≡ i_12
  pub thirteenth : number q ≡ 13 → q ≡ i_13
  pub fourteenth : number q ≡ 14 → q ≡ i_14

-- A reason is answered exactly when its condition holds and no earlier one does; the length of the joined sheet exactly when none holds.
pub record CheckRight (m : ℕ) (s u : Bytes) : Type 0 where
  pub refuses : (r : Refusal) → (answer m s u ≡ refused r) ↔ Given m s u r
  pub accepts : (answer m s u ≡ written (length (joined s u))) ↔ Joins m s u
  pub one_of : (answer m s u ≡ written (length (joined s u))) ⊎ ((r : Refusal) × (answer m s u ≡ refused r))

-- ---- The code

-- The outcome that an answer of the code stands for.
abbrev pub outcome_of : Result ℕ code.Refusal → Outcome
outcome_of (Ok n) = written n
outcome_of (Err Length) = refused i_9
outcome_of (Err (First r)) = refused (of_first (reason_of r))
outcome_of (Err (Second r)) = refused (of_second (reason_of r))
outcome_of (Err Actions) = refused i_12
outcome_of (Err Size) = refused i_13
outcome_of (Err Transitions) = refused i_14

-- What is promised of the output: it is the joined sheet with zeros behind it, or after a refusal what it was.
pub record OutputRight (s u before after : Bytes) : Type 0 where
  pub wrote : (n : ℕ) → answer (length before) s u ≡ written n → after ≡ output s u
  pub untouched : (r : Refusal) → answer (length before) s u ≡ refused r → after ≡ before

-- What joining promises.
pub record JoinRight (s u before : Bytes) (r : Result ℕ code.Refusal) (after : Bytes) : Type 0 where
  pub answered : outcome_of r ≡ answer (length before) s u
  pub output_right : OutputRight s u before after

-- What a caller has after a length n was answered: n is the joined sheet's, the output has all its bytes, the first n of them are the joined sheet and the others 0, and what is promised of that sheet.
pub record Delivered (s u : Bytes) (n : ℕ) (after : Bytes) : Type 1 where
  pub joinable : Joinable s u
  pub length_is : n ≡ length (joined s u)
  pub sized : length after ≡ max_size
  pub sheet : take n after ≡ joined s u
  pub zeros : drop n after ≡ replicate (max_size - n) 0
  pub reads : ReadsBoth s u
  pub loads : Loadable s u
  pub runs : RunsBoth s u
