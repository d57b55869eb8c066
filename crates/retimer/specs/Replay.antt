-- A list of calls as the desk program reads them, and what replaying it promises.
use Rattle.std.specs.Prelude.{◌≡◌, cond, List, [], ◌∷◌, ℕ, zero, suc, ◌+◌, ◌/◌, eqb, length}
use Rattle.enforcement.specs.Automaton.{Bytes, byte}
use Rattle.enforcement.specs.History.{Call, offer, collect, Outcome, nothing}
use Rattle.enforcement.specs.Loading.{Loads, check}
use Rattle.retimer.specs.declared.state.Answer.{Answer}
use Rattle.retimer.specs.declared.state.Answer.TheVariants.{Held, Nothing}
use Rattle.retimer.specs.declared.replay.Replayed.{Replayed}
use Rattle.retimer.specs.Bytes.{double_word}
use Rattle.retimer.specs.Checked.{checked_of}
use Rattle.retimer.specs.Calls.{outcome_of, no_monitor}
use Rattle.retimer.specs.Demand3.{outcomes_of, CodeDemand3}

-- A call in five bytes: an action, or 255 for a collection, and a date.
abbrev pub call_at : Bytes → ℕ → Call
call_at s i = cond (eqb (byte s i) 255) (collect (double_word s (i + 1))) (offer (byte s i) (double_word s (i + 1)))

unfoldable pub calls_from : Bytes → ℕ → ℕ → List Call
calls_from s zero i = []
calls_from s (suc n) i = call_at s i ∷ calls_from s n (i + 5)

-- The whole calls of a list of bytes; one to four bytes left over are no call.
abbrev pub calls_of : Bytes → List Call
calls_of s = calls_from s (length s / 5) 0

-- The last outcome; o if there is none.
abbrev pub last_outcome : Outcome → List Outcome → Outcome
last_outcome o [] = o
last_outcome o (p ∷ os) = last_outcome p os

-- Demand 3 of the calls from a fresh box of the sheet, loaded at d, entire: answers whose outcomes are the history's, and the box with its lamp. The answer handed back is the last one ("none" where there was no call),
-- and "held" has the held list's own length.
pub record Followed (s : Bytes) (d : ℕ) (ks : List Call) (r : Replayed) : Type 0 where
  pub answers : List Answer
  pub demand_3 : CodeDemand3 s d ks answers r.monitor
  pub answer_is : outcome_of r.answer ≡ last_outcome nothing (outcomes_of answers)
  pub held_count : (n : ℕ) → r.answer ≡ Held n → n ≡ length demand_3.history.pending

-- What replaying promises: the check's answer; where that accepts sheet and date, the calls were followed; where it does not, there is no box, and no call was made.
pub record ReplayRight (s : Bytes) (d : ℕ) (calls : Bytes) (r : Replayed) : Type 0 where
  pub checked : checked_of r.checked ≡ check s d
  pub followed : Loads s d → Followed s d (calls_of calls) r
  pub no_box : (Loads s d → ⊥) → (r.monitor ≡ no_monitor) × (r.answer ≡ Nothing)
