-- A larger largest bound (request F-7 of document 02): what is said of sheets and calls with each, and what stays.
use Rattle.std.specs.Prelude.{◌≡◌, ◌↔◌, List, [], ◌∷◌, ℕ}
use Rattle.std.proofs.Math.Option.{Option, none, some}
use Rattle.enforcement.specs.Limits.{max_bound}
use Rattle.enforcement.specs.Automaton.{Bytes, automaton}
use Rattle.enforcement.specs.Reason.{Reason, i_5}
use Rattle.enforcement.specs.Loading.{LoadsUpTo, Loads, Counts, counts_of, Checked, accepted, refused, check_up_to, check}
use Rattle.enforcement.specs.History.{History, fresh, Call, Outcome, HistoryOf}

-- Document 01's largest bound.
abbrev pub scope_bound : ℕ
scope_bound = 30

-- What a sheet, a loading date and calls come to where b is the largest bound: the check's answer, the calls' outcomes, and the history that they leave; where the check refuses, its reason alone.
pub data ToldUpTo (b : ℕ) (s : Bytes) (d : ℕ) (ks : List Call) : Checked → List Outcome → Option History → Type 0 where
  refuses : {r : Reason} → check_up_to b s d ≡ refused r → ToldUpTo b s d ks (refused r) [] none
  loads : {n : Counts} {os : List Outcome} {h : History} → check_up_to b s d ≡ accepted n → HistoryOf (automaton s d) (fresh (automaton s d)) ks os h → ToldUpTo b s d ks (accepted n) os (some h)

-- From the largest bound b to c: what loads with b loads with c; unless I-5 is the answer with b, the answer with c is the same, its counts or its reason, and so are the outcomes and the history of all calls.
pub record Kept (b c : ℕ) (s : Bytes) (d : ℕ) : Type 0 where
  pub still_loads : LoadsUpTo b s d → LoadsUpTo c s d
  pub answer_same : (check_up_to b s d ≡ refused i_5 → ⊥) → check_up_to c s d ≡ check_up_to b s d
  pub told_same : (check_up_to b s d ≡ refused i_5 → ⊥) → (ks : List Call) (a : Checked) (os : List Outcome) (h : Option History) → ToldUpTo c s d ks a os h ↔ ToldUpTo b s d ks a os h

-- What stays of a sheet and a loading date that document 01 accepts: they load, with the same counts, and all calls have the outcomes and the history that they had.
pub record AsBefore (s : Bytes) (d : ℕ) : Type 0 where
  pub loads : Loads s d
  pub answer_same : check s d ≡ check_up_to scope_bound s d
  pub told_same : (ks : List Call) (a : Checked) (os : List Outcome) (h : Option History) → ToldUpTo max_bound s d ks a os h ↔ ToldUpTo scope_bound s d ks a os h

-- A sheet of one location, two clocks and one rule, with these bounds for each clock.
abbrev pub one_rule : ℕ → ℕ → ℕ → ℕ → Bytes
one_rule low1 high1 low2 high2 = 1 ∷ 2 ∷ 1 ∷ 0 ∷ 1 ∷ 0 ∷ 10 ∷ 0 ∷ 7 ∷ 0 ∷ 0 ∷ 0 ∷ 0 ∷ low1 ∷ high1 ∷ low2 ∷ high2 ∷ []

-- Document 01's case, 30 loads and 31 is I-5, moves: 40 loads, 41 is I-5; as low and as high of each clock.
pub record CaseMoved : Type 0 where
  pub loaded_30 : check_up_to scope_bound (one_rule 30 30 30 30) 0 ≡ accepted (counts_of (one_rule 30 30 30 30))
  pub first_low_31 : check_up_to scope_bound (one_rule 31 255 0 255) 0 ≡ refused i_5
  pub first_high_31 : check_up_to scope_bound (one_rule 0 31 0 255) 0 ≡ refused i_5
  pub second_low_31 : check_up_to scope_bound (one_rule 0 255 31 255) 0 ≡ refused i_5
  pub second_high_31 : check_up_to scope_bound (one_rule 0 255 0 31) 0 ≡ refused i_5
  pub loads_40 : check (one_rule 40 40 40 40) 0 ≡ accepted (counts_of (one_rule 40 40 40 40))
  pub first_low_41 : check (one_rule 41 255 0 255) 0 ≡ refused i_5
  pub first_high_41 : check (one_rule 0 41 0 255) 0 ≡ refused i_5
  pub second_low_41 : check (one_rule 0 255 41 255) 0 ≡ refused i_5
  pub second_high_41 : check (one_rule 0 255 0 41) 0 ≡ refused i_5
