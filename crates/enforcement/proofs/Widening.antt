-- A larger largest bound changes nothing on sheets that load with a smaller one.
-- Assumes nothing.
use mathlib.Core.Path.{◌≡◌, refl, ap, sym, ◌∙◌}
use mathlib.Core.Bool.{true}
use mathlib.Core.List.{List}
use mathlib.Core.Option.{Option, some}
use Prim.Native.Nat.{ℕ, ◌≤◌}
use native.Mathlib.Omega.{arith}
use Rattle.enforcement.specs.Limits.{max_bound}
use Rattle.enforcement.specs.Automaton.{Bytes, automaton, transitions, transitions_over, all_transitions}
use Rattle.enforcement.specs.Reason.{Reason, i_1, i_2, i_3, i_4, i_5}
use Rattle.enforcement.specs.Loading.{LoadsUpTo, Checked, refused, size_passes, header_passes, initial_passes, pairs_pass, layout_passes, fits_up_to, all_fit_up_to, overlap, overlaps_none, disjoint, disjoint_over, check_up_to}
use Rattle.enforcement.specs.History.{History, fresh, Call, Outcome}
use Rattle.enforcement.specs.Widening.{scope_bound, ToldUpTo, refuses, loads, Kept, AsBefore, CaseMoved}
use Rattle.enforcement.proofs.Tests.{test_true}
use Rattle.enforcement.proofs.Fitting.{all_fit_tests, all_fit_wider}
use Rattle.enforcement.proofs.Reasons.{answers_differ}
use Rattle.enforcement.proofs.Loading.{check_right_up_to}
use Rattle.enforcement.proofs.Uniqueness.{one_history}
use Rattle.enforcement.proofs.Staying.{stays_behind, stays_passed, loads_wider}

-- One thing is told, and nothing else.
pub told_once : (b : ℕ) (s : Bytes) (d : ℕ) (ks : List Call) {a a' : Checked} {os os' : List Outcome} {h h' : Option History} → ToldUpTo b s d ks a os h → ToldUpTo b s d ks a' os' h' → (a ≡ a') × (os ≡ os') × (h ≡ h')
told_once b s d ks (refuses e) (refuses f) = (sym e ∙ f, refl, refl)
told_once b s d ks (refuses e) (loads f q) = answers_differ (sym f ∙ e)
told_once b s d ks (loads e p) (refuses f) = answers_differ (sym e ∙ f)
told_once b s d ks (loads {os = os} {h = h} e p) (loads {os = os'} {h = h'} f q) = let z = one_history (automaton s d) (fresh (automaton s d)) ks os os' h h' p q in (sym e ∙ f, z.0, ap some z.1)

-- What is told where the check answers the same.
told_with : (b c : ℕ) (s : Bytes) (d : ℕ) (ks : List Call) {a : Checked} {os : List Outcome} {h : Option History} → check_up_to c s d ≡ check_up_to b s d → ToldUpTo b s d ks a os h → ToldUpTo c s d ks a os h
told_with b c s d ks e (refuses f) = refuses (e ∙ f)
told_with b c s d ks e (loads f r) = loads (e ∙ f) r

module _ (b c : ℕ) (wider : b ≤ c) (s : Bytes) (d : ℕ) where
  test_wider : all_fit_up_to b s (all_transitions s) ≡ true → all_fit_up_to c s (all_transitions s) ≡ true
  test_wider e = test_true (all_fit_tests c s (all_transitions s)) (all_fit_wider wider s (all_transitions s) ((all_fit_tests b s (all_transitions s)).passes e))

  answer_same : (check_up_to b s d ≡ refused i_5 → ⊥) → check_up_to c s d ≡ check_up_to b s d
  unfolding check_up_to
  answer_same =
      stays_behind (size_passes s) i_1 _ _
      (stays_behind (header_passes s) i_2 _ _
      (stays_behind (initial_passes s) i_3 _ _
      (stays_behind (layout_passes s) i_4 _ _
      (stays_passed (all_fit_up_to b s (all_transitions s)) (all_fit_up_to c s (all_transitions s)) _ test_wider))))

  pub kept : Kept b c s d
  kept = record {
    still_loads = loads_wider b c wider s d;
    answer_same = answer_same;
    told_same = λ n ks a os h. (told_with c b s d ks (sym (answer_same n)), told_with b c s d ks (answer_same n));
  }

-- A sheet that loads is not refused.
not_refused : (b : ℕ) (s : Bytes) (d : ℕ) (r : Reason) → b ≤ 255 → LoadsUpTo b s d → check_up_to b s d ≡ refused r → ⊥
not_refused b s d r small h e = h r (((check_right_up_to b s d small).refuses r).0 e).holds

pub as_before : (s : Bytes) (d : ℕ) → LoadsUpTo scope_bound s d → AsBefore s d
as_before s d h =
    let k : Kept scope_bound max_bound s d = kept scope_bound max_bound (omega arith) s d in
    let n = not_refused scope_bound s d i_5 (omega arith) h in
    record { loads = k.still_loads h; answer_same = k.answer_same n; told_same = k.told_same n }

pub case_moved : CaseMoved
unfolding transitions transitions_over check_up_to size_passes header_passes initial_passes pairs_pass layout_passes fits_up_to all_fit_up_to overlap overlaps_none disjoint disjoint_over
case_moved = record { loaded_30 = refl; first_low_31 = refl; first_high_31 = refl; second_low_31 = refl; second_high_31 = refl; loads_40 = refl; first_low_41 = refl; first_high_41 = refl; second_low_41 = refl; second_high_41 = refl }
