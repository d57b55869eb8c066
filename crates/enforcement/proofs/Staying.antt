-- What stays where the largest bound is larger: answers behind a test, and that a sheet loads.
-- Assumes nothing.
use mathlib.Core.Path.{◌≡◌, refl, ap}
use mathlib.Core.Bool.{Bool, true, false}
use Prim.Native.Nat.{ℕ, ◌≤◌}
use Rattle.enforcement.specs.Automaton.{Bytes, all_transitions}
use Rattle.enforcement.specs.Reason.{Reason, i_1, i_2, i_3, i_4, i_5, i_6, i_7, i_8, s_1, s_2, s_3, s_4, s_5}
use Rattle.enforcement.specs.Loading.{HoldsUpTo, LoadsUpTo, Checked, refused, unless}
use Rattle.enforcement.proofs.Fitting.{all_fit_wider}

-- Where an answer that is not I-5 stays, it stays behind a test that reads no largest bound.
pub stays_behind : (x : Bool) (r : Reason) (k l : Checked) → ((k ≡ refused i_5 → ⊥) → l ≡ k) → (unless x r k ≡ refused i_5 → ⊥) → unless x r l ≡ unless x r k
stays_behind true r k l f g = f g
stays_behind false r k l f g = refl

-- The test of I-5, which passes more.
pub stays_passed : (x y : Bool) (k : Checked) → (x ≡ true → y ≡ true) → (unless x i_5 k ≡ refused i_5 → ⊥) → unless y i_5 k ≡ unless x i_5 k
stays_passed true y k f g = ap (λ (z : Bool). unless z i_5 k) (f refl)
stays_passed false y k f g = absurd (g refl)

module _ (b c : ℕ) (wider : b ≤ c) (s : Bytes) (d : ℕ) where
  pub loads_wider : LoadsUpTo b s d → LoadsUpTo c s d
  unfolding HoldsUpTo
  loads_wider h i_1 = h i_1
  loads_wider h i_2 = h i_2
  loads_wider h i_3 = h i_3
  loads_wider h i_4 = h i_4
  loads_wider h i_5 = λ k. h i_5 (λ f. k (all_fit_wider wider s (all_transitions s) f))
  loads_wider h i_6 = h i_6
  loads_wider h i_7 = h i_7
  loads_wider h i_8 = h i_8
  loads_wider h s_1 = h s_1
  loads_wider h s_2 = h s_2
  loads_wider h s_3 = h s_3
  loads_wider h s_4 = h s_4
  loads_wider h s_5 = h s_5
