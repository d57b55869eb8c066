-- Laws of the check of a log, record by record.
-- Assumes nothing.
use mathlib.Core.Path.{◌≡◌, refl, ap, ◌∙◌}
use mathlib.Core.Bool.{Bool, true, false, ◌&&◌}
use mathlib.Core.List.{List, ◌∷◌}
use Prim.Native.Nat.{ℕ, suc, ◌≤◌, ◌<◌}
use native.Mathlib.Omega.{arith}
use lib.Dec.{leb}
use borrow.Author.Tests.{le-leb, lt-leb, leb-true}
use Rattle.enforcement.specs.Limits.{max_date}
use Rattle.logs.specs.Conversion.{Refusal, i_10, i_11, Outcome, converted, refused, unless, check_from}

-- Both of two tests.
pub both : (a b : Bool) → a && b ≡ true → (a ≡ true) × (b ≡ true)
both true b e = (refl, e)
both false b e = let z : ◌≡◌ {A = ℕ} 0 1 = cc in absurd (omega arith)

-- Where nothing is refused the test passes, and so does what follows.
pub passed : (b : Bool) (r : Refusal) (o : Outcome) → unless b r o ≡ converted → (b ≡ true) × (o ≡ converted)
passed true r o p = (refl, p)
passed false r o p = let z : ◌≡◌ {A = ℕ} 0 1 = cc in absurd (omega arith)

module _ (k d e : ℕ) (ds : List ℕ) where
  -- What follows the test for I-10.
  early : e ≤ max_date → check_from k d (e ∷ ds) ≡ unless (leb d e) (i_11 k) (check_from (suc k) e ds)
  unfolding check_from
  early h = ap (λ (b : Bool). unless b (i_10 k) (unless (leb d e) (i_11 k) (check_from (suc k) e ds))) (le-leb e max_date h)

  pub late : max_date < e → check_from k d (e ∷ ds) ≡ refused (i_10 k)
  unfolding check_from
  late h = ap (λ (b : Bool). unless b (i_10 k) (unless (leb d e) (i_11 k) (check_from (suc k) e ds))) (lt-leb e max_date h)

  pub falling : e ≤ max_date → e < d → check_from k d (e ∷ ds) ≡ refused (i_11 k)
  falling h l = early h ∙ ap (λ (b : Bool). unless b (i_11 k) (check_from (suc k) e ds)) (lt-leb d e l)

  pub sound : e ≤ max_date → d ≤ e → check_from k d (e ∷ ds) ≡ check_from (suc k) e ds
  sound h l = early h ∙ ap (λ (b : Bool). unless b (i_11 k) (check_from (suc k) e ds)) (le-leb d e l)

  -- Of a log that is converted each record is sound.
  pub record Sound : Type 0 where
    pub early : e ≤ max_date
    pub rises : d ≤ e
    pub rest : check_from (suc k) e ds ≡ converted

  pub is_sound : check_from k d (e ∷ ds) ≡ converted → Sound
  unfolding check_from
  is_sound p =
      let a = passed (leb e max_date) (i_10 k) (unless (leb d e) (i_11 k) (check_from (suc k) e ds)) p in
      let b = passed (leb d e) (i_11 k) (check_from (suc k) e ds) a.1 in
      record { early = leb-true e max_date a.0; rises = leb-true d e b.0; rest = b.1 }
