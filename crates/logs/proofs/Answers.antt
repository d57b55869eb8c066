-- What a conversion answers, by the lengths and the records.
-- Assumes nothing.
use mathlib.Core.Path.{◌≡◌, refl, sym, ap, ◌∙◌}
use mathlib.Core.Bool.{Bool, true, false, ◌&&◌}
use mathlib.Core.List.{List}
use Prim.Native.Nat.{ℕ, ◌%◌}
use Rattle.std.specs.Prelude.{Result, Ok, Err}
use native.Mathlib.Omega.{arith}
use lib.Dec.{eqb}
use lib.ListN.{length}
use borrow.Author.Tests.{eq-eqb, ne_eqb, eqb-true}
use Rattle.enforcement.specs.Automaton.{Bytes}
use Rattle.logs.specs.declared.format.Format.{Format}
use Rattle.logs.specs.declared.convert.Refusal as code
use Rattle.logs.specs.declared.convert.Refusal.TheVariants.{Length, Late, Falling}
use Rattle.logs.specs.Conversion.{i_9, converted, refused, unless, check_from, check, answer, output, outcome_of, ConvertRight}
use Rattle.logs.proofs.Checks.{both, passed}

and_false : (b : Bool) → b && false ≡ false
and_false true = refl
and_false false = refl

module _ (n m : ℕ) (ds : List ℕ) where
  pub not_whole : (n % 5 ≡ 0 → ⊥) → check n m ds ≡ refused i_9
  unfolding check
  not_whole h = ap (λ (b : Bool). unless (b && eqb m n) i_9 (check_from 0 0 ds)) (ne_eqb (n % 5) 0 h)

  pub not_sized : (m ≡ n → ⊥) → check n m ds ≡ refused i_9
  unfolding check
  not_sized h = ap (λ (b : Bool). unless (eqb (n % 5) 0 && b) i_9 (check_from 0 0 ds)) (ne_eqb m n h) ∙ ap (λ (b : Bool). unless b i_9 (check_from 0 0 ds)) (and_false (eqb (n % 5) 0))

  pub by_records : n % 5 ≡ 0 → m ≡ n → check n m ds ≡ check_from 0 0 ds
  unfolding check
  by_records p q = ap (λ (b : Bool). unless (b && eqb m n) i_9 (check_from 0 0 ds)) (eq-eqb (n % 5) 0 p) ∙ ap (λ (b : Bool). unless b i_9 (check_from 0 0 ds)) (eq-eqb m n q)

-- What is known of a log that is converted.
pub record Accepted (n m : ℕ) (ds : List ℕ) : Type 0 where
  pub whole : n % 5 ≡ 0
  pub sized : m ≡ n
  pub sound : check_from 0 0 ds ≡ converted

pub accepted : (n m : ℕ) (ds : List ℕ) → check n m ds ≡ converted → Accepted n m ds
unfolding check
accepted n m ds p =
    let a = passed (eqb (n % 5) 0 && eqb m n) i_9 (check_from 0 0 ds) p in
    let b = both (eqb (n % 5) 0) (eqb m n) a.0 in
    record { whole = eqb-true (n % 5) 0 b.0; sized = eqb-true m n b.1; sound = a.1 }

-- A refusal is no conversion.
never : (e : code.Refusal) → outcome_of (Err e) ≡ converted → ⊥
never Length p = let z : ◌≡◌ {A = ℕ} 0 1 = cc in omega arith
never (Late k) p = let z : ◌≡◌ {A = ℕ} 0 1 = cc in omega arith
never (Falling k) p = let z : ◌≡◌ {A = ℕ} 0 1 = cc in omega arith

-- A refusal leaves the output, and what is converted is written.
module _ (f : Format) (s before : Bytes) where
  pub refusing : (r : Result (Unit {0}) code.Refusal) (e : code.Refusal) → r ≡ Err e → outcome_of r ≡ answer f s (length before) → ConvertRight f s before r before
  refusing r e i a = record { answered = a; output_right = record { written = λ c. absurd (never e (sym (ap outcome_of i) ∙ a ∙ c)); untouched = λ q c. refl } }

  pub converting : (after : Bytes) → answer f s (length before) ≡ converted → after ≡ output f s → ConvertRight f s before (Ok tt) after
  converting after a w = record { answered = sym a; output_right = record { written = λ c. w; untouched = λ q c. let z : ◌≡◌ {A = ℕ} 0 1 = cc in absurd (omega arith) } }
