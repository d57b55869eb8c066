-- Laws of the readings: waiting, resets, and the configurations that they make.
-- Assumes nothing.
use mathlib.Core.Path.{◌≡◌, refl}
use mathlib.Core.Bool.{Bool, true, false, cond}
use mathlib.Core.List.{List, [], ◌∷◌}
use Prim.Native.Nat.{ℕ, ◌+◌, ◌≤◌, ◌/◌, ◌%◌, min}
use native.Mathlib.Omega.{arith}
use lib.Dec.{eqb}
use lib.ListN.{get_or}
use Rattle.enforcement.specs.Automaton.{Bytes, Transition, bit}
use Rattle.enforcement.specs.Loading.{Fits}
use Rattle.enforcement.specs.TimedWord.{fire}
use Rattle.enforcement.specs.Model.{top, advance}
use Rattle.retimer.specs.Readings.{Readings, waited, reset_by, located, Standing}

-- ---- Readings

pub waited_readings : (n : ℕ) (r : List ℕ) → Readings (waited n r)
unfolding waited
waited_readings n r = record { two = refl; first = omega arith; second = omega arith }

pub cond_most : (b : Bool) (x n : ℕ) → x ≤ n → cond b 0 x ≤ n
cond_most true x n h = omega arith
cond_most false x n h = h

pub reset_readings : (set : ℕ) {r : List ℕ} → Readings r → Readings (reset_by set r)
unfolding reset_by
reset_readings set {r} h = record { two = refl; first = cond_most (bit set 0) (get_or r 0 0) top h.first; second = cond_most (bit set 1) (get_or r 1 0) top h.second }

-- What a function that builds the two readings shows of them.
pub built_waited : (n : ℕ) (r : List ℕ) {a b : ℕ} → a ≡ min (get_or r 0 0 + n) top → b ≡ min (get_or r 1 0 + n) top → ((a ∷ b ∷ []) ≡ waited n r) × Readings (a ∷ b ∷ [])
unfolding waited
built_waited n r e f = (cc, record { two = refl; first = omega arith; second = omega arith })

pub built_reset : (set : ℕ) {r : List ℕ} {a b : ℕ} → Readings r → a ≡ cond (eqb (set % 2) 1) 0 (get_or r 0 0) → b ≡ cond (eqb (set / 2 % 2) 1) 0 (get_or r 1 0) → ((a ∷ b ∷ []) ≡ reset_by set r) × Readings (a ∷ b ∷ [])
unfolding reset_by
built_reset set {r} {a} {b} h e f =
    let d : set / 1 ≡ set = omega arith in
    let same : (a ∷ b ∷ []) ≡ reset_by set r = rw (d, e, f) refl in
    (same, rw same (reset_readings set h))

-- ---- Configurations

pub located_waited : (l n : ℕ) (r : List ℕ) → located l (waited n r) ≡ advance n (located l r)
unfolding waited
located_waited l n r = refl

pub located_reset : (t : Transition) (l : ℕ) (r : List ℕ) → located t.target (reset_by t.resets r) ≡ fire t (located l r)
unfolding reset_by
located_reset t l r = refl

pub standing_waited : (s : Bytes) (l n : ℕ) (r : List ℕ) → Standing s l r → Standing s l (waited n r)
unfolding waited
standing_waited s l n r h = record { in_sheet = h.in_sheet; readings = waited_readings n r; one_clock = λ e. let y = h.one_clock e in omega arith }

pub standing_fired : (s : Bytes) (l : ℕ) (r : List ℕ) (t : Transition) → Fits s t → Standing s l r → Standing s t.target (reset_by t.resets r)
unfolding reset_by
standing_fired s l r t f h = record { in_sheet = f.target_fits; readings = reset_readings t.resets h.readings; one_clock = λ e. rw (f.one_clock e).kept (h.one_clock e) }
