-- Laws of diagonals: where two readings lie, which others lie there too, and that the counts have the earlier ones.
-- Assumes nothing.
use mathlib.Core.Path.{◌≡◌, refl, ap}
use mathlib.Core.Bool.{Bool, true, false}
use mathlib.Core.List.{List}
use Prim.Native.Nat.{ℕ, ◌+◌, ◌*◌, ◌-◌, ◌≤◌, ◌<◌, min}
use native.Mathlib.Omega.{arith}
use lib.Dec.{eqb}
use lib.ListN.{get_or}
use borrow.Author.Tests.{eq-eqb, ne_eqb, eqb-true, eqb-false, ltb-true, lt-ltb}
use Rattle.enforcement.specs.Model.{top, width}
use Rattle.retimer.specs.Counts.{diagonals, diagonal, position, counted}

module _ (x y : ℕ) where
  pub diagonal_top : y ≡ top → 0 ≡ diagonal x y
  unfolding diagonal
  diagonal_top e = rw (eq-eqb y top e) refl

  pub diagonal_below : (y ≡ top → ⊥) → x + (top - y) ≡ diagonal x y
  unfolding diagonal
  diagonal_below ne = rw (ne_eqb y top ne) refl

  pub position_top : y ≡ top → x ≡ position x y
  unfolding position
  position_top e = rw (eq-eqb y top e) refl

  pub position_below : (y ≡ top → ⊥) → position x y ≡ min x y
  unfolding position
  position_below ne = rw (ne_eqb y top ne) refl

  line : y < top → x + (top - y) ≡ diagonal x y
  line h = diagonal_below (λ e. omega arith)

  pub diagonal_small : x ≤ top → y ≤ top → diagonal x y < diagonals
  diagonal_small h g = go (eqb y top) refl
    where
      go : (b : Bool) → eqb y top ≡ b → diagonal x y < diagonals
      go true e = omega (arith, diagonal_top (eqb-true y top e))
      go false e = let ne = eqb-false y top e in omega (arith, diagonal_below ne)

  pub position_small : x ≤ top → y ≤ top → position x y ≤ top
  position_small h g = go (eqb y top) refl
    where
      go : (b : Bool) → eqb y top ≡ b → position x y ≤ top
      go true e = omega (arith, position_top (eqb-true y top e))
      go false e = let ne = eqb-false y top e in omega (arith, position_below ne)

  -- They are not that of the saturated ones.
  pub diagonal_other : y < top → diagonal x y ≡ 0 → ⊥
  diagonal_other h e = omega (arith, line h)

  pub position_min : y < top → position x y ≡ min x y
  position_min h = position_below (λ e. omega arith)

-- On one diagonal the readings differ alike, and where they do so they are on one diagonal.
module _ (x y z w : ℕ) (h : y < top) (g : w < top) where
  pub same_line : diagonal x y ≡ diagonal z w → x + w ≡ z + y
  same_line e = omega (arith, line x y h, line z w g)

  pub line_same : x + w ≡ z + y → diagonal x y ≡ diagonal z w
  line_same e = omega (arith, line x y h, line z w g)

-- Of two configurations of one diagonal the counts have the earlier if they have the later.
pub counted_earlier : (counts : List ℕ) (l x y z w : ℕ) → diagonal x y ≡ diagonal z w → position x y ≤ position z w → counted counts l z w ≡ true → counted counts l x y ≡ true
counted_earlier counts l x y z w d p e =
    let h : get_or counts (l * diagonals + diagonal x y) 0 ≡ get_or counts (l * diagonals + diagonal z w) 0 = ap (λ (n : ℕ). get_or counts (l * diagonals + n) 0) d in
    lt-ltb (position x y + get_or counts (l * diagonals + diagonal x y) 0) width (omega (arith, ltb-true (position z w + get_or counts (l * diagonals + diagonal z w) 0) width e))
