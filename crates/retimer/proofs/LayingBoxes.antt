-- The box of a transition, a row at a time, and what its costs say.
-- Assumes nothing.
use mathlib.Core.Path.{◌≡◌, refl, ap, sym, ◌∙◌, subst}
use mathlib.Core.Bool.{Bool, true, false, cond}
use mathlib.Core.List.{List}
use mathlib.Core.Logic.{◌⊎◌, inl, inr, ⊎_elim}
use Prim.Native.Nat.{ℕ, ◌+◌, ◌*◌, ◌/◌, ◌%◌, ◌≤◌, ◌<◌, min}
use native.Mathlib.Omega.{arith}
use lib.Dec.{eqb}
use lib.ListN.{length, get_or}
use borrow.Author.Tests.{eqb-true, eqb-false}
use Rattle.enforcement.specs.Automaton.{Transition, bit, within}
use Rattle.enforcement.specs.Loading.{Bounds}
use Rattle.enforcement.specs.Model.{top, width}
use Rattle.retimer.specs.Readings.{past}
use Rattle.retimer.specs.Layers.{cell_of, cell, RowLowered, BoxLowered}
use Rattle.retimer.proofs.sets.Bounding.{enabled_tests, past_ordered, within_past, within_inside}
use Rattle.retimer.proofs.CostLaws.{le_or_lt}

-- A place of another row, or of another column, is not among those of a row.
apart : (r x b lo hi : ℕ) → x ≤ top → lo ≤ width → hi ≤ width → (r < b) ⊎ (b < r) ⊎ (x < lo) ⊎ (hi ≤ x) → (r * width + x < b * width + lo) ⊎ (b * width + hi ≤ r * width + x)
apart r x b lo hi h k l (inl m) = inl (omega arith)
apart r x b lo hi h k l (inr (inl m)) = inr (omega arith)
apart r x b lo hi h k l (inr (inr m)) = go (le_or_lt b r) (le_or_lt r b) m
  where
    go : (b ≤ r) ⊎ (r < b) → (r ≤ b) ⊎ (b < r) → (x < lo) ⊎ (hi ≤ x) → (r * width + x < b * width + lo) ⊎ (b * width + hi ≤ r * width + x)
    go (inr u) v m = inl (omega arith)
    go (inl u) (inr v) m = inr (omega arith)
    go (inl u) (inl v) (inl m) = inl (omega arith)
    go (inl u) (inl v) (inr m) = inr (omega arith)

-- The first reset bit, as the code has it.
pub first_bit : (set : ℕ) → eqb (set % 2) 1 ≡ bit set 0
first_bit set = ap (λ (n : ℕ). eqb n 1) (let z : set % 2 ≡ (set / 1) % 2 = omega arith in z)

pub row_of : {other : ℕ → ℕ} {to x end lo hi : ℕ} {table next : List ℕ} → x ≡ lo → end ≡ hi → RowLowered other to x end table next → RowLowered other to lo hi table next
row_of {other} {to} {x} {end} {lo} {hi} {table} {next} e f r = subst (λ (n : ℕ). RowLowered other to lo n table next) f (subst (λ (n : ℕ). RowLowered other to n end table next) e r)

-- The rows from the transition's first one up to y are done.
pub record InBox (v : Transition) (other : List ℕ) (t m y : ℕ) (table table' : List ℕ) : Type 0 where
  pub from_low : v.low2 ≤ y
  pub not_past : y ≤ past v.high2
  pub same_length : length table' ≡ length table
  pub lesser : (i : ℕ) → get_or table' i 0 ≤ get_or table i 0
  pub done : (x z : ℕ) → v.low1 ≤ x → x < past v.high1 → v.low2 ≤ z → z < y → cell table' m x z ≡ min (cell table m x z) (cell other t (cond (bit v.resets 0) 0 x) (cond (bit v.resets 1) 0 z))
  pub rest : (r x : ℕ) → x ≤ top → (r < m * width + v.low2) ⊎ (m * width + y ≤ r) ⊎ (x < v.low1) ⊎ (past v.high1 ≤ x) → get_or table' (r * width + x) 0 ≡ get_or table (r * width + x) 0

module _ {v : Transition} (first : Bounds v.low1 v.high1) (second : Bounds v.low2 v.high2) {other : List ℕ} {t m : ℕ} {table : List ℕ} where
  module _ {y : ℕ} {table' : List ℕ} (w : InBox v other t m y table table') where
    pub box_done : past v.high2 ≤ y → BoxLowered v other t m table table'
    box_done h = record {
      others = record { same_length = w.same_length; same = λ n x z f k l. w.rest (n * width + z) x k (away n z f l (le_or_lt n m)) };
      lesser = w.lesser;
      inside = λ x z k l e. let a = (enabled_tests v x z).passes e in let b = (within_past v.low1 v.high1 x k).1 a.0 in let d = (within_past v.low2 v.high2 z l).1 a.1 in w.done x z b.0 b.1 d.0 (omega (arith, d.1));
      outside = λ x z k l e. w.rest (m * width + z) x k (out x z k l ((enabled_tests v x z).fails e) (le_or_lt v.low2 z) (le_or_lt (past v.high2) z) (le_or_lt v.low1 x) (le_or_lt (past v.high1) x));
    }
      where
        far : past v.high2 ≤ width
        far = (past_ordered v.low2 v.high2 second).1

        Out : ℕ → ℕ → Type 0
        Out r x = (r < m * width + v.low2) ⊎ (m * width + y ≤ r) ⊎ (x < v.low1) ⊎ (past v.high1 ≤ x)

        away : (n z : ℕ) {x : ℕ} → (n ≡ m → ⊥) → z ≤ top → (n ≤ m) ⊎ (m < n) → Out (n * width + z) x
        away n z f l (inl o) = let g : n < m = omega arith in inl (omega arith)
        away n z f l (inr o) = let g = far in let k = w.not_past in inr (inl (omega arith))

        out : (x z : ℕ) → x ≤ top → z ≤ top → ((within v.low1 v.high1 x ≡ true) × (within v.low2 v.high2 z ≡ true) → ⊥) → (v.low2 ≤ z) ⊎ (z < v.low2) → (past v.high2 ≤ z) ⊎ (z < past v.high2) → (v.low1 ≤ x) ⊎ (x < v.low1) → (past v.high1 ≤ x) ⊎ (x < past v.high1) → Out (m * width + z) x
        out x z k l f (inr a) b c d = inl (omega arith)
        out x z k l f (inl a) (inl b) c d = let g = w.not_past in inr (inl (omega arith))
        out x z k l f (inl a) (inr b) (inr c) d = inr (inr (inl c))
        out x z k l f (inl a) (inr b) (inl c) (inl d) = inr (inr (inr d))
        out x z k l f (inl a) (inr b) (inl c) (inr d) = absurd (f (within_inside v.low1 v.high1 x c d k, within_inside v.low2 v.high2 z a b l))

    pub box_next : {next : List ℕ} {from to : ℕ} {spread : Bool} → y < past v.high2 → from ≡ cell_of t 0 (cond (bit v.resets 1) 0 y) → spread ≡ bit v.resets 0 → to ≡ cell_of m 0 y
        → RowLowered (λ i. get_or other (cond spread from (from + i)) 0) to v.low1 (past v.high1) table' next → InBox v other t m (y + 1) table next
    box_next {next} {from} {to} {spread} soon from_is spread-is to_is r = record {
      from_low = omega (arith, w.from_low);
      not_past = omega arith;
      same_length = r.same_length ∙ w.same_length;
      lesser = λ i. omega (arith, r.lesser i, w.lesser i);
      done = λ x z. go x z (eqb z y) refl;
      rest = rest;
    }
      where
        wide : (v.low1 ≤ past v.high1) × (past v.high1 ≤ width)
        wide = past_ordered v.low1 v.high1 first

        same : (q x : ℕ) → x ≤ top → (q < m * width + y) ⊎ (m * width + y < q) ⊎ (x < v.low1) ⊎ (past v.high1 ≤ x) → get_or next (q * width + x) 0 ≡ get_or table' (q * width + x) 0
        same q x h o = r.same (q * width + x) (⊎_elim (λ l. inl (omega arith)) (λ l. inr (omega arith)) (apart q x (m * width + y) v.low1 (past v.high1) h (omega (arith, wide)) wide.1 o))

        rest : (q x : ℕ) → x ≤ top → (q < m * width + v.low2) ⊎ (m * width + (y + 1) ≤ q) ⊎ (x < v.low1) ⊎ (past v.high1 ≤ x) → get_or next (q * width + x) 0 ≡ get_or table (q * width + x) 0
        rest q x h (inl a) = let g = w.from_low in same q x h (inl (omega arith)) ∙ w.rest q x h (inl a)
        rest q x h (inr (inl a)) = same q x h (inr (inl (omega arith))) ∙ w.rest q x h (inr (inl (omega arith)))
        rest q x h (inr (inr a)) = same q x h (inr (inr a)) ∙ w.rest q x h (inr (inr a))

        place : (x : ℕ) (b : Bool) → cond b from (from + x) ≡ from + cond b 0 x
        place x true = omega arith
        place x false = refl

        go : (x z : ℕ) (b : Bool) → eqb z y ≡ b → v.low1 ≤ x → x < past v.high1 → v.low2 ≤ z → z < y + 1 → cell next m x z ≡ min (cell table m x z) (cell other t (cond (bit v.resets 0) 0 x) (cond (bit v.resets 1) 0 z))
        go x z true e a b k l =
            let f : z ≡ y = eqb-true z y e in
            let i : to + x ≡ cell_of m x y = omega arith in
            let j : cond spread from (from + x) ≡ cell_of t (cond (bit v.resets 0) 0 x) (cond (bit v.resets 1) 0 y) = place x spread ∙ ap (λ (o : Bool). from + cond o 0 x) spread-is ∙ ap (λ (n : ℕ). n + cond (bit v.resets 0) 0 x) from_is ∙ omega arith in
            let d : get_or table' (to + x) 0 ≡ cell table m x y = ap (λ (n : ℕ). get_or table' n 0) i ∙ w.rest (m * width + y) x (omega (arith, wide)) (inr (inl (omega arith))) in
            rw f (ap (λ (n : ℕ). get_or next n 0) (sym i) ∙ r.lowered x a b ∙ ap (λ (n : ℕ). min n (get_or other (cond spread from (from + x)) 0)) d ∙ ap (λ (n : ℕ). min (cell table m x y) (get_or other n 0)) j)
        go x z false e a b k l =
            let f : z ≡ y → ⊥ = eqb-false z y e in
            let g : z < y = omega arith in
            same (m * width + z) x (omega (arith, wide)) (inl (omega arith)) ∙ w.done x z a b k g
