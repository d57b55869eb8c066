-- Rows of a table of costs, a place at a time.
-- Assumes nothing.
use mathlib.Core.Path.{◌≡◌, refl, ap, ◌∙◌, subst, subst⁻¹}
use mathlib.Core.Bool.{Bool, true, false}
use mathlib.Core.List.{List}
use mathlib.Core.Logic.{◌⊎◌, inl, inr, ⊎_elim}
use Prim.Native.Nat.{ℕ, suc, ◌+◌, ◌-◌, ◌≤◌, ◌<◌, min}
use native.Mathlib.Omega.{arith}
use lib.Dec.{eqb}
use lib.ListN.{length, get_or, set, length-set}
use lib.Seq.{get_or-set_same, get_or-set_other}
use borrow.Author.Tests.{eqb-true, eqb-false}
use Rattle.enforcement.specs.Model.{top, width}
use Rattle.retimer.specs.Costs.{never}
use Rattle.retimer.specs.Row.{In}
use Rattle.retimer.proofs.CostLaws.{le_or_lt}
use Rattle.retimer.specs.Layers.{cell_of, cell, tick, Small, RowTicked, Ticked, Chosen, RowsTicked}

-- ---- By other costs

-- The columns from x up to i are done.
pub record InLower (other : ℕ → ℕ) (to x end i : ℕ) (table table' : List ℕ) : Type 0 where
  pub from_x : x ≤ i
  pub not_past : (i ≤ end) ⊎ (i ≡ x)
  pub same_length : length table' ≡ length table
  pub done : (j : ℕ) → x ≤ j → j < i → get_or table' (to + j) 0 ≡ min (get_or table (to + j) 0) (other j)
  pub rest : (j : ℕ) → (j < to + x) ⊎ (to + i ≤ j) → get_or table' j 0 ≡ get_or table j 0
  pub lesser : (j : ℕ) → get_or table' j 0 ≤ get_or table j 0

module _ {other : ℕ → ℕ} {to x end : ℕ} {table : List ℕ} where
  module _ {i : ℕ} {table' : List ℕ} (w : InLower other to x end i table table') where
    pub lower_next : {v : ℕ} → i < end → to + i < length table' → v ≡ other i → InLower other to x end (i + 1) table (set table' (to + i) (min v (get_or table' (to + i) 0)))
    lower_next {v} soon inside v_is = record { from_x = omega (arith, w.from_x); not_past = inl (omega arith); same_length = length-set table' (to + i) u ∙ w.same_length; done = λ j. go j (eqb j i) refl; rest = rest; lesser = λ j. less j (eqb j (to + i)) refl }
      where
        u : ℕ
        u = min v (get_or table' (to + i) 0)

        next : List ℕ
        next = set table' (to + i) u

        here : get_or next (to + i) 0 ≡ u
        here = get_or-set_same table' (to + i) u 0 inside

        others : (j : ℕ) → (j ≡ to + i → ⊥) → get_or next j 0 ≡ get_or table' j 0
        others j f = get_or-set_other table' (to + i) j u 0 f

        rest : (j : ℕ) → (j < to + x) ⊎ (to + (i + 1) ≤ j) → get_or next j 0 ≡ get_or table j 0
        rest j h = others j (⊎_elim (λ l e. omega (arith, w.from_x)) (λ l e. omega arith) h) ∙ w.rest j (⊎_elim inl (λ l. inr (omega arith)) h)

        less : (j : ℕ) (b : Bool) → eqb j (to + i) ≡ b → get_or next j 0 ≤ get_or table j 0
        less j true e = let f = eqb-true j (to + i) e in rw f (omega (arith, here, w.lesser (to + i)))
        less j false e = omega (arith, others j (eqb-false j (to + i) e), w.lesser j)

        old : get_or table' (to + i) 0 ≡ get_or table (to + i) 0
        old = w.rest (to + i) (inr (omega arith))

        go : (j : ℕ) (b : Bool) → eqb j i ≡ b → x ≤ j → j < i + 1 → get_or next (to + j) 0 ≡ min (get_or table (to + j) 0) (other j)
        go j true e h k = let f = eqb-true j i e in rw f (omega (arith, here, old))
        go j false e h k =
            let f : j ≡ i → ⊥ = eqb-false j i e in
            others (to + j) (λ q. f (omega arith)) ∙ w.done j h (let z : j < i = omega arith in z)

-- ---- By the row after it

-- What a row costs a tick later, by the row after it.
abbrev pub after : List ℕ → ℕ → ℕ → ℕ
after table here i = suc (get_or table (here + width + tick i) 0)

-- ---- The last row

-- The columns from x on are done.
pub record InLast (here x : ℕ) (table table' : List ℕ) : Type 0 where
  pub x_fits : x ≤ top
  pub same_length : length table' ≡ length table
  pub small : Small table'
  pub done : (i : ℕ) → x ≤ i → i ≤ top → get_or table' (here + i) 0 ≡ min (get_or table (here + i) 0) (suc (get_or table' (here + tick i) 0))
  pub rest : (i : ℕ) → (i < here + x) ⊎ (here + width ≤ i) → get_or table' i 0 ≡ get_or table i 0

-- ---- Chosen locations

module _ {h places m n : ℕ} where
  chosen_wider : Chosen h m places n → Chosen h (m + 1) places n
  chosen_wider a = record { in_range = omega (arith, a.in_range); has = a.has }

  pub chosen_last : Chosen h (m + 1) places n → (n ≡ m) ⊎ (Chosen h m places n × (n ≡ m → ⊥))
  chosen_last a = by (eqb n m) refl
    where
      by : (b : Bool) → eqb n m ≡ b → (n ≡ m) ⊎ (Chosen h m places n × (n ≡ m → ⊥))
      by true e = inl (eqb-true n m e)
      by false e = let f : n ≡ m → ⊥ = eqb-false n m e in inr (record { in_range = omega (arith, a.in_range); has = a.has }, f)

  pub chosen_before : (In (h + m) places → ⊥) → Chosen h (m + 1) places n → Chosen h m places n
  chosen_before f a = ⊎_elim (λ e. absurd (f (subst (λ (j : ℕ). In (h + j) places) e a.has))) (λ o. o.0) (chosen_last a)

-- ---- One row of all locations

row_small : {here above : ℕ} {table table' : List ℕ} → RowTicked here above table table' → Small table → Small table'
row_small {here} {above} {table} {table'} r small i = by (le_or_lt here i) (le_or_lt (here + width) i)
  where
    by : (here ≤ i) ⊎ (i < here) → (here + width ≤ i) ⊎ (i < here + width) → get_or table' i 0 ≤ never
    by (inr a) b = omega (arith, r.same i (inl a), small i)
    by (inl a) (inl b) = omega (arith, r.same i (inr b), small i)
    by (inl a) (inr b) =
        let e : here + (i - here) ≡ i = omega arith in
        let f : get_or table' (here + (i - here)) 0 ≡ get_or table' i 0 = ap (λ (j : ℕ). get_or table' j 0) e in
        omega (arith, r.ticked (i - here) (omega arith), small (here + (i - here)))

-- Other rows are as before.
row_others : {m y above : ℕ} {table table' : List ℕ} → RowTicked (cell_of m 0 y) above table table' → y ≤ top → (n x z : ℕ) → (n ≡ m → ⊥) ⊎ (z ≡ y → ⊥) → x ≤ top → z ≤ top → cell table' n x z ≡ cell table n x z
row_others {m} {y} r y_fits n x z f k l = r.same (cell_of n x z) (away (le_or_lt n m) (le_or_lt m n) (le_or_lt z y) f)
  where
    away : (n ≤ m) ⊎ (m < n) → (m ≤ n) ⊎ (n < m) → (z ≤ y) ⊎ (y < z) → (n ≡ m → ⊥) ⊎ (z ≡ y → ⊥) → (cell_of n x z < cell_of m 0 y) ⊎ (cell_of m 0 y + width ≤ cell_of n x z)
    away (inr a) b c d = inr (omega arith)
    away (inl a) (inr b) c d = inl (omega arith)
    away (inl a) (inl b) c (inl d) = absurd (d (omega arith))
    away (inl a) (inl b) (inr c) (inr d) = inr (omega arith)
    away (inl a) (inl b) (inl c) (inr d) = let g : z < y = omega arith in inl (omega arith)

pub rows_begun : {h places y : ℕ} {table : List ℕ} → Small table → RowsTicked (Chosen h 0 places) y table table
rows_begun small = record { same_length = refl; small = small; ticked = λ m x a k. absurd (omega (arith, a.in_range)); same = λ m x z f k l. refl }

module _ {h places m y : ℕ} {table table' : List ℕ} (w : RowsTicked (Chosen h m places) y table table') where
  pub rows_passed : (In (h + m) places → ⊥) → RowsTicked (Chosen h (m + 1) places) y table table'
  rows_passed f = record { same_length = w.same_length; small = w.small; ticked = λ n x a k. w.ticked n x (chosen_before f a) k; same = λ n x z g k l. w.same n x z (⊎_elim (λ o. inl (λ a. o (chosen_wider a))) inr g) k l }

  pub rows_next : {next : List ℕ} → In (h + m) places → y ≤ top → RowTicked (cell_of m 0 y) (cell_of m 0 (tick y)) table' next → RowsTicked (Chosen h (m + 1) places) y table next
  rows_next {next} has y_fits r = record {
    same_length = r.same_length ∙ w.same_length;
    small = row_small r w.small;
    ticked = λ n x a k. go n x k (chosen_last a);
    same = λ n x z f k l. row_others r y_fits n x z (⊎_elim (λ g. inl (λ e. g (record { in_range = omega arith; has = subst⁻¹ (λ (j : ℕ). In (h + j) places) e has }))) inr f) k l ∙ w.same n x z (⊎_elim (λ g. inl (λ a. g (chosen_wider a))) inr f) k l;
  }
    where
      own : (x : ℕ) → x ≤ top → Ticked m x y table next
      own x k =
          let a : get_or next (cell_of m 0 y + x) 0 ≡ cell next m x y = ap (λ (j : ℕ). get_or next j 0) (let q : cell_of m 0 y + x ≡ cell_of m x y = omega arith in q) in
          let b : get_or next (cell_of m 0 (tick y) + tick x) 0 ≡ cell next m (tick x) (tick y) = ap (λ (j : ℕ). get_or next j 0) (let q : cell_of m 0 (tick y) + tick x ≡ cell_of m (tick x) (tick y) = omega arith in q) in
          let d : get_or table' (cell_of m 0 y + x) 0 ≡ cell table m x y = ap (λ (j : ℕ). get_or table' j 0) (let q : cell_of m 0 y + x ≡ cell_of m x y = omega arith in q) ∙ w.same m x y (inl (λ o. omega (arith, o.in_range))) k y_fits in
          omega (arith, r.ticked x k)

      go : (n x : ℕ) → x ≤ top → (n ≡ m) ⊎ (Chosen h m places n × (n ≡ m → ⊥)) → Ticked n x y table next
      go n x k (inl e) = subst⁻¹ (λ (j : ℕ). Ticked j x y table next) e (own x k)
      go n x k (inr o) =
          let a = row_others r y_fits n x y (inl o.1) k y_fits in
          let b = row_others r y_fits n (tick x) (tick y) (inl o.1) (omega arith) (omega arith) in
          let d = w.ticked n x o.0 k in
          omega arith

-- ---- All rows

-- The rows from y on are done.
pub record InTicks (P : ℕ → Type 0) (y : ℕ) (table table' : List ℕ) : Type 0 where
  pub y_fits : y ≤ width
  pub same_length : length table' ≡ length table
  pub small : Small table'
  pub done : (m x z : ℕ) → P m → x ≤ top → y ≤ z → z ≤ top → Ticked m x z table table'
  pub rest : (m x z : ℕ) → z < y → x ≤ top → z ≤ top → cell table' m x z ≡ cell table m x z

module _ {P : ℕ → Type 0} {table : List ℕ} where
  module _ {y : ℕ} {table' : List ℕ} (w : InTicks P y table table') where
    pub ticks_next : {next : List ℕ} → 0 < y → RowsTicked P (y - 1) table' next → InTicks P (y - 1) table next
    ticks_next {next} some r = record {
      y_fits = let f = w.y_fits in omega arith;
      same_length = r.same_length ∙ w.same_length;
      small = r.small;
      done = λ m x z g h k l. go m x z g h k l (eqb z (y - 1)) refl;
      rest = λ m x z f h k. r.same m x z (inr (λ e. omega arith)) h k ∙ w.rest m x z (omega arith) h k;
    }
      where
        go : (m x z : ℕ) → P m → x ≤ top → y - 1 ≤ z → z ≤ top → (b : Bool) → eqb z (y - 1) ≡ b → Ticked m x z table next
        go m x z g h k l true e =
            let f : z ≡ y - 1 = eqb-true z (y - 1) e in
            let a : Ticked m x z table' next = subst⁻¹ (λ (j : ℕ). Ticked m x j table' next) f (r.ticked m x g h) in
            let d = w.rest m x z (omega arith) h l in
            omega arith
        go m x z g h k l false e =
            let f : z ≡ y - 1 → ⊥ = eqb-false z (y - 1) e in
            let i : y ≤ z = omega arith in
            let a = r.same m x z (inr f) h l in
            let b = r.same m (tick x) (tick z) (inr (λ q. omega arith)) (omega arith) (omega arith) in
            let d = w.done m x z g h i l in
            omega arith
