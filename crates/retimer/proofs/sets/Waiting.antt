-- Laws of waiting on a location's rows: the loop adds to each row the row before it a tick later, and the last row then grows upward.
-- Assumes nothing.
use mathlib.Core.Path.{◌≡◌, refl, ap, ap₂, sym, ◌∙◌}
use mathlib.Core.Bool.{Bool, true, false}
use mathlib.Core.List.{List}
use mathlib.Core.Logic.{◌⊎◌, inl, inr, ⊎_elim, ◌↔◌}
use Prim.Native.Nat.{ℕ, zero, suc, ◌+◌, ◌^◌, ◌≤◌, ◌<◌, min, ◌-◌}
use native.Mathlib.Omega.{arith}
use lib.Dec.{eqb, ltb}
use lib.ListN.{length, get_or, set, length-set}
use lib.Seq.{get_or-set_same, get_or-set_other}
use lib.Bits.{bit_or, or_lt}
use borrow.Author.Tests.{eqb-true, eqb-false, ltb-true, ltb-false}
use Rattle.enforcement.specs.Automaton.{bit}
use Rattle.enforcement.specs.Model.{top, width}
use Rattle.retimer.specs.Row.{In, TickAfter, Upward}
use Rattle.retimer.specs.Sets.{Narrow, Member, Later, Waited}
use Rattle.enforcement.proofs.Bits.{in_below, in_or}

-- ---- Stores

pub in_same : {m n : ℕ} (x : ℕ) → m ≡ n → In x m → In x n
in_same x e h = sym (ap (λ (k : ℕ). bit k x) e) ∙ h

pub member_at : (rows : List ℕ) {x y i j : ℕ} → x ≡ y → i ≡ j → Member rows x i → Member rows y j
member_at rows e f m = sym (ap₂ (λ (x i : ℕ). bit (get_or rows i 0) x) e f) ∙ m

pub narrow_set : (rows : List ℕ) (i v : ℕ) → Narrow rows → v < 2 ^ width → Narrow (set rows i v)
narrow_set rows i v h k j = go (eqb j i) refl (ltb i (length rows)) refl
  where
    go : (b : Bool) → eqb j i ≡ b → (d : Bool) → ltb i (length rows) ≡ d → get_or (set rows i v) j 0 < 2 ^ width
    go true e true l = let z = eqb-true j i e in rw (z, get_or-set_same rows i v 0 (ltb-true i (length rows) l)) k
    go true e false l = rw (lib.Seq.set_out rows i v (ltb-false i (length rows) l)) (h j)
    go false e d l = rw (get_or-set_other rows i j v 0 (eqb-false j i e)) (h j)

-- A member is a reading.
pub member_reading : (rows : List ℕ) (x i : ℕ) → Narrow rows → Member rows x i → x ≤ top
member_reading rows x i h m = omega (arith, in_below width (get_or rows i 0) x (h i) m)

-- ---- The loop

-- A wait that leads into row i, before the second reading saturates.
abbrev Slid : List ℕ → ℕ → ℕ → Type 0
Slid rows x i = (u : ℕ) × (z : ℕ) × (u ≤ i) × Member rows z (i - u) × (x ≡ min (z + u) top)

-- The rows up to i are done.
pub record Sliding (rows out : List ℕ) (row i : ℕ) : Type 0 where
  pub sized : length out ≡ length rows
  pub narrow : Narrow out
  pub inside : i < length rows
  pub here : row ≡ get_or out i 0
  pub done : (x j : ℕ) → j ≤ i → Member out x j ↔ Slid rows x j
  pub rest : (j : ℕ) → i < j → get_or out j 0 ≡ get_or rows j 0

stays : (rows : List ℕ) → Narrow rows → (x i : ℕ) → Member rows x i → Slid rows x i
stays rows h x i m = (0, x, omega arith, member_at rows refl (omega arith) m, omega (arith, member_reading rows x i h m))

pub sliding_begun : (rows : List ℕ) → 1 ≤ length rows → Narrow rows → Sliding rows rows (get_or rows 0 0) 0
sliding_begun rows l h = record {
  sized = refl;
  narrow = h;
  inside = l;
  here = refl;
  done = λ x j k. (stays rows h x j, λ u. let z : u.1 ≡ x = omega (arith, u.2, u.4, member_reading rows u.1 (j - u.0) h u.3) in member_at rows z (omega arith) u.3);
  rest = λ j k. refl;
}

module _ (rows out : List ℕ) (row i : ℕ) (h : Narrow rows) (m : Sliding rows out row i) where
  -- One more row.
  module _ (v : ℕ) (t : TickAfter row v) (k : i + 1 < length rows) where
    abbrev joined : ℕ
    joined = bit_or (get_or out (i + 1) 0) v

    joined_small : joined < 2 ^ width
    joined_small = or_lt width (get_or out (i + 1) 0) v (m.narrow (i + 1)) t.small

    slides : (x : ℕ) → In x joined ↔ Slid rows x (i + 1)
    slides x = (λ n. ⊎_elim here (λ n. moved ((t.right x).0 n)) ((in_or (get_or out (i + 1) 0) v x).0 n), λ s. (in_or (get_or out (i + 1) 0) v x).1 (go s.0 s.1 s.2 s.3 s.4))
      where
        here : Member out x (i + 1) → Slid rows x (i + 1)
        here n = stays rows h x (i + 1) (in_same x (m.rest (i + 1) (omega arith)) n)

        moved : (z : ℕ) × In z row × (x ≡ min (z + 1) top) → Slid rows x (i + 1)
        moved n =
            let s = (m.done n.0 i (omega arith)).0 (in_same n.0 m.here n.1) in
            (suc s.0, s.1, omega (arith, s.2), member_at rows refl (omega (arith, s.2)) s.3, omega (arith, s.4, n.2))

        go : (u z : ℕ) → u ≤ i + 1 → Member rows z (i + 1 - u) → x ≡ min (z + u) top → Member out x (i + 1) ⊎ In x v
        go zero z a n e =
            let r : z ≡ x = omega (arith, member_reading rows z (i + 1 - 0) h n) in
            inl (in_same x (sym (m.rest (i + 1) (omega arith))) (member_at rows r (omega arith) n))
        go (suc u) z a n e =
            let s : Slid rows (min (z + u) top) i = (u, z, omega arith, member_at rows refl (omega arith) n, refl) in
            inr ((t.right x).1 (min (z + u) top, in_same (min (z + u) top) (sym m.here) ((m.done (min (z + u) top) i (omega arith)).1 s), omega arith))

    pub sliding_more : Sliding rows (set out (i + 1) joined) joined (i + 1)
    sliding_more = record {
      sized = length-set out (i + 1) joined ∙ m.sized;
      narrow = narrow_set out (i + 1) joined m.narrow joined_small;
      inside = k;
      here = sym same;
      done = λ x j l. go x j l (eqb j (i + 1)) refl;
      rest = λ j l. other j (omega arith) ∙ m.rest j (omega arith);
    }
      where
        same : get_or (set out (i + 1) joined) (i + 1) 0 ≡ joined
        same = get_or-set_same out (i + 1) joined 0 (omega (arith, m.sized))

        other : (j : ℕ) → (j ≡ i + 1 → ⊥) → get_or (set out (i + 1) joined) j 0 ≡ get_or out j 0
        other j e = get_or-set_other out (i + 1) j joined 0 e

        go : (x j : ℕ) → j ≤ i + 1 → (b : Bool) → eqb j (i + 1) ≡ b → Member (set out (i + 1) joined) x j ↔ Slid rows x j
        go x j l true e = let z = eqb-true j (i + 1) e in rw (z, same) (slides x)
        go x j l false e = let z = eqb-false j (i + 1) e in rw (other j z) (m.done x j (omega arith))

  -- The last row grows upward.
  module _ (v : ℕ) (t : Upward row v) (k : i ≡ length rows - 1) where
    up : (x : ℕ) → In x v ↔ Later rows x i
    up x = (λ n. let w = (t.right x).0 n in raised w.0 w.2 w.3 ((m.done w.0 i (omega arith)).0 (in_same w.0 m.here w.1)), lowered)
      where
        raised : (y : ℕ) → y ≤ x → x ≤ top → Slid rows y i → Later rows x i
        raised y a b s = record {
          from_x = s.1;
          from_i = i - s.0;
          ticks = s.0 + (x - y);
          inside = omega (arith, m.inside);
          member = s.3;
          x_is = omega (arith, s.4);
          i_is = omega (arith, s.2, m.inside);
        }

        lowered : Later rows x i → In x v
        lowered l =
            let u : ℕ = i - l.from_i in
            let s : Slid rows (min (l.from_x + u) top) i = (u, l.from_x, omega arith, member_at rows refl (omega (arith, l.inside)) l.member, refl) in
            (t.right x).1 (min (l.from_x + u) top, in_same (min (l.from_x + u) top) (sym m.here) ((m.done (min (l.from_x + u) top) i (omega arith)).1 s), omega (arith, l.x_is, l.i_is, l.inside), omega (arith, l.x_is))

    ended : Waited rows (set out i v)
    ended = record {
      sized = length-set out i v ∙ m.sized;
      narrow = narrow_set out i v m.narrow t.small;
      right = λ x j l. go x j l (eqb j i) refl;
    }
      where
        slid_later : (x j : ℕ) → j < i → Slid rows x j → Later rows x j
        slid_later x j l s = record { from_x = s.1; from_i = j - s.0; ticks = s.0; inside = omega (arith, m.inside); member = s.3; x_is = s.4; i_is = omega (arith, s.2) }

        later_slid : (x j : ℕ) → j < i → Later rows x j → Slid rows x j
        later_slid x j l s = (s.ticks, s.from_x, omega (arith, s.i_is), member_at rows refl (omega (arith, s.i_is)) s.member, s.x_is)

        go : (x j : ℕ) → j < length rows → (b : Bool) → eqb j i ≡ b → Member (set out i v) x j ↔ Later rows x j
        go x j l true e = let z = eqb-true j i e in rw (z, get_or-set_same out i v 0 (omega (arith, m.sized, m.inside))) (up x)
        go x j l false e =
            let z = eqb-false j i e in
            let a : j < i = omega arith in
            let d = m.done x j (omega arith) in
            rw (get_or-set_other out i j v 0 z) (λ n. slid_later x j a (d.0 n), λ s. d.1 (later_slid x j a s))

    pub waited_ended : Waited rows (set out (length rows - 1) v)
    waited_ended = rw (← k) ended
