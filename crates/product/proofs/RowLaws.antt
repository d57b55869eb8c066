-- Rows of transitions, and how many joint ones they give.
-- Assumes nothing.
use mathlib.Core.Path.{◌≡◌, sym, ap, ap₂, ◌∙◌, subst}
use mathlib.Core.Bool.{Bool, cond}
use mathlib.Core.List.{List, [], ◌∷◌, ◌++◌}
use Prim.Native.Nat.{ℕ, zero, suc, ◌+◌, ◌-◌, ◌*◌, ◌/◌, ◌≤◌, ◌<◌}
use native.Mathlib.Omega.{arith}
use native.Mathlib.Numerals.{add-one}
use lib.Dec.{eqb}
use borrow.Author.Tests.{eq-eqb, ne_eqb}
use Rattle.enforcement.specs.Limits.{max_count}
use Rattle.enforcement.specs.Automaton.{Bytes, Transition, word, byte, locations, size, transition_at, transitions_from, transitions}
use Rattle.enforcement.specs.Loading.{WellFormed, Fits, AllFit, Bounded}
use Rattle.enforcement.proofs.Pairs.{transitions_known, layout_after, layout_inside}
use Rattle.enforcement.proofs.Loading.{layout, bounded, size_fits}
use Rattle.retimer.proofs.SheetLaws.{from_step}
use Rattle.product.specs.declared.location.Both.{Both}
use Rattle.product.specs.declared.row.Row.{Row}
use Rattle.product.specs.Product.{joint, joints_of, joints, location_at, locations_from, Joinable}
use Rattle.product.specs.Rows.{BothRight, row_transitions, RowRight, FittingAt, FittingRow}
use Rattle.product.proofs.Pairing.{pair_below}

-- So many transitions from a place on.
abbrev row : ℕ → ℕ → Row
row n q = record { first = q; count = n }

-- The row of a location.
pub row_of : (s : Bytes) (l v n : ℕ) → WellFormed s → l < locations s → v ≡ word s (6 + 4 * l) → n ≡ word s (6 + 4 * l + 2) → RowRight s l (row (n / 7) v)
row_of s l v n h k e f =
    let m : 6 + 4 * l + 2 ≡ 8 + 4 * l = omega arith in
    let g : n ≡ size s l = f ∙ ap (word s) m in
    let d = layout s h in
    record {
      row_in = record { short = omega (arith, layout_inside s d l k, layout_after s d l k, (size_fits s h).1); inside = omega (arith, layout_inside s d l k) };
      is = ap (λ (i : ℕ). transitions_from s (i / 7) v) g ∙ ap (transitions_from s (size s l / 7)) e ∙ sym (transitions_known s l k);
    }

pub row_fits : {s : Bytes} {l : ℕ} {r : Row} → WellFormed s → RowRight s l r → FittingRow s r
unfolding Bounded
row_fits {s} {l} {r} h k = record { row_in = k.row_in; all_fit_lem = subst (AllFit s) (sym k.is) (bounded s h l) }

-- ---- One after the other

-- Where transition i of a row lies, and the transitions from it on.
abbrev pub place : Row → ℕ → ℕ
place r i = r.first + 7 * i

abbrev pub rest : Bytes → Row → ℕ → List Transition
rest s r i = transitions_from s (r.count - i) (place r i)

pub rest_all : (s : Bytes) (r : Row) → row_transitions s r ≡ rest s r 0
rest_all s r =
    let a : r.count ≡ r.count - 0 = omega arith in
    let b : r.first ≡ place r 0 = omega arith in
    ap₂ (transitions_from s) a b

pub rest_next : (s : Bytes) (r : Row) (i : ℕ) → i < r.count → rest s r i ≡ transition_at s (place r i) ∷ rest s r (i + 1)
rest_next s r i h =
    let a : r.count - i - 1 ≡ r.count - (i + 1) = omega arith in
    let b : place r i + 7 ≡ place r (i + 1) = omega arith in
    from_step s (r.count - i) (place r i) (omega arith) ∙ ap₂ (λ (k q : ℕ). transition_at s (place r i) ∷ transitions_from s k q) a b

pub rest_none : (s : Bytes) (r : Row) (i : ℕ) → r.count ≤ i → rest s r i ≡ []
rest_none s r i h = let a : r.count - i ≡ 0 = omega arith in ap (λ (k : ℕ). transitions_from s k (place r i)) a

-- Each of them fits where all do.
fits_from : (s : Bytes) (n q i : ℕ) → AllFit s (transitions_from s n q) → i < n → Fits s (transition_at s (q + 7 * i))
fits_from s zero q i f h = absurd (omega arith)
fits_from s (suc n) q zero f h = let e : q ≡ q + 7 * 0 = omega arith in subst (λ (k : ℕ). Fits s (transition_at s k)) e f.0
fits_from s (suc n) q (suc i) f h =
    let e : q + 7 + 7 * i ≡ q + 7 * suc i = omega arith in
    subst (λ (k : ℕ). Fits s (transition_at s k)) e (fits_from s n (q + 7) i f.1 (omega arith))

pub fitting_at : {s : Bytes} {r : Row} (i : ℕ) → i < r.count → FittingRow s r → FittingAt s (place r i)
fitting_at {s} {r} i h f = record { inside = omega (arith, f.row_in.inside); fits = fits_from s r.count r.first i f.all_fit_lem h }

-- ---- Joint transitions

-- The target is a location of the product.
pub target_fits : {s u : Bytes} {p q : ℕ} → Joinable s u → FittingAt s p → FittingAt u q → byte s (p + 1) * locations u + byte u (q + 1) < max_count
target_fits {s} {u} {p} {q} h f g = omega (arith, h.locations_fit, pair_below (locations s) (locations u) (byte s (p + 1)) (byte u (q + 1)) f.fits.target_fits g.fits.target_fits)

module _ (n : ℕ) (t : Transition) (u : Bytes) (r : Row) (i : ℕ) (some : i < r.count) where
  next_of : joints_of n t (rest u r i) ≡ cond (eqb t.action (byte u (place r i))) (joint n t (transition_at u (place r i)) ∷ joints_of n t (rest u r (i + 1))) (joints_of n t (rest u r (i + 1)))
  unfolding joints_of
  next_of = ap (joints_of n t) (rest_next u r i some)

  pub matching_next : t.action ≡ byte u (place r i) → joints_of n t (rest u r i) ≡ joint n t (transition_at u (place r i)) ∷ joints_of n t (rest u r (i + 1))
  matching_next e = next_of ∙ ap (λ (b : Bool). cond b (joint n t (transition_at u (place r i)) ∷ joints_of n t (rest u r (i + 1))) (joints_of n t (rest u r (i + 1)))) (eq-eqb t.action (byte u (place r i)) e)

  pub other_next : (t.action ≡ byte u (place r i) → ⊥) → joints_of n t (rest u r i) ≡ joints_of n t (rest u r (i + 1))
  other_next e = next_of ∙ ap (λ (b : Bool). cond b (joint n t (transition_at u (place r i)) ∷ joints_of n t (rest u r (i + 1))) (joints_of n t (rest u r (i + 1)))) (ne_eqb t.action (byte u (place r i)) e)

pub matching_none : (n : ℕ) (t : Transition) (u : Bytes) (r : Row) (i : ℕ) → r.count ≤ i → joints_of n t (rest u r i) ≡ []
unfolding joints_of
matching_none n t u r i e = ap (joints_of n t) (rest_none u r i e)

module _ (n : ℕ) (s : Bytes) (r : Row) (i : ℕ) (vs : List Transition) where
  pub joints_next : i < r.count → joints n (rest s r i) vs ≡ joints_of n (transition_at s (place r i)) vs ++ joints n (rest s r (i + 1)) vs
  unfolding joints
  joints_next some = ap (λ (ts : List Transition). joints n ts vs) (rest_next s r i some)

  pub joints_none : r.count ≤ i → joints n (rest s r i) vs ≡ []
  unfolding joints
  joints_none e = ap (λ (ts : List Transition). joints n ts vs) (rest_none s r i e)

-- ---- Locations

-- The rows of a pair give the transitions of its location.
pub row_joints : {s u : Bytes} {l : ℕ} {r : Both} {a b : Row} → BothRight s u l r → RowRight s r.first a → RowRight u r.second b → joints (locations u) (row_transitions s a) (row_transitions u b) ≡ (location_at s u l).transitions
row_joints {s} {u} h f g = ap₂ (joints (locations u)) (f.is ∙ ap (transitions s) h.first_is) (g.is ∙ ap (transitions u) h.second_is)

module _ (s u : Bytes) (m l : ℕ) where
  pub locations_next : l < m → locations_from s u (m - l) l ≡ location_at s u l ∷ locations_from s u (m - (l + 1)) (l + 1)
  unfolding locations_from
  locations_next h =
      let e : m - l ≡ suc (m - (l + 1)) = omega arith in
      ap (λ (k : ℕ). locations_from s u k l) e ∙ ap (λ (i : ℕ). location_at s u l ∷ locations_from s u (m - (l + 1)) i) (sym (add-one l))

  pub locations_none : m ≤ l → locations_from s u (m - l) l ≡ []
  unfolding locations_from
  locations_none h = let e : m - l ≡ 0 = omega arith in ap (λ (k : ℕ). locations_from s u k l) e
