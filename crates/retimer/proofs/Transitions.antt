-- Laws of the look-up: the places of a location's transitions, looked at in their order, give the step.
-- Assumes nothing.
use mathlib.Core.Path.{◌≡◌, refl, ap, sym, ◌∙◌}
use mathlib.Core.Bool.{true, false}
use mathlib.Core.List.{List, ◌∷◌}
use mathlib.Core.Option.{none, some}
use Prim.Native.Nat.{ℕ, suc, ◌+◌, ◌*◌, ◌-◌, ◌≤◌, ◌<◌, ◌/◌, ◌%◌}
use native.Mathlib.Omega.{arith}
use lib.ListN.{length}
use borrow.Author.Tests.{eq-eqb, ne_eqb}
use Rattle.enforcement.specs.Automaton.{Bytes, Transition, byte, word, locations, offset, size, transition_at, transitions_from, enabled}
use Rattle.enforcement.specs.Loading.{WellFormed, AllFit, Bounded}
use Rattle.enforcement.specs.TimedWord.{Configuration, fire, fire_first, step}
use Rattle.enforcement.proofs.Pairs.{transitions_known, layout_after, layout_inside}
use Rattle.enforcement.proofs.Loading.{layout, bounded}
use Rattle.retimer.specs.Readings.{reset_by, located, Standing}
use Rattle.retimer.specs.Steps.{applies, Taken, StepRight}
use Rattle.retimer.proofs.Valuations.{located_reset, standing_fired}

-- ---- The test of one transition

module _ (s : Bytes) (p c x y : ℕ) where
  pub applies_other : (byte s p ≡ c → ⊥) → false ≡ applies s p c x y
  unfolding applies
  applies_other h = simp (ne_eqb _ _ h)

  pub applies_own : byte s p ≡ c → enabled (transition_at s p) x y ≡ applies s p c x y
  unfolding applies
  applies_own h = simp (eq-eqb _ _ h)

-- ---- The loop over places

-- The transitions at places p up to e are left to look at: the step is that of the first of them that applies.
pub record Remaining (s : Bytes) (c : ℕ) (q : Configuration) (p e : ℕ) : Type 0 where
  pub after : 0 < p
  pub before : p ≤ e
  pub inside : e ≤ length s
  pub whole : (e - p) % 7 ≡ 0
  pub fit : AllFit s (transitions_from s ((e - p) / 7) p)
  pub rest : fire_first (transitions_from s ((e - p) / 7) p) c q ≡ step s c q

-- Where a location's transitions lie.
pub begun : (s : Bytes) (c l x y : ℕ) → WellFormed s → l < locations s → Remaining s c (record { location = l; x = x; y = y }) (offset s l) (offset s l + size s l)
unfolding step Bounded
begun s c l x y h k =
    let d = layout s h in
    let a = layout_after s d l k in
    let n : (offset s l + size s l - offset s l) / 7 ≡ size s l / 7 = omega arith in
    let e = transitions_known s l k in
    record {
      after = omega arith;
      before = omega arith;
      inside = layout_inside s d l k;
      whole = omega (arith, d.whole l k);
      fit = rw (n, ← e) (bounded s h l);
      rest = rw (n, ← e) refl;
    }

-- The same as the code reads it, w for the location.
pub begun_at : (s : Bytes) (c l x y w v n : ℕ) → WellFormed s → l < locations s → w ≡ l → v ≡ word s (6 + 4 * w) → n ≡ word s (6 + 4 * w + 2) → Remaining s c (record { location = l; x = x; y = y }) v (v + n)
begun_at s c l x y w v n h k d e f =
    let a : v ≡ offset s l = e ∙ ap (λ (i : ℕ). word s (6 + 4 * i)) d in
    let m : 6 + 4 * w + 2 ≡ 8 + 4 * l = omega arith in
    let b : n ≡ size s l = f ∙ ap (word s) m in
    rw (a, b) (begun s c l x y h k)

-- One more is there to look at.
pub next : (s : Bytes) (p e : ℕ) → p < e → (e - p) % 7 ≡ 0 → transitions_from s ((e - p) / 7) p ≡ transition_at s p ∷ transitions_from s ((e - (p + 7)) / 7) (p + 7)
next s p e h k = let n : (e - p) / 7 ≡ suc ((e - (p + 7)) / 7) = omega arith in rw n refl

module _ {s : Bytes} {c : ℕ} {q : Configuration} {p e : ℕ} (m : Remaining s c q p e) where
  fits_here : p < e → AllFit s (transition_at s p ∷ transitions_from s ((e - (p + 7)) / 7) (p + 7))
  fits_here h = rw (next s p e h m.whole) at m.fit

  steps_here : p < e → step s c q ≡ fire_first (transition_at s p ∷ transitions_from s ((e - (p + 7)) / 7) (p + 7)) c q
  steps_here h = sym m.rest ∙ ap (λ (ts : List Transition). fire_first ts c q) (next s p e h m.whole)

  pub passed : p < e → applies s p c q.x q.y ≡ false → Remaining s c q (p + 7) e
  unfolding fire_first applies
  passed h a =
      record {
        after = omega arith;
        before = omega (arith, m.whole);
        inside = m.inside;
        whole = omega (arith, m.whole);
        fit = (fits_here h).1;
        rest = sym (steps_here h ∙ rw a refl);
      }

  pub taken : p < e → applies s p c q.x q.y ≡ true → step s c q ≡ some (fire (transition_at s p) q)
  unfolding fire_first applies
  taken h a = steps_here h ∙ rw a refl

  pub exhausted : e ≤ p → step s c q ≡ none
  unfolding fire_first
  exhausted h = let n : (e - p) / 7 ≡ 0 = omega arith in sym m.rest ∙ rw n refl

-- The one at p is the one to take.
pub taken_here : {s : Bytes} {c l : ℕ} {r : List ℕ} {p e : ℕ} → Remaining s c (located l r) p e → p < e → applies s p c (located l r).x (located l r).y ≡ true → Taken s c l r p
taken_here m h a = record { inside = omega (arith, m.whole, m.inside); fits = (fits_here m h).0; is = taken m h a }

-- ---- The step

pub stepped_some : (s : Bytes) (c l : ℕ) (r : List ℕ) (p : ℕ) (v : List ℕ) → Standing s l r → Taken s c l r p → v ≡ reset_by (byte s (p + 2)) r → StepRight s c l r (record { found = true; location = byte s (p + 1); readings = v })
stepped_some s c l r p v k h e =
    record {
      is = ap (λ (w : List ℕ). some (located (byte s (p + 1)) w)) e ∙ ap some (located_reset (transition_at s p) l r) ∙ sym h.is;
      stays = λ f. let z : ◌≡◌ {A = ℕ} 0 1 = cc in absurd (omega arith);
      standing = rw e (standing_fired s l r (transition_at s p) h.fits k);
    }
