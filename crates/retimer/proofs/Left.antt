-- The transitions of a location that are left to look at.
-- Assumes nothing.
use mathlib.Core.Path.{◌≡◌, refl, ap, ◌∙◌, subst}
use mathlib.Core.List.{List, [], ◌∷◌}
use mathlib.Core.Logic.{◌⊎◌, inl, inr, ⊎_elim, ◌↔◌}
use Prim.Native.Nat.{ℕ, ◌+◌, ◌*◌, ◌-◌, ◌≤◌, ◌<◌, ◌/◌, ◌%◌}
use native.Mathlib.Omega.{arith}
use lib.ListN.{length}
use Rattle.enforcement.specs.Automaton.{Bytes, Transition, word, locations, offset, size, transition_at, transitions_from, transitions}
use Rattle.enforcement.specs.Loading.{WellFormed, Fits, AllFit, Bounded}
use Rattle.enforcement.proofs.Pairs.{transitions_known, layout_inside}
use Rattle.enforcement.proofs.Loading.{layout, bounded}
use Rattle.retimer.specs.Steps.{One}
use Rattle.retimer.proofs.Transitions.{next}

-- The transitions at places p up to e are left to look at: W holds just when A does, which was found, or Q of one of them.
pub record Left (s : Bytes) (W A : Type 0) (Q : Transition → Type 0) (p e : ℕ) : Type 0 where
  pub before : p ≤ e
  pub inside : e ≤ length s
  pub whole : (e - p) % 7 ≡ 0
  pub fit : AllFit s (transitions_from s ((e - p) / 7) p)
  pub same : W ↔ (A ⊎ One Q (transitions_from s ((e - p) / 7) p))

-- Where a location's transitions lie, as the code reads it: w for the location, v for the offset and n for the size.
pub left_whole : (s : Bytes) (W A : Type 0) (Q : Transition → Type 0) (l w v n : ℕ) → WellFormed s → l < locations s → w ≡ l → v ≡ word s (6 + 4 * w) → n ≡ word s (6 + 4 * w + 2) → W ↔ (A ⊎ One Q (transitions s l)) → Left s W A Q v (v + n)
unfolding Bounded
left_whole s W A Q l w v n loads k d e f g =
    let a : v ≡ offset s l = e ∙ ap (λ (i : ℕ). word s (6 + 4 * i)) d in
    let m : 6 + 4 * w + 2 ≡ 8 + 4 * l = omega arith in
    let b : n ≡ size s l = f ∙ ap (word s) m in
    let i : (v + n - v) / 7 ≡ size s l / 7 = omega arith in
    let all : transitions s l ≡ transitions_from s ((v + n - v) / 7) v = transitions_known s l k ∙ rw (i, a) refl in
    record {
      before = omega arith;
      inside = omega (arith, layout_inside s (layout s loads) l k);
      whole = omega (arith, (layout s loads).whole l k);
      fit = subst (AllFit s) all (bounded s loads l);
      same = subst (λ (ts : List Transition). W ↔ (A ⊎ One Q ts)) all g;
    }

-- The same where nothing was found before.
pub left_begun : (s : Bytes) (W A : Type 0) (Q : Transition → Type 0) (l w v n : ℕ) → WellFormed s → l < locations s → w ≡ l → v ≡ word s (6 + 4 * w) → n ≡ word s (6 + 4 * w + 2) → (A → ⊥) → W ↔ One Q (transitions s l) → Left s W A Q v (v + n)
left_begun s W A Q l w v n loads k d e f z g = left_whole s W A Q l w v n loads k d e f (λ x. inr (g.0 x), λ x. ⊎_elim (λ y. absurd (z y)) (λ y. g.1 y) x)

module _ {s : Bytes} {W A : Type 0} {Q : Transition → Type 0} {p e : ℕ} (m : Left s W A Q p e) where
  here_fit : p < e → AllFit s (transition_at s p ∷ transitions_from s ((e - (p + 7)) / 7) (p + 7))
  here_fit h = rw (next s p e h m.whole) at m.fit

  here_same : p < e → W ↔ (A ⊎ One Q (transition_at s p ∷ transitions_from s ((e - (p + 7)) / 7) (p + 7)))
  here_same h = subst (λ (ts : List Transition). W ↔ (A ⊎ One Q ts)) (next s p e h m.whole) m.same

  pub left_fits : p < e → Fits s (transition_at s p)
  left_fits h = (here_fit h).0

  pub left_inside : p < e → p + 7 ≤ length s
  left_inside h = omega (arith, m.inside, m.whole)

  pub left_found : p < e → Q (transition_at s p) → W
  left_found h q = (here_same h).1 (inr (inl q))

  -- The one at p was looked at: B holds just when it, or A, does.
  pub left_next : {B : Type 0} → p < e → B ↔ (A ⊎ Q (transition_at s p)) → Left s W B Q (p + 7) e
  left_next h b =
      let w = here_same h in
      record {
        before = omega (arith, m.before, m.whole);
        inside = m.inside;
        whole = omega (arith, m.whole);
        fit = (here_fit h).1;
        same = (
          λ x. ⊎_elim (λ y. inl (b.1 (inl y))) (λ y. ⊎_elim (λ z. inl (b.1 (inr z))) (λ z. inr z) y) (w.0 x),
          λ x. w.1 (⊎_elim (λ y. ⊎_elim (λ z. inl z) (λ z. inr (inl z)) (b.0 y)) (λ y. inr (inr y)) x),
        );
      }

  pub left_passed : p < e → (Q (transition_at s p) → ⊥) → Left s W A Q (p + 7) e
  left_passed h z = left_next h (λ x. inl x, λ x. ⊎_elim (λ y. y) (λ y. absurd (z y)) x)

  pub left_none : e ≤ p → W ↔ A
  left_none h =
      let i : (e - p) / 7 ≡ 0 = omega arith in
      let w : W ↔ (A ⊎ One Q []) = subst (λ (n : ℕ). W ↔ (A ⊎ One Q (transitions_from s n p))) i m.same in
      (λ x. ⊎_elim (λ y. y) (λ y. absurd y) (w.0 x), λ x. w.1 (inl x))
