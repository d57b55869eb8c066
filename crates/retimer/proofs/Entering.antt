-- The targets of an action, gathered.
-- Assumes nothing.
use mathlib.Core.Path.{◌≡◌, refl, sym, ◌∙◌, subst}
use mathlib.Core.Bool.{Bool, true, false}
use mathlib.Core.List.{List, [], ◌∷◌}
use mathlib.Core.Logic.{◌⊎◌, inl, inr, ⊎_elim, ◌↔◌}
use Prim.Native.Nat.{ℕ, ◌+◌, ◌*◌, ◌≤◌, ◌<◌}
use native.Mathlib.Omega.{arith}
use lib.Dec.{eqb}
use lib.ListN.{length}
use lib.Bits.{bit_or}
use borrow.Author.Tests.{eqb-true, eqb-false, eq-eqb}
use Rattle.enforcement.specs.Automaton.{Bytes, Transition, word, locations, transition_at, transitions}
use Rattle.enforcement.specs.Loading.{WellFormed, Fits, AllFit, Bounded}
use Rattle.enforcement.proofs.Loading.{bounded}
use Rattle.enforcement.proofs.Bits.{or_cases, or_shown, in_or, none_in}
use Rattle.retimer.specs.Steps.{One}
use Rattle.retimer.specs.Row.{In}
use Rattle.retimer.specs.Locations.{InSheet, Added}
use Rattle.retimer.specs.Targets.{Enters, EntersFrom, EntersFromAny, Gathered}
use Rattle.retimer.proofs.Left.{Left, left_begun, left_inside, left_fits, left_next, left_passed, left_none}

-- ---- From one location

-- A target is a location of the automaton.
target_fits : (s : Bytes) (c m : ℕ) (ts : List Transition) → AllFit s ts → One (Enters c m) ts → m < locations s
target_fits s c m [] f o = absurd o
target_fits s c m (t ∷ ts) f (inl o) = subst (λ (n : ℕ). n < locations s) o.1 f.0.target_fits
target_fits s c m (t ∷ ts) f (inr o) = target_fits s c m ts f.1 o

enters_fits : (s : Bytes) (c l m : ℕ) → WellFormed s → EntersFrom s c l m → m < locations s
unfolding Bounded
enters_fits s c l m loads o = target_fits s c m (transitions s l) (bounded s loads l) o

added_has : {set l v : ℕ} → Added set l v → (j : ℕ) → In j v ↔ (In j set ⊎ (l ≡ j))
added_has {set} {l} {v} a j = (
  λ h. ⊎_elim (λ e. inr (sym (eqb-true j l e))) inl (or_cases (eqb j l) _ (sym (a.bits j) ∙ h)),
  λ h. a.bits j ∙ or_shown (eqb j l) _ (⊎_elim inr (λ e. inl (eq-eqb j l (sym e))) h),
)

-- The transitions before p were looked at.
pub record InTargets (s : Bytes) (c l found p end : ℕ) : Type 0 where
  pub left : (m : ℕ) → Left s (EntersFrom s c l m) (In m found) (Enters c m) p end

pub targets_begun : {s : Bytes} (c : ℕ) {l v n : ℕ} → WellFormed s → l < locations s → v ≡ word s (6 + 4 * l) → n ≡ word s (6 + 4 * l + 2) → InTargets s c l 0 v (v + n)
targets_begun {s} c {l} {v} {n} loads k e f = record { left = λ m. left_begun s (EntersFrom s c l m) (In m 0) (Enters c m) l l v n loads k refl e f (none_in m) (λ g. g, λ g. g) }

module _ {s : Bytes} {c l found p end : ℕ} (w : InTargets s c l found p end) where
  pub targets_inside : p < end → p + 7 ≤ length s
  targets_inside h = left_inside (w.left 0) h

  pub targets_fits : p < end → Fits s (transition_at s p)
  targets_fits h = left_fits (w.left 0) h

  pub targets_taken : {t v : ℕ} → p < end → (transition_at s p).action ≡ c → t ≡ (transition_at s p).target → Added found t v → InTargets s c l v (p + 7) end
  targets_taken {t} {v} h e f a = record { left = λ m. left_next (w.left m) h (both m) }
    where
      both : (m : ℕ) → In m v ↔ (In m found ⊎ Enters c m (transition_at s p))
      both m =
          let d = added_has a m in (
            λ g. ⊎_elim inl (λ q. inr (e, sym f ∙ q)) (d.0 g),
            λ g. d.1 (⊎_elim inl (λ q. inr (f ∙ q.1)) g),
          )

  pub targets_passed : p < end → ((transition_at s p).action ≡ c → ⊥) → InTargets s c l found (p + 7) end
  targets_passed h f = record { left = λ m. left_passed (w.left m) h (λ q. f q.0) }

  pub targets_done : WellFormed s → end ≤ p → Gathered s (EntersFrom s c l) found
  targets_done loads h = record { in_sheet = λ m g. enters_fits s c l m loads ((left_none (w.left m) h).1 g); right = λ m. let n = left_none (w.left m) h in (n.1, n.0) }

-- ---- From a set

-- The locations before l were looked at.
pub record InTargetsOf (s : Bytes) (c places found l : ℕ) : Type 0 where
  pub not_past : l ≤ locations s
  pub right : (m : ℕ) → In m found ↔ ((i : ℕ) × (i < l) × In i places × EntersFrom s c i m)

module _ {s : Bytes} {c places : ℕ} where
  pub all_begun : InTargetsOf s c places 0 0
  all_begun = record { not_past = omega arith; right = λ m. (λ h. absurd (none_in m h), λ h. absurd (omega (arith, h.1))) }

  module _ {found l : ℕ} (w : InTargetsOf s c places found l) (soon : l < locations s) where
    pub all_taken : {v : ℕ} → In l places → Gathered s (EntersFrom s c l) v → InTargetsOf s c places (bit_or found v) (l + 1)
    all_taken {v} h g = record { not_past = omega arith; right = both }
      where
        both : (m : ℕ) → In m (bit_or found v) ↔ ((i : ℕ) × (i < l + 1) × In i places × EntersFrom s c i m)
        both m = (
          λ q. ⊎_elim (λ a. let o = (w.right m).0 a in (o.0, omega (arith, o.1), o.2, o.3)) (λ a. (l, omega arith, h, (g.right m).0 a)) ((in_or found v m).0 q),
          λ q. (in_or found v m).1 (side q (eqb q.0 l) refl),
        )
          where
            side : (q : (i : ℕ) × (i < l + 1) × In i places × EntersFrom s c i m) (b : Bool) → eqb q.0 l ≡ b → In m found ⊎ In m v
            side q true e = inr ((g.right m).1 (subst (λ (i : ℕ). EntersFrom s c i m) (eqb-true q.0 l e) q.3))
            side q false e = let f : q.0 ≡ l → ⊥ = eqb-false q.0 l e in inl ((w.right m).1 (q.0, omega (arith, q.1), q.2, q.3))

    pub all_passed : (In l places → ⊥) → InTargetsOf s c places found (l + 1)
    all_passed f = record {
      not_past = omega arith;
      right = λ m. (
        λ q. let o = (w.right m).0 q in (o.0, omega (arith, o.1), o.2, o.3),
        λ q. (w.right m).1 (q.0, before q.0 q.1 q.2 (eqb q.0 l) refl, q.2, q.3),
      );
    }
      where
        before : (i : ℕ) → i < l + 1 → In i places → (b : Bool) → eqb i l ≡ b → i < l
        before i h k true e = absurd (f (subst (λ (i : ℕ). In i places) (eqb-true i l e) k))
        before i h k false e = let g : i ≡ l → ⊥ = eqb-false i l e in omega arith

  pub all_done : {found l : ℕ} → InTargetsOf s c places found l → WellFormed s → InSheet s places → locations s ≤ l → Gathered s (EntersFromAny s c places) found
  all_done w loads inside h = record {
    in_sheet = λ m g. let o = (w.right m).0 g in enters_fits s c o.0 m loads o.3;
    right = λ m. (
      λ g. let o = (w.right m).0 g in (o.0, o.2, o.3),
      λ o. (w.right m).1 (o.0, omega (arith, inside o.0 o.1), o.1, o.2),
    );
  }
