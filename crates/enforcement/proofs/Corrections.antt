-- Laws of corrections: the best one is unique, and a list with a correction is open.
use mathlib.Core.Path.{◌≡◌, refl, ap₂, sym, ◌∙◌, subst⁻¹}
use mathlib.Core.List.{List, [], ◌∷◌, ◌++◌, append-nil}
use mathlib.Core.Logic.{◌⊎◌, inl, inr}
use Prim.Native.Nat.{ℕ, ◌≤◌, ◌<◌}
use native.Mathlib.Omega.{arith}
use lib.ListN.{length}
use Rattle.enforcement.specs.Automaton.{Automaton}
use Rattle.enforcement.specs.TimedWord.{Event, last_of, stamp, Accepts, NotAfter, Correction, Best, Extensible}

order_same : (ds es : List ℕ) → length ds ≡ length es → NotAfter ds es → NotAfter es ds → ds ≡ es
order_same [] [] l h k = refl
order_same [] (e ∷ es) l h k = absurd (omega arith)
order_same (d ∷ ds) [] l h k = absurd h
order_same (d ∷ ds) (e ∷ es) l (inl h) (inl k) = absurd (omega arith)
order_same (d ∷ ds) (e ∷ es) l (inl h) (inr k) = absurd (omega arith)
order_same (d ∷ ds) (e ∷ es) l (inr h) (inl k) = absurd (omega arith)
order_same (d ∷ ds) (e ∷ es) l (inr h) (inr k) = ap₂ ◌∷◌ h.0 (order_same ds es (omega arith) h.1 k.1)

module _ {𝒜 : Automaton} {w : List Event} {t : ℕ} {cs ds : List ℕ} where
  -- No correction ends before the best.
  pub best_least : Best 𝒜 w t cs ds → (es : List ℕ) → Correction 𝒜 w t cs es → last_of 0 ds ≤ last_of 0 es
  best_least b es h = elim (b.best es h) [ inl x ↦ omega arith | inr x ↦ omega (arith, x.0) ]

  pub best_same : {es : List ℕ} → Best 𝒜 w t cs ds → Best 𝒜 w t cs es → ds ≡ es
  best_same {es} a b = go (a.best es b.correction) (b.best ds a.correction)
    where
      go : (last_of 0 ds < last_of 0 es) ⊎ ((last_of 0 ds ≡ last_of 0 es) × NotAfter ds es) → (last_of 0 es < last_of 0 ds) ⊎ ((last_of 0 es ≡ last_of 0 ds) × NotAfter es ds) → ds ≡ es
      go (inl h) (inl k) = absurd (omega arith)
      go (inl h) (inr k) = absurd (omega arith)
      go (inr h) (inl k) = absurd (omega arith)
      go (inr h) (inr k) = order_same ds es (a.correction.timing.each ∙ sym b.correction.timing.each) h.1 k.1

  pub correction_open : Correction 𝒜 w t cs ds → Extensible 𝒜 w t cs
  correction_open h = record { dates = ds; timing = h.timing; further = []; known = tt; accepts = subst⁻¹ (λ (u : List Event). Accepts 𝒜 (w ++ u)) (append-nil (stamp cs ds)) h.accepts }
