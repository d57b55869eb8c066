-- What the look-up of a transition promises.
use Rattle.std.specs.Prelude.{Option as MaybePlace, MatchOption, ◌≡◌, Bool, true, false, ◌&&◌, List, [], ◌∷◌, ◌⊎◌, ℕ, ◌+◌, ◌≤◌, eqb, length}
use Rattle.std.proofs.Math.Option.{Option, none, some}
use Rattle.enforcement.specs.Automaton.{Bytes, Transition, byte, transition_at, enabled}
use Rattle.enforcement.specs.Loading.{Fits}
use Rattle.enforcement.specs.TimedWord.{Configuration, fire, step}
use Rattle.retimer.specs.declared.lookup.Stepped.{Stepped}
use Rattle.retimer.specs.Readings.{located, Standing}

abbrev pub optional : Bool → Configuration → Option Configuration
optional true q = some q
optional false q = none

-- The configuration that was reached, or none.
abbrev pub stepped_of : Stepped → Option Configuration
stepped_of v = optional v.found (located v.location v.readings)

-- The step is the automaton's; where there is none, the configuration is the one that was left.
pub record StepRight (s : Bytes) (c l : ℕ) (r : List ℕ) (v : Stepped) : Type 0 where
  pub is : stepped_of v ≡ step s c (located l r)
  pub stays : v.found ≡ false → (v.location ≡ l) × (v.readings ≡ r)
  pub standing : Standing s v.location v.readings

-- The transition at a place is for the action, and the readings enable it.
unfoldable pub applies : Bytes → ℕ → ℕ → ℕ → ℕ → Bool
applies s p c x y = eqb (byte s p) c && enabled (transition_at s p) x y

-- The place of a transition that fits and is the one to take.
pub record Taken (s : Bytes) (c l : ℕ) (r : List ℕ) (p : ℕ) : Type 0 where
  pub inside : p + 7 ≤ length s
  pub fits : Fits s (transition_at s p)
  pub is : step s c (located l r) ≡ some (fire (transition_at s p) (located l r))

-- The place of the transition to take, if there is one.
abbrev pub Placed : Bytes → ℕ → ℕ → List ℕ → MaybePlace ℕ → Type 0
Placed s c l r p = MatchOption p (step s c (located l r) ≡ none) (λ n. Taken s c l r n)

-- One of some transitions.
abbrev pub One : (Transition → Type 0) → List Transition → Type 0
One P [] = ⊥
One P (u ∷ us) = P u ⊎ One P us
