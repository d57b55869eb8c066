-- The locations that an action can enter, whatever the readings.
use Rattle.std.specs.Prelude.{◌≡◌, List, [], ◌∷◌, ◌↔◌, ℕ, zero, suc}
use Rattle.enforcement.specs.Automaton.{Bytes, Transition, transitions}
use Rattle.retimer.specs.Steps.{One}
use Rattle.retimer.specs.Row.{In}
use Rattle.retimer.specs.Locations.{InSheet}

-- A transition is for the action c and leads to the location m.
abbrev pub Enters : ℕ → ℕ → Transition → Type 0
Enters c m t = (t.action ≡ c) × (t.target ≡ m)

-- One of the transitions of the location l is such.
abbrev pub EntersFrom : Bytes → ℕ → ℕ → ℕ → Type 0
EntersFrom s c l m = One (Enters c m) (transitions s l)

-- One of the transitions of a location of a set is such.
abbrev pub EntersFromAny : Bytes → ℕ → ℕ → ℕ → Type 0
EntersFromAny s c places m = (l : ℕ) × In l places × EntersFrom s c l m

-- The set v has just the locations of which Q holds, and they are the automaton's.
pub record Gathered (s : Bytes) (Q : ℕ → Type 0) (v : ℕ) : Type 0 where
  pub in_sheet : InSheet s v
  pub right : (m : ℕ) → In m v ↔ Q m

-- The first n of the actions cs can lead from the location i to m.
abbrev pub EntersAfter : Bytes → List ℕ → ℕ → ℕ → ℕ → Type 0
EntersAfter s cs zero i m = i ≡ m
EntersAfter s [] (suc n) i m = ⊥
EntersAfter s (c ∷ cs) (suc n) i m = (l : ℕ) × EntersFrom s c i l × EntersAfter s cs n l m
