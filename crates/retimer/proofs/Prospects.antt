-- Laws of prospects by the actions played, and the order in which the reading of dates falls.
-- Assumes nothing.
use mathlib.Core.Path.{◌≡◌, ap, subst}
use mathlib.Core.List.{List, ◌∷◌}
use Prim.Native.Nat.{ℕ, suc, ◌+◌, ◌-◌, ◌*◌, ◌≤◌, ◌<◌, min}
use native.Mathlib.Omega.{arith}
use native.Mathlib.Numerals.{add-one}
use lib.ListN.{length, get_or, drop}
use lib.Seq.{drop-cons}
use Rattle.enforcement.specs.Limits.{max_count}
use Rattle.enforcement.specs.Automaton.{Bytes}
use Rattle.enforcement.specs.Loading.{WellFormed}
use Rattle.enforcement.specs.TimedWord.{Configuration, step}
use Rattle.enforcement.specs.Model.{top, width, ticks, Compiled, compile, prospect}
use Rattle.enforcement.proofs.Loading.{header}
use Rattle.enforcement.proofs.Memo.{steps_is}
use Rattle.enforcement.proofs.Equations.{AtMost, prospect_most}
use Rattle.retimer.specs.Readings.{Readings, waited, Standing}

-- The model's steps are the automaton's.
pub step_is : (s : Bytes) (c : ℕ) (p : Configuration) → (compile s).step c p ≡ step s c p
unfolding compile
step_is s c p = steps_is s c p

-- An action is left.
pub left_some : (cs : List ℕ) (k : ℕ) → k < length cs → drop k cs ≡ get_or cs k 0 ∷ drop (k + 1) cs
left_some cs k h = rw (drop-cons cs k 0 h, add-one)

-- The ticks of a list.
pub ticks_most : (m : Compiled) (cs : List ℕ) (p : Configuration) (n : ℕ) → prospect m cs p ≡ ticks n → n ≤ top * length cs
ticks_most m cs p n e = subst (AtMost (top * length cs)) e (prospect_most m cs p)

-- The location of a configuration is one of those that a set can have.
pub located_in : {s : Bytes} {l : ℕ} {r : List ℕ} → WellFormed s → Standing s l r → l < max_count
located_in {s} h g = omega (arith, (header s h).locations_fit, g.in_sheet)

-- ---- The order in which the reading of dates falls: actions left, then ticks below saturation

abbrev pub below : List ℕ → ℕ
below r = 2 * top - (get_or r 0 0 + get_or r 1 0)

-- An action weighs more than all ticks below saturation.
abbrev pub weight : ℕ → ℕ → ℕ
weight n k = (n - k) * (2 * width)

abbrev pub rank : ℕ → ℕ → List ℕ → ℕ
rank n k r = suc (weight n k + below r)

pub rank_wait : (n k : ℕ) (r v : List ℕ) → Readings r → v ≡ waited 1 r → (get_or r 0 0 + get_or r 1 0 ≡ 2 * top → ⊥) → rank n k v < rank n k r
unfolding waited
rank_wait n k r v h e f = go (ap (λ (w : List ℕ). get_or w 0 0) e) (ap (λ (w : List ℕ). get_or w 1 0) e)
  where
    go : get_or v 0 0 ≡ min (get_or r 0 0 + 1) top → get_or v 1 0 ≡ min (get_or r 1 0 + 1) top → rank n k v < rank n k r
    go a b = omega (arith, h.first, h.second)
