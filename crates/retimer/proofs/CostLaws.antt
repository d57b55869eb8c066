-- Costs as numbers: when a position and a cost end by w, what waiting costs, and the transitions that a cost is the least over.
-- Assumes nothing.
use mathlib.Core.Path.{◌≡◌, refl, ap, sym, ◌∙◌, subst}
use mathlib.Core.Bool.{Bool, true, false, cond}
use mathlib.Core.List.{List, [], ◌∷◌}
use mathlib.Core.Logic.{◌⊎◌, inl, inr, ◌↔◌}
use Prim.Native.Nat.{ℕ, ◌+◌, ◌-◌, ◌*◌, ◌≤◌, ◌<◌}
use native.Mathlib.Omega.{arith}
use native.Mathlib.Nat.{eq-or-lt_of_le}
use lib.Dec.{leb}
use lib.ListN.{length, drop, length-drop}
use borrow.Author.Tests.{leb-true, leb-false}
use Rattle.enforcement.specs.Limits.{max_count}
use Rattle.enforcement.specs.Automaton.{Bytes, accepting, transitions}
use Rattle.enforcement.specs.TimedWord.{Configuration, fire, step}
use Rattle.enforcement.specs.Loading.{WellFormed, Bounded}
use Rattle.enforcement.specs.Model.{top, advance, Prospect, ticks, extensible, dead, ended, compile, prospect}
use Rattle.enforcement.proofs.Loading.{bounded}
use Rattle.enforcement.proofs.Equations.{AtMost, prospect_nil, prospect_most}
use Rattle.enforcement.proofs.Optimum.{Within}
use Rattle.retimer.specs.Steps.{One}
use Rattle.retimer.specs.Waits.{saturation, along}
use Rattle.retimer.specs.Next.{LeadsFor}
use Rattle.retimer.specs.Costs.{never, cost, cost_at, EndsBy}
use Rattle.retimer.proofs.Taking.{one_map}
use Rattle.retimer.proofs.ProspectKinds.{within_timed, advance_more, prospect_timed}
use Rattle.retimer.proofs.Ways.{leads_map, prospect_leads}

-- One of two numbers is the smaller.
pub le_or_lt : (a b : ℕ) → (a ≤ b) ⊎ (b < a)
le_or_lt a b = go (leb a b) refl
  where
    go : (t : Bool) → leb a b ≡ t → (a ≤ b) ⊎ (b < a)
    go true e = inl (leb-true a b e)
    go false e = inr (leb-false a b e)

-- ---- Numbers

-- A position and a cost end by w.
pub within_cost : (a : Prospect) (u w : ℕ) → w < never → Within w a u ↔ (u + cost a ≤ w)
within_cost (ticks n) u w h = (λ m. m, λ m. m)
within_cost extensible u w h = (λ m. absurd m, λ m. absurd (omega arith))
within_cost dead u w h = (λ m. absurd m, λ m. absurd (omega arith))

-- Two numbers up to never are equal where the same numbers below never are as large.
pub same_least : (a b : ℕ) → a ≤ never → b ≤ never → ((w : ℕ) → w < never → (a ≤ w) ↔ (b ≤ w)) → a ≡ b
same_least a b h k f = go (le_or_lt a b)
  where
    up : (i j : ℕ) → j ≤ never → i ≤ j → ((w : ℕ) → w < never → i ≤ w → j ≤ w) → i ≡ j
    up i j n l g = elim (eq-or-lt_of_le l) [ inl e ↦ e | inr m ↦ let o : j ≤ i = g i (omega arith) (omega arith) in omega arith ]

    go : (a ≤ b) ⊎ (b < a) → a ≡ b
    go (inl l) = up a b k l (λ w n. (f w n).0)
    go (inr l) = sym (up b a h (omega arith) (λ w n. (f w n).1))

small_cost : (a : Prospect) (n : ℕ) → AtMost n a → n < never → cost a ≤ never
small_cost (ticks k) n h l = omega arith
small_cost extensible n h l = omega arith
small_cost dead n h l = omega arith

-- No cost is above never.
pub cost_most : (s : Bytes) (cs : List ℕ) (k : ℕ) (q : Configuration) → length cs ≤ max_count + 1 → cost_at s (drop k cs) q ≤ never
cost_most s cs k q h = small_cost (prospect (compile s) (drop k cs) q) (top * length (drop k cs)) (prospect_most (compile s) (drop k cs) q) (omega (arith, length-drop k cs))

-- A cost below never is a number of ticks.
pub cost_ticks : (a : Prospect) (v : ℕ) → v ≡ cost a → v < never → a ≡ ticks v
cost_ticks (ticks n) v e h = ap ticks (sym e)
cost_ticks extensible v e h = absurd (omega arith)
cost_ticks dead v e h = absurd (omega arith)

-- ---- The end

-- Where all is played, the cost is 0 if the location is accepting.
pub end_cost : (s : Bytes) (q : Configuration) → cost_at s [] q ≡ cond (accepting s q.location) 0 never
unfolding ended compile
end_cost s q = ap cost (prospect_nil (compile s) q) ∙ go (accepting s q.location) ((compile s).live q)
  where
    go : (a b : Bool) → cost (cond a (ticks 0) (cond b extensible dead)) ≡ cond a 0 never
    go true b = refl
    go false true = refl
    go false false = refl

-- ---- Along a diagonal

module _ (s : Bytes) (x y l : ℕ) (x_Fits : x ≤ top) (y_fits : y ≤ top) (w : ℕ) (w-small : w < never) where
  abbrev start : Configuration
  start = record { location = l; x = x; y = y }

  -- With at least one action left, all ends by w just when it does with one of the location's transitions.
  pub cost_leads : WellFormed s → (c : ℕ) (cs : List ℕ) (e : ℕ) → e ≤ saturation x y → EndsBy s (c ∷ cs) w e (along x y l e) ↔ One (LeadsFor c (EndsBy s cs w) x y e) (transitions s l)
  unfolding Bounded
  cost_leads loads c cs e k = (
    λ m. one_map (transitions s l) (bounded s loads l) (λ t f v. (v.0, leads_map (λ u g. (within_cost (prospect (compile s) cs (fire t (along x y 0 u))) u w w-small).0 g) v.1)) (leads.0 (here.1 m)),
    λ m. here.0 (leads.1 (one_map (transitions s l) (bounded s loads l) (λ t f v. (v.0, leads_map (λ u g. (within_cost (prospect (compile s) cs (fire t (along x y 0 u))) u w w-small).1 g) v.1)) m)),
  )
    where
      here : Within w (prospect (compile s) (c ∷ cs) (along x y l e)) e ↔ EndsBy s (c ∷ cs) w e (along x y l e)
      here = within_cost (prospect (compile s) (c ∷ cs) (along x y l e)) e w w-small

      leads : Within w (prospect (compile s) (c ∷ cs) (along x y l e)) e ↔ One (LeadsFor c (λ (u : ℕ) (q : Configuration). Within w (prospect (compile s) cs q) u) x y e) (transitions s l)
      leads = prospect_leads (Within w) (within_timed w) s loads c cs start e (x_Fits, y_fits) k

  -- What is reached later on a diagonal does not end sooner.
  pub cost_waits : (cs : List ℕ) (u v : ℕ) → u ≤ v → EndsBy s cs w v (along x y l v) → EndsBy s cs w u (along x y l u)
  cost_waits [] u v h m = let a = end_cost s (along x y l v) in let b = end_cost s (along x y l u) in omega arith
  cost_waits (c ∷ cs) u v h m =
      let a = (prospect_timed (Within w) (within_timed w) s c cs (along x y l v) v (omega arith, omega arith)).0 ((within_cost (prospect (compile s) (c ∷ cs) (along x y l v)) v w w-small).1 m) in
      let n : ℕ = v - u + a.0 in
      let e : advance n (along x y l u) ≡ advance a.0 (along x y l v) = advance_more u n start ∙ ap (λ (i : ℕ). advance i start) (let z : u + n ≡ v + a.0 = omega arith in z) ∙ sym (advance_more v a.0 start) in
      (within_cost (prospect (compile s) (c ∷ cs) (along x y l u)) u w w-small).0
      ((prospect_timed (Within w) (within_timed w) s c cs (along x y l u) u (omega arith, omega arith)).1
      (n, a.1, ap (step s c) e ∙ a.2, subst (Within w (prospect (compile s) cs a.1)) (let z : v + a.0 ≡ u + n = omega arith in z) a.3))
