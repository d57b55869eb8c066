-- One transition on the way along a diagonal: which of its positions count, and what a chain gains by them.
-- Assumes nothing.
use mathlib.Core.Path.{◌≡◌, refl, ap, sym, ◌∙◌, subst, subst⁻¹}
use mathlib.Core.Bool.{Bool, true, false, cond, ◌&&◌}
use mathlib.Core.List.{List}
use mathlib.Core.Logic.{◌⊎◌, inl, inr, ⊎_elim, ◌↔◌}
use Prim.Native.Nat.{ℕ, zero, suc, ◌+◌, ◌-◌, ◌≤◌, ◌<◌, min, max}
use native.Mathlib.Omega.{arith}
use lib.Dec.{eqb}
use lib.ListN.{get_or, set}
use borrow.Author.Tests.{eqb-true, eqb-false, eq-eqb}
use Rattle.enforcement.specs.Automaton.{Bytes, Transition, bit}
use Rattle.enforcement.specs.TimedWord.{Configuration, fire}
use Rattle.enforcement.specs.Model.{top, width}
use Rattle.enforcement.proofs.Bits.{or_cases, or_shown}
use Rattle.retimer.specs.Waits.{first_wait, end_wait, along}
use Rattle.retimer.specs.Next.{Leads}
use Rattle.retimer.specs.Costs.{never, EndsBy, just_reset}
use Rattle.retimer.specs.Chains.{Member, Covers, Arrived, kept_at, worth, Below}
use Rattle.retimer.proofs.CostLaws.{le_or_lt, cost_waits}

-- ---- The positions of a transition

module _ (G : ℕ → Configuration → Type 0) (t : Transition) (x y e from : ℕ) (from_is : from ≡ max e (first_wait t x y)) where
  -- Its first position is as good as any other.
  pub leads_first : from < end_wait t x y → ((u : ℕ) → from ≤ u → G u (fire t (along x y 0 u)) → G from (fire t (along x y 0 from))) → Leads G x y e t ↔ G from (fire t (along x y 0 from))
  leads_first h f = (
    λ w. f w.wait (omega (arith, w.reached, w.opened)) w.good,
    λ g. record { wait = from; reached = omega arith; opened = omega arith; open_still = h; good = g },
  )

-- Without a reset it stays on the diagonal.
pub fired_on : (t : Transition) (x y u : ℕ) → t.resets ≡ 0 → fire t (along x y 0 u) ≡ along x y t.target u
fired_on t x y u e = ap (λ (set : ℕ). record { location = t.target; x = cond (bit set 0) 0 (min (x + u) top); y = cond (bit set 1) 0 (min (y + u) top) }) e

-- With one it leads to one of the configurations that a memo has.
fired_reset : (t : Transition) (x y u : ℕ) → (t.resets ≡ 0 → ⊥) → t.resets ≤ 3 → fire t (along x y 0 u) ≡ just_reset (eqb t.resets 2) t.target (kept_at t.resets x y u)
unfolding kept_at
fired_reset t x y u h k = go t.resets h k
  where
    go : (n : ℕ) → (n ≡ 0 → ⊥) → n ≤ 3 → record { location = t.target; x = cond (bit n 0) 0 (min (x + u) top); y = cond (bit n 1) 0 (min (y + u) top) } ≡ just_reset (eqb n 2) t.target (cond (bit n 0) (cond (bit n 1) 0 (min (y + u) top)) (min (x + u) top))
    go zero h k = absurd (h refl)
    go (suc zero) h k = refl
    go (suc (suc zero)) h k = refl
    go (suc (suc (suc zero))) h k = refl
    go (suc (suc (suc (suc n)))) h k = absurd (omega arith)

-- ---- The positions that are worth a look

-- A reading r that is kept, from a position on: it grows by one a position until it is saturated.
grown : (r from i : ℕ) → i < width - min (r + from) top → min (r + from) top + i ≡ min (r + (from + i)) top
grown r from i h = elim (le_or_lt (r + from) top) [ inl k ↦ low k | inr k ↦ high k ]
  where
    low : r + from ≤ top → min (r + from) top + i ≡ min (r + (from + i)) top
    low k = let a : min (r + from) top ≡ r + from = omega arith in let b : r + from + i ≤ top = omega arith in omega arith

    high : top < r + from → min (r + from) top + i ≡ min (r + (from + i)) top
    high k = let a : min (r + from) top ≡ top = omega arith in omega arith

-- The position at which it is saturated is one of those before a later one.
saturates_before : (z from u end : ℕ) → z ≤ top → from ≤ u → u < end → width ≤ z + (u - from) → top - z < min (end - from) (width - z)
saturates_before z from u end a h k l = omega arith

module _ (s : Bytes) (cs : List ℕ) (w : ℕ) (clock : Bool) (l r from end : ℕ) where
  abbrev Sat : ℕ → Type 0
  Sat u = EndsBy s cs w u (just_reset clock l (min (r + u) top))

  abbrev Looked : ℕ → Type 0
  Looked i = EndsBy s cs w (from + i) (just_reset clock l (min (r + from) top + i))

  -- Up to saturation each position counts for itself, and later ones than that cost more.
  to_below : (u : ℕ) → from ≤ u → u < end → Sat u → Below (min (end - from) (width - min (r + from) top)) Looked
  to_below u h k g = elim (le_or_lt width (min (r + from) top + (u - from))) [ inl a ↦ late a | inr a ↦ soon (u - from) refl a ]
    where
      soon : (i : ℕ) → i ≡ u - from → min (r + from) top + i < width → Below (min (end - from) (width - min (r + from) top)) Looked
      soon i e a =
          let n : from + i ≡ u = omega arith in
          record { index = i; below = omega arith; holds = subst⁻¹ (λ (z : ℕ). EndsBy s cs w (from + i) (just_reset clock l z)) (grown r from i (omega arith)) (subst⁻¹ Sat n g) }

      late : width ≤ min (r + from) top + (u - from) → Below (min (end - from) (width - min (r + from) top)) Looked
      late a =
          let i : ℕ = top - min (r + from) top in
          let z : ℕ = min (r + from) top in
          let full : min (r + u) top ≡ top = omega arith in
          let same : z + i ≡ min (r + u) top = let b : z ≤ top = omega arith in omega arith in
          record {
            index = i;
            below = saturates_before z from u end (omega arith) h k a;
            holds = subst⁻¹ (λ (q : ℕ). EndsBy s cs w (from + i) (just_reset clock l q)) same (let b : from + i ≤ u = omega arith in omega arith);
          }

  from_below : Below (min (end - from) (width - min (r + from) top)) Looked → (u : ℕ) × (from ≤ u) × (u < end) × Sat u
  from_below b = (from + b.index, omega arith, omega (arith, b.below), subst (λ (z : ℕ). EndsBy s cs w (from + b.index) (just_reset clock l z)) (grown r from b.index (omega (arith, b.below))) b.holds)

module _ (s : Bytes) (cs : List ℕ) (w : ℕ) (t : Transition) (x y e from : ℕ) (from_is : from ≡ max e (first_wait t x y)) (opens : from < end_wait t x y) where
  abbrev At : ℕ → ℕ → ℕ → Type 0
  At set z i = EndsBy s cs w (from + i) (just_reset (eqb set 2) t.target (z + i))

  -- A transition with a reset: the positions that are worth a look are all that count.
  pub leads_reset : (t.resets ≡ 0 → ⊥) → t.resets ≤ 3 → (z n : ℕ) → z ≡ kept_at t.resets x y from → n ≡ worth t.resets z (end_wait t x y - from)
      → Leads (EndsBy s cs w) x y e t ↔ Below n (At t.resets z)
  unfolding kept_at worth
  leads_reset h k z n z-is n-is = (λ v. to v.wait (omega (arith, v.reached, v.opened)) v.open_still (subst (EndsBy s cs w v.wait) (fired_reset t x y v.wait h k) v.good), λ b. leads (from' b))
    where
      Fired : ℕ → ℕ → Type 0
      Fired set u = EndsBy s cs w u (just_reset (eqb set 2) t.target (kept_at set x y u))

      leads : ((u : ℕ) × (from ≤ u) × (u < end_wait t x y) × Fired t.resets u) → Leads (EndsBy s cs w) x y e t
      leads v = record { wait = v.0; reached = omega (arith, v.1); opened = omega (arith, v.1); open_still = v.2; good = subst⁻¹ (EndsBy s cs w v.0) (fired_reset t x y v.0 h k) v.3 }

      to : (u : ℕ) → from ≤ u → u < end_wait t x y → Fired t.resets u → Below n (At t.resets z)
      to u a b g = subst⁻¹ (λ (m : ℕ). Below m (At t.resets z)) n-is (subst⁻¹ (λ (q : ℕ). Below (worth t.resets q (end_wait t x y - from)) (At t.resets q)) z-is (go t.resets h k g))
        where
          go : (set : ℕ) → (set ≡ 0 → ⊥) → set ≤ 3 → Fired set u → Below (worth set (kept_at set x y from) (end_wait t x y - from)) (At set (kept_at set x y from))
          go zero h k g = absurd (h refl)
          go (suc zero) h k g = to_below s cs w false t.target y from (end_wait t x y) u a b g
          go (suc (suc zero)) h k g = to_below s cs w true t.target x from (end_wait t x y) u a b g
          go (suc (suc (suc zero))) h k g = record { index = 0; below = omega arith; holds = omega arith }
          go (suc (suc (suc (suc m)))) h k g = absurd (omega arith)

      from' : Below n (At t.resets z) → (u : ℕ) × (from ≤ u) × (u < end_wait t x y) × Fired t.resets u
      from' b = go t.resets h k (subst (λ (q : ℕ). Below (worth t.resets q (end_wait t x y - from)) (At t.resets q)) z-is (subst (λ (m : ℕ). Below m (At t.resets z)) n-is b))
        where
          go : (set : ℕ) → (set ≡ 0 → ⊥) → set ≤ 3 → Below (worth set (kept_at set x y from) (end_wait t x y - from)) (At set (kept_at set x y from)) → (u : ℕ) × (from ≤ u) × (u < end_wait t x y) × Fired set u
          go zero h k b = absurd (h refl)
          go (suc zero) h k b = from_below s cs w false t.target y from (end_wait t x y) b
          go (suc (suc zero)) h k b = from_below s cs w true t.target x from (end_wait t x y) b
          go (suc (suc (suc zero))) h k b = (from, omega arith, opens, first b.index (omega (arith, b.below)) b.holds)
            where
              first : (i : ℕ) → i ≡ 0 → EndsBy s cs w (from + i) (just_reset false t.target (0 + i)) → EndsBy s cs w from (just_reset false t.target 0)
              first zero q m = omega arith
              first (suc i) q m = absurd (omega arith)
          go (suc (suc (suc (suc m)))) h k b = absurd (omega arith)

-- ---- What a chain gains

module _ (s : Bytes) (cs : List ℕ) (x y : ℕ) (here : List ℕ) (places w : ℕ) where
  -- A better least.
  pub covers_best : {Q : Type 0} (best v : ℕ) → (v ≤ w) ↔ ((best ≤ w) ⊎ Q) → Covers s cs x y here places v w ↔ (Covers s cs x y here places best w ⊎ Q)
  covers_best best v f = (
    ⊎_elim (λ a. ⊎_elim (λ b. inl (inl b)) inr (f.0 a)) (λ m. inl (inr m)),
    ⊎_elim (⊎_elim (λ b. inl (f.1 (inl b))) inr) (λ q. inl (f.1 (inr q))),
  )

  module _ (x_Fits : x ≤ top) (y_fits : y ≤ top) (w-small : w < never) (t u : ℕ) (next : List ℕ) (places' : ℕ) (a : Arrived here places t u next places') where
    abbrev EndsAt : ℕ → ℕ → Type 0
    EndsAt l v = EndsBy s cs w v (along x y l v)

    -- A location that is reached, at the first of its positions.
    pub covers_arrived : (best : ℕ) → Covers s cs x y next places' best w ↔ (Covers s cs x y here places best w ⊎ EndsAt t u)
    covers_arrived best = (⊎_elim (λ b. inl (inl b)) (λ m. to m.location m.present m.holds (eqb m.location t) refl), ⊎_elim (⊎_elim inl (λ m. inr (old m.location m.present m.holds (eqb m.location t) refl))) (λ q. inr (new q)))
      where
        present_at : (l : ℕ) → (l ≡ t) ⊎ (bit places l ≡ true) → bit places' l ≡ true
        present_at l h = a.added.bits l ∙ or_shown (eqb l t) (bit places l) (⊎_elim (λ e. inl (eq-eqb l t e)) inr h)

        to : (l : ℕ) → bit places' l ≡ true → EndsAt l (get_or next l 0) → (b : Bool) → eqb l t ≡ b → Covers s cs x y here places best w ⊎ EndsAt t u
        to l p g true q =
            let m : EndsAt t (get_or next t 0) = subst (λ (i : ℕ). EndsAt i (get_or next i 0)) (eqb-true l t q) g in
            ⊎_elim (λ f. inr (subst (EndsAt t) f m)) (λ f. inl (inr (record { location = t; present = f.0; holds = subst (EndsAt t) f.1 m }))) a.either
        to l p g false q =
            let f = eqb-false l t q in
            inl (inr (record { location = l; present = ⊎_elim (λ e. absurd (f (eqb-true l t e))) (λ e. e) (or_cases (eqb l t) (bit places l) (sym (a.added.bits l) ∙ p)); holds = subst (EndsAt l) (a.others l f) g }))

        old : (l : ℕ) → bit places l ≡ true → EndsAt l (get_or here l 0) → (b : Bool) → eqb l t ≡ b → Member places' (λ (i : ℕ). EndsAt i (get_or next i 0))
        old l p g true q =
            let e = eqb-true l t q in
            record { location = t; present = present_at t (inl refl); holds = cost_waits s x y t x_Fits y_fits w w-small cs (get_or next t 0) (get_or here t 0) (a.sooner (subst (λ (i : ℕ). bit places i ≡ true) e p)) (subst (λ (i : ℕ). EndsAt i (get_or here i 0)) e g) }
        old l p g false q = record { location = l; present = present_at l (inr p); holds = subst⁻¹ (EndsAt l) (a.others l (eqb-false l t q)) g }

        new : EndsAt t u → Member places' (λ (i : ℕ). EndsAt i (get_or next i 0))
        new q = record { location = t; present = present_at t (inl refl); holds = cost_waits s x y t x_Fits y_fits w w-small cs (get_or next t 0) u a.soon q }

-- ---- As the code has it

module _ (set x y u z : ℕ) where
  pub kept_second_lem : set ≡ 1 → z ≡ min (y + u) top → (z ≡ kept_at set x y u) × (z ≤ top)
  unfolding kept_at
  kept_second_lem e h = (rw e h, omega arith)

  pub kept_first_lem : set ≡ 2 → z ≡ min (x + u) top → (z ≡ kept_at set x y u) × (z ≤ top)
  unfolding kept_at
  kept_first_lem e h = (rw e h, omega arith)

pub kept_none : (set x y u : ℕ) → (set ≡ 0 → ⊥) → set ≤ 3 → (set ≡ 1 → ⊥) → (set ≡ 2 → ⊥) → ◌≡◌ {A = ℕ} 0 (kept_at set x y u)
unfolding kept_at
kept_none set x y u a b c d = let e : set ≡ 3 = omega arith in rw e refl

pub worth_one : (set z n v : ℕ) → set ≡ 3 → v ≡ min n 1 → v ≡ worth set z n
unfolding worth
worth_one set z n v e h = rw e h

pub worth_some : (set z n v : ℕ) → set ≤ 3 → (set ≡ 3 → ⊥) → v ≡ min n (top - z + 1) → z ≤ top → v ≡ worth set z n
unfolding worth
worth_some set z n v a b h k = h ∙ ap (min n) (omega arith) ∙ go set a b
  where
    go : (set : ℕ) → set ≤ 3 → (set ≡ 3 → ⊥) → min n (width - z) ≡ min n (cond (bit set 0 && bit set 1) 1 (width - z))
    go zero a b = refl
    go (suc zero) a b = refl
    go (suc (suc zero)) a b = refl
    go (suc (suc (suc zero))) a b = absurd (b refl)
    go (suc (suc (suc (suc m)))) a b = absurd (omega arith)
