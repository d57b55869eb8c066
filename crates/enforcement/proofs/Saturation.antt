-- Saturated valuations: how ticks move them, and that an automaton's steps do not see past saturation.
use mathlib.Core.Path.{◌≡◌, refl, ap, ap₂, sym, ◌∙◌}
use mathlib.Core.Bool.{Bool, true, false, cond, ◌&&◌}
use mathlib.Core.List.{List, [], ◌∷◌}
use mathlib.Core.Option.{Option, none, some}
use mathlib.Core.Logic.{◌⊎◌, inl, inr}
use Prim.Native.Nat.{ℕ, suc, ◌+◌, ◌-◌, ◌≤◌, ◌<◌, min}
use native.Mathlib.Omega.{arith}
use lib.Dec.{eqb}
use borrow.Author.Tests.{eqb-true}
use Rattle.enforcement.specs.Limits.{max_bound}
use Rattle.enforcement.specs.Automaton.{Bytes, Transition, transitions, within, enabled, bit, clocks}
use Rattle.enforcement.specs.TimedWord.{Configuration, elapse, fire, fire_first, step}
use Rattle.enforcement.specs.Loading.{Bounds, OneClock, Fits, AllFit, Bounded}
use Rattle.enforcement.specs.Model.{top, saturated, has_one_clock, advance, headroom}
use Rattle.enforcement.proofs.Tests.{agree}
use Rattle.enforcement.proofs.Comparisons.{within_right}

-- Steps by actions, and what may be said of the end of a run.
abbrev pub Steps : Type 0
Steps = ℕ → Configuration → Option Configuration

abbrev pub Ending : Type 1
Ending = ℕ → Configuration → Type 0

-- ---- Configurations

pub configuration_path : {l x x' y y' : ℕ} → x ≡ x' → y ≡ y' → ◌≡◌ {A = Configuration} (record { location = l; x = x; y = y }) (record { location = l; x = x'; y = y' })
configuration_path {l} e f = λ i. record { location = l; x = e i; y = f i }

pub elapse_none : (p : Configuration) (d : ℕ) → elapse (d - d) p ≡ p
elapse_none p d = configuration_path (omega arith) (omega arith)

pub elapse_more : (p : Configuration) (d e : ℕ) → d < e → elapse (e - suc d) (elapse 1 p) ≡ elapse (e - d) p
elapse_more p d e h = configuration_path (omega arith) (omega arith)

-- Waiting in two parts.
pub elapse_split : (p : Configuration) (d e f : ℕ) → d ≤ e → e ≤ f → elapse (f - e) (elapse (e - d) p) ≡ elapse (f - d) p
elapse_split p d e f h k = configuration_path (omega arith) (omega arith)

-- ---- Ticks, up to saturation

pub saturated_advance : (one : Bool) (n : ℕ) (p : Configuration) → saturated one (elapse n p) ≡ advance n (saturated one p)
saturated_advance true n p = configuration_path (omega arith) (omega arith)
saturated_advance false n p = configuration_path (omega arith) (omega arith)

pub advance_saturated : (one : Bool) (p : Configuration) → advance 1 (saturated one p) ≡ saturated one (elapse 1 p)
advance_saturated one p = sym (saturated_advance one 1 p)

-- After k ticks every reading is saturated.
abbrev pub Fuelled : Bool → ℕ → Configuration → Type 0
Fuelled one k p = (top ≤ (saturated one p).x + k) × (top ≤ (saturated one p).y + k)

pub fuelled_next : (one : Bool) (k : ℕ) (p : Configuration) → Fuelled one (suc k) p → Fuelled one k (elapse 1 p)
fuelled_next true k p h = omega arith
fuelled_next false k p h = omega arith

pub saturated_elapse : (one : Bool) (p : Configuration) (n : ℕ) → Fuelled one 0 p → saturated one (elapse n p) ≡ saturated one p
saturated_elapse true p n h = configuration_path (omega arith) refl
saturated_elapse false p n h = configuration_path (omega arith) (omega arith)

pub headroom_fuels : (one : Bool) (p : Configuration) → Fuelled one (headroom (saturated one p)) p
headroom_fuels true p = omega arith
headroom_fuels false p = omega arith

pub saturated_x : (one : Bool) (p : Configuration) → (saturated one p).x ≤ top
saturated_x one p = omega arith

pub saturated_y : (one : Bool) (p : Configuration) → (saturated one p).y ≤ top
saturated_y true p = omega arith
saturated_y false p = omega arith

-- ---- Steps that do not see past saturation

abbrev pub saturated_option : Bool → Option Configuration → Option Configuration
saturated_option one none = none
saturated_option one (some q) = some (saturated one q)

abbrev pub Saturates : Bool → Steps → Type 0
Saturates one st = (c : ℕ) (p : Configuration) → st c (saturated one p) ≡ saturated_option one (st c p)

-- ---- The steps of an automaton

within_saturated : (low high x : ℕ) → Bounds low high → within low high (min x top) ≡ within low high x
within_saturated low high x h =
    let w = within_right low high (min x top) in
    agree (λ e. let l = w.0 e in (omega (arith, l.0), up h.high_fits l.1), λ l. w.1 (omega (arith, l.0, h.low_fits), down l.1)) (within_right low high x)
  where
    up : (high ≤ max_bound) ⊎ (high ≡ 255) → (high ≡ 255) ⊎ (min x top ≤ high) → (high ≡ 255) ⊎ (x ≤ high)
    up k (inl e) = inl e
    up (inl k) (inr l) = inr (omega arith)
    up (inr e) (inr l) = inl e

    down : (high ≡ 255) ⊎ (x ≤ high) → (high ≡ 255) ⊎ (min x top ≤ high)
    down (inl e) = inl e
    down (inr l) = inr (omega arith)

-- The bounds 0 and 255 hold of every reading.
within_any : (low high x : ℕ) → low ≡ 0 → high ≡ 255 → within low high x ≡ true
within_any low high x e f = (within_right low high x).1 (omega arith, inl f)

module _ (s : Bytes) (one : Bool) (one-is : one ≡ true → clocks s ≡ 1) where
  -- A second clock that the automaton does not have is not read.
  second_saturated : (t : Transition) (y : ℕ) → Fits s t → within t.low2 t.high2 (cond one top (min y top)) ≡ within t.low2 t.high2 y
  second_saturated t y h = go one one-is
    where
      go : (b : Bool) → (b ≡ true → clocks s ≡ 1) → within t.low2 t.high2 (cond b top (min y top)) ≡ within t.low2 t.high2 y
      go true f =
          let k : OneClock t = h.one_clock (f refl) in
          within_any t.low2 t.high2 top k.low_zero k.high_none ∙ sym (within_any t.low2 t.high2 y k.low_zero k.high_none)
      go false f = within_saturated t.low2 t.high2 y h.second

  enabled_saturated : (t : Transition) (p : Configuration) → Fits s t → enabled t (saturated one p).x (saturated one p).y ≡ enabled t p.x p.y
  enabled_saturated t p h = ap₂ ◌&&◌ (within_saturated t.low1 t.high1 p.x h.first) (second_saturated t p.y h)

  reset_saturated : (b : Bool) (x : ℕ) → cond b 0 (min x top) ≡ min (cond b 0 x) top
  reset_saturated true x = refl
  reset_saturated false x = refl

  -- Nor is it reset.
  kept_saturated : (t : Transition) (y : ℕ) → Fits s t → cond (bit t.resets 1) 0 (cond one top (min y top)) ≡ cond one top (min (cond (bit t.resets 1) 0 y) top)
  kept_saturated t y h = go one one-is
    where
      go : (b : Bool) → (b ≡ true → clocks s ≡ 1) → cond (bit t.resets 1) 0 (cond b top (min y top)) ≡ cond b top (min (cond (bit t.resets 1) 0 y) top)
      go true f = ap (λ (r : Bool). cond r 0 top) (h.one_clock (f refl)).kept
      go false f = reset_saturated (bit t.resets 1) y

  fire_saturated : (t : Transition) (p : Configuration) → Fits s t → fire t (saturated one p) ≡ saturated one (fire t p)
  fire_saturated t p h = configuration_path (reset_saturated (bit t.resets 0) p.x) (kept_saturated t p.y h)

  first_saturated : (ts : List Transition) → AllFit s ts → (c : ℕ) (p : Configuration) → fire_first ts c (saturated one p) ≡ saturated_option one (fire_first ts c p)
  unfolding fire_first
  first_saturated [] h c p = refl
  first_saturated (t ∷ ts) h c p =
      ap (λ (b : Bool). cond (eqb t.action c && b) (some (fire t (saturated one p))) (fire_first ts c (saturated one p))) (enabled_saturated t p h.0)
      ∙ go (eqb t.action c && enabled t p.x p.y) (first_saturated ts h.1 c p)
    where
      go : (b : Bool) → fire_first ts c (saturated one p) ≡ saturated_option one (fire_first ts c p)
          → cond b (some (fire t (saturated one p))) (fire_first ts c (saturated one p)) ≡ saturated_option one (cond b (some (fire t p)) (fire_first ts c p))
      go true e = ap some (fire_saturated t p h.0)
      go false e = e

pub step_saturated : (s : Bytes) → Bounded s → Saturates (has_one_clock s) (step s)
unfolding step Bounded
step_saturated s h c p =
    first_saturated s (has_one_clock s) (λ e. eqb-true (clocks s) 1 e) (transitions s p.location) (h p.location) c p
