-- Laws of the dates: what playing now costs, and the states that the dates are read off in.
-- Assumes nothing.
use mathlib.Core.Path.{◌≡◌, ap, sym, ◌∙◌, subst⁻¹}
use mathlib.Core.Bool.{Bool, true, false}
use mathlib.Core.List.{List}
use mathlib.Core.Option.{Option, some}
use Prim.Native.Nat.{ℕ, ◌+◌, ◌-◌, ◌*◌, ◌≤◌, ◌<◌}
use native.Mathlib.Omega.{arith}
use lib.ListN.{length, get_or, drop, set, length-drop}
use Rattle.enforcement.specs.Automaton.{Bytes}
use Rattle.enforcement.specs.TimedWord.{Configuration}
use Rattle.enforcement.specs.Model.{top, ticks, after_step, prospect, compile}
use Rattle.std.specs.Prelude.{Option as MaybeAhead, Some, None}
use Rattle.retimer.specs.declared.lookup.Stepped.{Stepped}
use Rattle.retimer.specs.declared.optimum.Reached.{Reached}
use Rattle.retimer.specs.declared.optimum.Ahead.{Ahead}
use Rattle.retimer.specs.Readings.{waited, located, Standing}
use Rattle.retimer.specs.Steps.{optional, StepRight}
use Rattle.retimer.specs.Optimum.{Asked, PlanRight}
use Rattle.retimer.specs.Costs.{never, cost, cost_at, Ground, Costed}
use Rattle.retimer.specs.Dates.{played_now, cost_ahead, AheadRight, Dating, Written}
use Rattle.retimer.proofs.Valuations.{standing_waited}
use Rattle.retimer.proofs.Prospects.{step_is, ticks_most}
use Rattle.retimer.proofs.CostLaws.{cost_ticks}
use Rattle.retimer.proofs.Walk.{left_after, written_played, not_full, some_ticks, left_later, written_waited}

-- ---- Playing now

module _ (s : Bytes) (cs : List ℕ) (k l : ℕ) (r : List ℕ) (v : Stepped) (h : StepRight s (get_or cs k 0) l r v) where
  stepped : (b : Bool) → v.found ≡ b → (compile s).step (get_or cs k 0) (located l r) ≡ optional b (located v.location v.readings)
  stepped b e = step_is s (get_or cs k 0) (located l r) ∙ sym h.is ∙ ap (λ (b : Bool). optional b (located v.location v.readings)) e

  -- It leads nowhere.
  pub ahead_none : {first second : List ℕ} → Ground s cs first second → v.found ≡ false → AheadRight s cs k l r first second None
  ahead_none d e = record {
    value_is = sym (ap (λ (o : Option Configuration). cost (after_step o (prospect (compile s) (drop (k + 1) cs)))) (stepped false e));
    leads = tt;
    standing = tt;
    ground = d;
  }

  pub ahead_some : {first second : List ℕ} {n : ℕ} → Costed s cs first second (cost_at s (drop (k + 1) cs) (located v.location v.readings)) n → v.found ≡ true → AheadRight s cs k l r first second (Some (record { cost = n; location = v.location; readings = v.readings }))
  ahead_some d e = record {
    value_is = d.value_is ∙ sym (ap (λ (o : Option Configuration). cost (after_step o (prospect (compile s) (drop (k + 1) cs)))) (stepped true e));
    leads = stepped true e;
    standing = h.standing;
    ground = d.ground;
  }

-- ---- One step of the reading

module _ {s : Bytes} {cs : List ℕ} {k l : ℕ} {r : List ℕ} {t v : ℕ} {first₀ second₀ out : List ℕ} (g : Dating s cs k l r t v first₀ second₀ out) (some_left : (k ≡ length cs → ⊥)) where
  pub dating_more : k < length cs
  dating_more = omega (arith, g.played)

  few_ticks : v < never
  few_ticks = omega (arith, ticks_most (compile s) (drop k cs) (located l r) v g.least, length-drop k cs, g.ground.few)

  -- Playing now keeps the least ticks.
  module _ {first second : List ℕ} {a : Ahead} (h : AheadRight s cs k l r first second (Some a)) where
    module _ (keeps : a.cost ≡ v) where
      now : played_now s cs k (located l r) ≡ ticks v
      now = cost_ticks (played_now s cs k (located l r)) v (sym keeps ∙ h.value_is) few_ticks

      found : (compile s).step (get_or cs k 0) (located l r) ≡ some (located a.location a.readings)
      found = h.leads

      pub dating_played : Dating s cs (k + 1) a.location a.readings t v first second out
      dating_played = record {
        ground = h.ground;
        played = omega (arith, dating_more);
        standing = h.standing;
        least = left_after s cs k l r dating_more g.standing.readings v g.least t a.location a.readings found now;
        early = g.early;
        room = g.room;
      }

      pub playing_written : {before out' : List ℕ} {q : Reached} → length cs ≤ length before → Written s cs (k + 1) a.location a.readings t (set before k t) out' q → Written s cs k l r t before out' q
      playing_written {before} {out'} {q} room z = written_played s cs k l r dating_more g.standing.readings v g.least t a.location a.readings found now before out' q (omega (arith, dating_more)) z

  -- It does not, or cannot be: a tick passes.
  pub other_some : {o : MaybeAhead Ahead} {a : Ahead} → o ≡ Some a → (a.cost ≡ v → ⊥) → cost_ahead o ≡ v → ⊥
  other_some e f z = f (sym (ap cost_ahead e) ∙ z)

  pub other_none : {o : MaybeAhead Ahead} → o ≡ None → cost_ahead o ≡ v → ⊥
  other_none e z = omega (arith, ap cost_ahead e, few_ticks)

  module _ {first second : List ℕ} {o : MaybeAhead Ahead} (h : AheadRight s cs k l r first second o) where
    module _ (other : cost_ahead o ≡ v → ⊥) {w : List ℕ} (is-waited : w ≡ waited 1 r) where
      not_now : played_now s cs k (located l r) ≡ ticks v → ⊥
      not_now e = other (h.value_is ∙ ap cost e)

      pub dating_below : get_or r 0 0 + get_or r 1 0 ≡ 2 * top → ⊥
      dating_below = not_full s cs k l r dating_more g.standing.readings v g.least w is-waited not_now

      pub dating_ticks : 1 ≤ v
      dating_ticks = some_ticks s cs k l r dating_more g.standing.readings v g.least w is-waited not_now

      pub dating_waited : Dating s cs k l w (t + 1) (v - 1) first second out
      dating_waited = record {
        ground = h.ground;
        played = g.played;
        standing = subst⁻¹ (Standing s l) is-waited (standing_waited s l 1 r g.standing);
        least = left_later s cs k l r dating_more g.standing.readings v g.least w is-waited not_now;
        early = omega (arith, g.early, dating_ticks);
        room = g.room;
      }

      pub waiting_written : {before out' : List ℕ} {q : Reached} → Written s cs k l w (t + 1) before out' q → Written s cs k l r t before out' q
      waiting_written {before} {out'} {q} z = written_waited s cs k l r dating_more g.standing.readings v g.least w is-waited not_now t before out' q z

-- ---- The whole plan

module _ {s cs : List ℕ} {l : ℕ} {r : List ℕ} {t : ℕ} {out : List ℕ} (a : Asked s cs l r t out) where
  module _ {first second : List ℕ} {v : ℕ} (f : Costed s cs first second (cost_at s (drop 0 cs) (located l r)) v) where
    least_is : prospect (compile s) cs (located l r) ≡ ticks v
    least_is = let e = a.correctable.1 in e ∙ ap ticks (sym (f.value_is ∙ ap cost e))

    -- The dates start with the least ticks.
    pub dating_begun : Dating s cs 0 l r t v first second out
    dating_begun = record {
      ground = f.ground;
      played = omega arith;
      standing = a.standing;
      least = least_is;
      early = omega (arith, a.early, a.few, ticks_most (compile s) cs (located l r) v least_is);
      room = a.room;
    }

    -- The dates of all the actions are the plan.
    pub planned : {out' : List ℕ} {q : Reached} → Written s cs 0 l r t out out' q → PlanRight s cs l r t out out' (record { value = v; location = q.location; readings = q.readings })
    planned w = record { value_is = least_is; dates_are = w.dates_are; rest_kept = w.rest_kept; reached = w.reached; standing = w.standing }
