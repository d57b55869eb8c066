-- A cost by what an action costs now and what it costs a tick later, and tables that have it so.
-- Assumes nothing.
use mathlib.Core.Path.{◌≡◌, refl, ap, sym, ◌∙◌, subst}
use mathlib.Core.List.{List, [], ◌∷◌}
use mathlib.Core.Option.{some}
use mathlib.Core.Logic.{◌⊎◌, inl, inr, ⊎_elim, ◌↔◌}
use Prim.Native.Nat.{ℕ, zero, suc, ◌+◌, ◌≤◌, ◌<◌}
use native.Mathlib.Omega.{arith}
use lib.ListN.{length}
use Rattle.enforcement.specs.Limits.{max_count}
use Rattle.enforcement.specs.Automaton.{Bytes, Transition, transitions}
use Rattle.enforcement.specs.TimedWord.{Configuration, fire, step}
use Rattle.enforcement.specs.Loading.{WellFormed, Bounded}
use Rattle.enforcement.specs.Model.{top, advance, prospect, compile}
use Rattle.enforcement.proofs.Loading.{bounded}
use Rattle.enforcement.proofs.Optimum.{Within}
use Rattle.retimer.specs.Steps.{One}
use Rattle.retimer.specs.Costs.{never, cost_at, configuration, EndsBy}
use Rattle.retimer.specs.Layers.{tick, Now, NowOne, cell_of, cell, Small, Ticked, AtOnce, Laid}
use Rattle.retimer.proofs.Taking.{one_map, Taken, step_one}
use Rattle.retimer.proofs.ProspectKinds.{within_timed, advance_none, advance_more, prospect_timed}
use Rattle.retimer.proofs.CostLaws.{le_or_lt, within_cost, same_least, cost_most}

module _ (s : Bytes) (loads : WellFormed s) (c : ℕ) (cs : List ℕ) (l : ℕ) where
  -- One that is enabled at once is taken.
  some_now : (x y w : ℕ) (ts : List Transition) → One (Now s c cs w x y) ts → (q : Configuration) × One (Taken c (configuration l x y) q) ts × (cost_at s cs q ≤ w)
  some_now x y w [] o = absurd o
  some_now x y w (t ∷ ts) (inl o) = (fire t (configuration l x y), inl (o.0, o.1.0, refl), o.1.1)
  some_now x y w (t ∷ ts) (inr o) = let r = some_now x y w ts o in (r.0, inr r.1, r.2)

  module _ (x y : ℕ) (x_Fits : x ≤ top) (y_fits : y ≤ top) (w : ℕ) (w-small : w < never) where
    abbrev here : Configuration
    here = configuration l x y

    abbrev next : Configuration
    next = advance 1 here

    -- All ends by w just when it does with a transition that is enabled at once, or from a tick later.
    pub now_or_later : (cost_at s (c ∷ cs) here ≤ w) ↔ (NowOne s c cs l x y w ⊎ EndsBy s (c ∷ cs) w 1 next)
    unfolding Bounded
    now_or_later = (to, from)
      where
        at_once : EndsBy s (c ∷ cs) w 0 here ↔ ((u : ℕ) × (q : Configuration) × (step s c (advance u here) ≡ some q) × Within w (prospect (compile s) cs q) (0 + u))
        at_once = let a = prospect_timed (Within w) (within_timed w) s c cs here 0 (x_Fits, y_fits) in let b = within_cost (prospect (compile s) (c ∷ cs) here) 0 w w-small in (λ m. a.0 (b.1 m), λ v. b.0 (a.1 v))

        later : EndsBy s (c ∷ cs) w 1 next ↔ ((u : ℕ) × (q : Configuration) × (step s c (advance u next) ≡ some q) × Within w (prospect (compile s) cs q) (1 + u))
        later = let a = prospect_timed (Within w) (within_timed w) s c cs next 1 (omega arith, omega arith) in let b = within_cost (prospect (compile s) (c ∷ cs) next) 1 w w-small in (λ m. a.0 (b.1 m), λ v. b.0 (a.1 v))

        plain : EndsBy s (c ∷ cs) w 0 here → cost_at s (c ∷ cs) here ≤ w
        plain m = omega arith

        split : (u : ℕ) (q : Configuration) → step s c (advance u here) ≡ some q → Within w (prospect (compile s) cs q) (0 + u) → NowOne s c cs l x y w ⊎ EndsBy s (c ∷ cs) w 1 next
        split zero q e g =
            let v : cost_at s cs q ≤ w = let z = (within_cost (prospect (compile s) cs q) 0 w w-small).0 g in omega arith in
            inl (one_map (transitions s l) (bounded s loads l) (λ t f a. (a.0, (a.1, subst (λ (r : Configuration). cost_at s cs r ≤ w) (sym a.2) v)))
            ((step_one s loads c here q).0 (ap (step s c) (sym (advance_none here (x_Fits, y_fits))) ∙ e)))
        split (suc u) q e g =
            let z : 1 + u ≡ suc u = omega arith in
            inr (later.1 (u, q, ap (step s c) (advance_more 1 u here ∙ ap (λ (n : ℕ). advance n here) z) ∙ e, subst (Within w (prospect (compile s) cs q)) (let z : 0 + suc u ≡ 1 + u = omega arith in z) g))

        to : cost_at s (c ∷ cs) here ≤ w → NowOne s c cs l x y w ⊎ EndsBy s (c ∷ cs) w 1 next
        to m = let v = at_once.0 (omega arith) in split v.0 v.1 v.2 v.3

        from : NowOne s c cs l x y w ⊎ EndsBy s (c ∷ cs) w 1 next → cost_at s (c ∷ cs) here ≤ w
        from (inl o) =
            let r = some_now x y w (transitions s l) o in
            plain (at_once.1 (0, r.0, ap (step s c) (advance_none here (x_Fits, y_fits)) ∙ (step_one s loads c here r.0).1 r.1, (within_cost (prospect (compile s) cs r.0) 0 w w-small).1 (omega (arith, r.2))))
        from (inr m) =
            let v = later.0 m in
            plain (at_once.1 (1 + v.0, v.1, ap (step s c) (sym (advance_more 1 v.0 here)) ∙ v.2, subst (Within w (prospect (compile s) cs v.1)) (let z : 1 + v.0 ≡ 0 + (1 + v.0) = omega arith in z) v.3))

  -- ---- Tables

  module _ (m : ℕ) (table table' : List ℕ) (ticked : (x y : ℕ) → x ≤ top → y ≤ top → Ticked m x y table table') (now : AtOnce s c cs l m table) where
    -- By the ticks that are left.
    laid_by : (w : ℕ) → w < never → (x y : ℕ) → x ≤ top → y ≤ top → (cell table' m x y ≤ w) ↔ (cost_at s (c ∷ cs) (configuration l x y) ≤ w)
    laid_by zero h x y a b =
        let law = now_or_later x y a b 0 h in
        let n = now x y a b 0 h in
        let k = ticked x y a b in (
          λ v. law.1 (inl (n.0 (omega arith))),
          λ v. ⊎_elim (λ o. omega (arith, n.1 o)) (λ e. absurd (omega arith)) (law.0 v),
        )
    laid_by (suc w) h x y a b =
        let law = now_or_later x y a b (suc w) h in
        let n = now x y a b (suc w) h in
        let k = ticked x y a b in
        let r = laid_by w (omega arith) (tick x) (tick y) (omega arith) (omega arith) in (
          λ v. law.1 (split v k n r),
          λ v. ⊎_elim (λ o. omega (arith, n.1 o)) (λ e. omega (arith, r.1 (omega arith))) (law.0 v),
        )
      where
        split : cell table' m x y ≤ suc w → Ticked m x y table table' → (cell table m x y ≤ suc w) ↔ NowOne s c cs l x y (suc w)
            → (cell table' m (tick x) (tick y) ≤ w) ↔ (cost_at s (c ∷ cs) (configuration l (tick x) (tick y)) ≤ w) → NowOne s c cs l x y (suc w) ⊎ EndsBy s (c ∷ cs) (suc w) 1 (configuration l (tick x) (tick y))
        split v k n r = ⊎_elim (λ g. inl (n.0 g)) (λ g. inr (omega (arith, r.0 g))) (either v k)
          where
            either : cell table' m x y ≤ suc w → Ticked m x y table table' → (cell table m x y ≤ suc w) ⊎ (cell table' m (tick x) (tick y) ≤ w)
            either v k = ⊎_elim (λ g. inl (omega arith)) (λ g. inr (omega arith)) (le_or_lt (cell table m x y) (suc (cell table' m (tick x) (tick y))))

    -- A table that says what each configuration costs at once has, after the ticks, the costs.
    pub laid : length cs ≤ max_count → Small table → Laid s (c ∷ cs) l m table'
    laid few small x y a b = same_least (cell table' m x y) (cost_at s (c ∷ cs) (configuration l x y)) (let k = ticked x y a b in let g = small (cell_of m x y) in omega arith) (cost_most s (c ∷ cs) 0 (configuration l x y) (omega arith)) (λ w h. laid_by w h x y a b)
