-- What a chain gains by one transition, in each case of it.
-- Assumes nothing.
use mathlib.Core.Path.{◌≡◌, refl, ap, sym, ◌∙◌, subst, subst⁻¹}
use mathlib.Core.Bool.{Bool, true, false, cond, ◌&&◌}
use mathlib.Core.List.{List, []}
use mathlib.Core.Logic.{◌⊎◌, inl, inr, ⊎_elim, ◌↔◌}
use Prim.Native.Nat.{ℕ, ◌+◌, ◌-◌, ◌≤◌, ◌<◌, min, max}
use native.Mathlib.Omega.{arith}
use lib.Dec.{eqb}
use lib.ListN.{length, get_or, drop}
use lib.Seq.{drop-length}
use borrow.Author.Tests.{eqb-true, eqb-false}
use Rattle.enforcement.specs.Automaton.{Transition, bit, accepting, locations}
use Rattle.enforcement.specs.TimedWord.{fire}
use Rattle.enforcement.specs.Loading.{Fits}
use Rattle.enforcement.specs.Model.{top, width}
use Rattle.enforcement.proofs.Bits.{or_cases}
use Rattle.retimer.specs.Waits.{saturation, first_wait, end_wait, along}
use Rattle.retimer.specs.Next.{Leads}
use Rattle.retimer.specs.Costs.{never, cost_at, EndsBy}
use Rattle.retimer.specs.Chains.{Covers, Chain, Searching, Arrived, kept_at, worth, OverAsked, OverDone, Rule, Gained}
use Rattle.retimer.proofs.Intervals.{end_is}
use Rattle.retimer.proofs.CostLaws.{end_cost, cost_waits}
use Rattle.retimer.proofs.Chains.{leads_first, fired_on, leads_reset, covers_best, covers_arrived}

-- The readings worth a look are readings.
worth_fits : (set z n : ℕ) → z ≤ top → z + worth set z n ≤ width
unfolding worth
worth_fits set z n h = go (bit set 0 && bit set 1)
  where
    go : (b : Bool) → z + min n (cond b 1 (width - z)) ≤ width
    go true = omega arith
    go false = omega arith

module _ {s cs : List ℕ} {k x y : ℕ} {first second : List ℕ} (a : Searching s cs k x y first second) {here : List ℕ} {places best : ℕ} (ch : Chain s x y here places best) (t : Transition) (e : ℕ) where
  abbrev after : List ℕ
  after = drop (k + 1) cs

  module _ {first-wait from end : ℕ} (first_is : first-wait ≡ first_wait t x y) (max-is : from ≡ max e first-wait) (end-at : end ≡ end_wait t x y) where
    from_is : from ≡ max e (first_wait t x y)
    from_is = max-is ∙ ap (max e) first_is

    module _ (for-action : t.action ≡ get_or cs k 0) (opens : from < end) (fits : Fits s t) where
      open_at : from < end_wait t x y
      open_at = omega arith

      from_on : from ≤ saturation x y
      from_on = (end_is t x y from open_at).2

      same_rule : {P : Type 0} (w : ℕ) → Leads (EndsBy s after w) x y e t ↔ P → Rule s cs k x y e w t ↔ P
      same_rule w f = (λ q. f.0 q.1, λ p. (for-action, f.1 p))

      -- The last action.
      pub rule_last : {places' best' : ℕ} → from < best → k + 1 ≡ length cs → places' ≡ places → best' ≡ cond (accepting s t.target) from best → Gained s cs k x y (λ w. Rule s cs k x y e w t) here places best here places' best' first second
      rule_last {places'} {best'} soon last p b =
          subst⁻¹ (λ (n : ℕ). Gained s cs k x y (λ w. Rule s cs k x y e w t) here places best here n best' first second) p
          (record {
            ground = a.ground;
            chain = record { each = ch.each; in_sheet = ch.in_sheet; on_diagonal = ch.on_diagonal; best_most = most (accepting s t.target) b };
            at_last = λ h. refl;
            gains = λ w h. covers_best s after x y here places w best best' (by (accepting s t.target) refl w h b);
          })
        where
          none : after ≡ []
          none = ap (λ (j : ℕ). drop j cs) last ∙ drop-length cs

          most : (o : Bool) → best' ≡ cond o from best → best' ≤ never
          most true q = omega (arith, ch.best_most)
          most false q = omega (arith, ch.best_most)

          cost_is : (u : ℕ) → cost_at s after (fire t (along x y 0 u)) ≡ cond (accepting s t.target) 0 never
          cost_is u = ap (λ (ds : List ℕ). cost_at s ds (fire t (along x y 0 u))) none ∙ end_cost s (fire t (along x y 0 u))

          ends : (w : ℕ) → Rule s cs k x y e w t ↔ EndsBy s after w from (fire t (along x y 0 from))
          ends w = same_rule w (leads_first (EndsBy s after w) t x y e from from_is open_at (λ u l g. omega (arith, cost_is u, cost_is from)))

          by : (o : Bool) → accepting s t.target ≡ o → (w : ℕ) → w < never → best' ≡ cond (accepting s t.target) from best → (best' ≤ w) ↔ ((best ≤ w) ⊎ Rule s cs k x y e w t)
          by true o w h q =
              let c : cost_at s after (fire t (along x y 0 from)) ≡ 0 = cost_is from ∙ ap (λ (b : Bool). cond b 0 never) o in
              let v : best' ≡ from = q ∙ ap (λ (b : Bool). cond b from best) o in
              (λ l. inr ((ends w).1 (omega arith)), ⊎_elim (λ l. omega arith) (λ r. omega (arith, (ends w).0 r)))
          by false o w h q =
              let c : cost_at s after (fire t (along x y 0 from)) ≡ never = cost_is from ∙ ap (λ (b : Bool). cond b 0 never) o in
              let v : best' ≡ best = q ∙ ap (λ (b : Bool). cond b from best) o in
              (λ l. inl (omega arith), ⊎_elim (λ l. omega arith) (λ r. absurd (omega (arith, (ends w).0 r))))

      -- No reset: the target is reached.
      pub rule_on : {next : List ℕ} {i places' best' : ℕ} → (k + 1 ≡ length cs → ⊥) → t.resets ≡ 0 → i ≡ t.target → Arrived here places i from next places' → best' ≡ best → Gained s cs k x y (λ w. Rule s cs k x y e w t) here places best next places' best' first second
      rule_on {next} {i} {places'} {best'} last none i_is arrived b =
          subst⁻¹ (λ (n : ℕ). Gained s cs k x y (λ w. Rule s cs k x y e w t) here places best next places' n first second) b
          (record {
            ground = a.ground;
            chain = record { each = v.same_length ∙ ch.each; in_sheet = λ l h. sheet l (eqb l t.target) refl h; on_diagonal = λ l h. diagonal l (eqb l t.target) refl h; best_most = ch.best_most };
            at_last = λ h. absurd (last h);
            gains = gains;
          })
        where
          v : Arrived here places t.target from next places'
          v = subst (λ (j : ℕ). Arrived here places j from next places') i_is arrived

          was : (l : ℕ) → (l ≡ t.target → ⊥) → bit places' l ≡ true → bit places l ≡ true
          was l n h = ⊎_elim (λ q. absurd (n (eqb-true l t.target q))) (λ q. q) (or_cases (eqb l t.target) (bit places l) (sym (v.added.bits l) ∙ h))

          sheet : (l : ℕ) (o : Bool) → eqb l t.target ≡ o → bit places' l ≡ true → l < locations s
          sheet l true q h = omega (arith, eqb-true l t.target q, fits.target_fits)
          sheet l false q h = ch.in_sheet l (was l (eqb-false l t.target q) h)

          diagonal : (l : ℕ) (o : Bool) → eqb l t.target ≡ o → bit places' l ≡ true → get_or next l 0 ≤ saturation x y
          diagonal l true q h = subst⁻¹ (λ (i : ℕ). get_or next i 0 ≤ saturation x y) (eqb-true l t.target q) (omega (arith, v.soon, from_on))
          diagonal l false q h = let n = eqb-false l t.target q in subst⁻¹ (λ (i : ℕ). i ≤ saturation x y) (v.others l n) (ch.on_diagonal l (was l n h))

          gains : (w : ℕ) → w < never → Covers s after x y next places' best w ↔ (Covers s after x y here places best w ⊎ Rule s cs k x y e w t)
          gains w h =
              let r = same_rule w (leads_first (EndsBy s after w) t x y e from from_is open_at (λ u l g.
              subst⁻¹ (EndsBy s after w from) (fired_on t x y from none) (cost_waits s x y t.target a.first_fits a.second_fits w h after from u l (subst (EndsBy s after w u) (fired_on t x y u none) g)))) in
              let g = covers_arrived s after x y here places w a.first_fits a.second_fits h t.target from next places' v best in (
                λ m. ⊎_elim inl (λ q. inr (r.1 (subst⁻¹ (EndsBy s after w from) (fired_on t x y from none) q))) (g.0 m),
                λ m. g.1 (⊎_elim inl (λ q. inr (subst (EndsBy s after w from) (fired_on t x y from none) (r.0 q))) m),
              )

      module _ (last : k + 1 ≡ length cs → ⊥) (some : t.resets ≡ 0 → ⊥) {z n : ℕ} (z-is : z ≡ kept_at t.resets x y from) (z_fits : z ≤ top) (n-is : n ≡ worth t.resets z (end - from)) where
        -- What the costs after a reset are asked for.
        pub over_asked : OverAsked s cs k t.target z n from first second
        over_asked = record {
          ground = a.ground;
          more = omega (arith, a.more);
          target_fits = fits.target_fits;
          readings_fit = omega (arith, worth_fits t.resets z (end - from) z_fits);
          from_fits = omega (arith, from_on);
        }

        -- A reset: the least of the costs after it.
        pub rule_reset : {first' second' : List ℕ} {v : ℕ} → OverDone s cs k t.target (eqb t.resets 2) z n from best v first' second' → Gained s cs k x y (λ w. Rule s cs k x y e w t) here places best here places v first' second'
        rule_reset {first'} {second'} {v} d = record {
          ground = d.ground;
          chain = record { each = ch.each; in_sheet = ch.in_sheet; on_diagonal = ch.on_diagonal; best_most = omega (arith, d.most, ch.best_most) };
          at_last = λ h. refl;
          gains = λ w h. covers_best s after x y here places w best v (by w h);
        }
          where
            by : (w : ℕ) → w < never → (v ≤ w) ↔ ((best ≤ w) ⊎ Rule s cs k x y e w t)
            by w h =
                let r = same_rule w (leads_reset s after w t x y e from from_is open_at some fits.resets_fit z n z-is (n-is ∙ ap (λ (m : ℕ). worth t.resets z (m - from)) end-at)) in
                (λ l. ⊎_elim inl (λ b. inr (r.1 b)) ((d.least w h).0 l), λ m. (d.least w h).1 (⊎_elim inl (λ q. inr (r.0 q)) m))
