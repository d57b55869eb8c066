-- What the loops of the search for costs keep: over positions, over a location's transitions, over the locations of a chain, and along the chain.
-- Assumes nothing.
use mathlib.Core.Path.{◌≡◌, refl, ap, sym, ◌∙◌, subst, subst⁻¹}
use mathlib.Core.Bool.{Bool, true, false, ◌||◌, false≢true}
use mathlib.Core.List.{List}
use mathlib.Core.Logic.{◌⊎◌, inl, inr, ⊎_elim, ◌↔◌}
use Prim.Native.Nat.{ℕ, ◌+◌, ◌-◌, ◌*◌, ◌^◌, ◌≤◌, ◌<◌, min}
use native.Mathlib.Omega.{arith}
use lib.Dec.{eqb}
use lib.Bits.{bit_and, and_le_r}
use lib.Count.{count_trailing_zeros}
use lib.ListN.{length, get_or, drop, replicate, length-replicate}
use borrow.Author.Tests.{eqb-true, eqb-false, eq-eqb}
use Rattle.enforcement.specs.Limits.{max_count}
use Rattle.enforcement.specs.Automaton.{bit, word, locations, transition_at}
use Rattle.enforcement.specs.Loading.{WellFormed, Fits}
use Rattle.enforcement.proofs.Tests.{T_true}
use Rattle.enforcement.proofs.Loading.{header}
use Rattle.enforcement.proofs.Bits.{bit_none, bit_beyond, or_cases, lowest_is, dropped_is}
use Rattle.retimer.specs.Locations.{Added}
use Rattle.retimer.specs.Waits.{along}
use Rattle.retimer.specs.Costs.{never, cost_at, EndsBy, configuration, just_reset, Ground, Costed}
use Rattle.retimer.specs.Chains.{Member, Covers, Chain, Searching, Below, OverAsked, OverDone, Rule, Rules, Gained, Played}
use Rattle.retimer.proofs.Arrays.{zero_at}
use Rattle.retimer.proofs.Prospects.{left_some}
use Rattle.retimer.proofs.ProspectKinds.{advance_none}
use Rattle.retimer.proofs.Left.{Left, left_whole, left_fits, left_inside, left_next, left_none}
use Rattle.retimer.proofs.CostLaws.{le_or_lt, same_least, cost_most, cost_leads}

-- The smallest number that is asked about.
zero_small : 0 < never
zero_small = omega arith

-- ---- Over positions

-- The first i of n positions were looked at.
pub record InOver (s cs : List ℕ) (k t : ℕ) (clock : Bool) (z n from best : ℕ) (first₀ second₀ first second : List ℕ) (v i : ℕ) : Type 0 where
  pub upto : i ≤ n
  pub done : OverDone s cs k t clock z i from best v first second
  pub first_kept : length first ≡ length first₀
  pub second_kept : length second ≡ length second₀

module _ {s cs : List ℕ} {k t z n from : ℕ} {first₀ second₀ : List ℕ} (a : OverAsked s cs k t z n from first₀ second₀) {best : ℕ} where
  module _ {clock : Bool} {first second : List ℕ} {v i : ℕ} (h : InOver s cs k t clock z n from best first₀ second₀ first second v i) where
    -- Later positions than the least so far end no sooner.
    pub over_cut : v ≤ from + i → OverDone s cs k t clock z n from best v first second
    over_cut l = record {
      ground = h.done.ground;
      most = h.done.most;
      least = λ w q. (λ m. ⊎_elim inl (λ b. inr (record { index = b.index; below = omega (arith, b.below, h.upto); holds = b.holds })) ((h.done.least w q).0 m), from' w q);
    }
      where
        from' : (w : ℕ) → w < never → (best ≤ w) ⊎ Below n (λ (j : ℕ). EndsBy s (drop (k + 1) cs) w (from + j) (just_reset clock t (z + j))) → v ≤ w
        from' w q (inl m) = (h.done.least w q).1 (inl m)
        from' w q (inr b) = elim (le_or_lt i b.index) [ inl g ↦ omega (arith, b.holds) | inr g ↦ (h.done.least w q).1 (inr (record { index = b.index; below = g; holds = b.holds })) ]

    pub over_next : {first' second' : List ℕ} {c u v' : ℕ} → i < n → Costed s cs first' second' (cost_at s (drop (k + 1) cs) (just_reset clock t (z + i))) c → u ≡ from + i → v' ≡ min v (c + u) → length first' ≡ length first → length second' ≡ length second
        → InOver s cs k t clock z n from best first₀ second₀ first' second' v' (i + 1)
    over_next {first'} {second'} {c} {u} {v'} l d e m f g = record {
      upto = omega arith;
      done = record { ground = d.ground; most = omega (arith, h.done.most); least = λ w q. (to w q, from' w q) };
      first_kept = f ∙ h.first_kept;
      second_kept = g ∙ h.second_kept;
    }
      where
        Ends : ℕ → ℕ → Type 0
        Ends w j = EndsBy s (drop (k + 1) cs) w (from + j) (just_reset clock t (z + j))

        to : (w : ℕ) → w < never → v' ≤ w → (best ≤ w) ⊎ Below (i + 1) (Ends w)
        to w q b = elim (le_or_lt v w) [
          | inl r ↦ ⊎_elim inl (λ o. inr (record { index = o.index; below = omega (arith, o.below); holds = o.holds })) ((h.done.least w q).0 r)
          | inr r ↦ inr (record { index = i; below = omega arith; holds = omega (arith, d.value_is) })
        ]

        from' : (w : ℕ) → w < never → (best ≤ w) ⊎ Below (i + 1) (Ends w) → v' ≤ w
        from' w q (inl b) = omega (arith, (h.done.least w q).1 (inl b))
        from' w q (inr b) = go (eqb b.index i) refl
          where
            go : (o : Bool) → eqb b.index i ≡ o → v' ≤ w
            go true o = let r : Ends w i = subst (Ends w) (eqb-true b.index i o) b.holds in omega (arith, d.value_is)
            go false o = omega (arith, (h.done.least w q).1 (inr (record { index = b.index; below = omega (arith, b.below, eqb-false b.index i o); holds = b.holds })))

-- ---- Over a location's transitions

-- The transitions before p were looked at.
pub record InLeave (s cs : List ℕ) (k l e x y : ℕ) (next₀ : List ℕ) (places₀ best₀ : ℕ) (first₀ second₀ : List ℕ) (end : ℕ) (next first second : List ℕ) (p places best : ℕ) : Type 0 where
  pub ground : Ground s cs first second
  pub chain : Chain s x y next places best
  pub at_last : k + 1 ≡ length cs → places ≡ places₀
  pub left : (w : ℕ) → w < never → Left s (Covers s (drop (k + 1) cs) x y next₀ places₀ best₀ w ⊎ Rules s cs k x y l e w) (Covers s (drop (k + 1) cs) x y next places best w) (Rule s cs k x y e w) p end
  pub next_kept : length next ≡ length next₀
  pub first_kept : length first ≡ length first₀
  pub second_kept : length second ≡ length second₀

module _ {s cs : List ℕ} {k x y : ℕ} {first₀ second₀ : List ℕ} (a : Searching s cs k x y first₀ second₀) {next₀ : List ℕ} {places₀ best₀ : ℕ} where
  -- Where they lie, as the code reads it: u for the location, v for the offset and n for the size.
  pub leave_begun : {l e u v n : ℕ} → Chain s x y next₀ places₀ best₀ → l < locations s → u ≡ l → v ≡ word s (6 + 4 * u) → n ≡ word s (6 + 4 * u + 2) → InLeave s cs k l e x y next₀ places₀ best₀ first₀ second₀ (v + n) next₀ first₀ second₀ v places₀ best₀
  leave_begun {l} {e} {u} {v} {n} ch i d f g = record {
    ground = a.ground;
    chain = ch;
    at_last = λ q. refl;
    left = λ w q. left_whole s (Covers s (drop (k + 1) cs) x y next₀ places₀ best₀ w ⊎ Rules s cs k x y l e w) (Covers s (drop (k + 1) cs) x y next₀ places₀ best₀ w) (Rule s cs k x y e w) l u v n a.ground.loads i d f g (λ m. m, λ m. m);
    next_kept = refl;
    first_kept = refl;
    second_kept = refl;
  }

  module _ {l e end : ℕ} {next first second : List ℕ} {p places best : ℕ} (h : InLeave s cs k l e x y next₀ places₀ best₀ first₀ second₀ end next first second p places best) where
    pub leave_searching : Searching s cs k x y first second
    leave_searching = record { ground = h.ground; more = a.more; first_fits = a.first_fits; second_fits = a.second_fits }

    pub leave_inside : p < end → p + 7 ≤ length s
    leave_inside q = left_inside (h.left 0 zero_small) q

    pub leave_fits : p < end → Fits s (transition_at s p)
    leave_fits q = left_fits (h.left 0 zero_small) q

    pub leave_next : {next' first' second' : List ℕ} {places' best' : ℕ} → p < end → Gained s cs k x y (λ w. Rule s cs k x y e w (transition_at s p)) next places best next' places' best' first' second' → length next' ≡ length next → length first' ≡ length first → length second' ≡ length second
        → InLeave s cs k l e x y next₀ places₀ best₀ first₀ second₀ end next' first' second' (p + 7) places' best'
    leave_next q d i j m = record {
      ground = d.ground;
      chain = d.chain;
      at_last = λ o. d.at_last o ∙ h.at_last o;
      left = λ w o. left_next (h.left w o) q (d.gains w o);
      next_kept = i ∙ h.next_kept;
      first_kept = j ∙ h.first_kept;
      second_kept = m ∙ h.second_kept;
    }

    pub leave_done : end ≤ p → Gained s cs k x y (Rules s cs k x y l e) next₀ places₀ best₀ next places best first second
    leave_done q = record { ground = h.ground; chain = h.chain; at_last = h.at_last; gains = λ w o. let n = left_none (h.left w o) q in (λ m. n.1 m, λ m. n.0 m) }

-- ---- Over the locations of a chain

-- The locations that are left were not looked at.
pub record InPlay (s cs : List ℕ) (k x y : ℕ) (here : List ℕ) (places₀ best₀ : ℕ) (next₀ first₀ second₀ next first second : List ℕ) (places best left : ℕ) : Type 0 where
  pub ground : Ground s cs first second
  pub chain : Chain s x y next places best
  pub at_last : k + 1 ≡ length cs → places ≡ 0
  pub small : left < 2 ^ 16
  pub inside : (l : ℕ) → bit left l ≡ true → bit places₀ l ≡ true
  pub same : (w : ℕ) → w < never → Covers s (drop k cs) x y here places₀ best₀ w ↔ (Covers s (drop (k + 1) cs) x y next places best w ⊎ Member left (λ (l : ℕ). Rules s cs k x y l (get_or here l 0) w))
  pub next_kept : length next ≡ length next₀
  pub first_kept : length first ≡ length first₀
  pub second_kept : length second ≡ length second₀

-- A set of the automaton's locations is a number of 16 bits.
few_places_lem : {s : List ℕ} {x y : ℕ} {here : List ℕ} {places best : ℕ} → WellFormed s → Chain s x y here places best → places < 2 ^ 16
few_places_lem {s} {x} {y} {here} {places} loads ch = elim (le_or_lt (2 ^ 16) places) [
  | inl h ↦ (let b = bit_beyond 16 places h in absurd (omega (arith, b.1, ch.in_sheet b.0 (T_true b.2), (header s loads).locations_fit)))
  | inr h ↦ h
]

none_member : {G : ℕ → Type 0} → Member 0 G → ⊥
none_member m = false≢true (sym (bit_none m.location) ∙ m.present)

module _ {s cs : List ℕ} {k x y : ℕ} {first₀ second₀ : List ℕ} (a : Searching s cs k x y first₀ second₀) {here : List ℕ} {places₀ best₀ : ℕ} (ch : Chain s x y here places₀ best₀) {next₀ : List ℕ} where
  pub play_begun : length next₀ ≡ max_count → InPlay s cs k x y here places₀ best₀ next₀ first₀ second₀ next₀ first₀ second₀ 0 best₀ places₀
  play_begun n = record {
    ground = a.ground;
    chain = record { each = n; in_sheet = λ l h. absurd (false≢true (sym (bit_none l) ∙ h)); on_diagonal = λ l h. absurd (false≢true (sym (bit_none l) ∙ h)); best_most = ch.best_most };
    at_last = λ h. refl;
    small = few_places_lem a.ground.loads ch;
    inside = λ l h. h;
    same = λ w h. (
      ⊎_elim (λ b. inl (inl b)) (λ m. inr (record { location = m.location; present = m.present; holds = (ways w h m.location m.present).0 m.holds })),
      ⊎_elim (⊎_elim inl (λ m. absurd (none_member m))) (λ m. inr (record { location = m.location; present = m.present; holds = (ways w h m.location m.present).1 m.holds })),
    );
    next_kept = refl;
    first_kept = refl;
    second_kept = refl;
  }
    where
      ways : (w : ℕ) → w < never → (l : ℕ) → bit places₀ l ≡ true → EndsBy s (drop k cs) w (get_or here l 0) (along x y l (get_or here l 0)) ↔ Rules s cs k x y l (get_or here l 0) w
      ways w h l p =
          subst⁻¹ (λ (ds : List ℕ). EndsBy s ds w (get_or here l 0) (along x y l (get_or here l 0)) ↔ Rules s cs k x y l (get_or here l 0) w) (left_some cs k a.more)
          (cost_leads s x y l a.first_fits a.second_fits w h a.ground.loads (get_or cs k 0) (drop (k + 1) cs) (get_or here l 0) (ch.on_diagonal l p))

  module _ {next first second : List ℕ} {places best left : ℕ} (h : InPlay s cs k x y here places₀ best₀ next₀ first₀ second₀ next first second places best left) where
    pub play_searching : Searching s cs k x y first second
    play_searching = record { ground = h.ground; more = a.more; first_fits = a.first_fits; second_fits = a.second_fits }

    -- The lowest location that is left.
    lowest : 0 < left → bit left (count_trailing_zeros 16 left) ≡ true
    lowest q = (lowest_is 16 left h.small q).0

    pub lowest_in : 0 < left → count_trailing_zeros 16 left < locations s
    lowest_in q = ch.in_sheet (count_trailing_zeros 16 left) (h.inside (count_trailing_zeros 16 left) (lowest q))

    pub lowest_small : 0 < left → count_trailing_zeros 16 left < max_count
    lowest_small q = omega (arith, lowest_in q, (header s a.ground.loads).locations_fit)

    pub play_next : {l e places' best' : ℕ} {next' first' second' : List ℕ} → 0 < left → l ≡ count_trailing_zeros 16 left → e ≡ get_or here l 0 → Gained s cs k x y (Rules s cs k x y l e) next places best next' places' best' first' second'
        → length next' ≡ length next → length first' ≡ length first → length second' ≡ length second → InPlay s cs k x y here places₀ best₀ next₀ first₀ second₀ next' first' second' places' best' (bit_and left (left - 1))
    play_next {l} {e} {places'} {best'} {next'} {first'} {second'} q l-is e-is d i j m = record {
      ground = d.ground;
      chain = d.chain;
      at_last = λ o. d.at_last o ∙ h.at_last o;
      small = omega (arith, h.small, and_le_r left (left - 1));
      inside = λ u o. h.inside u ((dropped u).0 o).0;
      same = λ w o. (λ c. to w o ((h.same w o).0 c), λ c. (h.same w o).1 (from w o c));
      next_kept = i ∙ h.next_kept;
      first_kept = j ∙ h.first_kept;
      second_kept = m ∙ h.second_kept;
    }
      where
        present : bit left l ≡ true
        present = subst⁻¹ (λ (u : ℕ). bit left u ≡ true) l-is (lowest q)

        dropped : (u : ℕ) → (bit (bit_and left (left - 1)) u ≡ true) ↔ ((bit left u ≡ true) × (u ≡ l → ⊥))
        dropped = subst⁻¹ (λ (v : ℕ). (u : ℕ) → (bit (bit_and left (left - 1)) u ≡ true) ↔ ((bit left u ≡ true) × (u ≡ v → ⊥))) l-is (dropped_is 16 left h.small q)

        Q : ℕ → ℕ → Type 0
        Q w u = Rules s cs k x y u (get_or here u 0) w

        here_is : (w : ℕ) → Rules s cs k x y l e w ↔ Q w l
        here_is w = (subst (λ (u : ℕ). Rules s cs k x y l u w) e-is, subst⁻¹ (λ (u : ℕ). Rules s cs k x y l u w) e-is)

        to : (w : ℕ) → w < never → Covers s (drop (k + 1) cs) x y next places best w ⊎ Member left (Q w) → Covers s (drop (k + 1) cs) x y next' places' best' w ⊎ Member (bit_and left (left - 1)) (Q w)
        to w o (inl c) = inl ((d.gains w o).1 (inl c))
        to w o (inr c) = go (eqb c.location l) refl
          where
            go : (b : Bool) → eqb c.location l ≡ b → Covers s (drop (k + 1) cs) x y next' places' best' w ⊎ Member (bit_and left (left - 1)) (Q w)
            go true b = inl ((d.gains w o).1 (inr ((here_is w).1 (subst (Q w) (eqb-true c.location l b) c.holds))))
            go false b = inr (record { location = c.location; present = (dropped c.location).1 (c.present, eqb-false c.location l b); holds = c.holds })

        from : (w : ℕ) → w < never → Covers s (drop (k + 1) cs) x y next' places' best' w ⊎ Member (bit_and left (left - 1)) (Q w) → Covers s (drop (k + 1) cs) x y next places best w ⊎ Member left (Q w)
        from w o (inl c) = ⊎_elim inl (λ r. inr (record { location = l; present = present; holds = (here_is w).0 r })) ((d.gains w o).0 c)
        from w o (inr c) = inr (record { location = c.location; present = ((dropped c.location).0 c.present).0; holds = c.holds })

    pub play_done : (0 < left → ⊥) → Played s cs k x y here places₀ best₀ next places best first second
    play_done q =
        let none : left ≡ 0 = omega arith in
        record {
          ground = h.ground;
          chain = h.chain;
          at_last = h.at_last;
          same = λ w o. (
            λ c. ⊎_elim (λ d. d) (λ m. absurd (none_member (subst (λ (n : ℕ). Member n (λ (l : ℕ). Rules s cs k x y l (get_or here l 0) w)) none m))) ((h.same w o).0 c),
            λ c. (h.same w o).1 (inl c),
          );
        }

-- ---- Along a chain

-- The actions before i were played.
pub record InChain (s cs : List ℕ) (k l x y : ℕ) (first₀ second₀ first second here : List ℕ) (places best i : ℕ) : Type 0 where
  pub from : k ≤ i
  pub upto : i ≤ length cs
  pub more : (places ≡ 0 → ⊥) → i < length cs
  pub ground : Ground s cs first second
  pub chain : Chain s x y here places best
  pub same : (w : ℕ) → w < never → (cost_at s (drop k cs) (configuration l x y) ≤ w) ↔ Covers s (drop i cs) x y here places best w
  pub first_kept : length first ≡ length first₀
  pub second_kept : length second ≡ length second₀

module _ {s cs : List ℕ} {k x y : ℕ} {first₀ second₀ : List ℕ} (a : Searching s cs k x y first₀ second₀) where
  -- The location alone, at the beginning of the diagonal.
  pub chain_begun : {l u places : ℕ} → l < locations s → u ≡ l → Added 0 u places → InChain s cs k l x y first₀ second₀ first₀ second₀ (replicate max_count 0) places never k
  chain_begun {l} {u} {places} i e d = record {
    from = omega arith;
    upto = omega (arith, a.more);
    more = λ q. a.more;
    ground = a.ground;
    chain = record { each = length-replicate {A = ℕ} max_count 0; in_sheet = λ j h. omega (arith, is j h); on_diagonal = λ j h. omega (arith, zero_at max_count j); best_most = omega arith };
    same = λ w h. (λ c. inr (record { location = l; present = d.bits l ∙ ap (λ (b : Bool). b || bit 0 l) (eq-eqb l u (sym e)); holds = subst⁻¹ (λ (v : ℕ). EndsBy s (drop k cs) w v (along x y l v)) (zero_at max_count l) (at_start w c) }), ⊎_elim (λ c. absurd (omega arith)) (λ m. back w m.location (is m.location m.present) m.holds));
    first_kept = refl;
    second_kept = refl;
  }
    where
      is : (j : ℕ) → bit places j ≡ true → j ≡ l
      is j h = ⊎_elim (λ q. eqb-true j u q ∙ e) (λ q. absurd (false≢true (sym (bit_none j) ∙ q))) (or_cases (eqb j u) (bit 0 j) (sym (d.bits j) ∙ h))

      beginning : along x y l 0 ≡ configuration l x y
      beginning = advance_none (configuration l x y) (a.first_fits, a.second_fits)

      at_start : (w : ℕ) → cost_at s (drop k cs) (configuration l x y) ≤ w → EndsBy s (drop k cs) w 0 (along x y l 0)
      at_start w c = subst⁻¹ (EndsBy s (drop k cs) w 0) beginning (omega arith)

      back : (w j : ℕ) → j ≡ l → EndsBy s (drop k cs) w (get_or (replicate max_count 0) j 0) (along x y j (get_or (replicate max_count 0) j 0)) → cost_at s (drop k cs) (configuration l x y) ≤ w
      back w j q c =
          let r : EndsBy s (drop k cs) w 0 (along x y l 0) = subst (λ (i : ℕ). EndsBy s (drop k cs) w 0 (along x y i 0)) q (subst (λ (v : ℕ). EndsBy s (drop k cs) w v (along x y j v)) (zero_at max_count j) c) in
          let m : EndsBy s (drop k cs) w 0 (configuration l x y) = subst (EndsBy s (drop k cs) w 0) beginning r in
          omega arith

  module _ {l : ℕ} {first second here : List ℕ} {places best i : ℕ} (h : InChain s cs k l x y first₀ second₀ first second here places best i) where
    pub chain_next : {next first' second' : List ℕ} {places' best' : ℕ} → (places ≡ 0 → ⊥) → Played s cs i x y here places best next places' best' first' second' → length first' ≡ length first → length second' ≡ length second
        → InChain s cs k l x y first₀ second₀ first' second' next places' best' (i + 1)
    chain_next q d m n =
        let less = h.more q in
        record {
          from = omega (arith, h.from);
          upto = omega arith;
          more = λ o. elim (le_or_lt (length cs) (i + 1)) [ inl r ↦ absurd (o (d.at_last (omega arith))) | inr r ↦ r ];
          ground = d.ground;
          chain = d.chain;
          same = λ w o. (λ c. (d.same w o).0 ((h.same w o).0 c), λ c. (h.same w o).1 ((d.same w o).1 c));
          first_kept = m ∙ h.first_kept;
          second_kept = n ∙ h.second_kept;
        }

    -- No location is reached any more.
    pub chain_done : places ≡ 0 → Costed s cs first second (cost_at s (drop k cs) (configuration l x y)) best
    chain_done q = record {
      value_is = sym (same_least (cost_at s (drop k cs) (configuration l x y)) best (cost_most s cs k (configuration l x y) h.ground.few) h.chain.best_most λ w o. (
        λ c. ⊎_elim (λ b. b) (λ m. absurd (none_member (subst (λ (n : ℕ). Member n (λ (l : ℕ). EndsBy s (drop i cs) w (get_or here l 0) (along x y l (get_or here l 0)))) q m))) ((h.same w o).0 c),
        λ b. (h.same w o).1 (inl b),
      ));
      ground = h.ground;
    }
