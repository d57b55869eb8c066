-- The memos of costs: where an entry stands, what it says, and what writing one keeps.
-- Assumes nothing.
use mathlib.Core.Path.{◌≡◌, refl, ap, sym, ◌∙◌, subst⁻¹}
use mathlib.Core.Bool.{Bool, true, false, cond}
use mathlib.Core.List.{List}
use Prim.Native.Nat.{ℕ, ◌+◌, ◌-◌, ◌≤◌, ◌<◌}
use native.Mathlib.Omega.{arith}
use lib.Dec.{eqb}
use lib.ListN.{length, get_or, set, drop, replicate, length-set, length-replicate}
use lib.Seq.{drop-length, get_or-set_same, get_or-set_other}
use borrow.Author.Tests.{eqb-true, eqb-false}
use Rattle.enforcement.specs.Limits.{max_count}
use Rattle.enforcement.specs.Automaton.{Bytes, accepting}
use Rattle.enforcement.specs.Model.{top}
use Rattle.enforcement.proofs.Loading.{header}
use Rattle.retimer.specs.Readings.{located, Standing}
use Rattle.retimer.specs.Costs.{never, cost_at, just_reset, place_of, next_at, location_at, reading_at, places_for, Known, Ground, Costed, AfterAsked}
use Rattle.retimer.proofs.Arrays.{zero_at}
use Rattle.retimer.proofs.CostLaws.{end_cost}

-- A memo of zeros knows nothing.
pub known_none : (s : Bytes) (cs : List ℕ) (clock : Bool) (n : ℕ) → places_for (length cs) ≤ n → Known s cs clock (replicate n 0)
known_none s cs clock n h = record { right = λ i g. absurd (none i g); places = rw length-replicate h }
  where
    none : (i : ℕ) → 0 < get_or (replicate n 0) i 0 → ⊥
    none i g = omega (arith, zero_at n i)

module _ {s cs : List ℕ} {k l z : ℕ} {first second : List ℕ} (a : AfterAsked s cs k l z first second) where
  in_count : l < max_count
  in_count = omega (arith, a.in_sheet, (header s a.ground.loads).locations_fit)

  pub place_asked : (1 ≤ k) × ((k ≤ max_count) × ((l < max_count) × (z ≤ top)))
  place_asked = (a.some_played, (omega (arith, a.more, a.ground.few), (in_count, a.reading_fits)))

  pub place_inside : {i : ℕ} {clock : Bool} {memo : List ℕ} → Known s cs clock memo → i ≡ place_of k l z → i < length memo
  place_inside n g = let in-l = in_count in omega (arith, n.places, a.more, a.some_played, a.reading_fits)

  -- What stands at the place is the cost of the configuration that it is for.
  placed : (clock : Bool) (i : ℕ) → i ≡ place_of k l z → cost_at s (drop (next_at i) cs) (just_reset clock (location_at i) (reading_at i)) ≡ cost_at s (drop k cs) (just_reset clock l z)
  placed clock i g =
      let in-l = in_count in
      let fits = a.reading_fits in
      let some = a.some_played in
      let e : next_at i ≡ k = omega arith in
      let f : location_at i ≡ l = omega arith in
      let h : reading_at i ≡ z = omega arith in
      rw (e, f, h)

  known_set : (clock : Bool) (i v : ℕ) (memo : List ℕ) → Known s cs clock memo → i ≡ place_of k l z → v ≡ cost_at s (drop k cs) (just_reset clock l z) → Known s cs clock (set memo i (v + 1))
  known_set clock i v memo n g h = record { right = λ j. go j (eqb j i) refl; places = omega (arith, n.places, length-set memo i (v + 1)) }
    where
      go : (j : ℕ) (b : Bool) → eqb j i ≡ b → 0 < get_or (set memo i (v + 1)) j 0 → get_or (set memo i (v + 1)) j 0 ≡ cost_at s (drop (next_at j) cs) (just_reset clock (location_at j) (reading_at j)) + 1
      go j true e q = rw (eqb-true j i e, get_or-set_same memo i (v + 1) 0 (place_inside n g)) (ap (λ (n : ℕ). n + 1) (h ∙ sym (placed clock i g)))
      go j false e q = let f = get_or-set_other memo i j (v + 1) 0 (eqb-false j i e) in rw f (n.right j (rw f at q))

  -- An entry that is known is the cost.
  pub known_cost : {clock b : Bool} {i : ℕ} {memo : List ℕ} → clock ≡ b → Known s cs b memo → i ≡ place_of k l z → 0 < get_or memo i 0 → Costed s cs first second (cost_at s (drop k cs) (just_reset clock l z)) (get_or memo i 0 - 1)
  known_cost {clock} {b} {i} {memo} e n g o = subst⁻¹ (λ (t : Bool). Costed s cs first second (cost_at s (drop k cs) (just_reset t l z)) (get_or memo i 0 - 1)) e (record { value_is = omega (arith, n.right i o, placed b i g); ground = a.ground })

  -- What was worked out is the cost, and is noted.
  pub noted_first : {clock : Bool} {i v : ℕ} {first' second' : List ℕ} → clock ≡ false → i ≡ place_of k l z → Costed s cs first' second' (cost_at s (drop k cs) (just_reset clock l z)) v
      → Costed s cs (set first' i (v + 1)) second' (cost_at s (drop k cs) (just_reset clock l z)) v
  noted_first {clock} {i} {v} {first'} {second'} e g w =
      let d = w.ground in
      let is = rw e at w.value_is in
      record { value_is = w.value_is; ground = record { loads = d.loads; few = d.few; after_first = known_set false i v first' d.after_first g is; after_second = d.after_second } }

  pub noted_second : {clock : Bool} {i v : ℕ} {first' second' : List ℕ} → clock ≡ true → i ≡ place_of k l z → Costed s cs first' second' (cost_at s (drop k cs) (just_reset clock l z)) v
      → Costed s cs first' (set second' i (v + 1)) (cost_at s (drop k cs) (just_reset clock l z)) v
  noted_second {clock} {i} {v} {first'} {second'} e g w =
      let d = w.ground in
      let is = rw e at w.value_is in
      record { value_is = w.value_is; ground = record { loads = d.loads; few = d.few; after_first = d.after_first; after_second = known_set true i v second' d.after_second g is } }

-- ---- From a configuration as the code has it

module _ {s cs : List ℕ} {k l : ℕ} {r first second : List ℕ} (d : Ground s cs first second) (played : k ≤ length cs) (stands : Standing s l r) where
  -- All is played.
  pub cost_ended : {v : ℕ} → k ≡ length cs → v ≡ cond (accepting s l) 0 never → Costed s cs first second (cost_at s (drop k cs) (located l r)) v
  cost_ended {v} e h = record { value_is = h ∙ sym (ap (λ (ds : List ℕ). cost_at s ds (located l r)) (ap (λ (j : ℕ). drop j cs) e ∙ drop-length cs) ∙ end_cost s (located l r)); ground = d }
