-- The costs of all locations of a set, and their notes for all actions.
-- Assumes nothing.
use mathlib.Core.Path.{◌≡◌, sym, ◌∙◌, subst, subst⁻¹}
use mathlib.Core.Bool.{Bool, true, false, cond}
use mathlib.Core.List.{List, [], ◌∷◌}
use mathlib.Core.Logic.{◌⊎◌, inl, inr}
use Prim.Native.Nat.{ℕ, zero, suc, ◌+◌, ◌-◌, ◌*◌, ◌≤◌, ◌<◌}
use native.Mathlib.Omega.{arith}
use lib.ListN.{length, get_or, drop, replicate, length-replicate}
use Rattle.enforcement.specs.Automaton.{Bytes, accepting, locations}
use Rattle.enforcement.specs.Model.{width}
use Rattle.retimer.specs.Costs.{never, configuration, place_of}
use Rattle.retimer.specs.Row.{In}
use Rattle.retimer.specs.Locations.{InSheet}
use Rattle.retimer.specs.Targets.{EntersFrom, EntersFromAny, EntersAfter, Gathered}
use Rattle.retimer.specs.Layers.{half, Chosen, ChosenFrom, Small, Laid, Laying, Ready, Cleared, LocationLaid, AllLaid, Noted, Full, NotedFrom, Lasts, Noting, LayersOf, Filled}
use Rattle.retimer.proofs.Arrays.{zero_at}
use Rattle.retimer.proofs.CostLaws.{le_or_lt, end_cost}
use Rattle.retimer.proofs.Prospects.{left_some}
use Rattle.retimer.proofs.LayingLocations.{layer_of}

-- The part of a table that has costs: its locations from h on, those before l.
pub record Part (s cs : List ℕ) (h l : ℕ) (table : List ℕ) : Type 0 where
  pub size : length table ≡ half * (width * width)
  pub small : Small table
  pub laid : (m : ℕ) → m < half → h + m < l → h + m < locations s → Laid s cs (h + m) m table

-- ---- Both tables

-- With the entries before the action k of all locations of a set, and those after it of all that it enters from there.
full_by : (s cs : List ℕ) (k places : ℕ) (first₀ second₀ first second : List ℕ) → k < length cs → Lasts first₀ first → Lasts second₀ second → ((l : ℕ) → In l places → Noted k l first second) → Full s cs (k + 1) (EntersFromAny s (get_or cs k 0) places) first₀ second₀
    → Full s cs k (λ (l : ℕ). In l places) first second
full_by s cs k places first₀ second₀ first second more one two noted full n i l soon has way = go n soon (subst (λ (ds : List ℕ). EntersAfter s ds n i l) (left_some cs k more) way)
  where
    go : (n : ℕ) → k + n < length cs → EntersAfter s (get_or cs k 0 ∷ drop (k + 1) cs) n i l → Noted (k + n) l first second
    go zero soon way = let e : k + zero ≡ k = omega arith in subst⁻¹ (λ (j : ℕ). Noted j l first second) e (noted l (subst (λ (i : ℕ). In i places) way has))
    go (suc n) soon way =
        let e : k + suc n ≡ k + 1 + n = omega arith in
        let old = full n way.0 l (omega arith) (i, has, way.1) way.2 in
        subst⁻¹ (λ (j : ℕ). Noted j l first second) e (λ z u. (one (place_of (k + 1 + n) l z) (old z u).0, two (place_of (k + 1 + n) l z) (old z u).1))

module _ {s cs : List ℕ} {k places : ℕ} {low high first₀ second₀ first second : List ℕ} (more : k < length cs) (inside : InSheet s places) (a : Ready 0 low) (b : Ready 0 high) (full : Full s cs (k + 1) (EntersFromAny s (get_or cs k 0) places) first₀ second₀) where
  -- All are in the low one.
  pub low_only : {n : ℕ} → n ≡ locations s → n ≤ half → AllLaid s (drop k cs) 0 (Chosen 0 n places) low → Noting s cs k (ChosenFrom 0 n places) first₀ second₀ first second → LayersOf s cs k places low high first second
  low_only {n} e h g d = record {
    low_layer = record { size = a.size; laid = λ m i o. g m (record { in_range = omega (arith, inside (0 + m) o); has = o }) };
    high_layer = record { size = b.size; laid = λ m i o. absurd (omega (arith, inside (half + m) o)) };
    low_small = a.small;
    high_small = b.small;
    ground = d.ground;
    full = full_by s cs k places first₀ second₀ first second more d.first_lasts d.second_lasts noted full;
  }
    where
      noted : (l : ℕ) → In l places → Noted k l first second
      noted l o = let r : 0 + l ≡ l = omega arith in d.noted l (l, record { in_range = omega (arith, inside l o); has = subst⁻¹ (λ (i : ℕ). In i places) r o }, r)

  -- Some are in the high one.
  pub low_and_high : {n : ℕ} {first' second' : List ℕ} → n ≡ locations s → half < n → AllLaid s (drop k cs) 0 (Chosen 0 half places) low → AllLaid s (drop k cs) half (Chosen half (n - half) places) high
      → Noting s cs k (ChosenFrom 0 half places) first₀ second₀ first' second' → Noting s cs k (ChosenFrom half (n - half) places) first' second' first second → LayersOf s cs k places low high first second
  low_and_high {n} {first'} {second'} e h g i d f = record {
    low_layer = record { size = a.size; laid = λ m j o. g m (record { in_range = j; has = o }) };
    high_layer = record { size = b.size; laid = λ m j o. i m (record { in_range = omega (arith, inside (half + m) o); has = o }) };
    low_small = a.small;
    high_small = b.small;
    ground = f.ground;
    full = full_by s cs k places first₀ second₀ first second more (λ j o. f.first_lasts j (d.first_lasts j o)) (λ j o. f.second_lasts j (d.second_lasts j o)) (λ l o. side l o (le_or_lt half l)) full;
  }
    where
      side : (l : ℕ) → In l places → (half ≤ l) ⊎ (l < half) → Noted k l first second
      side l o (inl q) = let r : half + (l - half) ≡ l = omega arith in f.noted l (l - half, record { in_range = omega (arith, inside l o); has = subst⁻¹ (λ (i : ℕ). In i places) r o }, r)
      side l o (inr q) = λ z u.
          let r : 0 + l ≡ l = omega arith in
          let v = d.noted l (l, record { in_range = q; has = subst⁻¹ (λ (i : ℕ). In i places) r o }, r) z u in
          (f.first_lasts (place_of k l z) v.0, f.second_lasts (place_of k l z) v.1)

-- ---- Where all is played

pub ended_small : (b : Bool) {c : ℕ} → c ≡ cond b 0 never → c ≤ never
ended_small true e = omega arith
ended_small false e = omega arith

pub ended_gained : (s : Bytes) (l : ℕ) {m c : ℕ} {table table' : List ℕ} → c ≡ cond (accepting s l) 0 never → Cleared m c table table' → LocationLaid s [] l m table table'
ended_gained s l e d = record { others = d.others; small = d.small; laid = λ x y h k. d.clear x y h k ∙ e ∙ sym (end_cost s (configuration l x y)) }

-- The locations before l are done.
pub record InEnds (s low high : List ℕ) (l : ℕ) : Type 0 where
  pub not_past : l ≤ locations s
  pub low_part : Part s [] 0 l low
  pub high_part : Part s [] half l high

-- ---- One action less

module _ (k places : ℕ) {s cs : List ℕ} {next : ℕ} {low high first second : List ℕ} (w : LayersOf s cs (k + 1) next low high first second) (gathered : Gathered s (EntersFromAny s (get_or cs k 0) places) next) where
  pub laying_next : k < length cs → Laying s cs k (EntersFromAny s (get_or cs k 0) places) low high
  laying_next h = record {
    loads = w.ground.loads;
    more = h;
    few = w.ground.few;
    low_layer = layer_of w.low_layer (λ n. (gathered.right n).1);
    high_layer = layer_of w.high_layer (λ n. (gathered.right n).1);
  }

  pub full_next : Full s cs (k + 1) (EntersFromAny s (get_or cs k 0) places) first second
  full_next n i l a b c = w.full n i l a ((gathered.right i).1 b) c

-- A table of zeros.
pub ready_none : (n : ℕ) → n ≡ half * (width * width) → Ready 0 (replicate n 0)
ready_none n e = record { in_half = omega arith; size = length-replicate n 0 ∙ e; small = λ i. omega (arith, zero_at n i) }

-- ---- All actions but the first

pub filled : {s cs : List ℕ} {places : ℕ} {low high first second : List ℕ} → LayersOf s cs 1 places low high first second → Filled s cs places first second
filled w = record { ground = w.ground; full = w.full }

pub noted_from : (s cs : List ℕ) (places i : ℕ) (first second : List ℕ) → Gathered s (EntersFrom s (get_or cs 0 0) i) places → Filled s cs places first second → NotedFrom s cs i first second
noted_from s cs places i first second gathered w zero l some soon way = absurd (omega arith)
noted_from s [] places i first second gathered w (suc k) l some soon way = absurd way
noted_from s (c ∷ cs) places i first second gathered w (suc k) l some soon way =
    let e : 1 + k ≡ suc k = omega arith in
    subst (λ (j : ℕ). Noted j l first second) e (w.full k way.0 l (omega arith) ((gathered.right way.0).1 way.1) way.2)
