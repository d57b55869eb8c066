-- All transitions of a location, and its costs.
-- Assumes nothing.
use mathlib.Core.Path.{◌≡◌, refl, ap, sym, ◌∙◌, subst⁻¹}
use mathlib.Core.Bool.{Bool, true, false, cond}
use mathlib.Core.List.{List, ◌++◌}
use mathlib.Core.Logic.{◌⊎◌, inl, inr, ⊎_elim, ◌↔◌}
use Prim.Native.Nat.{ℕ, ◌+◌, ◌-◌, ◌*◌, ◌≤◌, ◌<◌}
use native.Mathlib.Omega.{arith}
use lib.Dec.{eqb}
use lib.ListN.{length, get_or, take, drop, set, replicate, length-append, length-drop, length-replicate, length-set, get_or-append}
use lib.Seq.{get_or-set_same, get_or-set_other, get_or-drop, length-take-le}
use borrow.Rule.Slice.PartMut.{put_mid}
use Rattle.std.proofs.lemmas.List.{get_or-take, get_or-replicate, get_or-append_right}
use borrow.Author.Tests.{eqb-true, eqb-false}
use Rattle.enforcement.specs.Limits.{max_count}
use Rattle.enforcement.specs.Automaton.{Transition, bit, enabled, locations, transition_at, word}
use Rattle.enforcement.specs.Loading.{WellFormed, Fits}
use Rattle.enforcement.specs.TimedWord.{fire}
use Rattle.enforcement.specs.Model.{top, width}
use Rattle.enforcement.proofs.Loading.{header}
use Rattle.enforcement.proofs.Tests.{true_false}
use Rattle.retimer.specs.Costs.{never, cost_at, configuration, just_reset, place_of, Ground, Costed, AfterAsked}
use Rattle.retimer.specs.Row.{In}
use Rattle.retimer.specs.Targets.{Enters, EntersFrom}
use Rattle.retimer.specs.Layers.{half, cell_of, cell, Small, Layer, Laid, Stretch, Chosen, AllTicked, Now, NowOne, BoxLowered, Laying, Ready, Cleared, Took, AtOnce, LocationWritten, AllWritten, AllLaid, Lasts}
use Rattle.retimer.proofs.Left.{Left, left_whole, left_found, left_begun, left_inside, left_fits, left_next, left_none}
use Rattle.retimer.proofs.Prospects.{left_some}
use Rattle.retimer.proofs.CostLaws.{le_or_lt}
use Rattle.retimer.proofs.Memos.{place_inside, noted_first, noted_second}
use Rattle.retimer.proofs.Laying.{laid}
use Rattle.retimer.proofs.LayingRows.{chosen_last, chosen_before}

-- ---- One transition

kept_fits : (b : Bool) (z : ℕ) → z ≤ top → cond b 0 z ≤ top
kept_fits true z h = omega arith
kept_fits false z h = h

-- One for the action, with the costs of its target.
pub took_box : {s after : List ℕ} {c : ℕ} {v : Transition} {m t h : ℕ} {other table table' : List ℕ} → Small table → v.action ≡ c → Layer s after (λ (n : ℕ). Enters c n v) h other → h + t ≡ v.target → t < half → BoxLowered v other t m table table'
    → Took (λ x y w. Now s c after w x y v) m table table'
took_box {s} {after} {c} {v} {m} {t} {h} {other} {table} {table'} small for-action layer target in_half box = record {
  others = box.others;
  small = λ i. omega (arith, box.lesser i, small i);
  takes = λ x y k l w n. go x y k l w (enabled v x y) refl;
}
  where
    there : (x y : ℕ) → x ≤ top → y ≤ top → cell other t (cond (bit v.resets 0) 0 x) (cond (bit v.resets 1) 0 y) ≡ cost_at s after (fire v (configuration 0 x y))
    there x y k l =
        layer.laid t in_half (for-action, sym target) (cond (bit v.resets 0) 0 x) (cond (bit v.resets 1) 0 y) (kept_fits (bit v.resets 0) x k) (kept_fits (bit v.resets 1) y l)
        ∙ ap (λ (n : ℕ). cost_at s after (configuration n (cond (bit v.resets 0) 0 x) (cond (bit v.resets 1) 0 y))) target

    go : (x y : ℕ) → x ≤ top → y ≤ top → (w : ℕ) (b : Bool) → enabled v x y ≡ b → (cell table' m x y ≤ w) ↔ ((cell table m x y ≤ w) ⊎ Now s c after w x y v)
    go x y k l w true e =
        let a = box.inside x y k l e in
        let d = there x y k l in (
          λ u. ⊎_elim (λ g. inl (omega arith)) (λ g. inr (for-action, (e, omega arith))) (le_or_lt (cell table m x y) (cell other t (cond (bit v.resets 0) 0 x) (cond (bit v.resets 1) 0 y))),
          ⊎_elim (λ u. omega arith) (λ u. omega (arith, u.1.1)),
        )
    go x y k l w false e =
        let a = box.outside x y k l e in (λ u. inl (omega arith), ⊎_elim (λ u. omega arith) (λ u. absurd (true_false u.1.0 e)))

-- ---- No costs

-- A table of which the k places from a on got the same cost.
abbrev filled : ℕ → ℕ → ℕ → List ℕ → List ℕ
filled a k c table = put_mid a k table (replicate k c)

module _ (a k c : ℕ) (table : List ℕ) (fits : a + k ≤ length table) where
  long : length (take a table) ≡ a
  long = length-take-le a table (omega arith)

  filled_long : length (filled a k c table) ≡ length table
  filled_long = omega (arith, length-append (take a table) (replicate k c ++ drop k (drop a table)), length-append (replicate k c) (drop k (drop a table)), length-replicate k c, length-drop k (drop a table), length-drop a table, long)

  filled_before : (j : ℕ) → j < a → get_or (filled a k c table) j 0 ≡ get_or table j 0
  filled_before j h = get_or-append (take a table) (replicate k c ++ drop k (drop a table)) 0 j (omega (arith, long)) ∙ get_or-take a table j 0 h

  filled_here : (j : ℕ) → a ≤ j → j < a + k → get_or (filled a k c table) j 0 ≡ c
  filled_here j h l =
      get_or-append_right (take a table) (replicate k c ++ drop k (drop a table)) a j 0 long h
      ∙ get_or-append (replicate k c) (drop k (drop a table)) 0 (j - a) (omega (arith, length-replicate k c))
      ∙ get_or-replicate k (j - a) c 0 (omega arith)

  filled_after : (j : ℕ) → a + k ≤ j → get_or (filled a k c table) j 0 ≡ get_or table j 0
  filled_after j h =
      let e : a + (k + (j - a - k)) ≡ j = omega arith in
      get_or-append_right (take a table) (replicate k c ++ drop k (drop a table)) a j 0 long (omega arith)
      ∙ get_or-append_right (replicate k c) (drop k (drop a table)) k (j - a) 0 (length-replicate k c) (omega arith)
      ∙ get_or-drop k (drop a table) (j - a - k) 0 ∙ get_or-drop a table (k + (j - a - k)) 0 ∙ ap (λ (i : ℕ). get_or table i 0) e

pub filled_cleared : {m c a k : ℕ} {table part : List ℕ} → Ready m table → c ≤ never → a ≡ cell_of m 0 0 → k ≡ width * width → part ≡ replicate k c → Cleared m c table (put_mid a k table part)
filled_cleared {m} {c} {a} {k} {table} {part} b small e f g = subst⁻¹ (λ (p : List ℕ). Cleared m c table (put_mid a k table p)) g (record {
  others = record { same_length = filled_long a k c table fits; same = λ n x y d h l. away n x y d h l (le_or_lt n m) };
  small = λ j. little j (le_or_lt a j) (le_or_lt (a + k) j);
  clear = λ x y h l. filled_here a k c table fits (cell_of m x y) (omega arith) (omega arith);
})
  where
    fits : a + k ≤ length table
    fits = omega (arith, b.in_half, b.size)

    away : (n x y : ℕ) → (n ≡ m → ⊥) → x ≤ top → y ≤ top → (n ≤ m) ⊎ (m < n) → get_or (filled a k c table) (cell_of n x y) 0 ≡ cell table n x y
    away n x y d h l (inl o) = let q : n < m = omega arith in filled_before a k c table fits (cell_of n x y) (omega arith)
    away n x y d h l (inr o) = filled_after a k c table fits (cell_of n x y) (omega arith)

    little : (j : ℕ) → (a ≤ j) ⊎ (j < a) → (a + k ≤ j) ⊎ (j < a + k) → get_or (filled a k c table) j 0 ≤ never
    little j (inr h) l = omega (arith, filled_before a k c table fits j h, b.small j)
    little j (inl h) (inl l) = omega (arith, filled_after a k c table fits j l, b.small j)
    little j (inl h) (inr l) = omega (arith, filled_here a k c table fits j h l)

-- ---- All transitions

-- Costs of more locations are costs of fewer.
pub layer_of : {s cs : List ℕ} {C D : ℕ → Type 0} {h : ℕ} {table : List ℕ} → Layer s cs C h table → ((n : ℕ) → D n → C n) → Layer s cs D h table
layer_of a f = record { size = a.size; laid = λ m i o. a.laid m i (f _ o) }

pub laying_of : {s cs : List ℕ} {k : ℕ} {C D : ℕ → Type 0} {low high : List ℕ} → Laying s cs k C low high → ((n : ℕ) → D n → C n) → Laying s cs k D low high
laying_of a f = record { loads = a.loads; more = a.more; few = a.few; low_layer = layer_of a.low_layer f; high_layer = layer_of a.high_layer f }

-- The transitions before p were looked at.
pub record InLay (s cs : List ℕ) (k l m end : ℕ) (table₀ table : List ℕ) (p : ℕ) : Type 0 where
  pub same_length : length table ≡ length table₀
  pub same : (n x y : ℕ) → (n ≡ m → ⊥) → x ≤ top → y ≤ top → cell table n x y ≡ cell table₀ n x y
  pub small : Small table
  pub left : (x y : ℕ) → x ≤ top → y ≤ top → (w : ℕ) → w < never → Left s (NowOne s (get_or cs k 0) (drop (k + 1) cs) l x y w) (cell table m x y ≤ w) (Now s (get_or cs k 0) (drop (k + 1) cs) w x y) p end
  pub targets : (n : ℕ) → Left s (EntersFrom s (get_or cs k 0) l n) (EntersFrom s (get_or cs k 0) l n) (Enters (get_or cs k 0) n) p end

pub ready_cleared : {m : ℕ} {table table' : List ℕ} → Ready m table → Cleared m never table table' → Ready m table'
ready_cleared b d = record { in_half = b.in_half; size = d.others.same_length ∙ b.size; small = d.small }

pub written_cleared : {s : List ℕ} {c : ℕ} {cs : List ℕ} {l m : ℕ} {table table' next : List ℕ} → Cleared m never table table' → LocationWritten s c cs l m table' next → LocationWritten s c cs l m table next
written_cleared d g = record { others = record { same_length = g.others.same_length ∙ d.others.same_length; same = λ n x y f i j. g.others.same n x y f i j ∙ d.others.same n x y f i j }; small = g.small; at_once = g.at_once }

module _ {s cs : List ℕ} {k l : ℕ} {low high : List ℕ} (a : Laying s cs k (EntersFrom s (get_or cs k 0) l) low high) (in_sheet : l < locations s) {m : ℕ} {table₀ : List ℕ} (b : Ready m table₀) where
  pub lay_begun : {table : List ℕ} {v n : ℕ} → Cleared m never table table₀ → v ≡ word s (6 + 4 * l) → n ≡ word s (6 + 4 * l + 2) → InLay s cs k l m (v + n) table₀ table₀ v
  lay_begun {table} {v} {n} d e f = record {
    same_length = refl;
    same = λ i x y g h j. refl;
    small = d.small;
    left = λ x y h i w o.
        left_begun s (NowOne s (get_or cs k 0) (drop (k + 1) cs) l x y w) (cell table₀ m x y ≤ w) (Now s (get_or cs k 0) (drop (k + 1) cs) w x y) l l v n a.loads in_sheet refl e f (λ g. omega (arith, d.clear x y h i)) (λ g. g, λ g. g);
    targets = λ i. left_whole s (EntersFrom s (get_or cs k 0) l i) (EntersFrom s (get_or cs k 0) l i) (Enters (get_or cs k 0) i) l l v n a.loads in_sheet refl e f (inl, ⊎_elim (λ g. g) (λ g. g));
  }

  module _ {end p : ℕ} {table : List ℕ} (h : InLay s cs k l m end table₀ table p) where
    pub lay_inside : p < end → p + 7 ≤ length s
    lay_inside q = left_inside (h.left 0 0 (omega arith) (omega arith) 0 (omega arith)) q

    pub lay_fits : p < end → Fits s (transition_at s p)
    lay_fits q = left_fits (h.left 0 0 (omega arith) (omega arith) 0 (omega arith)) q

    pub lay_rule : p < end → Laying s cs k (λ (n : ℕ). Enters (get_or cs k 0) n (transition_at s p)) low high
    lay_rule q = laying_of a (λ n. left_found (h.targets n) q)

    pub lay_ready : Ready m table
    lay_ready = record { in_half = b.in_half; size = h.same_length ∙ b.size; small = h.small }

    pub lay_next : {next : List ℕ} → p < end → Took (λ x y w. Now s (get_or cs k 0) (drop (k + 1) cs) w x y (transition_at s p)) m table next → InLay s cs k l m end table₀ next (p + 7)
    lay_next q d = record {
      same_length = d.others.same_length ∙ h.same_length;
      same = λ n x y f i j. d.others.same n x y f i j ∙ h.same n x y f i j;
      small = d.small;
      left = λ x y i j w o. left_next (h.left x y i j w o) q (d.takes x y i j w o);
      targets = λ n. left_next (h.targets n) q (inl, ⊎_elim (λ g. g) (left_found (h.targets n) q));
    }

    pub lay_done : end ≤ p → LocationWritten s (get_or cs k 0) (drop (k + 1) cs) l m table₀ table
    lay_done q = record { others = record { same_length = h.same_length; same = h.same }; small = h.small; at_once = λ x y i j w o. let n = left_none (h.left x y i j w o) q in (λ g. n.1 g, λ g. n.0 g) }

-- ---- All locations of a table

pub stretch_most : (s : List ℕ) {h n : ℕ} → WellFormed s → Stretch (locations s) h n → Stretch max_count h n
stretch_most s loads a = record { in_half = a.in_half; in_count = let i = (header s loads).locations_fit in omega (arith, a.in_count) }

module _ {s : List ℕ} {c : ℕ} {cs : List ℕ} {h places m : ℕ} {table table' : List ℕ} (w : AllWritten s c cs h (Chosen h m places) table table') where
  pub writes_passed : (In (h + m) places → ⊥) → AllWritten s c cs h (Chosen h (m + 1) places) table table'
  writes_passed f = record { same_length = w.same_length; small = w.small; at_once = λ n a. w.at_once n (chosen_before f a) }

  pub writes_next : {next : List ℕ} → LocationWritten s c cs (h + m) m table' next → AllWritten s c cs h (Chosen h (m + 1) places) table next
  writes_next {next} d = record { same_length = d.others.same_length ∙ w.same_length; small = d.small; at_once = λ n a. go n (chosen_last a) }
    where
      go : (n : ℕ) → (n ≡ m) ⊎ (Chosen h m places n × (n ≡ m → ⊥)) → AtOnce s c cs (h + n) n next
      go n (inl e) = subst⁻¹ (λ (j : ℕ). AtOnce s c cs (h + j) j next) e d.at_once
      go n (inr o) = λ x y i j. subst⁻¹ (λ (v : ℕ). (w : ℕ) → w < never → (v ≤ w) ↔ NowOne s c cs (h + n) x y w) (d.others.same n x y o.1 i j) (w.at_once n o.0 x y i j)

-- After the ticks they have their costs.
pub all_laid : {s cs : List ℕ} {k h : ℕ} {C D : ℕ → Type 0} {low high table₀ table table' : List ℕ} → Laying s cs k D low high → AllWritten s (get_or cs k 0) (drop (k + 1) cs) h C table₀ table → AllTicked C table table' → AllLaid s (drop k cs) h C table'
all_laid {s} {cs} {k} {h} {C} {D} {low} {high} {table₀} {table} {table'} a w d m g = subst⁻¹ (λ (ds : List ℕ). Laid s ds (h + m) m table') (left_some cs k a.more)
    (laid s a.loads (get_or cs k 0) (drop (k + 1) cs) (h + m) m table table' (λ x y i j. d.ticked m x y g i j) (w.at_once m g) (omega (arith, length-drop (k + 1) cs, a.few, a.more)) w.small)

-- ---- Notes

-- The costs before z are noted.
pub record InNote (s cs : List ℕ) (k l : ℕ) (first₀ second₀ first second : List ℕ) (z : ℕ) : Type 0 where
  pub z_fits : z ≤ width
  pub ground : Ground s cs first second
  pub first_kept : length first ≡ length first₀
  pub second_kept : length second ≡ length second₀
  pub noted : (y : ℕ) → y < z → (0 < get_or first (place_of k l y) 0) × (0 < get_or second (place_of k l y) 0)
  pub first_lasts : Lasts first₀ first
  pub second_lasts : Lasts second₀ second

-- An entry that is written is there, and the others are as before.
entry_lasts : (memo : List ℕ) (i v j : ℕ) → i < length memo → 0 < get_or memo j 0 → 0 < get_or (set memo i (v + 1)) j 0
entry_lasts memo i v j h k = go (eqb j i) refl
  where
    go : (b : Bool) → eqb j i ≡ b → 0 < get_or (set memo i (v + 1)) j 0
    go true e = let f = eqb-true j i e in rw f (omega (arith, get_or-set_same memo i (v + 1) 0 h))
    go false e = omega (arith, get_or-set_other memo i j (v + 1) 0 (eqb-false j i e))

entry_noted : (memo : List ℕ) (i v k l z : ℕ) → i < length memo → i ≡ place_of k l z → ((y : ℕ) → y < z → 0 < get_or memo (place_of k l y) 0) → (y : ℕ) → y < z + 1 → 0 < get_or (set memo i (v + 1)) (place_of k l y) 0
entry_noted memo i v k l z h e f y g = go (eqb y z) refl
  where
    go : (b : Bool) → eqb y z ≡ b → 0 < get_or (set memo i (v + 1)) (place_of k l y) 0
    go true o = let q = eqb-true y z o in let r : place_of k l y ≡ i = omega arith in rw r (omega (arith, get_or-set_same memo i (v + 1) 0 h))
    go false o = let q : y ≡ z → ⊥ = eqb-false y z o in entry_lasts memo i v (place_of k l y) h (f y (let r : y < z = omega arith in r))

module _ {s cs : List ℕ} {k l : ℕ} (some : 1 ≤ k) (more : k < length cs) (in_sheet : l < locations s) {first₀ second₀ first second : List ℕ} {z : ℕ} (w : InNote s cs k l first₀ second₀ first second z) (soon : z < width) where
  note_asked : AfterAsked s cs k l z first second
  note_asked = record { ground = w.ground; some_played = some; more = more; in_sheet = in_sheet; reading_fits = omega arith }

  pub note_first_inside : {i : ℕ} → i ≡ place_of k l z → i < length first
  note_first_inside e = place_inside note_asked w.ground.after_first e

  pub note_second_inside : {i : ℕ} → i ≡ place_of k l z → i < length second
  note_second_inside e = place_inside note_asked w.ground.after_second e

  pub note_next : (m : ℕ) (table : List ℕ) {i p q : ℕ} → Laid s (drop k cs) l m table → i ≡ place_of k l z → p ≡ cell_of m 0 z → q ≡ cell_of m z 0 → InNote s cs k l first₀ second₀ (set first i (get_or table p 0 + 1)) (set second i (get_or table q 0 + 1)) (z + 1)
  note_next m table {i} {p} {q} g e p-is q-is = record {
    z_fits = omega arith;
    ground = both.ground;
    first_kept = length-set first i (get_or table p 0 + 1) ∙ w.first_kept;
    second_kept = length-set second i (get_or table q 0 + 1) ∙ w.second_kept;
    noted = λ y h. (
      entry_noted first i (get_or table p 0) k l z (note_first_inside e) e (λ x o. (w.noted x o).0) y h,
      entry_noted second i (get_or table q 0) k l z (note_second_inside e) e (λ x o. (w.noted x o).1) y h,
    );
    first_lasts = λ j h. entry_lasts first i (get_or table p 0) j (note_first_inside e) (w.first_lasts j h);
    second_lasts = λ j h. entry_lasts second i (get_or table q 0) j (note_second_inside e) (w.second_lasts j h);
  }
    where
      one : Costed s cs (set first i (get_or table p 0 + 1)) second (cost_at s (drop k cs) (just_reset false l z)) (get_or table p 0)
      one = noted_first note_asked refl e (record { value_is = ap (λ (j : ℕ). get_or table j 0) p-is ∙ g 0 z (omega arith) (omega arith); ground = w.ground })

      again : AfterAsked s cs k l z (set first i (get_or table p 0 + 1)) second
      again = record { ground = one.ground; some_played = some; more = more; in_sheet = in_sheet; reading_fits = omega arith }

      both : Costed s cs (set first i (get_or table p 0 + 1)) (set second i (get_or table q 0 + 1)) (cost_at s (drop k cs) (just_reset true l z)) (get_or table q 0)
      both = noted_second again refl e (record { value_is = ap (λ (j : ℕ). get_or table j 0) q-is ∙ g z 0 (omega arith) (omega arith); ground = one.ground })
