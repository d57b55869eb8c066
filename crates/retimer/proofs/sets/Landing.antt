-- Where an action leads from a set of configurations, by membership.
-- Assumes nothing.
use mathlib.Core.Path.{◌≡◌, refl, ap, sym, ◌∙◌, subst⁻¹}
use mathlib.Core.Bool.{Bool, true, false, cond}
use mathlib.Core.List.{List, [], ◌∷◌}
use mathlib.Core.Option.{some}
use mathlib.Core.Logic.{inl, inr, ◌↔◌}
use Prim.Native.Nat.{ℕ, ◌+◌, ◌*◌, ◌≤◌, ◌<◌, min, ◌-◌}
use native.Mathlib.Omega.{arith}
use lib.Dec.{ltb}
use lib.ListN.{get_or}
use borrow.Author.Tests.{ltb-true, ltb-false}
use Rattle.enforcement.specs.Automaton.{Bytes, Transition, transitions, bit, locations}
use Rattle.enforcement.specs.Loading.{WellFormed, AllFit, Bounded}
use Rattle.enforcement.specs.TimedWord.{Configuration, step}
use Rattle.enforcement.specs.Model.{top, advance}
use Rattle.enforcement.proofs.Loading.{bounded}
use Rattle.retimer.specs.Steps.{One}
use Rattle.retimer.specs.Sets.{second, height, at, has, Marked, Contains, Whole, Moves, LaterAt, PlayedBelow, Covers, Reached, Moved, Played, Elapsed}
use Rattle.retimer.proofs.Taking.{Taken, step_one}
use Rattle.retimer.proofs.sets.Waiting.{in_same, member_reading}
use Rattle.retimer.proofs.sets.Setting.{point, height_most}
use Rattle.retimer.proofs.sets.Stepping.{second_of_lem, reset_height}

-- A configuration as a row of a location of the automaton.
abbrev pub Lands : Bytes → Configuration → Type 0
Lands s q = (t : ℕ) × (x : ℕ) × (i : ℕ) × (t < locations s) × (i < height s) × (q ≡ at (height s) t x i)

module _ (s : Bytes) (loads : WellFormed s) (c l x i u : ℕ) (inside : i < height s) where
  one_lands : (q : Configuration) (ts : List Transition) → AllFit s ts → One (Taken c (advance u (at (height s) l x i)) q) ts → Lands s q
  one_lands q [] f w = absurd w
  one_lands q (v ∷ ts) f (inr w) = one_lands q ts f.1 w
  one_lands q (v ∷ ts) f (inl w) = go (bit v.resets 1) refl w.2
    where
      go : (b : Bool) → bit v.resets 1 ≡ b → record { location = v.target; x = cond (bit v.resets 0) 0 (min (x + u) top); y = cond b 0 (min (second (height s) i + u) top) } ≡ q → Lands s q
      go true e k = (v.target, cond (bit v.resets 0) 0 (min (x + u) top), 0, f.0.target_fits, (height_most s).0, sym k ∙ point refl refl (omega (arith, reset_height s v f.0 e)))
      go false e k = (v.target, cond (bit v.resets 0) 0 (min (x + u) top), min (i + u) (height s - 1), f.0.target_fits, omega (arith, (height_most s).0), sym k ∙ point refl refl (sym (second_of_lem s i u inside)))

  pub step_lands : (q : Configuration) → step s c (advance u (at (height s) l x i)) ≡ some q → Lands s q
  unfolding Bounded
  step_lands q e = one_lands q (transitions s l) (bounded s loads l) ((step_one s loads c (advance u (at (height s) l x i)) q).0 e)

-- ---- Members

-- The configuration at a row of a location that has a reading.
pub contains_at : {s : Bytes} {set : List ℕ} {l x i : ℕ} → i < height s → has (height s) set l x i ≡ true → Contains s set (at (height s) l x i)
contains_at {i = i} h m = record { row = i; inside = h; reads = refl; holds = m }

-- A member is at its row.
pub at_row : {s : Bytes} {set : List ℕ} {q : Configuration} (m : Contains s set q) → q ≡ at (height s) q.location q.x m.row
at_row m = point refl refl m.reads

-- The readings of a member are saturated.
pub contains_readings : {s : Bytes} {set : List ℕ} {q : Configuration} → Whole s set → Contains s set q → (q.x ≤ top) × (q.y ≤ top)
contains_readings {s} {set} {q} w m = (member_reading set q.x (q.location * height s + m.row) w.narrow m.holds, omega (arith, m.reads, m.inside, (height_most s).0, (height_most s).1))

pub reached_covers : {s : Bytes} {set : List ℕ} {places : ℕ} → Reached s set places → Covers s places set
reached_covers {s} r l x i h m = (r.members l).1 (at (height s) l x i, refl, contains_at h m)

pub reached_known : {s : Bytes} {set : List ℕ} {places : ℕ} {q : Configuration} → Reached s set places → Contains s set q → q.location < locations s
reached_known {q = q} r m = r.known q.location ((r.members q.location).1 (q, refl, m))

-- ---- All locations are waited

module _ (s : Bytes) (set new : List ℕ) (places : ℕ) (r : Reached s set places) (whole : Whole s new)
    (waited : (l x i : ℕ) → l < locations s → i < height s → Marked (height s) new l x i ↔ LaterAt s set l x i)
    (rest : (l i : ℕ) → locations s ≤ l → i < height s → get_or new (l * height s + i) 0 ≡ get_or set (l * height s + i) 0) where
  -- A member is at a location of the automaton.
  new_known : {q : Configuration} → Contains s new q → q.location < locations s
  new_known {q} m = go (ltb q.location (locations s)) refl
    where
      go : (b : Bool) → ltb q.location (locations s) ≡ b → q.location < locations s
      go true e = ltb-true q.location (locations s) e
      go false e = r.known q.location (reached_covers r q.location q.x m.row m.inside (in_same q.x (rest q.location m.row (ltb-false q.location (locations s) e) m.inside) m.holds))

  elapsed_from : (q : Configuration) → Contains s new q → (p : Configuration) × (n : ℕ) × Contains s set p × (q ≡ advance n p)
  elapsed_from q m =
      let d = (waited q.location q.x m.row (new_known m) m.inside).0 m.holds in
      (at (height s) q.location d.from_x d.from_i, d.ticks, contains_at d.inside d.member, at_row m ∙ sym d.good)

  elapsed_to : (p : Configuration) (n : ℕ) → Contains s set p → Contains s new (advance n p)
  elapsed_to p n m =
      let i : ℕ = min (m.row + n) (height s - 1) in
      let h : i < height s = omega (arith, (height_most s).0) in
      record {
        row = i;
        inside = h;
        reads = ap (λ (y : ℕ). min (y + n) top) m.reads ∙ sym (second_of_lem s m.row n m.inside);
        holds = (waited p.location (min (p.x + n) top) i (reached_known r m) h).1 (record { from_x = p.x; from_i = m.row; ticks = n; inside = m.inside; member = m.holds; good = point refl refl (sym (second_of_lem s m.row n m.inside)) });
      }

  pub elapsed_all : Elapsed s set new places
  elapsed_all = record {
    reached = record {
      whole = whole;
      known = r.known;
      members = λ l. (
        λ n. let a = (r.members l).0 n in (advance 0 a.0, a.1, elapsed_to a.0 0 a.2),
        λ a. let d = elapsed_from a.0 a.2 in (r.members l).1 (d.0, sym (ap (λ (q : Configuration). q.location) d.3) ∙ a.1, d.2),
      );
    };
    right = λ q. (elapsed_from q, λ d. subst⁻¹ (Contains s new) d.3 (elapsed_to d.0 d.1 d.2));
  }

-- ---- All locations are played

module _ (s : Bytes) (loads : WellFormed s) (c : ℕ) (set nxt : List ℕ) (places found : ℕ) (r : Reached s set places) (p : PlayedBelow s c set (locations s) nxt found) where
  moved : (t x i : ℕ) {l : ℕ} → Moves s c set l t x i → Moved s c set (at (height s) t x i)
  moved t x i {l} m = record { from = at (height s) l m.from_x m.from_i; member = contains_at m.inside m.member; ticks = m.ticks; steps = m.good }

  to : (q : Configuration) → Contains s nxt q → Moved s c set q
  to q m =
      let a = (p.right q.location q.x m.row m.inside).0 m.holds in
      let d = moved q.location q.x m.row a.2 in
      record { from = d.from; member = d.member; ticks = d.ticks; steps = d.steps ∙ ap some (sym (at_row m)) }

  from : (q : Configuration) → Moved s c set q → Contains s nxt q
  from q d =
      let m = d.member in
      let e = at_row m in
      let w : step s c (advance d.ticks (at (height s) d.from.location d.from.x m.row)) ≡ some q = ap (λ (z : Configuration). step s c (advance d.ticks z)) (sym e) ∙ d.steps in
      let z = step_lands s loads c d.from.location d.from.x m.row d.ticks m.inside q w in
      let n : Moves s c set d.from.location z.0 z.1 z.2 = record { from_x = d.from.x; from_i = m.row; ticks = d.ticks; inside = m.inside; member = m.holds; good = w ∙ ap some z.5 } in
      let k = (p.right z.0 z.1 z.2 z.4).1 (d.from.location, reached_known r m, n) in
      record { row = z.2; inside = z.4; reads = ap (λ (v : Configuration). v.y) z.5; holds = ap₃ z.2 (ap (λ (v : Configuration). v.location) z.5) (ap (λ (v : Configuration). v.x) z.5) k }
    where
      ap₃ : (i : ℕ) {a b x y : ℕ} → a ≡ b → x ≡ y → has (height s) nxt b y i ≡ true → has (height s) nxt a x i ≡ true
      ap₃ i e f k = rw (e, f) k

  known : (t x i : ℕ) {l : ℕ} → Moves s c set l t x i → t < locations s
  known t x i {l} m =
      let d = step_lands s loads c l m.from_x m.from_i m.ticks m.inside (at (height s) t x i) m.good in
      let e : t ≡ d.0 = ap (λ (q : Configuration). q.location) d.5 in
      omega (arith, d.3)

  pub played_all : Played s c set nxt found
  played_all = record {
    reached = record {
      whole = p.whole;
      known = λ t n. let a = (p.some t).0 n in known t a.0 a.1 a.5;
      members = λ t. (λ n. let a = (p.some t).0 n in (at (height s) t a.0 a.1, refl, from (at (height s) t a.0 a.1) (moved t a.0 a.1 a.5)), back t);
    };
    right = λ q. (to q, from q);
  }
    where
      back : (t : ℕ) → (q : Configuration) × (q.location ≡ t) × Contains s nxt q → bit found t ≡ true
      back t n =
          let m = n.2 in
          let a = (p.right n.0.location n.0.x m.row m.inside).0 m.holds in
          ap (bit found) (sym n.1) ∙ (p.some n.0.location).1 (n.0.x, m.row, m.inside, a.0, a.1, a.2)
