-- An action after a wait as a transition on waited rows, over the locations of a set.
-- Assumes nothing.
use mathlib.Core.Path.{◌≡◌, refl, ap, sym, ◌∙◌, subst, subst⁻¹}
use mathlib.Core.Bool.{Bool, true, false, cond, false≢true}
use mathlib.Core.List.{List, [], ◌∷◌}
use mathlib.Core.Logic.{◌⊎◌, inl, inr, ⊎_elim, ◌↔◌}
use Prim.Native.Nat.{ℕ, ◌+◌, ◌*◌, ◌≤◌, ◌<◌, min, ◌-◌}
use native.Mathlib.Omega.{arith}
use lib.Dec.{eqb, ltb}
use lib.ListN.{length, get_or, take, drop}
use lib.Bits.{bit_or}
use borrow.Author.Tests.{eqb-true, eqb-false, ltb-true, ltb-false}
use borrow.Rule.Slice.PartMut.{put_mid}
use Rattle.enforcement.specs.Limits.{max_count}
use Rattle.enforcement.specs.Automaton.{Bytes, Transition, transitions, bit, clocks, locations, enabled}
use Rattle.enforcement.specs.Loading.{WellFormed, Fits, AllFit, Bounded}
use Rattle.enforcement.specs.TimedWord.{Configuration}
use Rattle.enforcement.specs.Model.{top, width, advance}
use Rattle.enforcement.proofs.Loading.{bounded}
use Rattle.retimer.specs.Sets.{Narrow, Member, Waited, second, height, at, Whole, Cleared, Leads, Plays, PlayedAt, Marked, Becomes, Moves, LaterAt, PlayedFrom, PlayedBelow, Covers}
use Rattle.retimer.specs.Steps.{One}
use Rattle.enforcement.proofs.Bits.{none_in, in_or}
use Rattle.retimer.proofs.Taking.{Taken, step_one}
use Rattle.retimer.proofs.sets.Waiting.{in_same}
use Rattle.retimer.proofs.sets.Parts.{part_length, part_at, part_narrow, put_length, put_at, put_narrow, put_other, put_part}
use Rattle.retimer.proofs.sets.Setting.{point, height_most, rows_inside}

-- ---- A transition on waited rows

-- With one clock the second is not reset.
pub reset_height : (s : Bytes) (u : Transition) → Fits s u → bit u.resets 1 ≡ true → height s ≡ width
reset_height s u f e = go (eqb (clocks s) 1) refl
  where
    go : (b : Bool) → eqb (clocks s) 1 ≡ b → cond b 1 width ≡ width
    go true k = absurd (false≢true (sym (f.one_clock (eqb-true (clocks s) 1 k)).kept ∙ e))
    go false k = refl

-- The second reading after a wait, by its row.
pub second_of_lem : (s : Bytes) (i u : ℕ) → i < height s → second (height s) (min (i + u) (height s - 1)) ≡ min (second (height s) i + u) top
second_of_lem s i u h = omega (arith, (height_most s).0, (height_most s).1)

module _ (s : Bytes) (c l : ℕ) (part out : List ℕ) (sized : length part ≡ height s) (w : Waited part out) (t x i : ℕ) where
  out_sized : length out ≡ height s
  out_sized = w.sized ∙ sized

  -- The second reading after a wait, by its row.
  second_later : (i0 u j : ℕ) → i0 < height s → j ≡ min (i0 + u) (length part - 1) → second (height s) j ≡ min (second (height s) i0 + u) top
  second_later i0 u j h e = omega (arith, sized, (height_most s).0, (height_most s).1)

  -- A wait from a member, and then what Q says of where it leads.
  abbrev After : (Configuration → Type 0) → Type 0
  After Q = (x0 : ℕ) × (i0 : ℕ) × (u : ℕ) × (i0 < height s) × Member part x0 i0 × Q (advance u (at (height s) l x0 i0))

  leads_after : (v : Transition) → Fits s v → Leads c out t x i v → After (λ (p : Configuration). Taken c p (at (height s) t x i) v)
  leads_after v f m =
      let d = m.2 in
      let n = (w.right d.from_x d.from_i (omega (arith, d.inside, w.sized))).0 d.member in
      let k : n.from_i < height s = omega (arith, n.inside, sized) in
      let y : second (height s) d.from_i ≡ min (second (height s) n.from_i + n.ticks) top = second_later n.from_i n.ticks d.from_i k n.i_is in
      let on : enabled v (min (n.from_x + n.ticks) top) (min (second (height s) n.from_i + n.ticks) top) ≡ true = rw (← n.x_is, ← y, ← out_sized) d.on in
      (n.from_x, n.from_i, n.ticks, k, n.member, (m.0, on, point (sym m.1) (sym (d.x_is ∙ ap (λ (z : ℕ). cond (bit v.resets 0) 0 z) n.x_is)) (go (bit v.resets 1) refl d.from_i y d.i_is)))
    where
      go : (b : Bool) → bit v.resets 1 ≡ b → (j : ℕ) {z : ℕ} → second (height s) j ≡ z → i ≡ cond b 0 j → cond b 0 z ≡ second (height s) i
      go true e j y k = omega (arith, reset_height s v f e)
      go false e j y k = sym y ∙ ap (second (height s)) (sym k)

  after_leads : i < height s → (x0 i0 u : ℕ) → i0 < height s → Member part x0 i0 → (v : Transition) → Fits s v → Taken c (advance u (at (height s) l x0 i0)) (at (height s) t x i) v → Leads c out t x i v
  after_leads inside x0 i0 u k m v f d =
      let j : ℕ = min (i0 + u) (length part - 1) in
      let lessj : j < length part = omega (arith, sized) in
      let y : second (height s) j ≡ min (second (height s) i0 + u) top = second_later i0 u j k refl in
      let held : Member out (min (x0 + u) top) j = (w.right (min (x0 + u) top) j lessj).1 (record { from_x = x0; from_i = i0; ticks = u; inside = omega (arith, sized); member = m; x_is = refl; i_is = refl }) in
      let on : enabled v (min (x0 + u) top) (second (length out) j) ≡ true = rw (out_sized, y) d.1 in
      let px = ap (λ (q : Configuration). q.x) d.2 in
      let py = ap (λ (q : Configuration). q.y) d.2 in
      let pl = ap (λ (q : Configuration). q.location) d.2 in
      (d.0, sym pl, record { from_x = min (x0 + u) top; from_i = j; inside = omega (arith, w.sized); member = held; on = on; x_is = sym px; i_is = go (bit v.resets 1) j y py })
    where
      go : (b : Bool) (j : ℕ) {z : ℕ} → second (height s) j ≡ z → cond b 0 z ≡ second (height s) i → i ≡ cond b 0 j
      go true j y e = omega arith
      go false j y e = omega arith

  -- Over a location's transitions.
  one_after : (ts : List Transition) → AllFit s ts → One (Leads c out t x i) ts → After (λ (p : Configuration). One (Taken c p (at (height s) t x i)) ts)
  one_after [] f m = absurd m
  one_after (v ∷ ts) f (inl m) = let a = leads_after v f.0 m in (a.0, a.1, a.2, a.3, a.4, inl a.5)
  one_after (v ∷ ts) f (inr m) = let a = one_after ts f.1 m in (a.0, a.1, a.2, a.3, a.4, inr a.5)

  after_one : i < height s → (x0 i0 u : ℕ) → i0 < height s → Member part x0 i0 → (ts : List Transition) → AllFit s ts → One (Taken c (advance u (at (height s) l x0 i0)) (at (height s) t x i)) ts → One (Leads c out t x i) ts
  after_one inside x0 i0 u k m [] f d = absurd d
  after_one inside x0 i0 u k m (v ∷ ts) f (inl d) = inl (after_leads inside x0 i0 u k m v f.0 d)
  after_one inside x0 i0 u k m (v ∷ ts) f (inr d) = inr (after_one inside x0 i0 u k m ts f.1 d)

  -- A transition leads to a row.
  pub one_inside : (ts : List Transition) → One (Leads c out t x i) ts → i < height s
  one_inside [] m = absurd m
  one_inside (v ∷ ts) (inl m) = go (bit v.resets 1) m.2.i_is
    where
      go : (b : Bool) → i ≡ cond b 0 m.2.from_i → i < height s
      go true e = omega (arith, m.2.inside, out_sized)
      go false e = omega (arith, m.2.inside, out_sized)
  one_inside (v ∷ ts) (inr m) = one_inside ts m

-- ---- From a location of a set

module _ (s : Bytes) (c l : ℕ) (set nxt : List ℕ) (h k : ℕ) (loads : WellFormed s) (known : l < locations s) (ws : Whole s set) (e : h ≡ height s) (same : k ≡ h) where
  pub from_fits : (l * h + h ≤ length set) × (length set ≤ max_count * width)
  from_fits = rows_inside s set l h loads ws known e

  inside : l * h + k ≤ length set
  inside = omega (arith, from_fits.0)

  part_sized : length (take k (drop (l * h) set)) ≡ height s
  part_sized = part_length set (l * h) k inside ∙ same ∙ e

  -- A row of the part is one of the set.
  part_row : (i : ℕ) → i < height s → get_or (take k (drop (l * h) set)) i 0 ≡ get_or set (l * height s + i) 0
  part_row i m = part_at set (l * h) k inside i (omega arith) ∙ ap (λ (n : ℕ). get_or set (l * n + i) 0) e

  module _ (out : List ℕ) (w : Waited (take k (drop (l * h) set)) out) where
    out_same : length out ≡ k
    out_same = w.sized ∙ part_length set (l * h) k inside

    abbrev put : List ℕ
    put = put_mid (l * h) k set out

    back : take k (drop (l * h) put) ≡ out
    back = put_part set (l * h) k inside out out_same

    moves : (t x i : ℕ) → i < height s → One (Leads c out t x i) (transitions s l) ↔ Moves s c set l t x i
    unfolding Bounded
    moves t x i m = (to, from)
      where
        to : One (Leads c out t x i) (transitions s l) → Moves s c set l t x i
        to n =
            let a = one_after s c l (take k (drop (l * h) set)) out part_sized w t x i (transitions s l) (bounded s loads l) n in
            record {
              from_x = a.0;
              from_i = a.1;
              ticks = a.2;
              inside = a.3;
              member = in_same a.0 (part_row a.1 a.3) a.4;
              good = (step_one s loads c (advance a.2 (at (height s) l a.0 a.1)) (at (height s) t x i)).1 a.5;
            }

        from : Moves s c set l t x i → One (Leads c out t x i) (transitions s l)
        from n =
            after_one s c l (take k (drop (l * h) set)) out part_sized w t x i m n.from_x n.from_i n.ticks n.inside (in_same n.from_x (sym (part_row n.from_i n.inside)) n.member)
            (transitions s l) (bounded s loads l) ((step_one s loads c (advance n.ticks (at (height s) l n.from_x n.from_i)) (at (height s) t x i)).0 n.good)

    -- A row of the part that was put.
    put_row : (i : ℕ) → i < height s → get_or put (l * height s + i) 0 ≡ get_or out i 0
    put_row i m = ap (λ (n : ℕ). get_or put (l * n + i) 0) (sym e) ∙ put_at set (l * h) k inside out out_same i (omega arith)

    waited : (x i : ℕ) → i < height s → Marked (height s) put l x i ↔ LaterAt s set l x i
    waited x i m =
        let r = w.right x i (omega (arith, part_sized)) in (
          λ n. let a = r.0 (in_same x (put_row i m) n) in let y : a.from_i < height s = omega (arith, a.inside, part_sized) in
              let z : i ≡ min (a.from_i + a.ticks) (height s - 1) = omega (arith, a.i_is, part_sized) in
              record { from_x = a.from_x; from_i = a.from_i; ticks = a.ticks; inside = y; member = in_same a.from_x (part_row a.from_i y) a.member; good = point refl (sym a.x_is) (sym (ap (second (height s)) z ∙ second_of_lem s a.from_i a.ticks y)) },
          λ a. let z = second_of_lem s a.from_i a.ticks a.inside ∙ ap (λ (p : Configuration). p.y) a.good in
              in_same x (sym (put_row i m)) (r.1 (record { from_x = a.from_x; from_i = a.from_i; ticks = a.ticks; inside = omega (arith, a.inside, part_sized); member = in_same a.from_x (sym (part_row a.from_i a.inside)) a.member; x_is = sym (ap (λ (p : Configuration). p.x) a.good); i_is = omega (arith, part_sized) })),
        )

    pub played_from : (new : List ℕ) (v : ℕ) → PlayedAt s c l (take k (drop (l * h) put)) nxt new v → PlayedFrom s c l set put nxt new v
    played_from new v p = go (rw back at p)
      where
        go : PlayedAt s c l out nxt new v → PlayedFrom s c l set put nxt new v
        go q = record {
          source = record { sized = put_length set (l * h) k inside out out_same ∙ ws.sized; narrow = put_narrow set (l * h) k inside out out_same ws.narrow w.narrow };
          waited = waited;
          others = λ m i. rw (← e) (put_other set l h k inside same out out_same m i);
          whole = q.whole;
          right = λ t x i m. let r = q.right t x i m in let y = moves t x i m in
              (λ n. ⊎_elim inl (λ a. inr (y.0 a)) (r.0 n), λ n. r.1 (⊎_elim inl (λ a. inr (y.1 a)) n));
          some = λ t. let r = q.some t in (
            λ n. let a = r.0 n in let m = one_inside s c l (take k (drop (l * h) set)) out part_sized w t a.0 a.1 (transitions s l) a.2 in (a.0, a.1, m, (moves t a.0 a.1 m).0 a.2),
            λ n. r.1 (n.0, n.1, (moves t n.0 n.1 n.2).1 n.3),
          );
        }

-- ---- The loop over the locations

-- The first n locations are done and their rows waited, and the rows of the others are as they were.
pub record Underway (s : Bytes) (c : ℕ) (set now nxt : List ℕ) (found n : ℕ) : Type 0 where
  pub source : Whole s now
  pub waited : (l x i : ℕ) → l < n → i < height s → Marked (height s) now l x i ↔ LaterAt s set l x i
  pub rest : (l i : ℕ) → n ≤ l → i < height s → get_or now (l * height s + i) 0 ≡ get_or set (l * height s + i) 0
  pub played : PlayedBelow s c set n nxt found

pub underway_begun : (s : Bytes) (c : ℕ) (set nxt new : List ℕ) → Whole s set → Whole s nxt → Cleared nxt new (length nxt) → Underway s c set set new 0 0
underway_begun s c set nxt new ws wn z = record {
  source = ws;
  waited = λ l x i k m. absurd (omega arith);
  rest = λ l i k m. refl;
  played = record {
    whole = record { sized = z.sized ∙ wn.sized; narrow = λ j. rw (empty j (ltb j (length nxt)) refl) (lib.Pow.pow_pos width) };
    right = λ t x i m. (λ n. absurd (none_in x (in_same x (empty (t * height s + i) (ltb (t * height s + i) (length nxt)) refl) n)), λ n. absurd (omega (arith, n.1)));
    some = λ t. (λ n. absurd (none_in t n), λ n. absurd (omega (arith, n.4)));
  };
}
  where
    empty : (j : ℕ) (b : Bool) → ltb j (length nxt) ≡ b → get_or new j 0 ≡ 0
    empty j true y = z.empty j (ltb-true j (length nxt) y)
    empty j false y = lib.ListN.get_or-eq_default new 0 {n = j} (omega (arith, z.sized, ltb-false j (length nxt) y))

module _ {s : Bytes} {c : ℕ} {set now nxt : List ℕ} {found n : ℕ} (m : Underway s c set now nxt found n) where
  -- At location n the rows are those at the start.
  row_now : (i : ℕ) → i < height s → get_or now (n * height s + i) 0 ≡ get_or set (n * height s + i) 0
  row_now i h = m.rest n i (omega arith) h

  becomes_now : {Q : Configuration → Type 0} → Becomes s now n Q ↔ Becomes s set n Q
  becomes_now = (
    λ d. record { from_x = d.from_x; from_i = d.from_i; ticks = d.ticks; inside = d.inside; member = in_same d.from_x (row_now d.from_i d.inside) d.member; good = d.good },
    λ d. record { from_x = d.from_x; from_i = d.from_i; ticks = d.ticks; inside = d.inside; member = in_same d.from_x (sym (row_now d.from_i d.inside)) d.member; good = d.good },
  )

  -- A location below n + 1.
  split : (l : ℕ) → l < n + 1 → (l < n) ⊎ (l ≡ n)
  split l q = go (eqb l n) refl
    where
      go : (b : Bool) → eqb l n ≡ b → (l < n) ⊎ (l ≡ n)
      go true y = inr (eqb-true l n y)
      go false y = let w = eqb-false l n y in inl (omega arith)

  -- A location without members.
  pub underway_passed : (places : ℕ) → Covers s places set → bit places n ≡ false → Underway s c set now nxt found (n + 1)
  underway_passed places k z = record {
    source = m.source;
    waited = λ l x i q h. ⊎_elim (λ a. m.waited l x i a h) (λ a. subst⁻¹ (λ (j : ℕ). Marked (height s) now j x i ↔ LaterAt s set j x i) a (both x i h)) (split l q);
    rest = λ l i q h. m.rest l i (omega arith) h;
    played = record {
      whole = m.played.whole;
      right = λ t x i l. let r = m.played.right t x i l in (λ d. let a = r.0 d in (a.0, omega (arith, a.1), a.2), λ d. r.1 (d.0, less t x i d.0 d.1 d.2, d.2));
      some = λ t. let r = m.played.some t in (λ d. let a = r.0 d in (a.0, a.1, a.2, a.3, omega (arith, a.4), a.5), λ d. r.1 (d.0, d.1, d.2, d.3, less t d.0 d.1 d.3 d.4 d.5, d.5));
    };
  }
    where
      none_here : (x i : ℕ) → i < height s → Marked (height s) set n x i → ⊥
      none_here x i h w = false≢true (sym z ∙ k n x i h w)

      less : (t x i l : ℕ) → l < n + 1 → Moves s c set l t x i → l < n
      less t x i l q d = ⊎_elim (λ a. a) (λ a. absurd (none_here d.from_x d.from_i d.inside (subst (λ (j : ℕ). Marked (height s) set j d.from_x d.from_i) a d.member))) (split l q)

      -- Nothing waits there.
      both : (x i : ℕ) → i < height s → Marked (height s) now n x i ↔ LaterAt s set n x i
      both x i h = (λ w. absurd (none_here x i h (in_same x (row_now i h) w)), λ d. absurd (none_here d.from_x d.from_i d.inside d.member))

  -- A location with members.
  pub underway_more : (now' new : List ℕ) (v : ℕ) → PlayedFrom s c n now now' nxt new v → Underway s c set now' new (bit_or found v) (n + 1)
  underway_more now' new v f = record {
    source = f.source;
    waited = λ l x i q h. ⊎_elim (before l x i h) (λ a. subst⁻¹ (λ (j : ℕ). Marked (height s) now' j x i ↔ LaterAt s set j x i) a (here x i h)) (split l q);
    rest = λ l i q h. f.others l i h (λ a. omega arith) ∙ m.rest l i (omega arith) h;
    played = record {
      whole = f.whole;
      right = λ t x i l. let r = m.played.right t x i l in let g = f.right t x i l in (
        λ d. ⊎_elim (λ a. let b = r.0 a in (b.0, omega (arith, b.1), b.2)) (λ a. (n, omega arith, becomes_now.0 a)) (g.0 d),
        λ d. g.1 (⊎_elim (λ a. inl (r.1 (d.0, a, d.2))) (λ a. inr (becomes_now.1 (subst (λ (j : ℕ). Moves s c set j t x i) a d.2))) (split d.0 d.1)),
      );
      some = λ t. let r = m.played.some t in let g = f.some t in let o = in_or found v t in (
        λ d. ⊎_elim (λ a. let b = r.0 a in (b.0, b.1, b.2, b.3, omega (arith, b.4), b.5)) (λ a. let b = g.0 a in (b.0, b.1, b.2, n, omega arith, becomes_now.0 b.3)) (o.0 d),
        λ d. o.1 (⊎_elim (λ a. inl (r.1 (d.0, d.1, d.2, d.3, a, d.5))) (λ a. inr (g.1 (d.0, d.1, d.2, becomes_now.1 (subst (λ (j : ℕ). Moves s c set j t d.0 d.1) a d.5)))) (split d.3 d.4)),
      );
    };
  }
    where
      -- The rows before stay waited.
      before : (l x i : ℕ) → i < height s → l < n → Marked (height s) now' l x i ↔ LaterAt s set l x i
      before l x i h a = let r = m.waited l x i a h in let y = f.others l i h (λ b. omega arith) in (λ w. r.0 (in_same x y w), λ d. in_same x (sym y) (r.1 d))

      here : (x i : ℕ) → i < height s → Marked (height s) now' n x i ↔ LaterAt s set n x i
      here x i h = let r = f.waited x i h in (λ w. becomes_now.0 (r.0 w), λ d. r.1 (becomes_now.1 d))
