-- Laws of the dates that are read off: played now, a tick later, and the configuration that they lead to.
-- Assumes nothing.
use mathlib.Core.Path.{◌≡◌, refl, ap, sym, ◌∙◌, subst, subst⁻¹}
use mathlib.Core.Bool.{Bool, true, false, cond}
use mathlib.Core.List.{List, [], ◌∷◌, ◌++◌, append_assoc, append-nil}
use mathlib.Core.Option.{Option, none, some}
use Prim.Native.Nat.{ℕ, zero, suc, ◌+◌, ◌-◌, ◌*◌, ◌≤◌, ◌<◌, min}
use native.Mathlib.Omega.{arith}
use native.Mathlib.Numerals.{add-one}
use lib.Dec.{leb, eqb}
use lib.ListN.{length, get_or, drop, take, set, drop_of_length-le}
use lib.Seq.{take-suc-set, drop-set-lt}
use borrow.Author.Tests.{eqb-true, eqb-false, le-leb}
use Rattle.enforcement.specs.Automaton.{Bytes}
use Rattle.enforcement.specs.TimedWord.{Configuration}
use Rattle.enforcement.specs.Model.{top, advance, headroom, Prospect, ticks, extensible, dead, later, keeps, better, after_step, dates_after, waits, reads, Compiled, prospect, dates, compile}
use Rattle.enforcement.specs.Monitor.{walk, walk_on}
use Rattle.enforcement.proofs.Saturation.{Steps, configuration_path}
use Rattle.enforcement.proofs.Equations.{prospect_cons, prospect_top, prospect_next, dates_nil, dates_cons, dates_now, dates_later, dates_top}
use Rattle.retimer.specs.declared.optimum.Reached.{Reached}
use Rattle.retimer.specs.Readings.{Readings, waited, located, Standing}
use Rattle.retimer.specs.Dates.{left_at, played_now, Written}
use Rattle.retimer.proofs.Valuations.{located_waited}
use Rattle.retimer.proofs.Prospects.{left_some}

-- A configuration with saturated readings.
record Saturated (p : Configuration) : Type 0 where
  first : p.x ≤ top
  second : p.y ≤ top

advance_in : (p : Configuration) → Saturated (advance 1 p)
advance_in p = record { first = omega arith; second = omega arith }

advance_none : (p : Configuration) (d : ℕ) → Saturated p → advance (d - d) p ≡ p
advance_none p d h = configuration_path (omega (arith, h.first)) (omega (arith, h.second))

-- Waiting in two parts.
advance_more : (p : Configuration) (d e : ℕ) → d < e → advance (e - suc d) (advance 1 p) ≡ advance (e - d) p
advance_more p d e h = configuration_path (omega arith) (omega arith)

-- ---- Numbers of ticks

keeps_same : (n : ℕ) (b : Prospect) → better (ticks n) b ≡ ticks n → keeps (ticks n) b ≡ true
keeps_same n (ticks k) e = go (leb n k) refl e
  where
    go : (t : Bool) → leb n k ≡ t → cond t (ticks n) (ticks k) ≡ ticks n → leb n k ≡ true
    go true x y = x
    go false x y = let z : k ≡ n = cc in le-leb n k (omega arith)
keeps_same n extensible e = refl
keeps_same n dead e = refl

-- The second is chosen where the first is another number.
other : (a b : Prospect) (n : ℕ) → better a (later b) ≡ ticks n → (a ≡ ticks n → ⊥) → (keeps a (later b) ≡ false) × ((1 ≤ n) × (b ≡ ticks (n - 1)))
other a b n e f = go (keeps a (later b)) refl e
  where
    less : (c : Prospect) → later c ≡ ticks n → (1 ≤ n) × (c ≡ ticks (n - 1))
    less (ticks k) x = let z : suc k ≡ n = cc in (omega arith, ap ticks (omega arith))
    less extensible x = let z : ◌≡◌ {A = ℕ} 0 1 = cc in absurd (omega arith)
    less dead x = let z : ◌≡◌ {A = ℕ} 0 1 = cc in absurd (omega arith)

    go : (t : Bool) → keeps a (later b) ≡ t → cond t a (later b) ≡ ticks n → (keeps a (later b) ≡ false) × ((1 ≤ n) × (b ≡ ticks (n - 1)))
    go true x y = absurd (f y)
    go false x y = (x, less b y)

-- ---- Dates

module _ (m : Compiled) (c : ℕ) (cs : List ℕ) (p : Configuration) (h : Saturated p) where
  -- Played now.
  dates_played : (n d : ℕ) → prospect m (c ∷ cs) p ≡ ticks n → after_step (m.step c p) (prospect m cs) ≡ ticks n → dates m (c ∷ cs) p d ≡ d ∷ dates_after (m.step c p) (λ (q : Configuration). dates m cs q d)
  dates_played n d e f = go (eqb (p.x + p.y) (2 * top)) refl
    where
      go : (t : Bool) → eqb (p.x + p.y) (2 * top) ≡ t → dates m (c ∷ cs) p d ≡ d ∷ dates_after (m.step c p) (λ (q : Configuration). dates m cs q d)
      go true t = let z = eqb-true (p.x + p.y) (2 * top) t in dates_top m c cs p d (omega (arith, h.first, h.second)) (omega (arith, h.first, h.second))
      go false t =
          let z = eqb-false (p.x + p.y) (2 * top) t in
          let low : min p.x p.y < top = omega (arith, h.first, h.second) in
          let b = later (prospect m (c ∷ cs) (advance 1 p)) in
          dates_now m c cs p d h.first h.second low
          (subst⁻¹ (λ (a : Prospect). keeps a b ≡ true) f
          (keeps_same n b (subst (λ (a : Prospect). better a b ≡ ticks n) f (sym (prospect_next m c cs p h.first h.second low) ∙ e))))

  -- Not both readings are saturated where playing now does not keep the least ticks.
  not_top : (n : ℕ) → prospect m (c ∷ cs) p ≡ ticks n → (after_step (m.step c p) (prospect m cs) ≡ ticks n → ⊥) → p.x + p.y ≡ 2 * top → ⊥
  not_top n e f z = f (sym (prospect_top m c cs p (omega (arith, h.first, h.second)) (omega (arith, h.first, h.second))) ∙ e)

  module _ (n : ℕ) (e : prospect m (c ∷ cs) p ≡ ticks n) (f : after_step (m.step c p) (prospect m cs) ≡ ticks n → ⊥) where
    low : min p.x p.y < top
    low = let z = not_top n e f in omega (arith, h.first, h.second)

    waited_other : (keeps (after_step (m.step c p) (prospect m cs)) (later (prospect m (c ∷ cs) (advance 1 p))) ≡ false) × ((1 ≤ n) × (prospect m (c ∷ cs) (advance 1 p) ≡ ticks (n - 1)))
    waited_other = other (after_step (m.step c p) (prospect m cs)) (prospect m (c ∷ cs) (advance 1 p)) n (sym (prospect_next m c cs p h.first h.second low) ∙ e) f

    waited_some : 1 ≤ n
    waited_some = waited_other.1.0

    waited_least : prospect m (c ∷ cs) (advance 1 p) ≡ ticks (n - 1)
    waited_least = waited_other.1.1

    dates_waited : (d : ℕ) → dates m (c ∷ cs) p d ≡ dates m (c ∷ cs) (advance 1 p) (suc d)
    dates_waited d = dates_later m c cs p d h.first h.second low waited_other.0

-- ---- Where the dates lead

-- The first date is not before d, and the action is played at it.
record First (st : Steps) (c : ℕ) (p : Configuration) (d : ℕ) (ds : List ℕ) : Type 0 where
  date : ℕ
  others : List ℕ
  target : Configuration
  are : ds ≡ date ∷ others
  late : d ≤ date
  plays : st c (advance (date - d) p) ≡ some target

step_some : (o : Option Configuration) (f : Configuration → Prospect) (n : ℕ) → after_step o f ≡ ticks n → (q : Configuration) × (o ≡ some q)
step_some none f n e = let z : ◌≡◌ {A = ℕ} 0 1 = cc in absurd (omega arith)
step_some (some q) f n e = (q, refl)

first_now : (st : Steps) (c : ℕ) (f : Configuration → Prospect) (g : Configuration → ℕ → List ℕ) (p : Configuration) (d n : ℕ) → Saturated p → after_step (st c p) f ≡ ticks n → First st c p d (d ∷ dates_after (st c p) (λ (q : Configuration). g q d))
first_now st c f g p d n h e =
    let q = step_some (st c p) f n e in
    record { date = d; others = dates_after (st c p) (λ (z : Configuration). g z d); target = q.0; are = refl; late = omega arith; plays = ap (st c) (advance_none p d h) ∙ q.1 }

first_later : (st : Steps) (c : ℕ) (p : Configuration) (d : ℕ) (ds : List ℕ) → First st c (advance 1 p) (suc d) ds → First st c p d ds
first_later st c p d ds w =
    record { date = w.date; others = w.others; target = w.target; are = w.are; late = omega (arith, w.late); plays = ap (st c) (sym (advance_more p d w.date (omega (arith, w.late)))) ∙ w.plays }

first : (st : Steps) (c : ℕ) (f : Configuration → Prospect) (g : Configuration → ℕ → List ℕ) (k : ℕ) (p : Configuration) (d n : ℕ) → Saturated p → waits st c f k p ≡ ticks n → First st c p d (reads st c f g k p d)
unfolding waits reads
first st c f g zero p d n h e = first_now st c f g p d n h e
first st c f g (suc k) p d n h e =
    let now : Prospect = after_step (st c p) f in
    let wait : Prospect = waits st c f k (advance 1 p) in
    (elim (keeps now (later wait)) as (λ (b : Bool). cond b now (later wait) ≡ ticks n → First st c p d (elim b [ true ↦ d ∷ dates_after (st c p) (λ (q : Configuration). g q d) | false ↦ reads st c f g k (advance 1 p) (suc d) ])) [
      | true ↦ λ x. first_now st c f g p d n h x
      | false ↦ λ x. first_later st c p d (reads st c f g k (advance 1 p) (suc d)) (first st c f g k (advance 1 p) (suc d) (n - 1) (advance_in p) (sooner wait x))
    ]) e
  where
    sooner : (a : Prospect) → later a ≡ ticks n → a ≡ ticks (n - 1)
    sooner (ticks j) x = let z : suc j ≡ n = cc in ap ticks (omega arith)
    sooner extensible x = let z : ◌≡◌ {A = ℕ} 0 1 = cc in absurd (omega arith)
    sooner dead x = let z : ◌≡◌ {A = ℕ} 0 1 = cc in absurd (omega arith)

-- Walking from a configuration along dates of a tick later is walking from the configuration a tick later.
walk_first : (st : Steps) (c : ℕ) (cs ds : List ℕ) (p : Configuration) (d : ℕ) → First st c (advance 1 p) (suc d) ds → walk st (c ∷ cs) ds d p ≡ walk st (c ∷ cs) ds (suc d) (advance 1 p)
unfolding walk
walk_first st c cs ds p d w = rw w.are (go (ap (st c) (sym (advance_more p d w.date (omega (arith, w.late)))) ∙ w.plays) w.plays)
  where
    go : {a b : Option Configuration} {q : Configuration} → a ≡ some q → b ≡ some q → walk_on a (λ (z : Configuration). walk st cs w.others w.date z) p ≡ walk_on b (λ (z : Configuration). walk st cs w.others w.date z) (advance 1 p)
    go x y = rw (x, y)

walk_waited : (m : Compiled) (c : ℕ) (cs : List ℕ) (p : Configuration) (d n : ℕ) → prospect m (c ∷ cs) (advance 1 p) ≡ ticks n
    → walk m.step (c ∷ cs) (dates m (c ∷ cs) (advance 1 p) (suc d)) d p ≡ walk m.step (c ∷ cs) (dates m (c ∷ cs) (advance 1 p) (suc d)) (suc d) (advance 1 p)
walk_waited m c cs p d n e =
    walk_first m.step c cs (dates m (c ∷ cs) (advance 1 p) (suc d)) p d
    (subst⁻¹ (First m.step c (advance 1 p) (suc d)) (dates_cons m c cs (advance 1 p) (suc d))
    (first m.step c (prospect m cs) (dates m cs) (headroom (advance 1 p)) (advance 1 p) (suc d) n (advance_in p) (sym (prospect_cons m c cs (advance 1 p)) ∙ e)))

-- Walking along a date that is now.
walk_played : (st : Steps) (c : ℕ) (cs ds : List ℕ) (p q : Configuration) (d : ℕ) → Saturated p → st c p ≡ some q → walk st (c ∷ cs) (d ∷ ds) d p ≡ walk st cs ds d q
unfolding walk
walk_played st c cs ds p q d h e = go (ap (st c) (advance_none p d h) ∙ e)
  where
    go : {a : Option Configuration} → a ≡ some q → walk_on a (λ (z : Configuration). walk st cs ds d z) p ≡ walk st cs ds d q
    go x = rw x

-- ---- By the actions played

saturated_at : {r : List ℕ} (l : ℕ) → Readings r → Saturated (located l r)
saturated_at l h = record { first = h.first; second = h.second }

module _ (s : Bytes) (cs : List ℕ) (k l : ℕ) (r : List ℕ) where
  abbrev here : Configuration
  here = located l r

  -- All is played.
  pub written_end : (t : ℕ) (out : List ℕ) → k ≡ length cs → Standing s l r → Written s cs k l r t out out (record { location = l; readings = r })
  unfolding walk
  written_end t out e h =
      let none_left : drop k cs ≡ [] = drop_of_length-le cs {i = k} (omega arith) in
      record {
        dates_are = rw (none_left, dates_nil (compile s) here t, append-nil, e);
        rest_kept = refl;
        reached = rw none_left;
        standing = h;
      }

  module _ (some_left : k < length cs) (h : Readings r) (n : ℕ) (least : left_at s cs k here ≡ ticks n) where
    is_some : drop k cs ≡ get_or cs k 0 ∷ drop (k + 1) cs
    is_some = left_some cs k some_left

    least_some : prospect (compile s) (get_or cs k 0 ∷ drop (k + 1) cs) here ≡ ticks n
    least_some = ap (λ (z : List ℕ). prospect (compile s) z here) (sym is_some) ∙ least

    -- The action is played now, and leads to the location u with the readings w.
    module _ (t u : ℕ) (w : List ℕ) (found : (compile s).step (get_or cs k 0) here ≡ some (located u w)) (now : played_now s cs k here ≡ ticks n) where
      pub left_after : left_at s cs (k + 1) (located u w) ≡ ticks n
      left_after = ap (λ (o : Option Configuration). after_step o (prospect (compile s) (drop (k + 1) cs))) (sym found) ∙ now

      dates_here : dates (compile s) (drop k cs) here t ≡ t ∷ dates (compile s) (drop (k + 1) cs) (located u w) t
      dates_here =
          ap (λ (z : List ℕ). dates (compile s) z here t) is_some ∙ dates_played (compile s) (get_or cs k 0) (drop (k + 1) cs) here (saturated_at l h) n t least_some now
          ∙ ap (λ (o : Option Configuration). t ∷ dates_after o (λ (q : Configuration). dates (compile s) (drop (k + 1) cs) q t)) found

      pub written_played : (before out : List ℕ) (q : Reached) → k < length before → Written s cs (k + 1) u w t (set before k t) out q → Written s cs k l r t before out q
      written_played before out q room z =
          record {
            dates_are = z.dates_are ∙ rw (add-one, take-suc-set before k t room, append_assoc, ← add-one, dates_here);
            rest_kept = z.rest_kept ∙ drop-set-lt (length cs) before k t some_left;
            reached = z.reached ∙ sym (rw (dates_here, is_some) (walk_played (compile s).step (get_or cs k 0) (drop (k + 1) cs) (dates (compile s) (drop (k + 1) cs) (located u w) t) here (located u w) t (saturated_at l h) found));
            standing = z.standing;
          }

    -- Playing now does not keep the least ticks: a tick passes.
    module _ (w : List ℕ) (is-waited : w ≡ waited 1 r) (not_now : played_now s cs k here ≡ ticks n → ⊥) where
      located_later : located l w ≡ advance 1 here
      located_later = ap (located l) is-waited ∙ located_waited l 1 r

      pub not_full : get_or r 0 0 + get_or r 1 0 ≡ 2 * top → ⊥
      not_full = not_top (compile s) (get_or cs k 0) (drop (k + 1) cs) here (saturated_at l h) n least_some not_now

      pub some_ticks : 1 ≤ n
      some_ticks = waited_some (compile s) (get_or cs k 0) (drop (k + 1) cs) here (saturated_at l h) n least_some not_now

      pub left_later : left_at s cs k (located l w) ≡ ticks (n - 1)
      left_later = rw (located_later, is_some) (waited_least (compile s) (get_or cs k 0) (drop (k + 1) cs) here (saturated_at l h) n least_some not_now)

      dates_late : (t : ℕ) → dates (compile s) (drop k cs) (located l w) (t + 1) ≡ dates (compile s) (drop k cs) here t
      dates_late t = rw (located_later, is_some, add-one t) (sym (dates_waited (compile s) (get_or cs k 0) (drop (k + 1) cs) here (saturated_at l h) n least_some not_now t))

      walk_late : (t : ℕ) → walk (compile s).step (drop k cs) (dates (compile s) (drop k cs) (located l w) (t + 1)) (t + 1) (located l w) ≡ walk (compile s).step (drop k cs) (dates (compile s) (drop k cs) (located l w) (t + 1)) t here
      walk_late t = rw (located_later, is_some, add-one t) (sym (walk_waited (compile s) (get_or cs k 0) (drop (k + 1) cs) here t (n - 1) (waited_least (compile s) (get_or cs k 0) (drop (k + 1) cs) here (saturated_at l h) n least_some not_now)))

      pub written_waited : (t : ℕ) (before out : List ℕ) (q : Reached) → Written s cs k l w (t + 1) before out q → Written s cs k l r t before out q
      written_waited t before out q z =
          record {
            dates_are = z.dates_are ∙ ap (λ (ds : List ℕ). take k before ++ ds) (dates_late t);
            rest_kept = z.rest_kept;
            reached = z.reached ∙ walk_late t ∙ ap (λ (ds : List ℕ). walk (compile s).step (drop k cs) ds t here) (dates_late t);
            standing = z.standing;
          }
