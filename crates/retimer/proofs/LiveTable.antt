-- The rows that sweeps find have exactly the live configurations.
-- Assumes nothing.
use mathlib.Core.Path.{◌≡◌, refl, ap, sym, ◌∙◌, subst, subst⁻¹}
use mathlib.Core.Bool.{Bool, true, false, cond, ◌||◌, ◌&&◌, false≢true, true≢false}
use mathlib.Core.List.{List, [], ◌∷◌}
use mathlib.Core.Logic.{◌⊎◌, inl, inr, ⊎_elim}
use mathlib.Core.Option.{some}
use Prim.Native.Nat.{ℕ, ◌+◌, ◌*◌, ◌-◌, ◌^◌, ◌≤◌, ◌<◌, min}
use native.Mathlib.Omega.{arith}
use lib.Dec.{eqb}
use lib.ListN.{length, get_or, set, replicate, length-replicate}
use borrow.Author.Tests.{eq-eqb, eqb-true, eqb-false}
use Rattle.enforcement.specs.Limits.{max_count}
use Rattle.enforcement.specs.Automaton.{Bytes, Transition, byte, bit, accepting, actions, clocks, locations, offset, size, word, transition_at, transitions, enabled}
use Rattle.enforcement.specs.TimedWord.{Configuration, fire, fire_first, step}
use Rattle.enforcement.specs.Loading.{WellFormed, Fits, AllFit, OverlapIn, Bounded, Deterministic}
use Rattle.enforcement.specs.Model.{top, width, advance, compile}
use Rattle.enforcement.proofs.Liveness.{Live, here, tick, act}
use Rattle.enforcement.proofs.Tests.{true_T}
use Rattle.enforcement.proofs.Compilation.{live_search}
use Rattle.enforcement.proofs.Loading.{bounded, deterministic, header}
use Rattle.enforcement.proofs.Overlaps.{only_fires}
use Rattle.retimer.specs.Readings.{Standing, located}
use Rattle.retimer.specs.Locations.{Added}
use Rattle.retimer.proofs.Arrays.{zero_at}
use Rattle.retimer.specs.Leading.{all_rows, member, slack, kept_first, kept_second, leads, Others, TransitionAdded, WaitsAdded, LocationFilled, Filled}
use Rattle.retimer.specs.Counts.{Closed, Counted}
use Rattle.retimer.specs.Live.{LiveTable, LiveSet, least, least_of, Stands, alive, Sound, Place, Included, Ticked, Gained, Settled, Turn, Turns, FromSaturated, Improved, Full, Unsettled, Swept}
use Rattle.enforcement.proofs.Bits.{bit_none, or_cases, or_shown, and_cases}
use Rattle.retimer.proofs.sets.Tables.{same_or}
use Rattle.retimer.proofs.sets.Filling.{short}
use Rattle.retimer.proofs.sets.Closing.{waits_none, waits_later, closed_whole}
use Rattle.retimer.proofs.Valuations.{cond_most}
use Rattle.retimer.proofs.Played.{sooner_lives}
use Rattle.retimer.proofs.Places.{Every, place_split, place_fits, places_every}

true_and : {a b : Bool} → a ≡ true → b ≡ true → (a && b) ≡ true
true_and e f = rw (e, f)

-- ---- Where a configuration stands

abbrev at : ℕ → ℕ → ℕ → Configuration
at l x y = record { location = l; x = x; y = y }

later_stands : {s : Bytes} {l x y : ℕ} (n : ℕ) → Stands s l x y → Stands s l (min (x + n) top) (min (y + n) top)
later_stands {s} {l} {x} {y} n h = record { in_sheet = h.in_sheet; first = omega arith; second = omega arith; used = go (eqb (clocks s) 1) h.used }
  where
    go : (one : Bool) → least_of one ≤ y → least_of one ≤ min (y + n) top
    go true g = omega arith
    go false g = omega arith

fire_stands : {s : Bytes} {u : Transition} → Fits s u → {l x y : ℕ} → Stands s l x y → Stands s u.target (kept_first u x) (kept_second u y)
fire_stands {s} {u} f {l} {x} {y} h = record {
  in_sheet = f.target_fits;
  first = cond_most (bit u.resets 0) x top h.first;
  second = cond_most (bit u.resets 1) y top h.second;
  used = go (eqb (clocks s) 1) refl h.used;
}
  where
    go : (one : Bool) → eqb (clocks s) 1 ≡ one → least_of one ≤ y → least_of one ≤ kept_second u y
    go true e g = rw (f.one_clock (eqb-true (clocks s) 1 e)).kept g
    go false e g = omega arith

standing_stands : {s : Bytes} {l : ℕ} {r : List ℕ} → Standing s l r → Stands s l (get_or r 0 0) (get_or r 1 0)
standing_stands {s} {l} {r} h = record { in_sheet = h.in_sheet; first = h.readings.first; second = h.readings.second; used = go (eqb (clocks s) 1) refl }
  where
    go : (one : Bool) → eqb (clocks s) 1 ≡ one → least_of one ≤ get_or r 1 0
    go true e = omega (arith, h.one_clock (eqb-true (clocks s) 1 e))
    go false e = omega arith

-- ---- Locations that stay

-- Rows of which only those of l have changed.
module _ (t u : List ℕ) {l : ℕ} (o : Others t u l) where
  other_member : (k x y : ℕ) → (k ≡ l → ⊥) → y ≤ top → member u k x y ≡ member t k x y
  other_member k x y ne h = ap (λ (n : ℕ). bit n x) (o k y ne h)

  leads_other : (v : Transition) (x y : ℕ) → (v.target ≡ l → ⊥) → y ≤ top → leads u v x y ≡ leads t v x y
  unfolding leads
  leads_other v x y ne h = ap (λ (b : Bool). enabled v x y && b) (other_member v.target (kept_first v x) (kept_second v y) ne (cond_most (bit v.resets 1) y top h))

module _ {s : Bytes} {t u : List ℕ} {l : ℕ} {b : Bool} (g : Gained s t u l b) where
  -- A configuration that the rows had they have.
  gained_kept : (k x y : ℕ) → x ≤ top → least s ≤ y → y ≤ top → member t k x y ≡ true → member u k x y ≡ true
  gained_kept k x y p q o e = same_or k l (λ d. subst (λ (i : ℕ). member u i x y ≡ true) (sym d) (g.kept x y p q o (subst (λ (i : ℕ). member t i x y ≡ true) d e))) (λ ne. other_member t u g.others k x y ne o ∙ e)

  -- A transition to another location than l.
  ruled_on : (k : ℕ) (v : Transition) → (v.target ≡ l → ⊥) → Included s t k v → Included s u k v
  ruled_on k v ne f x y p q o e = gained_kept k x y p q o (f x y p q o (sym (leads_other t u g.others v x y ne o) ∙ e))

  gained_grows : slack u ≤ slack t
  gained_grows = go b refl
    where
      go : (c : Bool) → b ≡ c → slack u ≤ slack t
      go true e = omega (arith, g.larger e)
      go false e = rw (g.same e) (omega arith)

  ticked_other : (k : ℕ) → (k ≡ l → ⊥) → Ticked s t k → Ticked s u k
  ticked_other k ne f x y p q o e = other_member t u g.others k x y ne o ∙ f x y p q o (sym (other_member t u g.others k (min (x + 1) top) (min (y + 1) top) ne (omega arith)) ∙ e)

  -- What holds of the rows before holds of the same rows.
  gained_same : (P : List ℕ → Type 0) → b ≡ false → P t → P u
  gained_same P e = subst⁻¹ P (g.same e)

module _ {s : Bytes} {t u w : List ℕ} {l : ℕ} {a b : Bool} (f : Gained s t u l a) (g : Gained s u w l b) where
  gained_with : (c : Bool) → (c ≡ true → slack w < slack t) → (c ≡ false → w ≡ t) → Gained s t w l c
  gained_with c lg sm = record {
    sound = g.sound;
    others = λ k y ne h. g.others k y ne h ∙ f.others k y ne h;
    kept = λ x y p q o e. g.kept x y p q o (f.kept x y p q o e);
    larger = lg;
    same = sm;
  }

  gained_more : b ≡ true → Gained s t w l true
  gained_more e = gained_with true (λ _. let z = gained_grows f in omega (arith, g.larger e)) (λ d. absurd (true≢false d))

  gained_none : b ≡ false → Gained s t w l a
  gained_none e = gained_with a (λ z. rw (g.same e) (f.larger z)) (λ z. g.same e ∙ f.same z)

gained_refl : {s : Bytes} {t : List ℕ} (l : ℕ) → Sound s t → Gained s t t l false
gained_refl l f = record { sound = f; others = λ k y ne h. refl; kept = λ x y p q o e. e; larger = λ e. absurd (false≢true e); same = λ _. refl }

-- A settled transition stays so.
settled_more : {s : Bytes} {u w : List ℕ} {l : ℕ} {a b : Bool} (q : ℕ) → Gained s u w l b → Settled s u l a q → Settled s w l true q
settled_more {s} {u} {w} {l} q g (inl z) = inl (refl, z.1)
settled_more {s} {u} {w} {l} q g (inr z) = same_or (byte s (q + 1)) l (λ e. inl (refl, e)) (λ ne. inr (ruled_on g l (transition_at s q) ne z))

-- The place before the next.
place_before : {s : Bytes} {l p : ℕ} (q : ℕ) → Place s l p → Place s l q → q < p + 7 → (q < p) ⊎ (q ≡ p)
place_before {s} {l} {p} q h r k = same_or q p inr (λ ne. inl (omega (arith, h.after, h.whole, r.after, r.whole)))

-- ---- From saturated readings

module _ {s : Bytes} {t : List ℕ} {l set p : ℕ} where
  pub none_begun : p ≤ offset s l → FromSaturated s t l set p false
  none_begun h = record { found = λ e. absurd (false≢true e); none = λ _ q r k. absurd (omega (arith, r.after)) }

  pub none_more : Place s l p → FromSaturated s t l set p false → (bit set (byte s (p + 1)) && leads t (transition_at s p) top top) ≡ false → FromSaturated s t l set (p + 7) false
  none_more r f e = record { found = λ d. absurd (false≢true d); none = λ _ q h k d. ⊎_elim (λ z. f.none refl q h z d) (λ z. subst⁻¹ (λ (i : ℕ). leads t (transition_at s i) top top ≡ false) z (out (subst (λ (i : ℕ). bit set (byte s (i + 1)) ≡ true) z d))) (place_before q r h k) }
    where
      out : bit set (byte s (p + 1)) ≡ true → leads t (transition_at s p) top top ≡ false
      out d = rw d at e

  pub some_found : {n : ℕ} → Place s l p → (bit set (byte s (p + 1)) && leads t (transition_at s p) top top) ≡ true → FromSaturated s t l set n true
  some_found r e = record { found = λ _. let z = and_cases (bit set (byte s (p + 1))) _ e in (p, r, z.0, z.1); none = λ d. absurd (true≢false d) }

  pub none_ended : {n : ℕ} → FromSaturated s t l set p false → n ≤ p → FromSaturated s t l set n false
  none_ended f h = record { found = f.found; none = λ e q r k d. f.none e q r (omega arith) d }

-- The locations from l on are done.
pub record Sweeping (s : Bytes) (t u : List ℕ) (set l next : ℕ) : Type 0 where
  pub sound : Sound s u
  pub full : Full s u
  pub ticked : (k : ℕ) → k < locations s → Ticked s u k
  pub included : (k q : ℕ) → k < locations s → Place s k q → (l ≤ k) ⊎ (bit set (byte s (q + 1)) ≡ false) → bit next (byte s (q + 1)) ≡ false → Included s u k (transition_at s q)
  pub grows : slack u ≤ slack t
  pub larger : (next ≡ 0 → ⊥) → slack u < slack t

-- ---- What is live

module _ (s : Bytes) (loads : WellFormed s) where
  abbrev Lives : ℕ → ℕ → ℕ → Type 0
  Lives l x y = Live (step s) (accepting s) (actions s) (at l x y)

  pub alive_lives : (l x y : ℕ) → Stands s l x y → alive s l x y ≡ true → Lives l x y
  alive_lives l x y h = (live_search s (bounded s loads) (at l x y) h.first h.second).0

  pub lives_alive : (l x y : ℕ) → Stands s l x y → Lives l x y → alive s l x y ≡ true
  lives_alive l x y h = (live_search s (bounded s loads) (at l x y) h.first h.second).1

  -- A transition that leads into sound rows.
  leads_alive : (t : List ℕ) → Sound s t → (l x y q : ℕ) → Place s l q → Stands s l x y → leads t (transition_at s q) x y ≡ true → alive s l x y ≡ true
  unfolding leads step Deterministic
  leads_alive t f l x y q r h e =
      let u : Transition = transition_at s q in
      let z = and_cases (enabled u x y) _ e in
      let d = place_split s loads l h.in_sheet q r in
      let k = place_fits s loads l h.in_sheet q r in
      let g = fire_stands k h in
      lives_alive l x y h
      (act u.action k.action_fits
      (ap (λ (ts : List Transition). fire_first ts u.action (at l x y)) d.is ∙ only_fires d.left u d.right (λ o. deterministic s loads l (subst⁻¹ OverlapIn d.is o)) (at l x y) (true_T z.0))
      (alive_lives u.target (kept_first u x) (kept_second u y) g (f.live u.target (kept_first u x) (kept_second u y) g z.1)))

  -- Some ticks later.
  later_lives : (n l x y : ℕ) → Stands s l x y → (Stands s l (min (x + n) top) (min (y + n) top) → Lives l (min (x + n) top) (min (y + n) top)) → Lives l x y
  later_lives n l x y h f = sooner_lives s n (at l x y) (h.first, h.second) (f (later_stands n h))

  waits_lives : (t : List ℕ) → Sound s t → (n l x y : ℕ) → Stands s l x y → member t l (min (x + n) top) (min (y + n) top) ≡ true → Lives l x y
  waits_lives t f n l x y h e = later_lives n l x y h (λ g. alive_lives l (min (x + n) top) (min (y + n) top) g (f.live l (min (x + n) top) (min (y + n) top) g e))

  -- Rows stay sound.
  sound_at : {t : List ℕ} (u : List ℕ) {l : ℕ} → Sound s t → length u ≡ length t → Others t u l → ((x y : ℕ) → Stands s l x y → member u l x y ≡ true → alive s l x y ≡ true) → Sound s u
  sound_at {t} u {l} f z o g = record { sized = z ∙ f.sized; live = λ k x y h e. same_or k l (λ d. subst (λ (i : ℕ). alive s i x y ≡ true) (sym d) (g x y (subst (λ (i : ℕ). Stands s i x y) d h) (subst (λ (i : ℕ). member u i x y ≡ true) d e))) (λ ne. f.live k x y h (sym (other_member t u o k x y ne h.second) ∙ e)) }

  -- ---- Transitions of a location

  module _ {t u : List ℕ} {l q : ℕ} {b : Bool} (f : Sound s t) (r : Place s l q) where
    rule_gained : TransitionAdded t u l (least s) (transition_at s q) b → Gained s t u l b
    rule_gained a = record {
      sound = sound_at u f a.sized a.others (λ x y h e. ⊎_elim (f.live l x y h) (leads_alive t f l x y q r h) (or_cases _ _ (sym (a.exact x y h.first h.used h.second) ∙ e)));
      others = a.others;
      kept = λ x y p o k e. a.exact x y p o k ∙ or_shown _ _ (inl e);
      larger = a.larger;
      same = a.same;
    }

    -- It is settled then.
    rule_settled : TransitionAdded t u l (least s) (transition_at s q) b → Settled s u l b q
    rule_settled a = go b refl
      where
        included : (t' : List ℕ) → ((x y : ℕ) → y ≤ top → leads t' (transition_at s q) x y ≡ leads t (transition_at s q) x y) → t' ≡ u → Included s u l (transition_at s q)
        included t' k z x y p o i e = a.exact x y p o i ∙ or_shown (member t l x y) _ (inr (sym (k x y i) ∙ subst⁻¹ (λ (v : List ℕ). leads v (transition_at s q) x y ≡ true) z e))

        go : (c : Bool) → b ≡ c → Settled s u l b q
        go true e = same_or (byte s (q + 1)) l (λ d. inl (e, d)) (λ ne. inr (included u (λ x y h. leads_other t u a.others (transition_at s q) x y ne h) refl))
        go false e = inr (included t (λ x y h. refl) (sym (a.same e)))

    pub turn_taken : (from set : ℕ) → from ≡ least s → TransitionAdded t u l from (transition_at s q) b → Turn s t u l set q b
    turn_taken from set e a = let z = subst (λ (n : ℕ). TransitionAdded t u l n (transition_at s q) b) e a in record { gained = rule_gained z; settled = λ _. rule_settled z }

  pub turn_left : {t : List ℕ} (l q set : ℕ) → Sound s t → bit set (byte s (q + 1)) ≡ false → Turn s t t l set q false
  turn_left l q set f e = record { gained = gained_refl l f; settled = λ d. absurd (false≢true (sym e ∙ d)) }

  pub turns_begun : {t : List ℕ} (l set p : ℕ) → Sound s t → p ≡ offset s l → Turns s t t l set p false
  turns_begun l set p f e = record { gained = gained_refl l f; settled = λ q r h. absurd (omega (arith, r.after)) }

  module _ {t u w : List ℕ} {l set p : ℕ} {a b : Bool} (r : Place s l p) (f : Turns s t u l set p a) (g : Turn s u w l set p b) where
    pub turns_more : b ≡ true → Turns s t w l set (p + 7) true
    turns_more e = record {
      gained = gained_more f.gained g.gained e;
      settled = λ q h k d. ⊎_elim (λ z. settled_more q g.gained (f.settled q h z d)) (λ z. subst⁻¹ (Settled s w l true) z (subst (λ (c : Bool). Settled s w l c p) e (g.settled (subst (λ (i : ℕ). bit set (byte s (i + 1)) ≡ true) z d)))) (place_before q r h k);
    }

    pub turns_same : b ≡ false → Turns s t w l set (p + 7) a
    turns_same e = record {
      gained = gained_none f.gained g.gained e;
      settled = λ q h k d. ⊎_elim (λ z. gained_same g.gained (λ v. Settled s v l a q) e (f.settled q h z d)) (λ z. subst⁻¹ (Settled s w l a) z (⊎_elim (λ y. absurd (false≢true (sym e ∙ y.0))) inr (g.settled (subst (λ (i : ℕ). bit set (byte s (i + 1)) ≡ true) z d)))) (place_before q r h k);
    }

  pub turns_ended : {t u : List ℕ} {l set p e : ℕ} {b : Bool} → Turns s t u l set p b → e ≤ p → Turns s t u l set e b
  turns_ended f h = record { gained = f.gained; settled = λ q r k d. f.settled q r (omega arith) d }

  pub close_gained : {t u w : List ℕ} {l set e : ℕ} {b : Bool} → b ≡ true → Turns s t u l set e b → e ≡ offset s l + size s l → (from : ℕ) → from ≡ least s → WaitsAdded u w l from → Improved s t w l set true
  close_gained {t} {u} {w} {l} {set} {e} {b} h f₀ d from i a₀ = record {
    gained = record {
      sound = sound_at w f.gained.sound a.sized a.others (λ x y i k. let z = a.only x y i.first i.used i.second k in lives_alive l x y i (waits_lives u f.gained.sound z.0 l x y i z.1));
      others = λ k y ne i. a.others k y ne i ∙ f.gained.others k y ne i;
      kept = λ x y p q o k. kept x y p q o (f.gained.kept x y p q o k);
      larger = λ _. omega (arith, a.grows, f.gained.larger refl);
      same = λ k. absurd (true≢false k);
    };
    settled = λ q r k. ⊎_elim (λ z. inl z) (λ z. same_or (byte s (q + 1)) l (λ i. inl (refl, i)) (λ ne. inr (λ x y p i o j. kept x y p i o (z x y p i o (sym (leads_other u w a.others (transition_at s q) x y ne o) ∙ j))))) (f.settled q r (omega (arith, r.inside)) k);
    ticked = λ x y p q o k. a.all x y p q o (waits_later u l x y (a.only (min (x + 1) top) (min (y + 1) top) (omega arith) (tick_used y q o) (omega arith) k));
  }
    where
      f : Turns s t u l set e true
      f = subst (Turns s t u l set e) h f₀

      a : WaitsAdded u w l (least s)
      a = subst (WaitsAdded u w l) i a₀

      tick_used : (y : ℕ) → least s ≤ y → y ≤ top → least s ≤ min (y + 1) top
      tick_used y q o = omega arith

      kept : (x y : ℕ) → x ≤ top → least s ≤ y → y ≤ top → member u l x y ≡ true → member w l x y ≡ true
      kept x y p q o k = a.all x y p q o (waits_none u l x y p o k)

  pub turns_none : {t u : List ℕ} {l set e : ℕ} {b : Bool} → b ≡ false → Turns s t u l set e b → e ≡ offset s l + size s l → Ticked s t l → Improved s t u l set false
  turns_none {t} {u} {l} {set} {e} {b} h f₀ d k = let f = subst (Turns s t u l set e) h f₀ in record { gained = f.gained; settled = λ q r i. f.settled q r (omega (arith, r.inside)) i; ticked = gained_same f.gained (λ v. Ticked s v l) refl k }

  -- A location with the saturated configuration has every one.
  pub whole_done : {t : List ℕ} {l : ℕ} (set : ℕ) → Sound s t → Ticked s t l → member t l top top ≡ true → Improved s t t l set false
  whole_done {t} {l} set f k e = record { gained = gained_refl l f; settled = λ q r i. inr (λ x y p j o d. closed_whole t l (least s) k e x y p j o); ticked = k }

  -- Where the saturated configuration leads into the rows, every configuration of the location is live.
  module _ {t : List ℕ} {l set e : ℕ} (f : Sound s t) (found : FromSaturated s t l set e true) where
    saturated_lives : (x y : ℕ) → Stands s l x y → alive s l x y ≡ true
    saturated_lives x y g =
        let a : min (x + top) top ≡ top = omega arith in
        let b : min (y + top) top ≡ top = omega arith in
        let z = found.found refl in
        lives_alive l x y g (later_lives top l x y g (λ i. rw (a, b) (let w = rw (a, b) at i in alive_lives l top top w (leads_alive t f l top top z.0 z.1 w z.3))))

    pub fill_gained : {u : List ℕ} → get_or t (l * width + top) 0 < 2 ^ 64 → member t l top top ≡ false → (from : ℕ) → from ≡ least s → LocationFilled t u l from → Improved s t u l set true
    fill_gained {u} lt d from i a₀ = record {
      gained = record {
        sound = sound_at u f a.sized a.others (λ x y g _. saturated_lives x y g);
        others = a.others;
        kept = λ x y p q o k. a.full x y p q o;
        larger = λ _. a.larger (short (get_or t (l * width + top) 0) top lt (omega arith) d);
        same = λ k. absurd (true≢false k);
      };
      settled = λ q r k. inr (λ x y p i o j. a.full x y p i o);
      ticked = λ x y p q o k. a.full x y p q o;
    }
      where
        a : LocationFilled t u l (least s)
        a = subst (LocationFilled t u l) i a₀

  -- ---- Sweeps

  pub sweep_begun : {t : List ℕ} {set l : ℕ} → Unsettled s t set → locations s ≤ l → Sweeping s t t set l 0
  sweep_begun f o = record {
    sound = f.sound;
    full = f.full;
    ticked = f.ticked;
    included = λ k q h r c e. ⊎_elim (λ z. absurd (omega arith)) (f.included k q h r) c;
    grows = omega arith;
    larger = λ n. absurd (n refl);
  }

  -- A location is improved by those that have gained, be it in the last sweep or in this one.
  module _ {t u w : List ℕ} {set more n next : ℕ} {b : Bool} (within : (j : ℕ) → bit set j ≡ true → bit more j ≡ true) (pos : 0 < n) (few : n ≤ locations s) (f : Sweeping s t u set n next) (g : Improved s u w (n - 1) more b) where
    abbrev l : ℕ
    l = n - 1

    h : l < locations s
    h = omega arith

    ticked_next : (k : ℕ) → k < locations s → Ticked s w k
    ticked_next k i = same_or k l (λ e. subst⁻¹ (Ticked s w) e g.ticked) (λ ne. ticked_other g.gained k ne (f.ticked k i))

    full_next : Full s w
    full_next k x y i p j o e = gained_kept g.gained k x y p j o (f.full k x y i p j o e)

    -- Locations of the next set have gained.
    module _ (next' : ℕ) (clear : (j : ℕ) → bit next' j ≡ false → (bit next j ≡ false) × (b ≡ true → j ≡ l → ⊥)) where
      ruled_kept : (k q : ℕ) → bit next' (byte s (q + 1)) ≡ false → Included s u k (transition_at s q) → Included s w k (transition_at s q)
      ruled_kept k q e z = go b refl
        where
          go : (c : Bool) → b ≡ c → Included s w k (transition_at s q)
          go true d = ruled_on g.gained k (transition_at s q) ((clear (byte s (q + 1)) e).1 d) z
          go false d = gained_same g.gained (λ v. Included s v k (transition_at s q)) d z

      ruled_here : (q : ℕ) → Place s l q → bit next' (byte s (q + 1)) ≡ false → Included s w l (transition_at s q)
      ruled_here q r e = go (bit set (byte s (q + 1))) refl
        where
          go : (c : Bool) → bit set (byte s (q + 1)) ≡ c → Included s w l (transition_at s q)
          go true d = ⊎_elim (λ z. absurd ((clear (byte s (q + 1)) e).1 z.0 z.1)) (λ z. z) (g.settled q r (within (byte s (q + 1)) d))
          go false d = ruled_kept l q e (f.included l q h r (inr d) (clear (byte s (q + 1)) e).0)

      ruled_next : (k q : ℕ) → k < locations s → Place s k q → (l ≤ k) ⊎ (bit set (byte s (q + 1)) ≡ false) → bit next' (byte s (q + 1)) ≡ false → Included s w k (transition_at s q)
      ruled_next k q i r c e = same_or k l (λ d. subst⁻¹ (λ (j : ℕ). Included s w j (transition_at s q)) d (ruled_here q (subst (λ (j : ℕ). Place s j q) d r) e)) (λ ne. ruled_kept k q e (f.included k q i r (⊎_elim (λ z. inl (omega arith)) inr c) (clear (byte s (q + 1)) e).0))

    pub sweep_none : b ≡ false → Sweeping s t w set (n - 1) next
    sweep_none e = record {
      sound = g.gained.sound;
      full = full_next;
      ticked = ticked_next;
      included = ruled_next next (λ j d. (d, λ z. absurd (false≢true (sym e ∙ z))));
      grows = rw (g.gained.same e) f.grows;
      larger = λ n. rw (g.gained.same e) (f.larger n);
    }

    pub sweep_more : (next' : ℕ) → b ≡ true → Added next (n - 1) next' → Sweeping s t w set (n - 1) next'
    sweep_more next' e a = record {
      sound = g.gained.sound;
      full = full_next;
      ticked = ticked_next;
      included = ruled_next next' clear;
      grows = omega (arith, f.grows, g.gained.larger e);
      larger = λ n. omega (arith, f.grows, g.gained.larger e);
    }
      where
        clear : (j : ℕ) → bit next' j ≡ false → (bit next j ≡ false) × (b ≡ true → j ≡ l → ⊥)
        clear j d = go (eqb j l) refl (bit next j) refl (sym (a.bits j) ∙ d)
          where
            go : (c : Bool) → eqb j l ≡ c → (o : Bool) → bit next j ≡ o → (c || o) ≡ false → (bit next j ≡ false) × (b ≡ true → j ≡ l → ⊥)
            go true x o y z = absurd (true≢false z)
            go false x true y z = absurd (true≢false z)
            go false x false y z = (y, λ _ k. eqb-false j l x k)

  pub sweep_ended : {t u : List ℕ} {set l next : ℕ} → Sweeping s t u set l next → l ≤ 0 → Swept s t u next
  sweep_ended f h = record {
    pending = record { sound = f.sound; full = f.full; ticked = f.ticked; included = λ k q i r e. f.included k q i r (inl (omega arith)) e };
    grows = f.grows;
    larger = f.larger;
  }

  -- ---- The first rows

  module _ {u : List ℕ} (f : Filled (replicate all_rows 0) u (word s 4)) where
    filled_only : (l x y : ℕ) → y ≤ top → member u l x y ≡ true → accepting s l ≡ true
    filled_only l x y h e = go (accepting s l) refl
      where
        go : (b : Bool) → accepting s l ≡ b → b ≡ true
        go true d = refl
        go false d = absurd (false≢true (sym (f.other l x y h d ∙ ap (λ (n : ℕ). bit n x) (zero_at all_rows (l * width + y)) ∙ bit_none x) ∙ e))

    filled_full : Full s u
    filled_full l x y h p j o e = f.full l x y h p o e

    few : {l : ℕ} → l < locations s → l < max_count
    few h = omega (arith, (header s loads).locations_fit)

    first_pending : Unsettled s u (word s 4)
    unfolding leads
    first_pending = record {
      sound = record { sized = f.sized ∙ length-replicate {A = ℕ} all_rows 0; live = λ l x y h e. lives_alive l x y h (here (filled_only l x y h.second e)) };
      full = filled_full;
      ticked = λ l h x y p q o e. filled_full l x y (few h) p q o (filled_only l (min (x + 1) top) (min (y + 1) top) (omega arith) e);
      included = λ l q h r e x y p j o d. absurd (false≢true (sym e ∙ filled_only (byte s (q + 1)) (kept_first (transition_at s q) x) (kept_second (transition_at s q) y) (cond_most (bit (byte s (q + 2)) 1) y top o) (and_cases (enabled (transition_at s q) x y) _ d).1));
    }

  pub filled_pending : {u : List ℕ} (v : ℕ) → v ≡ word s 4 → Filled (replicate all_rows 0) u v → Unsettled s u v
  filled_pending {u} v e f = subst⁻¹ (Unsettled s u) e (first_pending (subst (Filled (replicate all_rows 0) u) e f))

  -- ---- The last rows

  abbrev holds : List ℕ → Configuration → Bool
  holds t p = member t p.location p.x p.y

  abbrev Stood : Configuration → Type 0
  Stood p = Stands s p.location p.x p.y

  first_stands : (ts : List Transition) → AllFit s ts → (c : ℕ) (p q : Configuration) → Stood p → fire_first ts c p ≡ some q → Stood q
  unfolding fire_first
  first_stands [] f c p q h e = let z : ◌≡◌ {A = ℕ} 0 1 = cc in absurd (omega arith)
  first_stands (u ∷ ts) f c p q h e = go (eqb u.action c && enabled u p.x p.y) e (first_stands ts f.1 c p q h)
    where
      go : (b : Bool) → cond b (some (fire u p)) (fire_first ts c p) ≡ some q → (fire_first ts c p ≡ some q → Stood q) → Stood q
      go true x k = subst Stood (let y : fire u p ≡ q = cc in y) (fire_stands f.0 h)
      go false x k = k x

  step_stands : (c : ℕ) (p q : Configuration) → Stood p → step s c p ≡ some q → Stood q
  unfolding step Bounded
  step_stands c p q h e = first_stands (transitions s p.location) (bounded s loads p.location) c p q h e

  first_holds : (t : List ℕ) (c : ℕ) (p q : Configuration) (ts : List Transition) → Stood p → Every (Included s t p.location) ts → fire_first ts c p ≡ some q → holds t q ≡ true → holds t p ≡ true
  unfolding fire_first leads
  first_holds t c p q [] h f e k = let z : ◌≡◌ {A = ℕ} 0 1 = cc in absurd (omega arith)
  first_holds t c p q (u ∷ ts) h f e k = go (eqb u.action c && enabled u p.x p.y) refl e (first_holds t c p q ts h f.1)
    where
      go : (b : Bool) → (eqb u.action c && enabled u p.x p.y) ≡ b → cond b (some (fire u p)) (fire_first ts c p) ≡ some q → (fire_first ts c p ≡ some q → holds t q ≡ true → holds t p ≡ true) → holds t p ≡ true
      go true x y z = f.0 p.x p.y h.first h.used h.second (true_and (and_cases (eqb u.action c) (enabled u p.x p.y) x).1 (ap (holds t) (let d : fire u p ≡ q = cc in d) ∙ k))
      go false x y z = z y k

  -- Rows that nothing can still join have all that is live.
  module _ {t : List ℕ} (f : Unsettled s t 0) where
    closed_holds : (p : Configuration) → Live (step s) (accepting s) (actions s) p → Stood p → holds t p ≡ true
    unfolding step
    closed_holds p (here {p = z} e) h = f.full z.location z.x z.y (omega (arith, h.in_sheet, (header s loads).locations_fit)) h.first h.used h.second e
    closed_holds p (tick {p = z} g) h = f.ticked z.location h.in_sheet z.x z.y h.first h.used h.second (closed_holds (advance 1 z) g (later_stands 1 h))
    closed_holds p (act {p = z} {q = q} c b e g) h =
        first_holds t c z q (transitions s z.location) h (places_every s loads z.location h.in_sheet (Included s t z.location) (λ i r. f.included z.location i h.in_sheet r (bit_none (byte s (i + 1))))) e (closed_holds q g (step_stands c z q h e))

    rows_right : LiveSet s t
    rows_right = record { sized = f.sound.sized; fits = (header s loads).locations_fit; ticked = f.ticked; right = λ l r h. go l r h (member t l (get_or r 0 0) (get_or r 1 0)) refl ((compile s).live (located l r)) refl }
      where
        go : (l : ℕ) (r : List ℕ) → Standing s l r → (a : Bool) → member t l (get_or r 0 0) (get_or r 1 0) ≡ a → (b : Bool) → (compile s).live (located l r) ≡ b → a ≡ b
        go l r h true e b k = sym (f.sound.live l (get_or r 0 0) (get_or r 1 0) (standing_stands h) e) ∙ k
        go l r h false e false k = refl
        go l r h false e true k = sym e ∙ closed_holds (located l r) (alive_lives l (get_or r 0 0) (get_or r 1 0) (standing_stands h) k) (standing_stands h)

  pub sweeps_ended : {t : List ℕ} {set : ℕ} → Unsettled s t set → set ≡ 0 → LiveSet s t
  sweeps_ended {t} f e = rows_right (subst (Unsettled s t) e f)

  -- A sweep, and one more after it, come nearer to the end.
  pub sweep_less : {t u : List ℕ} {next : ℕ} (set : ℕ) → Swept s t u next → (set ≡ 0 → ⊥) → slack u + min next 1 < slack t + min set 1
  sweep_less {t} {u} {next} set f n = same_or next 0 (λ e. omega (arith, f.grows)) (λ ne. omega (arith, f.larger ne))

-- ---- The table

pub least_most : (one : Bool) → least_of one ≤ top
least_most true = omega arith
least_most false = omega arith

-- Counts of the live set are the table.
pub table_counted : {s : Bytes} {t : List ℕ} (counts : List ℕ) (n from : ℕ) → LiveSet s t → n ≡ locations s → from ≡ least s → Counted t counts n from → LiveTable s counts
table_counted {s} counts n from f e g c = record {
  sized = c.sized;
  fits = f.fits;
  right = λ l r h. let z = standing_stands h in c.right l (get_or r 0 0) (get_or r 1 0) (omega (arith, z.in_sheet)) z.first (omega (arith, z.used)) z.second ∙ f.right l r h;
  rest = λ j k. c.rest j (λ l h z. k l (z.0 ∷ z.1 ∷ []) (standing l z.0 z.1 (omega arith) z.2 (omega (arith, z.3)) z.4) z.5);
}
  where
    standing : (l x y : ℕ) → l < locations s → x ≤ top → least s ≤ y → y ≤ top → Standing s l (x ∷ y ∷ [])
    standing l x y h p q o = record { in_sheet = h; readings = record { two = refl; first = p; second = o }; one_clock = λ d. let z = rw (eq-eqb (clocks s) 1 d) at q in omega arith }

pub table_closed : {s : Bytes} {t : List ℕ} (n from : ℕ) → LiveSet s t → n ≡ locations s → from ≡ least s → (l : ℕ) → l < n → Closed t from l
table_closed n from f e g l h = rw g (f.ticked l (omega arith))
