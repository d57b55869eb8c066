-- Laws of sets of configurations: a transition into the rows of its target, and the loop over a location's transitions.
-- Assumes nothing.
use mathlib.Core.Path.{◌≡◌, refl, ap, sym, ◌∙◌, subst}
use mathlib.Core.Bool.{Bool, true, false, cond, false≢true}
use mathlib.Core.List.{List, ◌∷◌}
use mathlib.Core.Logic.{◌⊎◌, inl, inr, ⊎_elim, ◌↔◌}
use Prim.Native.Nat.{ℕ, ◌+◌, ◌*◌, ◌/◌, ◌%◌, ◌^◌, ◌≤◌, ◌<◌, ◌-◌}
use native.Mathlib.Omega.{arith}
use native.Mathlib.Nat.{one-mul, mul-le-mul_right}
use lib.Dec.{eqb}
use lib.ListN.{length, get_or, take, drop}
use lib.Pow.{shl_exact}
use lib.Bits.{bit_or}
use borrow.Author.Tests.{eqb-true, eqb-false}
use borrow.Rule.Slice.PartMut.{put_mid}
use Rattle.enforcement.specs.Limits.{max_count}
use Rattle.enforcement.specs.Automaton.{Bytes, Transition, byte, word, transition_at, transitions_from, transitions, clocks, locations}
use Rattle.enforcement.specs.Loading.{WellFormed, Fits, AllFit}
use Rattle.enforcement.specs.TimedWord.{Configuration}
use Rattle.enforcement.specs.Model.{width}
use Rattle.enforcement.proofs.Loading.{header}
use Rattle.enforcement.proofs.Pairs.{transitions_known}
use Rattle.retimer.proofs.Transitions.{begun_at, next}
use Rattle.retimer.specs.Row.{In}
use Rattle.retimer.specs.Sets.{height, Led, Fires, Fired, Marked, Whole, Leads, Plays, FiredInto, PlayedAt}
use Rattle.retimer.specs.Steps.{One}
use Rattle.enforcement.proofs.Bits.{none_in, in_or, power_in}
use Rattle.retimer.proofs.sets.Waiting.{in_same}
use Rattle.retimer.proofs.sets.Parts.{rows_end, part_length, part_at, part_narrow, put_length, put_at, put_narrow, put_other}

-- Configurations by their parts.
pub point : {l m x y z w : ℕ} → l ≡ m → x ≡ y → z ≡ w → ◌≡◌ {A = Configuration} (record { location = l; x = x; y = z }) (record { location = m; x = y; y = w })
point e f g = λ i. record { location = e i; x = f i; y = g i }

-- ---- How many rows

pub height_most : (s : Bytes) → (1 ≤ height s) × (height s ≤ width)
height_most s = go (eqb (clocks s) 1)
  where
    go : (b : Bool) → (1 ≤ cond b 1 width) × (cond b 1 width ≤ width)
    go true = (omega arith, omega arith)
    go false = (omega arith, omega arith)

-- The rows of a location lie in a set, and their places are small numbers.
pub rows_inside : (s : Bytes) (set : List ℕ) (t h : ℕ) → WellFormed s → Whole s set → t < locations s → h ≡ height s → (t * h + h ≤ length set) × (length set ≤ max_count * width)
rows_inside s set t h loads w l e =
    let a = rows_end h l in
    let b : locations s * h ≤ max_count * h = mul-le-mul_right h (header s loads).locations_fit in
    let c : max_count * h ≤ max_count * width = omega (arith, (height_most s).1) in
    let d : length set ≡ locations s * h = w.sized ∙ ap (λ (n : ℕ). locations s * n) (sym e) in
    (omega arith, omega arith)

-- ---- One transition

module _ (s : Bytes) (p : ℕ) (src nxt : List ℕ) (t : ℕ) (q : Plays s src nxt) (f : Fits s (transition_at s p)) (e : t ≡ byte s (p + 1)) where
  pub target_small : t < max_count
  target_small = omega (arith, f.target_fits, (header s q.loads).locations_fit)

  pub into_fits : (t * length src + length src ≤ length nxt) × (length nxt ≤ max_count * width)
  into_fits = rows_inside s nxt t (length src) q.loads q.target (omega (arith, f.target_fits)) q.source

  module _ (k : ℕ) (same : k ≡ length src) where
    a : ℕ
    a = t * length src

    inside : a + k ≤ length nxt
    unfolding a
    inside = omega (arith, into_fits.0)

    pub into_asked : p + 7 ≤ length s → Fires s p src (take k (drop (t * length src) nxt))
    unfolding a
    into_asked l = record {
      inside = l;
      fits = f;
      source = q.source;
      readings = q.readings;
      target = part_length nxt a k inside ∙ same ∙ q.source;
      narrow = part_narrow nxt a k inside q.target.narrow;
    }

    module _ (new : List ℕ) (b : Bool) (r : Fired (transition_at s p) src (take k (drop (t * length src) nxt)) new b) where
      new_length : length new ≡ k
      unfolding a
      new_length = r.sized ∙ part_length nxt a k inside

      whole : Whole s (put_mid (t * length src) k nxt new)
      unfolding a
      whole = record { sized = put_length nxt a k inside new new_length ∙ q.target.sized; narrow = put_narrow nxt a k inside new new_length q.target.narrow r.narrow }

      gained : (m x i : ℕ) → i < height s → Marked (height s) (put_mid (t * length src) k nxt new) m x i ↔ (Marked (height s) nxt m x i ⊎ ((m ≡ byte s (p + 1)) × Led (transition_at s p) src x i))
      unfolding a
      gained m x i l = rw (← q.source) (go (eqb m t) refl)
        where
          less : i < k
          less = omega (arith, q.source, l)

          here : get_or (put_mid a k nxt new) (a + i) 0 ≡ get_or new i 0
          here = put_at nxt a k inside new new_length i less

          old : get_or (take k (drop a nxt)) i 0 ≡ get_or nxt (a + i) 0
          old = part_at nxt a k inside i less

          go : (c : Bool) → eqb m t ≡ c → Marked (length src) (put_mid a k nxt new) m x i ↔ (Marked (length src) nxt m x i ⊎ ((m ≡ byte s (p + 1)) × Led (transition_at s p) src x i))
          go true z =
              let y = eqb-true m t z in
              rw (y, here) (
                λ n. ⊎_elim (λ w. inl (in_same x old w)) (λ w. inr (e, w)) ((r.right x i).0 n),
                λ n. (r.right x i).1 (⊎_elim (λ w. inl (in_same x (sym old) w)) (λ w. inr w.1) n),
              )
          go false z =
              let y = eqb-false m t z in
              rw (put_other nxt t (length src) k inside same new new_length m i (omega arith) y)
              (inl, λ n. ⊎_elim (λ w. w) (λ w. absurd (y (w.0 ∙ sym e))) n)

      pub into_some : b ≡ true → FiredInto s (transition_at s p) src nxt (put_mid (t * length src) k nxt new) ((1 * 2 ^ t) % 2 ^ 16)
      into_some y = record {
        whole = whole;
        right = gained;
        some = λ m. let z : (1 * 2 ^ t) % 2 ^ 16 ≡ 2 ^ t = shl_exact 1 t 16 (omega arith) (omega (arith, target_small)) ∙ one-mul (2 ^ t) in
            rw z (λ n. ((power_in t m).0 n ∙ e, r.some.0 y), λ n. (power_in t m).1 (n.0 ∙ sym e));
      }

      pub into_none : b ≡ false → FiredInto s (transition_at s p) src nxt (put_mid (t * length src) k nxt new) 0
      into_none y = record {
        whole = whole;
        right = gained;
        some = λ m. (λ n. absurd (none_in m n), λ n. absurd (false≢true (sym y ∙ r.some.1 n.1)));
      }

-- ---- The loop over a location's transitions

-- The transitions at places p up to e are left: with what they lead to the set has all that the action leads to.
pub record Playing (s : Bytes) (c l : ℕ) (src first nxt : List ℕ) (found p e : ℕ) : Type 0 where
  pub before : p ≤ e
  pub inside : e ≤ length s
  pub multiple : (e - p) % 7 ≡ 0
  pub fit : AllFit s (transitions_from s ((e - p) / 7) p)
  pub whole : Whole s nxt
  pub right : (t x i : ℕ) → i < height s → (Marked (height s) first t x i ⊎ One (Leads c src t x i) (transitions s l)) ↔ (Marked (height s) nxt t x i ⊎ One (Leads c src t x i) (transitions_from s ((e - p) / 7) p))
  pub some : (t : ℕ) → ((x : ℕ) × (i : ℕ) × One (Leads c src t x i) (transitions s l)) ↔ (In t found ⊎ ((x : ℕ) × (i : ℕ) × One (Leads c src t x i) (transitions_from s ((e - p) / 7) p)))

pub playing_begun : (s : Bytes) (c l : ℕ) (src first : List ℕ) (v n : ℕ) → Plays s src first → l < locations s → v ≡ word s (6 + 4 * l) → n ≡ word s (6 + 4 * l + 2) → Playing s c l src first first 0 v (v + n)
playing_begun s c l src first v n q k d f =
    let m = begun_at s c l 0 0 l v n q.loads k refl d f in
    let z : (v + n - v) / 7 ≡ n / 7 = omega arith in
    let b : 6 + 4 * l + 2 ≡ 8 + 4 * l = omega arith in
    let all : transitions_from s ((v + n - v) / 7) v ≡ transitions s l = rw (z, f ∙ ap (word s) b, d) (sym (transitions_known s l k)) in
    record {
      before = m.before;
      inside = m.inside;
      multiple = m.whole;
      fit = m.fit;
      whole = q.target;
      right = λ t x i h. rw all (λ w. w, λ w. w);
      some = λ t. rw all (inr, λ w. ⊎_elim (λ y. absurd (none_in t y)) (λ y. y) w);
    }

module _ {s : Bytes} {c l : ℕ} {src first nxt : List ℕ} {found p e : ℕ} (m : Playing s c l src first nxt found p e) where
  rest : p < e → transitions_from s ((e - p) / 7) p ≡ transition_at s p ∷ transitions_from s ((e - (p + 7)) / 7) (p + 7)
  rest h = next s p e h m.multiple

  pub playing_fits : p < e → Fits s (transition_at s p)
  playing_fits h = let w : AllFit s (transition_at s p ∷ transitions_from s ((e - (p + 7)) / 7) (p + 7)) = rw (rest h) at m.fit in w.0

  fits_after : p < e → AllFit s (transitions_from s ((e - (p + 7)) / 7) (p + 7))
  fits_after h = let w : AllFit s (transition_at s p ∷ transitions_from s ((e - (p + 7)) / 7) (p + 7)) = rw (rest h) at m.fit in w.1

  -- What is left but the transition at p.
  abbrev after : List Transition
  after = transitions_from s ((e - (p + 7)) / 7) (p + 7)

  right_here : p < e → (t x i : ℕ) → i < height s → (Marked (height s) first t x i ⊎ One (Leads c src t x i) (transitions s l)) ↔ (Marked (height s) nxt t x i ⊎ (Leads c src t x i (transition_at s p) ⊎ One (Leads c src t x i) after))
  right_here h t x i k = rw (rest h) at (m.right t x i k)

  some_here : p < e → (t : ℕ) → ((x : ℕ) × (i : ℕ) × One (Leads c src t x i) (transitions s l)) ↔ (In t found ⊎ ((x : ℕ) × (i : ℕ) × (Leads c src t x i (transition_at s p) ⊎ One (Leads c src t x i) after)))
  some_here h t = rw (rest h) at (m.some t)

  -- The transition at p is for another action.
  pub playing_passed : p < e → (byte s p ≡ c → ⊥) → Playing s c l src first nxt found (p + 7) e
  playing_passed h z = record {
    before = omega (arith, m.multiple);
    inside = m.inside;
    multiple = omega (arith, m.multiple);
    fit = fits_after h;
    whole = m.whole;
    right = λ t x i k. let r = right_here h t x i k in
        (λ w. ⊎_elim inl (λ y. inr (⊎_elim (λ v. absurd (z v.0)) (λ v. v) y)) (r.0 w), λ w. r.1 (⊎_elim inl (λ y. inr (inr y)) w));
    some = λ t. let r = some_here h t in
        (λ w. ⊎_elim inl (λ y. inr (y.0, y.1, ⊎_elim (λ v. absurd (z v.0)) (λ v. v) y.2)) (r.0 w), λ w. r.1 (⊎_elim inl (λ y. inr (y.0, y.1, inr y.2)) w));
  }

  -- It is for the action.
  pub playing_taken : (new : List ℕ) (v : ℕ) → p < e → byte s p ≡ c → FiredInto s (transition_at s p) src nxt new v → Playing s c l src first new (bit_or found v) (p + 7) e
  playing_taken new v h z f = record {
    before = omega (arith, m.multiple);
    inside = m.inside;
    multiple = omega (arith, m.multiple);
    fit = fits_after h;
    whole = f.whole;
    right = λ t x i k. let r = right_here h t x i k in let g = f.right t x i k in (
      λ w. ⊎_elim (λ y. inl (g.1 (inl y))) (λ y. ⊎_elim (λ n. inl (g.1 (inr (n.1, n.2)))) inr y) (r.0 w),
      λ w. r.1 (⊎_elim (λ y. ⊎_elim inl (λ n. inr (inl (z, n.0, n.1))) (g.0 y)) (λ y. inr (inr y)) w),
    );
    some = λ t. let r = some_here h t in let g = f.some t in let o = in_or found v t in (
      λ w. ⊎_elim (λ y. inl (o.1 (inl y))) (λ y. ⊎_elim (λ n. inl (o.1 (inr (g.1 (n.1, (y.0, y.1, n.2)))))) (λ n. inr (y.0, y.1, n)) y.2) (r.0 w),
      λ w. r.1 (⊎_elim (λ y. ⊎_elim inl (λ n. let d = g.0 n in inr (d.1.0, d.1.1, inl (z, d.0, d.1.2))) (o.0 y)) (λ y. inr (y.0, y.1, inr y.2)) w),
    );
  }

  pub played_at : e ≤ p → PlayedAt s c l src first nxt found
  played_at h =
      let z : (e - p) / 7 ≡ 0 = omega arith in
      record {
        whole = m.whole;
        right = λ t x i k. let r = m.right t x i k in (λ w. r.1 (inl w), λ w. ⊎_elim (λ y. y) (λ y. absurd (empty z t x i y)) (r.0 w));
        some = λ t. let r = m.some t in (λ w. r.1 (inl w), λ w. ⊎_elim (λ y. y) (λ y. absurd (empty z t y.0 y.1 y.2)) (r.0 w));
      }
    where
      empty : (e - p) / 7 ≡ 0 → (t x i : ℕ) → One (Leads c src t x i) (transitions_from s ((e - p) / 7) p) → ⊥
      empty z t x i w = subst (λ (n : ℕ). One (Leads c src t x i) (transitions_from s n p)) z w
