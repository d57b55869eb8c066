-- A reason is answered exactly when its condition holds and no earlier one does, and what two sheets without one are.
-- Assumes nothing.
use mathlib.Core.Path.{◌≡◌, refl, sym, ap, ◌∙◌, subst}
use mathlib.Core.Bool.{Bool, true, false, ◌&&◌}
use mathlib.Core.List.{List, [], ◌∷◌, ◌++◌, map}
use mathlib.Core.Logic.{◌⊎◌, inl, inr, ◌↔◌}
use Prim.Native.Nat.{ℕ, ◌+◌, ◌*◌, ◌≤◌, ◌<◌}
use native.Mathlib.Nat.{eq-or-lt_of_le}
use native.Mathlib.Omega.{arith}
use lib.Dec.{leb, eqb}
use lib.ListN.{length, get_or}
use Rattle.enforcement.specs.Limits.{max_count, max_transitions, max_size}
use Rattle.enforcement.specs.Automaton.{Bytes, locations, clocks, actions}
use Rattle.enforcement.specs.Reason.{Reason, i_1, i_2, i_3, i_4, i_5, i_6, i_7, i_8, s_1, s_2, s_3, s_4, s_5}
use Rattle.enforcement.specs.Reason as reason
use Rattle.enforcement.specs.Loading.{WellFormed, Counts, Checked}
use Rattle.enforcement.specs.Loading as loading
use Rattle.enforcement.proofs.Tests.{Finds, leb_finds, eqb_tests, both_finds, finds_not, sure}
use Rattle.enforcement.proofs.Loading as loaded
use Rattle.product.specs.Product.{product_transitions, joined, Joinable}
use Rattle.product.specs.Joining.{Refusal, number, Named, i_9, i_12, i_13, i_14, of_first, of_second, Holds, rank, Given, Joins, Outcome, written, refused, unless, own, fitting, answer, CheckRight}

-- ---- The order

-- A sheet's own reasons are numbered from 1 to 13.
range : (r : Reason) → (1 ≤ reason.number r) × (reason.number r ≤ 13)
range i_1 = (omega arith, omega arith)
range i_2 = (omega arith, omega arith)
range i_3 = (omega arith, omega arith)
range i_4 = (omega arith, omega arith)
range i_5 = (omega arith, omega arith)
range i_6 = (omega arith, omega arith)
range i_7 = (omega arith, omega arith)
range i_8 = (omega arith, omega arith)
range s_1 = (omega arith, omega arith)
range s_2 = (omega arith, omega arith)
range s_3 = (omega arith, omega arith)
range s_4 = (omega arith, omega arith)
range s_5 = (omega arith, omega arith)

-- A reason by its rank.
abbrev reasons : List Reason
reasons = i_1 ∷ i_2 ∷ i_3 ∷ i_4 ∷ i_5 ∷ i_6 ∷ i_7 ∷ i_8 ∷ s_1 ∷ s_2 ∷ s_3 ∷ s_4 ∷ s_5 ∷ []

abbrev ranked : ℕ → Refusal
ranked n = get_or (i_9 ∷ (map of_first reasons ++ (map of_second reasons ++ i_12 ∷ i_13 ∷ i_14 ∷ []))) n i_9

ranked_first : (r : Reason) → ranked (reason.number r) ≡ of_first r
ranked_first i_1 = refl
ranked_first i_2 = refl
ranked_first i_3 = refl
ranked_first i_4 = refl
ranked_first i_5 = refl
ranked_first i_6 = refl
ranked_first i_7 = refl
ranked_first i_8 = refl
ranked_first s_1 = refl
ranked_first s_2 = refl
ranked_first s_3 = refl
ranked_first s_4 = refl
ranked_first s_5 = refl

ranked_second : (r : Reason) → ranked (13 + reason.number r) ≡ of_second r
ranked_second i_1 = refl
ranked_second i_2 = refl
ranked_second i_3 = refl
ranked_second i_4 = refl
ranked_second i_5 = refl
ranked_second i_6 = refl
ranked_second i_7 = refl
ranked_second i_8 = refl
ranked_second s_1 = refl
ranked_second s_2 = refl
ranked_second s_3 = refl
ranked_second s_4 = refl
ranked_second s_5 = refl

ranked_rank : (r : Refusal) → ranked (rank r) ≡ r
ranked_rank i_9 = refl
ranked_rank (of_first r) = ranked_first r
ranked_rank (of_second r) = ranked_second r
ranked_rank i_12 = refl
ranked_rank i_13 = refl
ranked_rank i_14 = refl

rank_same : (q r : Refusal) → rank q ≡ rank r → q ≡ r
rank_same q r e = sym (ranked_rank q) ∙ ap ranked e ∙ ranked_rank r

-- A sheet that the check accepts has no refusal of its own.
accepted_formed : (s : Bytes) (k : Counts) → loading.check s 0 ≡ loading.accepted k → WellFormed s
accepted_formed s k e = elim (loaded.check_right s 0).one_of [ inl h ↦ loaded.check_loads s 0 h | inr h ↦ let f = h.1 in let z : ◌≡◌ {A = ℕ} 0 1 = cc in absurd (omega arith) ]

module _ (m : ℕ) (s u : Bytes) where
  -- No condition ranked below k holds.
  abbrev Clean : ℕ → Type 0
  Clean k = (q : Refusal) → rank q < k → Holds m s u q → ⊥

  -- What an outcome says of the conditions.
  abbrev Right : Outcome → Type 0
  Right (written n) = (n ≡ length (joined s u)) × Joins m s u
  Right (refused r) = Given m s u r

  -- ---- From one test to the next

  clean_none : Clean 0
  clean_none q l x = omega arith

  -- Each sheet's own reasons do not hold once it loads.
  clean_first : Clean 1 → WellFormed s → Clean 14
  unfolding Holds
  clean_first c h i_9 l x = c i_9 (omega arith) x
  clean_first c h (of_first r) l x = h r x
  clean_first c h (of_second r) l x = omega (arith, range r)
  clean_first c h i_12 l x = omega arith
  clean_first c h i_13 l x = omega arith
  clean_first c h i_14 l x = omega arith

  clean_second : Clean 14 → WellFormed u → Clean 27
  unfolding Holds
  clean_second c h i_9 l x = c i_9 (omega arith) x
  clean_second c h (of_first r) l x = c (of_first r) (omega (arith, range r)) x
  clean_second c h (of_second r) l x = h r x
  clean_second c h i_12 l x = omega arith
  clean_second c h i_13 l x = omega arith
  clean_second c h i_14 l x = omega arith

  -- A sheet's own reason that comes first for it comes first of all.
  given_first : (r : Reason) → Clean 1 → loading.Given r s 0 → Given m s u (of_first r)
  unfolding Holds
  given_first r c g = record { holds = g.holds; none_earlier = earlier }
    where
      earlier : Clean (reason.number r)
      earlier i_9 l x = c i_9 (omega arith) x
      earlier (of_first q) l x = g.none_earlier q l x
      earlier (of_second q) l x = omega (arith, range r)
      earlier i_12 l x = omega (arith, range r)
      earlier i_13 l x = omega (arith, range r)
      earlier i_14 l x = omega (arith, range r)

  given_second : (r : Reason) → Clean 14 → loading.Given r u 0 → Given m s u (of_second r)
  unfolding Holds
  given_second r c g = record { holds = g.holds; none_earlier = earlier }
    where
      earlier : Clean (13 + reason.number r)
      earlier i_9 l x = c i_9 (omega arith) x
      earlier (of_first q) l x = c (of_first q) (omega (arith, range q)) x
      earlier (of_second q) l x = g.none_earlier q (omega arith) x
      earlier i_12 l x = omega (arith, range r)
      earlier i_13 l x = omega (arith, range r)
      earlier i_14 l x = omega (arith, range r)

  -- ---- The tests, in order

  right_unless : (b : Bool) (r : Refusal) (o : Outcome) → Finds b (Holds m s u r) → Clean (rank r) → (b ≡ true → Right o) → Right (unless b r o)
  right_unless true r o f c h = h refl
  right_unless false r o f c h = record { holds = f.fails refl; none_earlier = c }

  -- A test passed: the conditions up to its own do not hold.
  clean_next : (r : Refusal) → Clean (rank r) → (Holds m s u r → ⊥) → Clean (1 + rank r)
  clean_next r c h q l x = elim (eq-or-lt_of_le {n = rank q} {m = rank r} (omega arith)) [ inl e ↦ h (subst (Holds m s u) (rank_same q r e) x) | inr e ↦ c q e x ]

  right_first : (k : Checked) (o : Outcome) → loading.check s 0 ≡ k → Clean 1 → (WellFormed s → Right o) → Right (own of_first k o)
  right_first (loading.accepted n) o e c h = h (accepted_formed s n e)
  right_first (loading.refused r) o e c h = given_first r c (((loaded.check_right s 0).refuses r).0 e)

  right_second : (k : Checked) (o : Outcome) → loading.check u 0 ≡ k → Clean 14 → (WellFormed u → Right o) → Right (own of_second k o)
  right_second (loading.accepted n) o e c h = h (accepted_formed u n e)
  right_second (loading.refused r) o e c h = given_second r c (((loaded.check_right u 0).refuses r).0 e)

  same_finds : Finds (eqb m max_size) (Holds m s u i_9)
  unfolding Holds
  same_finds = finds_not (eqb_tests m max_size)

  actions_finds : Finds (eqb (actions s) (actions u)) (Holds m s u i_12)
  unfolding Holds
  actions_finds = finds_not (eqb_tests (actions s) (actions u))

  size_finds : Finds (leb (clocks s + clocks u) 2 && leb (locations s * locations u) max_count) (Holds m s u i_13)
  unfolding Holds
  size_finds = both_finds (leb_finds (clocks s + clocks u) 2) (leb_finds (locations s * locations u) max_count)

  transitions_finds : Finds (leb (length (product_transitions s u)) max_transitions) (Holds m s u i_14)
  unfolding Holds
  transitions_finds = leb_finds (length (product_transitions s u)) max_transitions

  -- Nothing is ranked above I-14.
  all_clean : Clean 30 → Joins m s u
  all_clean c r = c r (highest r)
    where
      highest : (q : Refusal) → rank q < 30
      highest i_9 = omega arith
      highest (of_first q) = omega (arith, range q)
      highest (of_second q) = omega (arith, range q)
      highest i_12 = omega arith
      highest i_13 = omega arith
      highest i_14 = omega arith

  fitting_right : Clean 27 → Right (fitting s u)
  unfolding fitting
  fitting_right c12 =
      right_unless (eqb (actions s) (actions u)) i_12 _ actions_finds c12 λ a.
      let c13 : Clean 28 = clean_next i_12 c12 (actions_finds.passes a) in
      right_unless (leb (clocks s + clocks u) 2 && leb (locations s * locations u) max_count) i_13 _ size_finds c13 λ b.
      let c14 : Clean 29 = clean_next i_13 c13 (size_finds.passes b) in
      right_unless (leb (length (product_transitions s u)) max_transitions) i_14 _ transitions_finds c14 λ d.
      (refl, all_clean (clean_next i_14 c14 (transitions_finds.passes d)))

  answer_right : Right (answer m s u)
  unfolding answer
  answer_right =
      right_unless (eqb m max_size) i_9 _ same_finds clean_none λ a.
      let c : Clean 1 = clean_next i_9 clean_none (same_finds.passes a) in
      right_first (loading.check s 0) _ refl c λ f.
      right_second (loading.check u 0) _ refl (clean_first c f) λ g.
      fitting_right (clean_second (clean_first c f) g)

  -- There is one answer.
  one_given : (q r : Refusal) → Given m s u q → Given m s u r → q ≡ r
  one_given q r x y =
      let a : ¬ (rank q < rank r) = λ l. y.none_earlier q l x.holds in
      let b : ¬ (rank r < rank q) = λ l. x.none_earlier r l y.holds in
      rank_same q r (omega arith)

  refuses_back : (o : Outcome) → Right o → (r : Refusal) → Given m s u r → o ≡ refused r
  refuses_back (written n) h r g = absurd (h.1 r g.holds)
  refuses_back (refused q) h r g = ap refused (one_given q r h g)

  accepts_back : (o : Outcome) → Right o → Joins m s u → o ≡ written (length (joined s u))
  accepts_back (written n) h j = ap written h.0
  accepts_back (refused q) h j = absurd (j q h.holds)

  either_answer : (o : Outcome) → Right o → (o ≡ written (length (joined s u))) ⊎ ((r : Refusal) × (o ≡ refused r))
  either_answer (written n) h = inl (ap written h.0)
  either_answer (refused q) h = inr (q, refl)

  pub check_right : CheckRight m s u
  check_right = record {
    refuses = λ r. (λ e. subst Right e answer_right, refuses_back (answer m s u) answer_right r);
    accepts = (λ e. (subst Right e answer_right).1, accepts_back (answer m s u) answer_right);
    one_of = either_answer (answer m s u) answer_right;
  }

-- ---- Two sheets that can be joined

none_holds : {m : ℕ} {s u : Bytes} → m ≡ max_size → Joinable s u → Joins m s u
unfolding Holds
none_holds e j i_9 x = x e
none_holds e j (of_first r) x = j.first r x
none_holds e j (of_second r) x = j.second r x
none_holds e j i_12 x = x j.same_actions
none_holds e j i_13 (inl x) = omega arith
none_holds e j i_13 (inr x) = omega arith
none_holds e j i_14 x = omega arith

-- No reason's condition holds exactly when the output has its length and the sheets can be joined.
pub joins_is : (m : ℕ) (s u : Bytes) → Joins m s u ↔ ((m ≡ max_size) × Joinable s u)
unfolding Holds
joins_is m s u = (
  λ j. let a : ¬ (2 < clocks s + clocks u) = λ x. j i_13 (inl x) in
      let b : ¬ (max_count < locations s * locations u) = λ x. j i_13 (inr x) in
      let c : ¬ (max_transitions < length (product_transitions s u)) = λ x. j i_14 x in (
        sure (eqb_tests m max_size) (j i_9),
        record {
          first = λ r x. j (of_first r) x;
          second = λ r x. j (of_second r) x;
          same_actions = sure (eqb_tests (actions s) (actions u)) (j i_12);
          clocks_fit = omega arith;
          locations_fit = omega arith;
          transitions_fit = omega arith;
        },
      ),
  λ j. none_holds j.0 j.1,
)

-- ---- The numbers

-- A sheet's own reasons are I-1 to I-6.
own_number : (r : Reason) (s : Bytes) → loading.Holds r s 0 → reason.number r ≤ 6
unfolding loading.HoldsUpTo
own_number i_1 s h = omega arith
own_number i_2 s h = omega arith
own_number i_3 s h = omega arith
own_number i_4 s h = omega arith
own_number i_5 s h = omega arith
own_number i_6 s h = omega arith
own_number i_7 s h = absurd h
own_number i_8 s h = absurd (omega arith)
own_number s_1 s h = absurd h
own_number s_2 s h = absurd h
own_number s_3 s h = absurd h
own_number s_4 s h = absurd h
own_number s_5 s h = absurd h

small : (q : Refusal) → number q ≤ 6 → Named q
small q h = record { own_small = λ r e. h; ninth = λ e. absurd (omega arith); twelfth = λ e. absurd (omega arith); thirteenth = λ e. absurd (omega arith); fourteenth = λ e. absurd (omega arith) }

-- One of the joining's own reasons, which is no sheet's.
abbrev kind : Refusal → ℕ
kind i_9 = 0
kind i_12 = 0
kind i_13 = 0
kind i_14 = 0
kind (of_first r) = 1
kind (of_second r) = 1

no_sheet : {q : Refusal} {A : Type 0} → kind q ≡ 0 → (r : Reason) → (q ≡ of_first r) ⊎ (q ≡ of_second r) → A
no_sheet k r (inl e) = let z : ◌≡◌ {A = ℕ} 0 1 = sym k ∙ ap kind e in absurd (omega arith)
no_sheet k r (inr e) = let z : ◌≡◌ {A = ℕ} 0 1 = sym k ∙ ap kind e in absurd (omega arith)

-- The number that is given tells which reason of joining it is, or that it is a sheet's own.
pub named : {m : ℕ} {s u : Bytes} (q : Refusal) → Given m s u q → Named q
unfolding Holds
named i_9 g = record { own_small = no_sheet refl; ninth = λ e. refl; twelfth = λ e. absurd (omega arith); thirteenth = λ e. absurd (omega arith); fourteenth = λ e. absurd (omega arith) }
named {s = s} (of_first r) g = small (of_first r) (own_number r s g.holds)
named {u = u} (of_second r) g = small (of_second r) (own_number r u g.holds)
named i_12 g = record { own_small = no_sheet refl; ninth = λ e. absurd (omega arith); twelfth = λ e. refl; thirteenth = λ e. absurd (omega arith); fourteenth = λ e. absurd (omega arith) }
named i_13 g = record { own_small = no_sheet refl; ninth = λ e. absurd (omega arith); twelfth = λ e. absurd (omega arith); thirteenth = λ e. refl; fourteenth = λ e. absurd (omega arith) }
named i_14 g = record { own_small = no_sheet refl; ninth = λ e. absurd (omega arith); twelfth = λ e. absurd (omega arith); thirteenth = λ e. absurd (omega arith); fourteenth = λ e. refl }
