-- What the tests of the code say of the answer, and what the answer says of the output.
-- Assumes nothing.
use mathlib.Core.Path.{◌≡◌, refl, sym, ap, ap₂, ◌∙◌}
use mathlib.Core.Bool.{Bool, true, false, ◌&&◌}
use mathlib.Core.List.{◌++◌}
use mathlib.Core.Logic.{◌⊎◌, inl, inr}
use Prim.Native.Nat.{ℕ, ◌+◌, ◌-◌, ◌*◌, ◌≤◌, ◌<◌}
use Rattle.std.specs.Prelude.{Result, Ok, Err}
use native.Mathlib.Omega.{arith}
use lib.Dec.{leb}
use lib.ListN.{length, take, replicate}
use lib.Seq.{take_at}
use borrow.Author.Tests.{eq-eqb, ne_eqb, le-leb, lt-leb}
use Rattle.enforcement.specs.Limits.{max_count, max_transitions, max_size}
use Rattle.enforcement.specs.Automaton.{Bytes, locations, clocks, actions}
use Rattle.enforcement.specs.Loading.{Checked, accepted}
use Rattle.enforcement.specs.Loading as loading
use Rattle.retimer.specs.Bytes.{Wrote}
use Rattle.retimer.proofs.Writing.{next, as_part}
use Rattle.product.specs.declared.join.Refusal as code
use Rattle.product.specs.declared.join.Refusal.TheVariants.{Length, First, Second, Actions, Size, Transitions}
use Rattle.product.specs.Encoding.{header_bytes, transitions_bytes, pairs_from}
use Rattle.product.specs.Product.{all_locations, product, product_transitions, joined, Joinable}
use Rattle.product.specs.Joining.{Refusal, i_9, i_12, i_13, i_14, of_first, of_second, Outcome, written, refused, unless, own, fitting, answer, output, outcome_of, JoinRight}
use Rattle.product.proofs.Decoding.{decoded, pairs_length, bytes_length}
use Rattle.product.proofs.Reading.{length_locations}
use Rattle.product.proofs.Refusals.{check_right, joins_is}

-- ---- Tests in a row

stops : {b : Bool} (r : Refusal) (o : Outcome) → b ≡ false → refused r ≡ unless b r o
stops r o e = rw e

goes : {b : Bool} (r : Refusal) {a o : Outcome} → b ≡ true → a ≡ o → a ≡ unless b r o
goes r e h = rw e h

-- ---- Two sheets that load

module _ (s u : Bytes) where
  pub other_actions : (actions s ≡ actions u → ⊥) → refused i_12 ≡ fitting s u
  unfolding fitting
  other_actions h = stops i_12 _ (ne_eqb (actions s) (actions u) h)

  module _ (same : actions s ≡ actions u) where
    pub too_many_clocks : 2 < clocks s + clocks u → refused i_13 ≡ fitting s u
    unfolding fitting
    too_many_clocks h = goes i_12 (eq-eqb (actions s) (actions u) same) (stops i_13 _ (ap (λ (b : Bool). b && leb (locations s * locations u) max_count) (lt-leb (clocks s + clocks u) 2 h)))

    module _ (few : clocks s + clocks u ≤ 2) where
      sized : {b : Bool} → leb (locations s * locations u) max_count ≡ b → (leb (clocks s + clocks u) 2 && leb (locations s * locations u) max_count) ≡ b
      sized e = ap (λ (b : Bool). b && leb (locations s * locations u) max_count) (le-leb (clocks s + clocks u) 2 few) ∙ e

      pub too_many_locations : max_count < locations s * locations u → refused i_13 ≡ fitting s u
      unfolding fitting
      too_many_locations h = goes i_12 (eq-eqb (actions s) (actions u) same) (stops i_13 _ (sized (lt-leb (locations s * locations u) max_count h)))

      module _ (small : locations s * locations u ≤ max_count) where
        pub too_many_transitions : max_transitions < length (product_transitions s u) → refused i_14 ≡ fitting s u
        unfolding fitting
        too_many_transitions h =
            goes i_12 (eq-eqb (actions s) (actions u) same) (goes i_13 (sized (le-leb (locations s * locations u) max_count small)) (stops i_14 _ (lt-leb (length (product_transitions s u)) max_transitions h)))

        -- The length of the joined sheet, of k locations with n transitions.
        pub all_fit_lem : (k n : ℕ) → k ≡ locations s * locations u → n ≡ length (product_transitions s u) → n ≤ max_transitions → written (6 + 4 * k + 7 * n) ≡ fitting s u
        unfolding fitting
        all_fit_lem k n e f h =
            let l : 6 + 4 * k + 7 * n ≡ length (joined s u) = omega (arith, e, f, (decoded (product s u)).length_is, length_locations s u (locations s * locations u) 0) in
            goes i_12 (eq-eqb (actions s) (actions u) same) (goes i_13 (sized (le-leb (locations s * locations u) max_count small)) (goes i_14 (le-leb (length (product_transitions s u)) max_transitions (omega (arith, f))) (ap written l)))

-- ---- Any two sheets

module _ (m : ℕ) (s u : Bytes) where
  -- What is answered where the output has the right length.
  abbrev pub rest : Outcome
  rest = own of_first (loading.check s 0) (own of_second (loading.check u 0) (fitting s u))

  pub wrong_length : (m ≡ max_size → ⊥) → refused i_9 ≡ answer m s u
  unfolding answer
  wrong_length h = stops i_9 _ (ne_eqb m max_size h)

  pub right_length : m ≡ max_size → rest ≡ answer m s u
  unfolding answer
  right_length h = goes i_9 (eq-eqb m max_size h) refl

  -- Where a length is answered, the sheets can be joined.
  pub written_joinable : (n : ℕ) → answer m s u ≡ written n → Joinable s u
  written_joinable n e = go (check_right m s u).one_of
    where
      go : (answer m s u ≡ written (length (joined s u))) ⊎ ((r : Refusal) × (answer m s u ≡ refused r)) → Joinable s u
      go (inl a) = ((joins_is m s u).0 ((check_right m s u).accepts.0 a)).1
      go (inr a) = let z : ◌≡◌ {A = ℕ} 0 1 = cc (e, a.1) in absurd (omega arith)

-- ---- The output

-- A refusal writes no length.
never : (e : code.Refusal) (n : ℕ) → outcome_of (Err e) ≡ written n → ⊥
never Length n p = let z : ◌≡◌ {A = ℕ} 0 1 = cc in omega arith
never (First r) n p = let z : ◌≡◌ {A = ℕ} 0 1 = cc in omega arith
never (Second r) n p = let z : ◌≡◌ {A = ℕ} 0 1 = cc in omega arith
never Actions n p = let z : ◌≡◌ {A = ℕ} 0 1 = cc in omega arith
never Size n p = let z : ◌≡◌ {A = ℕ} 0 1 = cc in omega arith
never Transitions n p = let z : ◌≡◌ {A = ℕ} 0 1 = cc in omega arith

module _ (s u before : Bytes) where
  pub refusing : (r : Result ℕ code.Refusal) (e : code.Refusal) → r ≡ Err e → outcome_of r ≡ answer (length before) s u → JoinRight s u before r before
  refusing r e i a = record { answered = a; output_right = record { wrote = λ n g. absurd (never e n (sym (ap outcome_of i) ∙ a ∙ g)); untouched = λ p g. refl } }

  pub joining : (after : Bytes) (n : ℕ) → answer (length before) s u ≡ written n → after ≡ output s u → JoinRight s u before (Ok n) after
  joining after n e w = record { answered = sym e; output_right = record { wrote = λ k g. w; untouched = λ p g. let z : ◌≡◌ {A = ℕ} 0 1 = cc (e, g) in absurd (omega arith) } }

-- The parts, put one after the other, are the joined sheet.
module _ (s u : Bytes) {a b c : Bytes} {i j : ℕ} (h : Wrote a 0 (header_bytes (product s u)) b i) (p : Wrote b i (pairs_from (6 + 4 * (locations s * locations u)) (all_locations s u)) c j) where
  -- How long they are.
  pub pairs_end : j ≡ 6 + 4 * (locations s * locations u)
  pairs_end = omega (arith, h.ends, p.ends, pairs_length (6 + 4 * (locations s * locations u)) (all_locations s u), length_locations s u (locations s * locations u) 0)

  module _ {d : Bytes} {k : ℕ} (t : Wrote c j (transitions_bytes (product_transitions s u)) d k) where
    pub all_end : k ≡ 6 + 4 * (locations s * locations u) + 7 * length (product_transitions s u)
    all_end = omega (arith, pairs_end, t.ends, bytes_length (product_transitions s u))

    module _ (joins : Joinable s u) (sized : length a ≡ max_size) where
      pub all_inside : k ≤ max_size
      all_inside = omega (arith, all_end, joins.locations_fit, joins.transitions_fit)

      joined_put : Wrote a 0 (joined s u) d k
      joined_put =
          let l = length_locations s u (locations s * locations u) 0 in
          next (omega (arith, pairs_end, all_end, all_inside)) (next (omega (arith, h.ends, all_end, all_inside)) h (as_part p (ap (λ (n : ℕ). pairs_from (6 + 4 * n) (all_locations s u)) (sym l)))) t

      pub output_is : (after : Bytes) → length d ≡ max_size → after ≡ take k d ++ replicate (length d - k) 0 → after ≡ output s u
      output_is after l e =
          let n : length (joined s u) ≡ k = omega (arith, joined_put.ends) in
          let f : take k d ≡ joined s u = ap (take k) joined_put.is ∙ take_at (joined s u) _ k n in
          e ∙ ap₂ (λ (x : Bytes) (y : ℕ). x ++ replicate y 0) f (ap₂ ◌-◌ l (sym n))
