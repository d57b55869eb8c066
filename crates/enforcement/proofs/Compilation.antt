-- What is compiled from an automaton says what the automaton says.
use mathlib.Core.Path.{◌≡◌, refl, ap, sym, ◌∙◌, subst, fun_ext}
use mathlib.Core.Bool.{Bool, true, false, cond, ◌&&◌}
use mathlib.Core.List.{List, [], ◌∷◌}
use mathlib.Core.Option.{none, some}
use mathlib.Core.Logic.{inl, inr, ◌↔◌}
use Prim.Native.Nat.{ℕ, suc, ◌+◌, ◌*◌, ◌≤◌}
use native.Mathlib.Omega.{arith}
use lib.Dec.{T, eqb, ltb}
use borrow.Author.Tests.{ltb-true, ltb-false, le-ltb}
use Rattle.enforcement.specs.Automaton.{Bytes, Transition, transitions, enabled, bit, accepting, locations, actions}
use Rattle.enforcement.specs.TimedWord.{Configuration, fire, fire_first, step}
use Rattle.enforcement.specs.Loading.{AllFit, Bounded}
use Rattle.enforcement.specs.Model.{Compiled, compile, reaches, explore, steps, advance, top, area, saturated, has_one_clock}
use Rattle.enforcement.proofs.Saturation.{Steps, saturated_x, saturated_y, step_saturated}
use Rattle.enforcement.proofs.Memo.{tabled_is, steps_is}
use Rattle.enforcement.proofs.Liveness.{Live, here, tick, act, AcceptedRun, run_live, live_run}
use Rattle.enforcement.proofs.Tests.{T_true, true_T}
use Rattle.enforcement.proofs.Search.{InRange, StepsIn, explore_live, live_explore}

-- A run of actions of the automaton from q at d that ends in an accepting location.
abbrev pub Acceptable : Bytes → ℕ → Configuration → Type 0
Acceptable s d q = AcceptedRun (step s) (accepting s) (actions s) d q

-- m is as compiled from the automaton.
pub record CompiledFrom (s : Bytes) (m : Compiled) : Type 0 where
  pub known_is : m.known ≡ actions s
  pub step_is : m.step ≡ step s
  pub accepts_is : m.accepts ≡ accepting s
  pub live_is : (d : ℕ) (q : Configuration) → T (m.live (saturated (has_one_clock s) q)) ↔ Acceptable s d q

-- ---- A step stays among the locations and the saturated readings

reset_in : (b : Bool) (x : ℕ) → x ≤ top → cond b 0 x ≤ top
reset_in true x h = omega arith
reset_in false x h = h

first_in : (s : Bytes) (ts : List Transition) → AllFit s ts → (c : ℕ) (p q : Configuration) → InRange (locations s) p → fire_first ts c p ≡ some q → InRange (locations s) q
unfolding fire_first
first_in s [] h c p q r e = let z : ◌≡◌ {A = ℕ} 0 1 = cc in absurd (omega arith)
first_in s (u ∷ ts) h c p q r e = go (eqb u.action c && enabled u p.x p.y) e (first_in s ts h.1 c p q r)
  where
    go : (b : Bool) → cond b (some (fire u p)) (fire_first ts c p) ≡ some q → (fire_first ts c p ≡ some q → InRange (locations s) q) → InRange (locations s) q
    go true x f =
        subst (InRange (locations s)) (let y : fire u p ≡ q = cc in y)
        (record { location_in = h.0.target_fits; x_in = reset_in (bit u.resets 0) p.x r.x_in; y_in = reset_in (bit u.resets 1) p.y r.y_in })
    go false x f = f x

steps_in : (s : Bytes) → Bounded s → StepsIn (step s) (locations s)
unfolding step Bounded StepsIn
steps_in s h c p q r e = first_in s (transitions s p.location) (h p.location) c p q r e

-- ---- A location that the automaton does not have leads nowhere

no_step : (s : Bytes) (c : ℕ) (p : Configuration) → locations s ≤ p.location → step s c p ≡ none
unfolding step transitions fire_first
no_step s c p h = rw (le-ltb p.location (locations s) h, transitions)

stuck : (s : Bytes) (n : ℕ) (p : Configuration) → Live (step s) (accepting s) n p → locations s ≤ p.location → accepting s p.location ≡ true
stuck s n p (here {p = z} e) h = e
stuck s n p (tick {p = z} g) h = stuck s n (advance 1 z) g h
stuck s n p (act {p = z} {q = q} c b e g) h = let x = no_step s c z h in let y : ◌≡◌ {A = ℕ} 0 1 = cc in absurd (omega arith)

-- ---- The search says what is live

module _ (s : Bytes) (bounded : Bounded s) where
  abbrev size : ℕ
  size = locations s

  abbrev acc : ℕ → Bool
  acc = accepting s

  abbrev known : ℕ
  known = actions s

  abbrev one : Bool
  one = has_one_clock s

  reaches_live : (p : Configuration) → reaches (step s) acc size known p ≡ true → Live (step s) acc known p
  unfolding reaches
  reaches_live p e = go (ltb p.location size) e
    where
      go : (b : Bool) → elim b [ true ↦ explore (step s) acc known (suc ((known + 2) * (size * area))) (p ∷ []) [] | false ↦ acc p.location ] ≡ true → Live (step s) acc known p
      go true x = elim (explore_live (step s) acc known (suc ((known + 2) * (size * area))) (p ∷ []) [] x) [ inl g ↦ g | inr g ↦ absurd g ]
      go false x = here x

  live_reaches : (p : Configuration) → p.x ≤ top → p.y ≤ top → Live (step s) acc known p → reaches (step s) acc size known p ≡ true
  unfolding reaches
  live_reaches p i j g = go (ltb p.location size) refl
    where
      go : (b : Bool) → ltb p.location size ≡ b → elim b [ true ↦ explore (step s) acc known (suc ((known + 2) * (size * area))) (p ∷ []) [] | false ↦ acc p.location ] ≡ true
      go true x = live_explore (step s) acc known size (steps_in s bounded) p (record { location_in = ltb-true p.location size x; x_in = i; y_in = j }) g
      go false x = stuck s known p g (ltb-false p.location size x)

  steps_same : steps s ≡ step s
  steps_same = fun_ext (λ c. fun_ext (λ p. steps_is s c p))

  live_same : (p : Configuration) → (compile s).live p ≡ reaches (step s) acc size known p
  unfolding compile
  live_same p = tabled_is size (reaches (steps s) acc size known) p ∙ ap (λ (st : Steps). reaches st acc size known p) steps_same

  -- The compiled table is true exactly where an accepting location can be reached over saturated readings.
  pub live_search : (p : Configuration) → p.x ≤ top → p.y ≤ top → ((compile s).live p ≡ true) ↔ Live (step s) acc known p
  live_search p i j = (λ e. reaches_live p (sym (live_same p) ∙ e), λ g. live_same p ∙ live_reaches p i j g)

  -- And exactly when a run of known actions from there, at any date, reaches an accepting location over exact readings.
  pub live_right : (d : ℕ) (q : Configuration) → T ((compile s).live (saturated one q)) ↔ Acceptable s d q
  live_right d q =
      let both = live_search (saturated one q) (saturated_x one q) (saturated_y one q) in (
        λ t. live_run (step s) acc known one (step_saturated s bounded) (saturated one q) (both.0 (T_true t)) d q refl,
        λ r. true_T (both.1 (run_live (step s) acc known one (step_saturated s bounded) r.word d q r.known r.run)),
      )

  pub compiled : CompiledFrom s (compile s)
  unfolding compile
  compiled = record { known_is = refl; step_is = steps_same; accepts_is = refl; live_is = live_right }
