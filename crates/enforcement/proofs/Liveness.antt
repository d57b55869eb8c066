-- Liveness: from where an accepting location can be reached, over saturated readings and over exact ones.
use mathlib.Core.Path.{◌≡◌, refl, ap, sym, ◌∙◌, subst, subst⁻¹}
use mathlib.Core.Bool.{Bool, true}
use mathlib.Core.List.{List, [], ◌∷◌}
use mathlib.Core.Option.{Option, none, some}
use Prim.Native.Nat.{ℕ, zero, suc, ◌-◌, ◌<◌}
use native.Mathlib.Omega.{arith}
use native.Mathlib.Nat.{le_refl}
use lib.Dec.{T}
use Rattle.enforcement.specs.TimedWord.{Configuration, Event, elapse, Found, Run, Below}
use Rattle.enforcement.specs.Model.{advance, saturated}
use Rattle.enforcement.proofs.Tests.{T_true, true_T}
use Rattle.enforcement.proofs.Saturation.{Steps, saturated_option, Saturates, configuration_path, elapse_none, elapse_more, advance_saturated}

elapse_zero : (q : Configuration) → elapse 0 q ≡ q
elapse_zero q = configuration_path (omega arith) (omega arith)

elapse_suc : (k : ℕ) (q : Configuration) → elapse (suc k) q ≡ elapse 1 (elapse k q)
elapse_suc k q = configuration_path (omega arith) (omega arith)

module _ (st : Steps) (acc : ℕ → Bool) (n : ℕ) where
  -- An accepting location can be reached, by ticks and actions below n, over saturated readings.
  pub data Live : Configuration → Type 0 where
    here : {p : Configuration} → acc p.location ≡ true → Live p
    tick : {p : Configuration} → Live (advance 1 p) → Live p
    act : {p q : Configuration} (c : ℕ) → c < n → st c p ≡ some q → Live q → Live p

  -- A run of actions below n from q at d, over exact readings, that ends in an accepting location.
  pub record AcceptedRun (d : ℕ) (q : Configuration) : Type 0 where
    pub word : List Event
    pub known : Below n word
    pub run : Run st (λ _ z. T (acc z.location)) d q word

  -- A table that holds what is accepting, and whatever a tick or an action takes into it, holds all that is live.
  pub closed_holds : (live : Configuration → Bool) → ((p : Configuration) → acc p.location ≡ true → live p ≡ true) → ((p : Configuration) → live (advance 1 p) ≡ true → live p ≡ true)
      → ((p q : Configuration) (c : ℕ) → c < n → st c p ≡ some q → live q ≡ true → live p ≡ true) → (p : Configuration) → Live p → live p ≡ true
  closed_holds live a t s p (here {p = z} e) = a z e
  closed_holds live a t s p (tick {p = z} g) = t z (closed_holds live a t s (advance 1 z) g)
  closed_holds live a t s p (act {p = z} {q = r} c b e g) = s z r c b e (closed_holds live a t s r g)

  later_run : (d : ℕ) (q : Configuration) → AcceptedRun (suc d) (elapse 1 q) → AcceptedRun d q
  later_run d q r = go r.word r.known r.run
    where
      go : (v : List Event) → Below n v → Run st (λ _ z. T (acc z.location)) (suc d) (elapse 1 q) v → AcceptedRun d q
      go [] b h = record { word = []; known = tt; run = h }
      go (e ∷ v) b h = record {
        word = e ∷ v;
        known = b;
        run = (omega (arith, h.0), subst (λ (z : Configuration). Found (st e.action z) (λ (r : Configuration). Run st (λ _ z. T (acc z.location)) e.date r v)) (elapse_more q d e.date h.0) h.1);
      }

  now_run : (d : ℕ) (q z : Configuration) (c : ℕ) → c < n → st c q ≡ some z → AcceptedRun d z → AcceptedRun d q
  now_run d q z c b e r = record {
    word = record { action = c; date = d } ∷ r.word;
    known = (b, r.known);
    run = (le_refl d, subst⁻¹ (λ (y : Configuration). Found (st c y) (λ (x : Configuration). Run st (λ _ y. T (acc y.location)) d x r.word)) (elapse_none q d) (rw e r.run));
  }

  module _ (one : Bool) (sat : Saturates one st) where
    before : (k : ℕ) (q : Configuration) → Live (saturated one (elapse k q)) → Live (saturated one q)
    before zero q g = subst (λ (p : Configuration). Live (saturated one p)) (elapse_zero q) g
    before (suc k) q g = before k q (tick (subst⁻¹ Live (advance_saturated one (elapse k q)) (subst (λ (p : Configuration). Live (saturated one p)) (elapse_suc k q) g)))

    -- What has a run is live.
    pub run_live : (v : List Event) (d : ℕ) (q : Configuration) → Below n v → Run st (λ _ z. T (acc z.location)) d q v → Live (saturated one q)
    run_live [] d q b h = here (T_true h)
    run_live (e ∷ v) d q b h = before (e.date - d) q (go (st e.action (elapse (e.date - d) q)) refl h.1 (λ r k. run_live v e.date r b.1 k))
      where
        go : (o : Option Configuration) → st e.action (elapse (e.date - d) q) ≡ o → Found o (λ (r : Configuration). Run st (λ _ z. T (acc z.location)) e.date r v)
            → ((r : Configuration) → Run st (λ _ z. T (acc z.location)) e.date r v → Live (saturated one r)) → Live (saturated one (elapse (e.date - d) q))
        go none x k f = absurd k
        go (some r) x k f = act e.action b.0 (sat e.action (elapse (e.date - d) q) ∙ ap (saturated_option one) x) (f r k)

    -- What is live has a run, at any date.
    pub live_run : (p : Configuration) → Live p → (d : ℕ) (q : Configuration) → p ≡ saturated one q → AcceptedRun d q
    live_run p (here {p = z} e) d q x = record { word = []; known = tt; run = true_T (ap (λ (y : Configuration). acc y.location) (sym x) ∙ e) }
    live_run p (tick {p = z} g) d q x = later_run d q (live_run (advance 1 z) g (suc d) (elapse 1 q) (ap (advance 1) x ∙ advance_saturated one q))
    live_run p (act {p = z} {q = r} c b e g) d q x = go (st c q) refl (sym (sat c q) ∙ ap (st c) (sym x) ∙ e) (λ y k. live_run r g d y k)
      where
        go : (o : Option Configuration) → st c q ≡ o → saturated_option one o ≡ some r → ((y : Configuration) → r ≡ saturated one y → AcceptedRun d y) → AcceptedRun d q
        go none i j f = let k : ◌≡◌ {A = ℕ} 0 1 = cc in absurd (omega arith)
        go (some y) i j f = now_run d q y c b i (f y (cc))
