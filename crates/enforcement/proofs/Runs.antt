-- Runs: a run continued by another, and a run of actions at dates.
use mathlib.Core.Path.{◌≡◌, refl, ap, sym, ◌∙◌, subst, subst⁻¹}
use mathlib.Core.Bool.{Bool}
use mathlib.Core.List.{List, [], ◌∷◌, ◌++◌}
use mathlib.Core.Option.{Option, none, some}
use Prim.Native.Nat.{ℕ, suc, ◌-◌, ◌≤◌, max}
use native.Mathlib.Omega.{arith}
use lib.ListN.{length}
use Rattle.enforcement.specs.TimedWord.{Configuration, Event, elapse, Found, Run, Monotone, last_of, dates_of, stamp}
use Rattle.enforcement.specs.Model.{saturated}
use Rattle.enforcement.specs.Monitor.{walk, walk_on}
use Rattle.enforcement.proofs.Saturation.{Steps, Ending, elapse_none, elapse_more, elapse_split, saturated_option, Saturates, saturated_advance}

-- The actions at the dates are a run from p at d, at whose end P holds.
abbrev pub Plays : Steps → Ending → ℕ → Configuration → List ℕ → List ℕ → Type 0
Plays st P d p [] [] = P d p
Plays st P d p [] (e ∷ ds) = ⊥
Plays st P d p (c ∷ cs) [] = ⊥
Plays st P d p (c ∷ cs) (e ∷ ds) = (d ≤ e) × Found (st c (elapse (e - d) p)) (λ (q : Configuration). Plays st P e q cs ds)

-- At least one action.
abbrev pub NonEmpty : List ℕ → Type 0
NonEmpty [] = ⊥
NonEmpty (c ∷ cs) = Unit {0}

pub found_map : {P Q : Configuration → Type 0} (o : Option Configuration) → ((q : Configuration) → P q → Q q) → Found o P → Found o Q
found_map none f h = h
found_map (some q) f h = f q h

pub found_show : {Q : Configuration → Type 0} {R : Type 0} (o : Option Configuration) → Found o Q → ((q : Configuration) → Q q → R) → R
found_show none k g = absurd k
found_show (some q) k g = g q k

module _ (st : Steps) where
  -- The same run, with more known at its end.
  pub run_map : {P Q : Ending} → ((d : ℕ) (q : Configuration) → P d q → Q d q) → (w : List Event) (d : ℕ) (p : Configuration) → Run st P d p w → Run st Q d p w
  run_map f [] d p h = f d p h
  run_map f (e ∷ w) d p h = (h.0, found_map (st e.action (elapse (e.date - d) p)) (λ q k. run_map f w e.date q k) h.1)

  found_both : (P Q : Configuration → Type 0) (o : Option Configuration) → Found o P → Found o Q → Found o (λ (q : Configuration). P q × Q q)
  found_both P Q none h k = h
  found_both P Q (some q) h k = (h, k)

  pub run_both : (P Q : Ending) (w : List Event) (d : ℕ) (p : Configuration) → Run st P d p w → Run st Q d p w → Run st (λ e q. P e q × Q e q) d p w
  run_both P Q [] d p h k = (h, k)
  run_both P Q (e ∷ w) d p h k = (
    h.0,
    found_map (st e.action (elapse (e.date - d) p)) (λ q b. run_both P Q w e.date q b.0 b.1)
        (found_both (λ (q : Configuration). Run st P e.date q w) (λ (q : Configuration). Run st Q e.date q w) (st e.action (elapse (e.date - d) p)) h.1 k.1),
  )

  -- A run continued.
  pub run_split : (P : Ending) (w v : List Event) (d : ℕ) (p : Configuration) → Run st P d p (w ++ v) → Run st (λ e q. Run st P e q v) d p w
  run_split P [] v d p h = h
  run_split P (e ∷ w) v d p h = (h.0, found_map (st e.action (elapse (e.date - d) p)) (λ q k. run_split P w v e.date q k) h.1)

  pub run_join : (P : Ending) (w v : List Event) (d : ℕ) (p : Configuration) → Run st (λ e q. Run st P e q v) d p w → Run st P d p (w ++ v)
  run_join P [] v d p h = h
  run_join P (e ∷ w) v d p h = (h.0, found_map (st e.action (elapse (e.date - d) p)) (λ q k. run_join P w v e.date q k) h.1)

  -- A fact that a run's end shows.
  pub run_show : {P : Ending} {R : Type 0} → ((d : ℕ) (q : Configuration) → P d q → R) → (w : List Event) (d : ℕ) (p : Configuration) → Run st P d p w → R
  run_show f [] d p h = f d p h
  run_show f (e ∷ w) d p h = found_show (st e.action (elapse (e.date - d) p)) h.1 (λ q k. run_show f w e.date q k)

  -- Actions at dates.
  pub plays_of : (P : Ending) (cs ds : List ℕ) (d : ℕ) (p : Configuration) → length ds ≡ length cs → Run st P d p (stamp cs ds) → Plays st P d p cs ds
  unfolding stamp
  plays_of P [] [] d p l h = h
  plays_of P [] (e ∷ ds) d p l h = omega arith
  plays_of P (c ∷ cs) [] d p l h = omega arith
  plays_of P (c ∷ cs) (e ∷ ds) d p l h = (h.0, found_map (st c (elapse (e - d) p)) (λ q k. plays_of P cs ds e q (omega arith) k) h.1)

  pub of_plays : (P : Ending) (cs ds : List ℕ) (d : ℕ) (p : Configuration) → Plays st P d p cs ds → Run st P d p (stamp cs ds)
  unfolding stamp
  of_plays P [] [] d p h = h
  of_plays P [] (e ∷ ds) d p h = absurd h
  of_plays P (c ∷ cs) [] d p h = absurd h
  of_plays P (c ∷ cs) (e ∷ ds) d p h = (h.0, found_map (st c (elapse (e - d) p)) (λ q k. of_plays P cs ds e q k) h.1)

  pub plays_length : (P : Ending) (cs ds : List ℕ) (d : ℕ) (p : Configuration) → Plays st P d p cs ds → length ds ≡ length cs
  plays_length P [] [] d p h = refl
  plays_length P [] (e ∷ ds) d p h = absurd h
  plays_length P (c ∷ cs) [] d p h = absurd h
  plays_length P (c ∷ cs) (e ∷ ds) d p h = ap suc (found_show (st c (elapse (e - d) p)) h.1 (λ q k. plays_length P cs ds e q k))

  pub plays_monotone : (P : Ending) (cs ds : List ℕ) (d : ℕ) (p : Configuration) → Plays st P d p cs ds → Monotone d ds
  plays_monotone P cs [] d p h = tt
  plays_monotone P [] (e ∷ ds) d p h = absurd h
  plays_monotone P (c ∷ cs) (e ∷ ds) d p h = (h.0, found_show (st c (elapse (e - d) p)) h.1 (λ q k. plays_monotone P cs ds e q k))

  -- A run of at least one action, from a date no later than its first.
  pub plays_from : (P : Ending) (cs ds : List ℕ) (d e : ℕ) (p : Configuration) → NonEmpty cs → d ≤ e → Monotone e ds → Plays st P d p cs ds → Plays st P e (elapse (e - d) p) cs ds
  plays_from P [] ds d e p i l r h = absurd i
  plays_from P (c ∷ cs) [] d e p i l r h = absurd h
  plays_from P (c ∷ cs) (f ∷ ds) d e p i l r h = (r.0, subst⁻¹ (λ (z : Configuration). Found (st c z) (λ (q : Configuration). Plays st P f q cs ds)) (elapse_split p d e f l r.0) h.1)

  pub plays_back : (P : Ending) (cs ds : List ℕ) (d e : ℕ) (p : Configuration) → NonEmpty cs → d ≤ e → Plays st P e (elapse (e - d) p) cs ds → Plays st P d p cs ds
  plays_back P [] ds d e p i l h = absurd i
  plays_back P (c ∷ cs) [] d e p i l h = absurd h
  plays_back P (c ∷ cs) (f ∷ ds) d e p i l h = (omega arith, subst (λ (z : Configuration). Found (st c z) (λ (q : Configuration). Plays st P f q cs ds)) (elapse_split p d e f l h.0) h.1)

  pub plays_map : {P Q : Ending} → ((d : ℕ) (q : Configuration) → P d q → Q d q) → (cs ds : List ℕ) (d : ℕ) (p : Configuration) → Plays st P d p cs ds → Plays st Q d p cs ds
  plays_map f [] [] d p h = f d p h
  plays_map f [] (e ∷ ds) d p h = h
  plays_map f (c ∷ cs) [] d p h = h
  plays_map f (c ∷ cs) (e ∷ ds) d p h = (h.0, found_map (st c (elapse (e - d) p)) (λ q k. plays_map f cs ds e q k) h.1)

-- The dates of a run never fall.
pub run_monotone : (st : Steps) (P : Ending) (w : List Event) (d : ℕ) (p : Configuration) → Run st P d p w → Monotone d (dates_of w)
run_monotone st P [] d p h = tt
run_monotone st P (e ∷ w) d p h = (h.0, found_show (st e.action (elapse (e.date - d) p)) h.1 (λ q k. run_monotone st P w e.date q k))

-- The last date of a run.
pub run_last : (st : Steps) (P : Ending) (w : List Event) (d : ℕ) (p : Configuration) → Run st P d p w → Run st (λ e q. (last_of d (dates_of w) ≡ e) × P e q) d p w
run_last st P [] d p h = (refl, h)
run_last st P (e ∷ w) d p h = (h.0, found_map (st e.action (elapse (e.date - d) p)) (λ q k. run_last st P w e.date q k) h.1)

-- Where a run ends.
pub record EndOf (st : Steps) (P : Ending) (d : ℕ) (p : Configuration) (cs ds : List ℕ) : Type 0 where
  pub date : ℕ
  pub configuration : Configuration
  pub holds : P date configuration
  pub plays : Plays st (λ e z. (e ≡ date) × (z ≡ configuration)) d p cs ds

pub end_of : (st : Steps) (P : Ending) (cs ds : List ℕ) (d : ℕ) (p : Configuration) → Plays st P d p cs ds → EndOf st P d p cs ds
end_of st P [] [] d p h = record { date = d; configuration = p; holds = h; plays = (refl, refl) }
end_of st P [] (e ∷ ds) d p h = absurd h
end_of st P (c ∷ cs) [] d p h = absurd h
end_of st P (c ∷ cs) (e ∷ ds) d p h = go (st c (elapse (e - d) p)) refl h.1 (λ q k. end_of st P cs ds e q k)
  where
    go : (o : Option Configuration) → st c (elapse (e - d) p) ≡ o → Found o (λ (q : Configuration). Plays st P e q cs ds) → ((q : Configuration) → Plays st P e q cs ds → EndOf st P e q cs ds) → EndOf st P d p (c ∷ cs) (e ∷ ds)
    go none i k f = absurd k
    go (some q) i k f =
        let r = f q k in
        record { date = r.date; configuration = r.configuration; holds = r.holds; plays = (h.0, rw i r.plays) }

-- Its last date.
pub plays_last : (st : Steps) (P : Configuration → Type 0) (x : ℕ) (cs ds : List ℕ) (d : ℕ) (p : Configuration) → Plays st (λ e z. (e ≡ x) × P z) d p cs ds → last_of d ds ≡ x
plays_last st P x [] [] d p h = h.0
plays_last st P x [] (e ∷ ds) d p h = absurd h
plays_last st P x (c ∷ cs) [] d p h = absurd h
plays_last st P x (c ∷ cs) (e ∷ ds) d p h = found_show (st c (elapse (e - d) p)) h.1 (λ q k. plays_last st P x cs ds e q k)

-- The model's walk goes where the run goes.
pub walk_saturated : (one : Bool) (st : Steps) → Saturates one st → (P : ℕ → Type 0) (z : Configuration) (cs ds : List ℕ) (d : ℕ) (p : Configuration) → Plays st (λ e r. P e × (r ≡ z)) d p cs ds → walk st cs ds d (saturated one p) ≡ saturated one z
unfolding walk
walk_saturated one st sat P z [] [] d p h = ap (saturated one) h.1
walk_saturated one st sat P z [] (e ∷ ds) d p h = absurd h
walk_saturated one st sat P z (c ∷ cs) [] d p h = absurd h
walk_saturated one st sat P z (c ∷ cs) (e ∷ ds) d p h =
    ap (λ (r : Configuration). walk_on (st c r) (λ (y : Configuration). walk st cs ds e y) (saturated one p)) (sym (saturated_advance one (e - d) p))
    ∙ ap (λ (o : Option Configuration). walk_on o (λ (y : Configuration). walk st cs ds e y) (saturated one p)) (sat c (elapse (e - d) p))
    ∙ go (st c (elapse (e - d) p)) h.1 (λ y k. walk_saturated one st sat P z cs ds e y k)
  where
    go : (o : Option Configuration) → Found o (λ (y : Configuration). Plays st (λ x r. P x × (r ≡ z)) e y cs ds) → ((y : Configuration) → Plays st (λ x r. P x × (r ≡ z)) e y cs ds → walk st cs ds e (saturated one y) ≡ saturated one z)
        → walk_on (saturated_option one o) (λ (y : Configuration). walk st cs ds e y) (saturated one p) ≡ saturated one z
    go none k f = absurd k
    go (some y) k f = f y k

pub monotone_both : (t l : ℕ) (ds : List ℕ) → Monotone t ds → Monotone l ds → Monotone (max t l) ds
monotone_both t l [] h k = tt
monotone_both t l (e ∷ ds) h k = (omega arith, h.1)

pub monotone_from : (d e : ℕ) (ds : List ℕ) → d ≤ e → Monotone e ds → Monotone d ds
monotone_from d e [] l h = tt
monotone_from d e (f ∷ ds) l h = (omega arith, h.1)

-- A run that starts by an action now.
pub plays_now : (st : Steps) (P : Ending) (c : ℕ) (cs ds : List ℕ) (d : ℕ) (p : Configuration)
    → Found (st c p) (λ (q : Configuration). Plays st P d q cs ds) → Plays st P d p (c ∷ cs) (d ∷ ds)
plays_now st P c cs ds d p h = (omega arith, subst⁻¹ (λ (r : Configuration). Found (st c r) (λ (q : Configuration). Plays st P d q cs ds)) (elapse_none p d) h)

-- A run from a tick later.
pub plays_later : (st : Steps) (P : Ending) (c : ℕ) (cs ds : List ℕ) (d : ℕ) (p : Configuration)
    → Plays st P (suc d) (elapse 1 p) (c ∷ cs) ds → Plays st P d p (c ∷ cs) ds
plays_later st P c cs [] d p h = absurd h
plays_later st P c cs (e ∷ ds) d p h = (omega arith, subst (λ (r : Configuration). Found (st c r) (λ (q : Configuration). Plays st P e q cs ds)) (elapse_more p d e h.0) h.1)
