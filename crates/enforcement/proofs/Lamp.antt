-- The lamp: what the model's test says of the lamp rule.
use mathlib.Core.Path.{◌≡◌, refl, subst⁻¹}
use mathlib.Core.Bool.{Bool, true, false, ◌&&◌}
use mathlib.Core.List.{List, [], ◌∷◌, ◌++◌}
use mathlib.Core.Logic.{◌⊎◌, inl, inr, ◌↔◌}
use Prim.Native.Nat.{ℕ, zero, suc, ◌≤◌, ◌<◌}
use native.Mathlib.Omega.{arith}
use native.Mathlib.Nat.{eq-or-lt_of_le, not-suc-le-zero}
use lib.ListN.{length}
use Rattle.enforcement.specs.Automaton.{Automaton, actions}
use Rattle.enforcement.specs.TimedWord.{Configuration, Event, Monotone, dates_of, stamp, step, Accepting, Accepts, Known, Timing, Extensible, Continues, OneIfNone}
use Rattle.enforcement.specs.Loading.{Bounded}
use Rattle.enforcement.specs.Model.{Prospect, ticks, extensible, dead, Compiled, prospect}
use Rattle.enforcement.specs.Monitor.{none_next, is_lit, is_dead}
use Rattle.enforcement.specs.Demands.{Reaches}
use Rattle.enforcement.proofs.Runs
use Rattle.enforcement.proofs.Corrections.{correction_open}
use Rattle.enforcement.proofs.Compilation.{CompiledFrom}
use Rattle.enforcement.proofs.Decision
use Rattle.enforcement.proofs.Decision.{reaches_last, split, standing_at}

-- The dates after a timing of at least one action.
monotone_rest : (t d : ℕ) (cs ds : List ℕ) (v : List Event) (c : ℕ) → length ds ≡ length (c ∷ cs) → Monotone t ds → Monotone d (dates_of (stamp (c ∷ cs) ds ++ v)) → Monotone t (dates_of v)
unfolding stamp
monotone_rest t d cs [] v c l h k = absurd (omega arith)
monotone_rest t d [] (e ∷ []) v c l h k = Runs.monotone_from t e (dates_of v) h.0 k.1
monotone_rest t d [] (e ∷ (f ∷ ds)) v c l h k = absurd (omega arith)
monotone_rest t d (a ∷ cs) (e ∷ ds) v c l h k = Runs.monotone_from t e (dates_of v) h.0 (monotone_rest e e cs ds v a (omega arith) h.1 k.1)

-- The test of every action.
none_next_lem : (m : Compiled) (p : Configuration) (n : ℕ) → none_next m p n ≡ true → (c : ℕ) → c < n → is_dead (prospect m (c ∷ []) p) ≡ true
unfolding none_next
none_next_lem m p zero e c h = absurd (not-suc-le-zero h)
none_next_lem m p (suc n) e c h = go (is_dead (prospect m (n ∷ []) p)) refl e (eq-or-lt_of_le h) (λ k x. none_next_lem m p n k c x)
  where
    go : (a : Bool) → is_dead (prospect m (n ∷ []) p) ≡ a → (a && none_next m p n) ≡ true → (suc c ≡ suc n) ⊎ (suc c < suc n) → (none_next m p n ≡ true → c < n → is_dead (prospect m (c ∷ []) p) ≡ true) → is_dead (prospect m (c ∷ []) p) ≡ true
    go true x y (inl z) f = let k : c ≡ n = omega arith in rw k x
    go true x y (inr z) f = f y (omega arith)
    go false x y z f = let k : ◌≡◌ {A = ℕ} 0 1 = cc in absurd (omega arith)

some_next : (m : Compiled) (p : Configuration) (n : ℕ) → none_next m p n ≡ false → (c : ℕ) × (c < n) × (is_dead (prospect m (c ∷ []) p) ≡ false)
unfolding none_next
some_next m p zero e = let k : ◌≡◌ {A = ℕ} 0 1 = cc in absurd (omega arith)
some_next m p (suc n) e = go (is_dead (prospect m (n ∷ []) p)) refl e (λ k. some_next m p n k)
  where
    go : (a : Bool) → is_dead (prospect m (n ∷ []) p) ≡ a → (a && none_next m p n) ≡ false → (none_next m p n ≡ false → (c : ℕ) × (c < n) × (is_dead (prospect m (c ∷ []) p) ≡ false)) → (c : ℕ) × (c < suc n) × (is_dead (prospect m (c ∷ []) p) ≡ false)
    go true x y f = let r = f y in (r.0, omega (arith, r.1), r.2)
    go false x y f = (n, omega arith, x)

module _ (𝒜 : Automaton) (bounded : Bounded 𝒜.bytes) (m : Compiled) (mine : CompiledFrom 𝒜.bytes m) (w : List Event) (last : ℕ) (q : Configuration) (reaches : Reaches 𝒜 w last q) (t : ℕ) where
  abbrev standing : Configuration
  standing = standing_at 𝒜 last q t

  -- At least one pending action: they continue exactly when they are extensible.
  pub open_continues : (c : ℕ) (cs : List ℕ) → Extensible 𝒜 w t (c ∷ cs) → Continues 𝒜 w t (c ∷ cs)
  open_continues c cs o = record {
    dates = o.dates;
    timing = o.timing;
    further = o.further;
    known = o.known;
    some_more = tt;
    accepts = o.accepts;
    from_t = monotone_rest t last cs o.dates o.further c o.timing.each o.timing.from_t
        (Runs.run_monotone (step 𝒜.bytes) (Accepting 𝒜) (stamp (c ∷ cs) o.dates ++ o.further) last q (split 𝒜 w (stamp (c ∷ cs) o.dates ++ o.further) last q reaches o.accepts));
  }

  pub continues_open : (c : ℕ) (cs : List ℕ) → Continues 𝒜 w t (c ∷ cs) → Extensible 𝒜 w t (c ∷ cs)
  continues_open c cs g = record { dates = g.dates; timing = g.timing; further = g.further; known = g.known; accepts = g.accepts }

  -- None pending: the word continues exactly when some action of the automaton is extensible.
  pub next_continues : (c : ℕ) → c < actions 𝒜.bytes → Extensible 𝒜 w t (c ∷ []) → Continues 𝒜 w t []
  unfolding stamp
  next_continues c h o = go o.dates o.timing o.further o.known o.accepts
    where
      go : (ds : List ℕ) → Timing 𝒜 w t (c ∷ []) ds → (v : List Event) → Known 𝒜 v → Accepts 𝒜 (w ++ (stamp (c ∷ []) ds ++ v)) → Continues 𝒜 w t []
      go [] d v k x = absurd (omega (arith, d.each))
      go (e ∷ (f ∷ ds)) d v k x = absurd (omega (arith, d.each))
      go (e ∷ []) d v k x = record {
        dates = [];
        timing = record { each = refl; from_t = tt; from_last = tt };
        further = record { action = c; date = e } ∷ v;
        known = (h, k);
        some_more = tt;
        accepts = x;
        from_t = (d.from_t.0, (Runs.run_monotone (step 𝒜.bytes) (Accepting 𝒜) (record { action = c; date = e } ∷ v) last q (split 𝒜 w (record { action = c; date = e } ∷ v) last q reaches x)).1);
      }

  pub continues_next : Continues 𝒜 w t [] → (c : ℕ) × (c < actions 𝒜.bytes) × Extensible 𝒜 w t (c ∷ [])
  unfolding stamp
  continues_next g = go g.further g.known g.from_t g.some_more g.accepts
    where
      go : (v : List Event) → Known 𝒜 v → Monotone t (dates_of v) → OneIfNone [] v → Accepts 𝒜 (w ++ (stamp [] g.dates ++ v)) → (c : ℕ) × (c < actions 𝒜.bytes) × Extensible 𝒜 w t (c ∷ [])
      go [] k r z x = absurd z
      go (e ∷ v) k r z x = (
        e.action,
        k.0,
        record {
          dates = e.date ∷ [];
          timing = record { each = refl; from_t = (r.0, tt); from_last = (subst⁻¹ (λ (l : ℕ). l ≤ e.date) (reaches_last 𝒜 w last q reaches) (split 𝒜 w (e ∷ v) last q reaches x).0, tt) };
          further = v;
          known = k.1;
          accepts = x;
        },
      )

  live_open : (c : ℕ) (cs : List ℕ) → is_dead (prospect m (c ∷ cs) standing) ≡ false → Extensible 𝒜 w t (c ∷ cs)
  live_open c cs e = go (prospect m (c ∷ cs) standing) refl e
    where
      go : (a : Prospect) → prospect m (c ∷ cs) standing ≡ a → is_dead a ≡ false → Extensible 𝒜 w t (c ∷ cs)
      go (ticks n) x y = correction_open (Decision.best 𝒜 bounded m mine w last q reaches t (c ∷ cs) tt n x).0.correction
      go extensible x y = Decision.extensible_open 𝒜 bounded m mine w last q reaches t (c ∷ cs) tt x
      go dead x y = let k : ◌≡◌ {A = ℕ} 0 1 = cc in absurd (omega arith)

  dead_shut : (c : ℕ) (cs : List ℕ) → is_dead (prospect m (c ∷ cs) standing) ≡ true → Extensible 𝒜 w t (c ∷ cs) → ⊥
  dead_shut c cs e o = go (prospect m (c ∷ cs) standing) refl e
    where
      go : (a : Prospect) → prospect m (c ∷ cs) standing ≡ a → is_dead a ≡ true → ⊥
      go (ticks n) x y = let k : ◌≡◌ {A = ℕ} 0 1 = cc in omega arith
      go extensible x y = let k : ◌≡◌ {A = ℕ} 0 1 = cc in omega arith
      go dead x y = Decision.dead_shut 𝒜 bounded m mine w last q reaches t (c ∷ cs) tt x o

  -- A lit lamp: the word does not continue. A dark lamp: it does.
  lit_right : (cs : List ℕ) → is_lit m standing cs ≡ true → Continues 𝒜 w t cs → ⊥
  unfolding is_lit
  lit_right [] e g =
      let n = continues_next g in
      dead_shut n.0 [] (none_next_lem m standing m.known e n.0 (omega (arith, n.1, mine.known_is))) n.2
  lit_right (c ∷ cs) e g = dead_shut c cs e (continues_open c cs g)

  dark_right : (cs : List ℕ) → is_lit m standing cs ≡ false → Continues 𝒜 w t cs
  unfolding is_lit
  dark_right [] e =
      let n = some_next m standing m.known e in
      next_continues n.0 (omega (arith, n.1, mine.known_is)) (live_open n.0 [] n.2)
  dark_right (c ∷ cs) e = open_continues c cs (live_open c cs e)

  -- The lamp is dark exactly when the word continues.
  pub lamp_right : (cs : List ℕ) → (is_lit m standing cs ≡ false) ↔ Continues 𝒜 w t cs
  lamp_right cs = (dark_right cs, λ g. go (is_lit m standing cs) refl g)
    where
      go : (x : Bool) → is_lit m standing cs ≡ x → Continues 𝒜 w t cs → x ≡ false
      go true e g = absurd (lit_right cs e g)
      go false e g = refl
