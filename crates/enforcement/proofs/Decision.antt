-- What the prospect and the dates of the model say of an automaton: the best correction, or none; open, or not.
use mathlib.Core.Path.{◌≡◌, refl, ap, sym, ◌∙◌, subst, subst⁻¹, subst₂}
use mathlib.Core.Bool.{Bool, true, false, cond}
use mathlib.Core.List.{List, [], ◌∷◌, ◌++◌}
use mathlib.Core.Logic.{◌⊎◌, inl, inr}
use Prim.Native.Nat.{ℕ, ◌+◌, ◌-◌, ◌≤◌, ◌<◌, max}
use native.Mathlib.Omega.{arith}
use native.Mathlib.Nat.{eq-or-lt_of_le}
use lib.Dec.{T}
use lib.ListN.{length}
use Rattle.enforcement.specs.Automaton.{Automaton}
use Rattle.enforcement.specs.TimedWord.{Configuration, Event, elapse, Run, Monotone, last_of, stamp, origin, step, Accepting, Accepts, NotAfter, last_date, Timing, Correction, Best, Extensible}
use Rattle.enforcement.specs.Loading.{Bounded}
use Rattle.enforcement.specs.Model.{Prospect, ticks, extensible, dead, Compiled, prospect, dates, ended, advance, saturated, has_one_clock}
use Rattle.enforcement.specs.Monitor.{walk}
use Rattle.enforcement.specs.Demands.{Reaches}
use Rattle.enforcement.proofs.Saturation.{Steps, Ending, Saturates, saturated_advance, step_saturated}
use Rattle.enforcement.proofs.Runs
use Rattle.enforcement.proofs.Runs.{Plays, NonEmpty}
use Rattle.enforcement.proofs.Optimum.{Within, NotDead, Tight, AcceptedBy, Promise, low, least, sound, lex, not_dead_lower}
use Rattle.enforcement.proofs.Compilation.{CompiledFrom}

pub split : (𝒜 : Automaton) (w v : List Event) (last : ℕ) (q : Configuration) → Reaches 𝒜 w last q → Accepts 𝒜 (w ++ v) → Run (step 𝒜.bytes) (Accepting 𝒜) last q v
unfolding Accepts
split 𝒜 w v last q h k =
    Runs.run_show (step 𝒜.bytes) (λ e r b. subst₂ (λ (d : ℕ) (z : Configuration). Run (step 𝒜.bytes) (Accepting 𝒜) d z v) b.0.0 b.0.1 b.1) w 𝒜.loaded (origin 𝒜)
    (Runs.run_both (step 𝒜.bytes) (λ e r. (e ≡ last) × (r ≡ q)) (λ e r. Run (step 𝒜.bytes) (Accepting 𝒜) e r v) w 𝒜.loaded (origin 𝒜) h (Runs.run_split (step 𝒜.bytes) (Accepting 𝒜) w v 𝒜.loaded (origin 𝒜) k))

pub join_at : (𝒜 : Automaton) (P : Ending) (w v : List Event) (last : ℕ) (q : Configuration) → Reaches 𝒜 w last q → Run (step 𝒜.bytes) P last q v → Run (step 𝒜.bytes) P 𝒜.loaded (origin 𝒜) (w ++ v)
join_at 𝒜 P w v last q h k =
    Runs.run_join (step 𝒜.bytes) P w v 𝒜.loaded (origin 𝒜)
    (Runs.run_map (step 𝒜.bytes) (λ e r b. subst₂ (λ (d : ℕ) (z : Configuration). Run (step 𝒜.bytes) P d z v) (sym b.0) (sym b.1) k) w 𝒜.loaded (origin 𝒜) h)

pub join : (𝒜 : Automaton) (w v : List Event) (last : ℕ) (q : Configuration) → Reaches 𝒜 w last q → Run (step 𝒜.bytes) (Accepting 𝒜) last q v → Accepts 𝒜 (w ++ v)
unfolding Accepts
join 𝒜 w v last q h k = join_at 𝒜 (Accepting 𝒜) w v last q h k

pub reaches_last : (𝒜 : Automaton) (w : List Event) (last : ℕ) (q : Configuration) → Reaches 𝒜 w last q → last_date 𝒜 w ≡ last
reaches_last 𝒜 w last q h =
    Runs.run_show (step 𝒜.bytes) (λ e r b. b.0 ∙ b.1.0) w 𝒜.loaded (origin 𝒜) (Runs.run_last (step 𝒜.bytes) (λ e r. (e ≡ last) × (r ≡ q)) w 𝒜.loaded (origin 𝒜) h)

last_any : (a b : ℕ) (cs ds : List ℕ) → NonEmpty cs → length ds ≡ length cs → last_of a ds ≡ last_of b ds
last_any a b [] ds i h = absurd i
last_any a b (c ∷ cs) [] i h = absurd (omega arith)
last_any a b (c ∷ cs) (d ∷ ds) i h = refl

-- Where the monitor is at the first date at which an action offered at t can be played.
abbrev pub standing_at : Automaton → ℕ → Configuration → ℕ → Configuration
standing_at 𝒜 last q t = advance (max t last - last) (saturated (has_one_clock 𝒜.bytes) q)

module _ (𝒜 : Automaton) (bounded : Bounded 𝒜.bytes) (m : Compiled) (mine : CompiledFrom 𝒜.bytes m) (w : List Event) (last : ℕ) (q : Configuration) (reaches : Reaches 𝒜 w last q) (t : ℕ) (cs : List ℕ) (non_empty : NonEmpty cs) where
  -- The first date at which the actions can be played, and where the automaton and the monitor are then.
  abbrev earliest : ℕ
  earliest = max t last

  abbrev one : Bool
  one = has_one_clock 𝒜.bytes

  abbrev there : Configuration
  there = elapse (earliest - last) q

  abbrev standing : Configuration
  standing = standing_at 𝒜 last q t

  sat : Saturates one m.step
  sat = subst⁻¹ (Saturates one) mine.step_is (step_saturated 𝒜.bytes bounded)

  same_last : last_date 𝒜 w ≡ last
  same_last = reaches_last 𝒜 w last q reaches

  to_compiled : (ds : List ℕ) → Plays (step 𝒜.bytes) (Accepting 𝒜) earliest there cs ds → Plays m.step (AcceptedBy m) earliest there cs ds
  to_compiled ds h = subst₂ (λ (st : Steps) (acc : ℕ → Bool). Plays st (λ d z. T (acc z.location)) earliest there cs ds) (sym mine.step_is) (sym mine.accepts_is) h

  to_automaton : (ds : List ℕ) → Plays m.step (AcceptedBy m) earliest there cs ds → Plays (step 𝒜.bytes) (Accepting 𝒜) earliest there cs ds
  to_automaton ds h = subst₂ (λ (st : Steps) (acc : ℕ → Bool). Plays st (λ d z. T (acc z.location)) earliest there cs ds) mine.step_is mine.accepts_is h

  monotone : (ds : List ℕ) → Timing 𝒜 w t cs ds → Monotone earliest ds
  monotone ds h = Runs.monotone_both t last ds h.from_t (subst (λ (l : ℕ). Monotone l ds) same_last h.from_last)

  timing : (P : Ending) (ds : List ℕ) → Plays (step 𝒜.bytes) P earliest there cs ds → Timing 𝒜 w t cs ds
  timing P ds h =
      let r : Monotone earliest ds = Runs.plays_monotone (step 𝒜.bytes) P cs ds earliest there h in
      record {
        each = Runs.plays_length (step 𝒜.bytes) P cs ds earliest there h;
        from_t = Runs.monotone_from t earliest ds (omega arith) r;
        from_last = subst⁻¹ (λ (l : ℕ). Monotone l ds) same_last (Runs.monotone_from last earliest ds (omega arith) r);
      }

  -- A run on from everything ever scheduled.
  plays_on : (P : Ending) (ds : List ℕ) → Timing 𝒜 w t cs ds → Run (step 𝒜.bytes) P last q (stamp cs ds) → Plays (step 𝒜.bytes) P earliest there cs ds
  plays_on P ds d h = Runs.plays_from (step 𝒜.bytes) P cs ds last earliest q non_empty (omega arith) (monotone ds d) (Runs.plays_of (step 𝒜.bytes) P cs ds last q d.each h)

  run_on : (P : Ending) (ds : List ℕ) → Plays (step 𝒜.bytes) P earliest there cs ds → Run (step 𝒜.bytes) P last q (stamp cs ds)
  run_on P ds h = Runs.of_plays (step 𝒜.bytes) P cs ds last q (Runs.plays_back (step 𝒜.bytes) P cs ds last earliest q non_empty (omega arith) h)

  correction_plays : (ds : List ℕ) → Correction 𝒜 w t cs ds → Plays m.step (AcceptedBy m) earliest there cs ds
  correction_plays ds h = to_compiled ds (plays_on (Accepting 𝒜) ds h.timing (split 𝒜 w (stamp cs ds) last q reaches h.accepts))

  plays_correction : (ds : List ℕ) → Plays m.step (AcceptedBy m) earliest there cs ds → Correction 𝒜 w t cs ds
  plays_correction ds h = record { timing = timing (Accepting 𝒜) ds (to_automaton ds h); accepts = join 𝒜 w (stamp cs ds) last q reaches (run_on (Accepting 𝒜) ds (to_automaton ds h)) }

  -- The prospect, and the dates read off.
  prospect_there : prospect m cs (saturated one there) ≡ prospect m cs standing
  prospect_there = ap (prospect m cs) (saturated_advance one (earliest - last) q)

  promised : Promise one m earliest there cs (dates m cs standing earliest) (prospect m cs standing)
  promised = subst (λ (z : Configuration). Promise one m earliest there cs (dates m cs z earliest) (prospect m cs z)) (saturated_advance one (earliest - last) q) (sound one m sat cs earliest there)

  -- Every correction ends no earlier than the prospect says; where it is no number there is none.
  pub no_sooner : (ds : List ℕ) → Correction 𝒜 w t cs ds → Within (last_of earliest ds) (prospect m cs standing) earliest
  no_sooner ds h = subst (λ (a : Prospect). Within (last_of earliest ds) a earliest) prospect_there (least one m sat cs ds earliest there (correction_plays ds h))

  any_last : (ds : List ℕ) → length ds ≡ length cs → last_of 0 ds ≡ last_of earliest ds
  any_last ds h = last_any 0 earliest cs ds non_empty h

  -- A number is that of the best correction, which is read off.
  pub best : (n : ℕ) → prospect m cs standing ≡ ticks n → Best 𝒜 w t cs (dates m cs standing earliest) × (last_of 0 (dates m cs standing earliest) ≡ earliest + n)
  unfolding Promise
  best n e =
      let pr : Promise one m earliest there cs (dates m cs standing earliest) (ticks n) = subst (λ (a : Prospect). Promise one m earliest there cs (dates m cs standing earliest) a) e promised in
      let co : Correction 𝒜 w t cs (dates m cs standing earliest) = plays_correction (dates m cs standing earliest) pr.0 in
      let la : last_of 0 (dates m cs standing earliest) ≡ earliest + n = any_last (dates m cs standing earliest) co.timing.each ∙ pr.1 in
      (record { correction = co; best = λ es h. against es h la }, la)
    where
      against : (es : List ℕ) → Correction 𝒜 w t cs es → last_of 0 (dates m cs standing earliest) ≡ earliest + n
          → (last_of 0 (dates m cs standing earliest) < last_of 0 es) ⊎ ((last_of 0 (dates m cs standing earliest) ≡ last_of 0 es) × NotAfter (dates m cs standing earliest) es)
      against es h la =
          let wi : earliest + n ≤ last_of earliest es = subst (λ (a : Prospect). Within (last_of earliest es) a earliest) e (no_sooner es h) in
          let lb : last_of 0 es ≡ last_of earliest es = any_last es h.timing.each in
          elim (eq-or-lt_of_le wi) [
            | inl x ↦ inr (
              la ∙ x ∙ sym lb,
              subst (λ (z : Configuration). NotAfter (dates m cs z earliest) es) (saturated_advance one (earliest - last) q)
                  (lex one m sat cs es earliest there (correction_plays es h) (subst⁻¹ (λ (a : Prospect). Tight (last_of earliest es) a earliest) (prospect_there ∙ e) (omega arith))),
            )
            | inr x ↦ inl (omega arith)
          ]

  -- Where everything ever scheduled then leads.
  pub lands : (ds : List ℕ) (x : ℕ) → Correction 𝒜 w t cs ds → last_of 0 ds ≡ x → (z : Configuration) × Reaches 𝒜 (w ++ stamp cs ds) x z × (walk m.step cs ds earliest standing ≡ saturated one z)
  lands ds x h l =
      let en = Runs.end_of m.step (AcceptedBy m) cs ds earliest there (correction_plays ds h) in
      let dx : en.date ≡ x = sym (Runs.plays_last m.step (λ (r : Configuration). r ≡ en.configuration) en.date cs ds earliest there en.plays) ∙ sym (any_last ds h.timing.each) ∙ l in (
        en.configuration,
        join_at 𝒜 (λ e r. (e ≡ x) × (r ≡ en.configuration)) w (stamp cs ds) last q reaches
            (run_on (λ e r. (e ≡ x) × (r ≡ en.configuration)) ds
            (subst₂ (λ (st : Steps) (d : ℕ). Plays st (λ e r. (e ≡ d) × (r ≡ en.configuration)) earliest there cs ds) mine.step_is dx en.plays)),
        ap (walk m.step cs ds earliest) (sym (saturated_advance one (earliest - last) q)) ∙ Runs.walk_saturated one m.step sat (λ e. e ≡ en.date) en.configuration cs ds earliest there en.plays,
      )

  pub none_extensible : prospect m cs standing ≡ extensible → (ds : List ℕ) → Correction 𝒜 w t cs ds → ⊥
  none_extensible e ds h = subst (λ (a : Prospect). Within (last_of earliest ds) a earliest) e (no_sooner ds h)

  pub none_dead : prospect m cs standing ≡ dead → (ds : List ℕ) → Correction 𝒜 w t cs ds → ⊥
  none_dead e ds h = subst (λ (a : Prospect). Within (last_of earliest ds) a earliest) e (no_sooner ds h)

  -- Without a correction, the list is open exactly when the prospect says so.
  pub extensible_open : prospect m cs standing ≡ extensible → Extensible 𝒜 w t cs
  unfolding Promise
  extensible_open e =
      let ds : List ℕ = dates m cs standing earliest in
      let pr : Promise one m earliest there cs ds extensible = subst (λ (a : Prospect). Promise one m earliest there cs ds a) e promised in
      let en = Runs.end_of (step 𝒜.bytes) (λ _ z. T (m.live (saturated one z))) cs ds earliest there (subst (λ (st : Steps). Plays st (λ _ z. T (m.live (saturated one z))) earliest there cs ds) mine.step_is pr) in
      let v = (mine.live_is en.date en.configuration).0 en.holds in
      let pl : Plays (step 𝒜.bytes) (λ x z. Run (step 𝒜.bytes) (Accepting 𝒜) x z v.word) earliest there cs ds =
      Runs.plays_map (step 𝒜.bytes) (λ x z b. subst₂ (λ (d : ℕ) (r : Configuration). Run (step 𝒜.bytes) (Accepting 𝒜) d r v.word) (sym b.0) (sym b.1) v.run) cs ds earliest there en.plays in
      record {
        dates = ds;
        timing = timing (λ x z. Run (step 𝒜.bytes) (Accepting 𝒜) x z v.word) ds pl;
        further = v.word;
        known = v.known;
        accepts = join 𝒜 w (stamp cs ds ++ v.word) last q reaches (Runs.run_join (step 𝒜.bytes) (Accepting 𝒜) (stamp cs ds) v.word last q (run_on (λ x z. Run (step 𝒜.bytes) (Accepting 𝒜) x z v.word) ds pl));
      }

  pub open_live : Extensible 𝒜 w t cs → NotDead (prospect m cs standing) earliest
  unfolding ended
  open_live o =
      let P : Ending = λ x z. Run (step 𝒜.bytes) (Accepting 𝒜) x z o.further in
      subst (λ (a : Prospect). NotDead a earliest) prospect_there
      (low one m sat NotDead not_dead_lower P cs o.dates earliest there (λ z k. base (m.accepts z.location) (m.live (saturated one z)) ((mine.live_is _ z).1 (record { word = o.further; known = o.known; run = k })))
      (subst⁻¹ (λ (st : Steps). Plays st P earliest there cs o.dates) mine.step_is
      (plays_on P o.dates o.timing
      (Runs.run_split (step 𝒜.bytes) (Accepting 𝒜) (stamp cs o.dates) o.further last q (split 𝒜 w (stamp cs o.dates ++ o.further) last q reaches o.accepts)))))
    where
      base : (a b : Bool) → T b → NotDead (cond a (ticks 0) (cond b extensible dead)) (last_of earliest o.dates)
      base true b h = tt
      base false true h = tt
      base false false h = h

  pub dead_shut : prospect m cs standing ≡ dead → Extensible 𝒜 w t cs → ⊥
  dead_shut e o = subst (λ (a : Prospect). NotDead a earliest) e (open_live o)

  -- Whether a correction exists is decided.
  pub correctable : ((ds : List ℕ) × Correction 𝒜 w t cs ds) ⊎ ((ds : List ℕ) → Correction 𝒜 w t cs ds → ⊥)
  correctable = go (prospect m cs standing) refl
    where
      go : (a : Prospect) → prospect m cs standing ≡ a → ((ds : List ℕ) × Correction 𝒜 w t cs ds) ⊎ ((ds : List ℕ) → Correction 𝒜 w t cs ds → ⊥)
      go (ticks n) e = inl (dates m cs standing earliest, (best n e).0.correction)
      go extensible e = inr (none_extensible e)
      go dead e = inr (none_dead e)
